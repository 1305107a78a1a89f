-- After a refused start nothing moves: every call on the state of no tasks is refused and leaves all as it was. So
-- what is shown of histories from accepted starts holds of every history where it holds of one that stands still.
use Rattle.std.specs.Prelude.{Result, Ok, Err}
use Prim.Native.Nat.{ℕ, ◌+◌, ◌<◌}
use mathlib.Core.Path.{◌≡◌, refl, ap, sym, ◌∙◌}
use mathlib.Core.Logic.{◌⊎◌, inl, inr}
use mathlib.Core.List.{List, []}
use native.Mathlib.Omega.{arith}
use lib.ListN.{get_or-replicate, get_or-eq_default}
use Rattle.base.specs.List.{In}
use Rattle.base.proofs.Split.{by_lt}
use Rattle.base.proofs.SumLaws.{sum_to_zero}
use Rattle.base.proofs.FoldLaws.{folded_keeps}
use Rattle.table.specs.declared.Refusal.{Refusal}
use Rattle.table.specs.declared.Refusal.TheVariants.{Unfit}
use Rattle.table.specs.Sound.{places}
use Rattle.decisions.specs.declared.Job.TheVariants.{Resting, Working}
use Rattle.decisions.specs.declared.Entry.{Entry}
use Rattle.decisions.specs.declared.Tally.{Tally}
use Rattle.decisions.specs.declared.Tick.{Tick}
use Rattle.scheduler.specs.declared.Moved.{Moved}
use Rattle.decisions.specs.Fits.{no_entry, no_ticks}
use Rattle.scheduler.specs.States.{entry_in, state_fits}
use Rattle.scheduler.specs.Starts.{Given, read_given, no_state, IsStarted}
use Rattle.scheduler.specs.Releases.{release_answer}
use Rattle.scheduler.specs.Steps.{unmoved, step_of}
use Rattle.histories.specs.History.{Call, release, step, lend, Taken, Past, next, after, begun, history, work_left, left_in}
use Rattle.histories.proofs.HistoryLaws.{Counted}

-- Nothing has moved: the state has no tasks, the tally is zeros, and nothing was demanded, run, taken or finished.
pub record Still (p : Past) : Type 0 where
  pub state_is : p.state ≡ no_state
  pub tally_is : p.tally ≡ no_ticks
  pub none_demanded : p.demands ≡ (λ i. 0)
  pub none_run : p.runs ≡ (λ i. 0)
  pub none_taken : p.taken ≡ []
  pub none_finished : p.finishes ≡ []

no_release : (task demand : ℕ) → release_answer no_state task demand ≡ Err Unfit
unfolding release_answer state_fits
no_release task demand = refl

no_step : (t : Tally) → step_of no_state t ≡ unmoved no_state t Unfit
unfolding step_of state_fits
no_step t = refl

-- A refused call counts as a refusal, and nothing else changes.
abbrev refusing : Past → Past
refusing p = record {
  state = p.state;
  tally = p.tally;
  demands = p.demands;
  runs = p.runs;
  refusals = p.refusals + 1;
  taken = p.taken;
  finishes = p.finishes;
}

still_refusing : (p : Past) → Still p → Still (refusing p)
still_refusing p S = record {
  state_is = S.state_is;
  tally_is = S.tally_is;
  none_demanded = S.none_demanded;
  none_run = S.none_run;
  none_taken = S.none_taken;
  none_finished = S.none_finished;
}

still_next : (p : Past) (call : Call) → Still p → Still (next p call)
unfolding next
still_next p (release task demand) S =
    let a : release_answer p.state task demand ≡ Err Unfit = rw S.state_is (no_release task demand) in
    rw a (still_refusing p S)
still_next p step S =
    let a : step_of p.state p.tally ≡ unmoved p.state p.tally Unfit = rw S.state_is (no_step p.tally) in
    rw a (still_refusing p S)
still_next p (lend t) S =
    let a : step_of p.state t ≡ unmoved p.state t Unfit = rw S.state_is (no_step t) in
    rw a (still_refusing p S)

-- AFTER A REFUSED START no list of calls moves anything.
still_after : (calls : List Call) → Still (after (begun no_state) calls)
still_after calls = folded_keeps Still next still_next (begun no_state) calls
    (record { state_is = refl; tally_is = refl; none_demanded = refl; none_run = refl; none_taken = refl; none_finished = refl })

-- EVERY HISTORY is one from an accepted start, or nothing moved in it.
pub started_or_still : (g : Given) (calls : List Call) → IsStarted g ⊎ Still (history g calls)
started_or_still g calls = go (read_given g) refl
  where
    go : (r : Result ℕ Refusal) → read_given g ≡ r → IsStarted g ⊎ Still (history g calls)
    go (Ok n) e = inl (rw e)
    go (Err r) e = inr (rw e (still_after calls))

-- Where nothing moved every place is at rest, with nothing left.
still_rests : (i : ℕ) → (entry_in no_state i).job ≡ Resting
still_rests i = ap {A = Entry} (λ x. x.job) (by_lt i places (entry_in no_state i ≡ no_entry)
    (λ l. get_or-replicate places i no_entry no_entry l)
    (λ ge. get_or-eq_default no_state.entries no_entry {n = i} ge))

-- There no task is at work, no release was accepted, and no step answers a tick.
pub still_idle : (p : Past) → Still p → (i a l : ℕ) → (entry_in p.state i).job ≡ Working a l → ⊥
still_idle p S i a l q =
    let w : Resting ≡ Working a l = sym (still_rests i) ∙ rw S.state_is at q in
    let z : ◌≡◌ {A = ℕ} 0 1 = cc in omega arith

pub still_released : (p : Past) → Still p → (j : Taken) → In j p.taken → ⊥
unfolding In
still_released p S j i = rw S.none_taken at i

pub still_ticks : (p : Past) → Still p → (t : Tally) (tick : Tick) → (step_of p.state t).answer ≡ Ok tick → ⊥
still_ticks p S t tick q =
    let e : (step_of p.state t).answer ≡ Err Unfit = rw S.state_is (ap {A = Moved} (λ m. m.answer) (no_step t)) in
    let w : Err Unfit ≡ Ok tick = sym e ∙ q in
    let z : ◌≡◌ {A = ℕ} 0 1 = cc in omega arith

-- There the accounts hold task by task, and the counts.
pub still_each : (p : Past) → Still p → (i : ℕ) → i < places → p.runs i + left_in p.state i ≡ p.demands i
still_each p S i l =
    let none : left_in no_state i ≡ 0 = ap work_left (still_rests i) in
    rw (S.none_run, S.none_demanded, S.state_is) (omega (arith, none))

pub still_counted : (p : Past) → Still p → Counted p
still_counted p S = record { counted = rw (S.tally_is, S.state_is); run_total = rw (S.tally_is, S.none_run) (sym (sum_to_zero places)) }
