-- Every history from a fresh start keeps the rules of state and tally, so that no call is refused with 6; and it keeps
-- the accounts, task by task and in all: the ticks run and the work left are the demands accepted.
use Rattle.std.specs.Prelude.{Result, Ok, Err}
use Prim.Native.Nat.{ℕ, ◌+◌, ◌-◌, ◌≤◌, ◌<◌}
use mathlib.Core.Path.{◌≡◌, refl, ap, sym, ◌∙◌}
use mathlib.Core.Logic.{◌≢◌}
use mathlib.Core.List.{List, [], ◌∷◌}
use mathlib.Core.Bool.{Bool, true, false, cond}
use native.Mathlib.Omega.{arith}
use lib.Dec.{leb}
use borrow.Author.Tests.{leb-false, leb-true}
use Rattle.base.specs.Sum.{sum_to, plus_at}
use Rattle.base.specs.List.{Each}
use Rattle.base.specs.Fold.{folded}
use Rattle.base.proofs.Split.{by_eq}
use Rattle.base.proofs.SumLaws.{sum_to_zero, plus_same, plus_other, sum_plus, sum_same}
use Rattle.base.proofs.FoldLaws.{folded_keeps}
use Rattle.table.specs.declared.Refusal.{Refusal}
use Rattle.table.specs.Sound.{places}
use Rattle.decisions.specs.declared.Job.{Job}
use Rattle.decisions.specs.declared.Job.TheVariants.{Resting, Working}
use Rattle.decisions.specs.declared.Entry.{Entry}
use Rattle.decisions.specs.declared.Head.{Head}
use Rattle.scheduler.specs.declared.State.{State}
use Rattle.decisions.specs.declared.Tally.{Tally}
use Rattle.decisions.specs.declared.Count.TheVariants.{Slots, Wakings}
use Rattle.decisions.specs.declared.Tick.TheVariants.{Slot}
use Rattle.decisions.specs.Fits.{clock_end, total}
use Rattle.scheduler.specs.States.{head_of, entry_in}
use Rattle.scheduler.specs.Lawful.{LawfulState}
use Rattle.scheduler.specs.Starts.{Given, read_given, fresh_state}
use Rattle.scheduler.specs.Releases.{release_answer, released_entry, released_state}
use Rattle.decisions.specs.Ticks.{may_run, worked_job, worked_of, wakes, count_of}
use Rattle.scheduler.specs.Steps.{first_ready, tick_of, after_run, after_tick, raised, step_of}
use Rattle.histories.specs.History.{Call, release, step, lend, Own, Past, ran, next, after, begun, work_left, left_in}
use Rattle.scheduler.proofs.PlaceLaws.{Sized, OnePlace, Keeps, keeps_lawful}
use Rattle.scheduler.proofs.ReleaseLaws.{FreeTask, accepted_says, release_place}
use Rattle.scheduler.proofs.TickLaws.{first_says, TickIs, slots, runs, tails, tick_is, run_place, after_lawful}
use Rattle.scheduler.proofs.StepLaws.{StepIs, moves, stays, step_is}
use Rattle.scheduler.proofs.StartLaws.{fresh_rests, fresh_lawful}

-- Every history keeps, of its state and of the demands and runs by place, the rules, and task by task the accounts.
pub record Accounts (s : State) (demands ticks : ℕ → ℕ) : Type 0 where
  pub sized : Sized s
  pub lawful_state : LawfulState s
  pub each : (i : ℕ) → i < places → ticks i + left_in s i ≡ demands i

abbrev pub Kept : Past → Type 0
Kept p = Accounts p.state p.demands p.runs

-- A history that lends no other tally keeps its counts besides: its own tally sums to the clock, and counts the runs.
pub record Counts (t : Tally) (s : State) (ticks : ℕ → ℕ) : Type 0 where
  pub counted : total t ≡ s.clock
  pub run_total : t.run ≡ sum_to places ticks

abbrev pub Counted : Past → Type 0
Counted p = Counts p.tally p.state p.runs

-- A job that may run has work left, and one unit less after the tick.
ran_one : (head : Head) (job : Job) → may_run head job ≡ true → ((a l : ℕ) → job ≡ Working a l → 1 ≤ l) → work_left (worked_job job) + 1 ≡ work_left job
ran_one head Resting e some = let z : ◌≡◌ {A = ℕ} 0 1 = cc in absurd (let y : ⊥ = omega arith in y)
ran_one head (Working a l) e some = go (leb l 1) refl
  where
    go : (b : Bool) → leb l 1 ≡ b → work_left (cond b Resting (Working a (l - 1))) + 1 ≡ l
    go true q = omega (arith, leb-true l 1 q, some a l refl)
    go false q = omega (arith, leb-false l 1 q)

-- Where one place changed, the work left there is that of the new entry, and at every other place it is unchanged.
left_here : (s s' : State) (j : ℕ) (e : Entry) → OnePlace s s' j e → left_in s' j ≡ work_left e.job
left_here s s' j e O = ap {A = Entry} (λ x. work_left x.job) O.here

left_there : (s s' : State) (j : ℕ) (e : Entry) → OnePlace s s' j e → (i : ℕ) → i ≢ j → left_in s' i ≡ left_in s i
left_there s s' j e O i n = ap {A = Entry} (λ x. work_left x.job) (O.there i n)

-- An accepted release keeps the accounts.
kept_release : (s : State) (demands ticks : ℕ → ℕ) (task demand : ℕ) → Accounts s demands ticks → FreeTask s task demand
    → Accounts (released_state s task demand) (plus_at (task - 1) demand demands) ticks
kept_release s demands ticks task demand K F = record {
  sized = P.place.sized;
  lawful_state = keeps_lawful s s' j e K.lawful_state P;
  each = λ i l. by_eq i j (ticks i + left_in s' i ≡ plus_at j demand demands i)
      (λ q.
      let none : left_in s j ≡ 0 = ap work_left F.resting in
      let was : ticks j + left_in s j ≡ demands j = K.each j (rw q at l) in
      rw q (omega (arith, left_here s s' j e P.place, plus_same j demand demands)))
      (λ n.
      let was : ticks i + left_in s i ≡ demands i = K.each i l in
      omega (arith, left_there s s' j e P.place i n, plus_other j demand demands i n));
}
  where
    j : ℕ
    j = task - 1

    s' : State
    s' = released_state s task demand

    e : Entry
    e = released_entry s (task - 1) demand

    P : Keeps s s' (task - 1) e
    P = release_place s task demand K.sized F

-- A tick keeps the accounts.
kept_tick : (s : State) (demands ticks : ℕ → ℕ) → Accounts s demands ticks → s.clock < clock_end
    → Accounts (after_tick s (tick_of s)) demands (ran ticks (Ok (tick_of s)))
kept_tick s demands ticks K l = record {
  sized = B.0;
  lawful_state = B.1;
  each = go (tick_is s);
}
  where
    B : Sized (after_tick s (tick_of s)) × LawfulState (after_tick s (tick_of s))
    B = after_lawful s K.sized K.lawful_state l

    go : TickIs s → (i : ℕ) → i < places → ran ticks (Ok (tick_of s)) i + left_in (after_tick s (tick_of s)) i ≡ demands i
    go (slots a e) = rw e K.each
    go (tails a b e) = rw e K.each
    go (runs a b e) = rw (e, same) each
      where
        j : ℕ
        j = first_ready s

        same : first_ready s + 1 - 1 ≡ first_ready s
        same = omega arith

        s' : State
        s' = after_run s j

        P : Keeps s s' j (worked_of (entry_in s j))
        P = run_place s j K.sized K.lawful_state l b

        one : work_left (worked_job (entry_in s j).job) + 1 ≡ left_in s j
        one = ran_one (head_of s) (entry_in s j).job (first_says s b).0 (λ c m q. ((K.lawful_state.task j b).job_fits c m q).0)

        each : (i : ℕ) → i < places → plus_at j 1 ticks i + left_in s' i ≡ demands i
        each i li = by_eq i j (plus_at j 1 ticks i + left_in s' i ≡ demands i)
            (λ q.
            let was : ticks j + left_in s j ≡ demands j = K.each j (rw q at li) in
            rw q (omega (arith, one, left_here s s' j (worked_of (entry_in s j)) P.place, plus_same j 1 ticks)))
            (λ n.
            let was : ticks i + left_in s i ≡ demands i = K.each i li in
            omega (arith, left_there s s' j (worked_of (entry_in s j)) P.place i n, plus_other j 1 ticks i n))

-- A step keeps the accounts, whatever tally it lends.
kept_step : (s : State) (t : Tally) (demands ticks : ℕ → ℕ) → Accounts s demands ticks → Accounts (step_of s t).state demands (ran ticks (step_of s t).answer)
kept_step s t demands ticks K = go (step_is s t)
  where
    go : StepIs s t → Accounts (step_of s t).state demands (ran ticks (step_of s t).answer)
    go (moves m q) = rw q (kept_tick s demands ticks K m.before_end)
    go (stays r q) = rw q K

-- ONE CALL MORE keeps the accounts.
pub kept_next : (p : Past) (call : Call) → Kept p → Kept (next p call)
unfolding next
kept_next p (release task demand) K = go (release_answer p.state task demand) refl
  where
    go : (a : Result (Unit {0}) Refusal) → release_answer p.state task demand ≡ a → Kept (next p (release task demand))
    go (Ok tt) q = rw q (kept_release p.state p.demands p.runs task demand K (accepted_says p.state task demand q))
    go (Err r) q = rw q K
kept_next p step K = kept_step p.state p.tally p.demands p.runs K
kept_next p (lend t) K = kept_step p.state t p.demands p.runs K

-- Every list of calls keeps the accounts.
pub kept_after : (p : Past) (calls : List Call) → Kept p → Kept (after p calls)
kept_after = folded_keeps Kept next kept_next

-- A slot tick raises slot and waking ticks together by one, and leaves runs and tails.
pub record SlotRaised (t u : Tally) : Type 0 where
  pub runs_stay : u.run ≡ t.run
  pub tails_stay : u.tail ≡ t.tail
  pub slots_up : u.slot + u.waking ≡ t.slot + t.waking + 1

pub slot_raised : (head : Head) (t : Tally) → SlotRaised t (raised t (count_of head Slot))
slot_raised head t = go (wakes head)
  where
    go : (b : Bool) → SlotRaised t (raised t (cond b Wakings Slots))
    go true = record { runs_stay = refl; tails_stay = refl; slots_up = omega arith }
    go false = record { runs_stay = refl; tails_stay = refl; slots_up = omega arith }

-- A call that lends no other tally keeps the counts.
pub counted_next : (p : Past) (call : Call) → Own call → p.state.n ≤ places → Counted p → Counted (next p call)
unfolding next
counted_next p (release task demand) own few C = go (release_answer p.state task demand) refl
  where
    go : (a : Result (Unit {0}) Refusal) → release_answer p.state task demand ≡ a → Counted (next p (release task demand))
    go (Ok tt) q = rw q (record { counted = C.counted; run_total = C.run_total })
    go (Err r) q = rw q C
counted_next p step own few C = go (step_is p.state p.tally)
  where
    s : State
    s = p.state

    by_tick : TickIs s → Counts (raised p.tally (count_of (head_of s) (tick_of s))) (after_tick s (tick_of s)) (ran p.runs (Ok (tick_of s)))
    by_tick (slots a e) =
        let S = slot_raised (head_of s) p.tally in
        rw e (record { counted = omega (arith, C.counted, S.runs_stay, S.tails_stay, S.slots_up); run_total = S.runs_stay ∙ C.run_total })
    by_tick (tails a b e) = rw e (record { counted = omega (arith, C.counted); run_total = C.run_total })
    by_tick (runs a b e) =
        let same : first_ready s + 1 - 1 ≡ first_ready s = omega arith in
        rw (e, same) (record { counted = omega (arith, C.counted); run_total = omega (arith, C.run_total, sum_plus places (first_ready s) 1 p.runs (omega (arith, b, few))) })

    go : StepIs s p.tally → Counted (next p step)
    go (moves m q) = rw q (by_tick (tick_is s))
    go (stays r q) = rw q C
counted_next p (lend t) own few C = absurd own

-- What each call that lends no other tally keeps, every list of such calls keeps.
pub own_after : (P : Past → Type 0) → ((p : Past) (call : Call) → Own call → Kept p → P p → P (next p call))
    → (p : Past) (calls : List Call) → Each Own calls → Kept p → P p → P (after p calls)
unfolding folded Each
own_after P keeps p [] own K x = x
own_after P keeps p (call ∷ calls) own K x = own_after P keeps (next p call) calls own.1 (kept_next p call K) (keeps p call own.0 K x)

-- A fresh start keeps both the accounts and the counts.
pub kept_begun : (g : Given) (n : ℕ) → read_given g ≡ Ok n → Kept (begun (fresh_state g n))
kept_begun g n e =
    let L = fresh_lawful g n e in
    record {
      sized = L.0;
      lawful_state = L.1;
      each = λ i l. let none : work_left (entry_in (fresh_state g n) i).job ≡ 0 = ap work_left (fresh_rests g n i L.1.few l).0 in omega arith;
    }

pub counted_begun : (g : Given) (n : ℕ) → Counted (begun (fresh_state g n))
counted_begun g n = record { counted = refl; run_total = sym (sum_to_zero places) }

-- EVERY HISTORY FROM A FRESH START keeps the accounts, and the counts where it lends no other tally.
pub history_kept : (g : Given) (n : ℕ) (calls : List Call) → read_given g ≡ Ok n → Kept (after (begun (fresh_state g n)) calls)
history_kept g n calls e = kept_after (begun (fresh_state g n)) calls (kept_begun g n e)

pub history_counted : (g : Given) (n : ℕ) (calls : List Call) → read_given g ≡ Ok n → Each Own calls → Counted (after (begun (fresh_state g n)) calls)
history_counted g n calls e own = own_after Counted (λ p call o K C. counted_next p call o K.lawful_state.few C) (begun (fresh_state g n)) calls own (kept_begun g n e) (counted_begun g n)

-- The accounts of a history balance: run ticks and all work left are the accepted demands.
pub accounts : (p : Past) → ((i : ℕ) → i < places → p.runs i + left_in p.state i ≡ p.demands i) → Counted p → p.tally.run + sum_to places (left_in p.state) ≡ sum_to places p.demands
accounts p each C = omega (arith, C.run_total, sum_same places p.runs (left_in p.state) p.demands each)
