-- Every list of calls from a state that keeps its rules is a run of the abstract scheduler: its accepted releases are
-- releases there, its steps ticks, and refused calls change nothing. A run from a fresh start is from a fresh view.
use Rattle.std.specs.Prelude.{ℕ, zero, suc, ◌+◌, ◌-◌, ◌≤◌, ◌<◌, ◌≡◌, refl, List, Result, Ok, Err, None}
use Rattle.std.proofs.Common.{ap, sym, ◌∙◌, arith}
use Rattle.base.proofs.Split.{by_lt}
use Rattle.base.proofs.FoldLaws.{folded_keeps}
use Rattle.theory.proofs.System.{View, Sound, Tick, slotted, ran, tailed, Move, released, ticked, Fresh, Reach, start, move}
use Rattle.theory.proofs.TailLaws.{After, next as further}
use Rattle.table.specs.declared.Refusal.{Refusal}
use Rattle.table.specs.Bytes.{record_at, records_in}
use Rattle.table.specs.Sound.{places}
use Rattle.table.specs.declared.Record.{Record}
use Rattle.table.specs.Set.{rules_from, rules_of}
use Rattle.table.proofs.SetLaws.{set_sound}
use Rattle.decisions.specs.declared.Job.TheVariants.{Resting, Working}
use Rattle.decisions.specs.declared.Entry.{Entry}
use Rattle.scheduler.specs.declared.State.{State}
use Rattle.decisions.specs.declared.Tally.{Tally}
use Rattle.decisions.specs.Fits.{clock_end}
use Rattle.scheduler.specs.States.{entry_in, aged}
use Rattle.scheduler.specs.Lawful.{LawfulState}
use Rattle.scheduler.specs.Starts.{Given, read_given, fresh_state}
use Rattle.scheduler.specs.Releases.{release_answer, released_state, release_of, released_entry}
use Rattle.decisions.specs.Ticks.{worked_of}
use Rattle.scheduler.specs.Steps.{first_ready, tick_of, step_of, after_run, after_tick}
use Rattle.histories.specs.History.{Call, release, step, lend, Past, next, after, begun}
use Rattle.scheduler.proofs.ReleaseLaws.{accepted_says, release_place}
use Rattle.scheduler.proofs.PlaceLaws.{Sized, OnePlace, task_stays, keeps_lawful}
use Rattle.scheduler.proofs.TickLaws.{TickIs, slots, runs, tails, tick_is, run_place, after_lawful}
use Rattle.scheduler.proofs.StepLaws.{StepIs, moves, stays, step_is}
use Rattle.scheduler.proofs.GivenLaws.{given_set}
use Rattle.scheduler.proofs.StartLaws.{fresh_rests, fresh_entry_lem, fresh_lawful}
use Rattle.bridge.specs.Views.{job_view, last_view, view_of, Holds}
use Rattle.bridge.specs.Moves.{beyond_rests, release_moves, runner, tick_slotted, tick_tailed, tick_ran}

-- THE TICK of a state that keeps its rules is a tick of the abstract scheduler.
pub tick_moves : (set : ℕ → Record) (n : ℕ) (s : State) → Holds set n s → Sized s → LawfulState s → s.clock < clock_end
    → Tick (rules_from set n) (view_of s) (view_of (after_tick s (tick_of s)))
tick_moves set n s H size L l = go (tick_is s)
  where
    go : TickIs s → Tick (rules_from set n) (view_of s) (view_of (after_tick s (tick_of s)))
    go (slots a e) = rw e (slotted (tick_slotted set n s H a))
    go (tails a b e) = rw e (tailed (tick_tailed set n s H size L a b))
    go (runs a b e) =
        let m = runner s b in
        let same : first_ready s + 1 - 1 ≡ first_ready s = omega arith in
        rw (e, same) (by_left m.a m.l m.is ((L.task (first_ready s) b).job_fits m.a m.l m.is).0)
      where
        by_left : (x l' : ℕ) → (entry_in s (first_ready s)).job ≡ Working x l' → 1 ≤ l'
            → Tick (rules_from set n) (view_of s) (view_of (after_run s (first_ready s)))
        by_left x zero is some = absurd (let z : ⊥ = omega arith in z)
        by_left x (suc m) is some = ran (first_ready s) x m (tick_ran set n s x m H size L l a b is)

-- The theory knows this of a history so far: its state keeps the rules and holds the set.
pub record Bridged (set : ℕ → Record) (n : ℕ) (p : Past) : Type 0 where
  pub sized : Sized p.state
  pub lawful_state : LawfulState p.state
  pub holds : Holds set n p.state

-- A call does nothing to the view, or makes one move.
pub data Called (set : ℕ → Record) (n : ℕ) (s s' : State) : Type 0 where
  unmoved : s' ≡ s → Called set n s s'
  moved : Move (rules_from set n) (view_of s) (view_of s') → Called set n s s'

-- A change of one place keeps the table, so that the set stays held.
holds_place : (set : ℕ → Record) (n : ℕ) (s s' : State) (j : ℕ) (e : Entry) → OnePlace s s' j e → Holds set n s → Holds set n s'
holds_place set n s s' j e P H = record {
  n_is = P.n_same ∙ H.n_is;
  sleep_is = P.sleep_same ∙ H.sleep_is;
  task_is = λ i l. task_stays s s' j e P i ∙ H.task_is i l;
}

holds_after : (set : ℕ → Record) (n : ℕ) (s : State) → Holds set n s → Sized s → LawfulState s → s.clock < clock_end
    → Holds set n (after_tick s (tick_of s))
holds_after set n s H size L l = go (tick_is s)
  where
    still : Holds set n (aged s)
    still = record { n_is = H.n_is; sleep_is = H.sleep_is; task_is = H.task_is }

    go : TickIs s → Holds set n (after_tick s (tick_of s))
    go (slots a e) = rw e still
    go (tails a b e) = rw e still
    go (runs a b e) =
        let same : first_ready s + 1 - 1 ≡ first_ready s = omega arith in
        rw (e, same) (holds_place set n s (after_run s (first_ready s)) (first_ready s) (worked_of (entry_in s (first_ready s)))
        (run_place s (first_ready s) size L l b).place H)

-- One call leaves this of a state s: the rules are kept, the set is held, and one move or none was made.
record Leaves (set : ℕ → Record) (n : ℕ) (s s' : State) : Type 0 where
  sized : Sized s'
  lawful_state : LawfulState s'
  holds : Holds set n s'
  called : Called set n s s'

-- ONE STEP, whatever tally it lends, leaves the rules kept and the set held, and makes one move or none.
step_leaves : (set : ℕ → Record) (n : ℕ) (s : State) (t : Tally) → Sized s → LawfulState s → Holds set n s → Leaves set n s (step_of s t).state
step_leaves set n s t size L H = go (step_is s t)
  where
    go : StepIs s t → Leaves set n s (step_of s t).state
    go (stays r q) = rw q (record { sized = size; lawful_state = L; holds = H; called = unmoved refl })
    go (moves m q) =
        let A = after_lawful s size L m.before_end in
        rw q (record {
          sized = A.0;
          lawful_state = A.1;
          holds = holds_after set n s H size L m.before_end;
          called = moved (ticked (tick_moves set n s H size L m.before_end));
        })

-- ONE RELEASE leaves the rules kept and the set held, and makes one move or none.
release_leaves : (set : ℕ → Record) (n : ℕ) (s : State) (task demand : ℕ) → Sized s → LawfulState s → Holds set n s → Leaves set n s (release_of s task demand).state
release_leaves set n s task demand size L H = go (release_answer s task demand) refl
  where
    go : (a : Result (Unit {0}) Refusal) → release_answer s task demand ≡ a → Leaves set n s (release_of s task demand).state
    go (Err r) q = rw q (record { sized = size; lawful_state = L; holds = H; called = unmoved refl })
    go (Ok tt) q =
        let F = accepted_says s task demand q in
        let K = release_place s task demand size F in
        let e = released_entry s (task - 1) demand in
        rw q (record {
          sized = K.place.sized;
          lawful_state = keeps_lawful s (released_state s task demand) (task - 1) e L K;
          holds = holds_place set n s (released_state s task demand) (task - 1) e K.place H;
          called = moved (released (task - 1) demand (release_moves set n s task demand H size F));
        })

-- ONE CALL leaves the rules kept and the set held, and makes one move or none.
call_leaves : (set : ℕ → Record) (n : ℕ) (p : Past) (call : Call) → Bridged set n p → Leaves set n p.state (next p call).state
unfolding next
call_leaves set n p (release task demand) B = release_leaves set n p.state task demand B.sized B.lawful_state B.holds
call_leaves set n p step B = step_leaves set n p.state p.tally B.sized B.lawful_state B.holds
call_leaves set n p (lend t) B = step_leaves set n p.state t B.sized B.lawful_state B.holds

-- A call keeps what the theory knows of a history.
pub bridged_next : (set : ℕ → Record) (n : ℕ) (p : Past) (call : Call) → Bridged set n p → Bridged set n (next p call)
bridged_next set n p call B = let C = call_leaves set n p call B in record { sized = C.sized; lawful_state = C.lawful_state; holds = C.holds }

pub bridged_after : (set : ℕ → Record) (n : ℕ) (p : Past) (calls : List Call) → Bridged set n p → Bridged set n (after p calls)
bridged_after set n = folded_keeps (Bridged set n) next (bridged_next set n)

-- Whatever goes on from the state after a step keeps what the theory knows of it.
pub step_bridged : (set : ℕ → Record) (n : ℕ) (s : State) (t : Tally) (p : Past) → Sized s → LawfulState s → Holds set n s → p.state ≡ (step_of s t).state → Bridged set n p
step_bridged set n s t p size L H from = let C = step_leaves set n s t size L H in record { sized = rw from C.sized; lawful_state = rw from C.lawful_state; holds = rw from C.holds }

-- `records` is a table's records by number, and `tasks` how many tasks they are of.
abbrev pub records : Given → ℕ → Record
records g = record_at g.table

abbrev pub tasks : Given → ℕ
tasks g = records_in g.table - 1

-- A fresh start keeps the rules and holds its set.
pub bridged_begun : (g : Given) (n : ℕ) → read_given g ≡ Ok n → Bridged (records g) (tasks g) (begun (fresh_state g n))
bridged_begun g n e =
    let S = given_set g n e in
    let L = fresh_lawful g n e in
    record {
      sized = L.0;
      lawful_state = L.1;
      holds = record {
        n_is = sym S.tasks;
        sleep_is = refl;
        task_is = λ i l. ap {A = Entry} (λ x. x.task) (fresh_entry_lem g n i S.few (omega (arith, l, S.tasks)));
      };
    }

-- A fresh start is a fresh view.
pub begun_fresh : (g : Given) (n : ℕ) → read_given g ≡ Ok n → Fresh (view_of (fresh_state g n))
begun_fresh g n e = record {
  clock_zero = refl;
  all_rest = λ k. ap job_view (rests k).0;
  all_never = λ k. ap last_view (rests k).1;
}
  where
    L : Sized (fresh_state g n) × LawfulState (fresh_state g n)
    L = fresh_lawful g n e

    rests : (k : ℕ) → ((entry_in (fresh_state g n) k).job ≡ Resting) × ((entry_in (fresh_state g n) k).last ≡ None)
    rests k = by_lt k places (((entry_in (fresh_state g n) k).job ≡ Resting) × ((entry_in (fresh_state g n) k).last ≡ None))
        (λ l. fresh_rests g n k L.1.few l)
        (λ ge. rw (beyond_rests (fresh_state g n) L.0 L.1 k (omega (arith, L.1.few))) (refl, refl))

-- What each move of a call keeps of its view, every list of calls keeps.
pub view_after : (set : ℕ → Record) (n : ℕ) (P : View → Type 0) → ((u v : View) → P u → Move (rules_from set n) u v → P v)
    → (p : Past) (calls : List Call) → Bridged set n p → P (view_of p.state) → P (view_of (after p calls).state)
view_after set n P keeps p calls B x = (folded_keeps (λ (q : Past). Bridged set n q × P (view_of q.state)) next one p calls (B, x)).1
  where
    one : (q : Past) (call : Call) → Bridged set n q × P (view_of q.state) → Bridged set n (next q call) × P (view_of (next q call).state)
    one q call (C, y) = (bridged_next set n q call C, go (call_leaves set n q call C).called)
      where
        go : Called set n q.state (next q call).state → P (view_of (next q call).state)
        go (unmoved e) = rw e y
        go (moved m) = keeps (view_of q.state) (view_of (next q call).state) y m

-- EVERY HISTORY REACHES A VIEW OF THE ABSTRACT SCHEDULER.
pub reach_after : (set : ℕ → Record) (n : ℕ) (p : Past) (calls : List Call) → Bridged set n p → Reach (rules_from set n) (view_of p.state)
    → Reach (rules_from set n) (view_of (after p calls).state)
reach_after set n = view_after set n (Reach (rules_from set n)) (λ u v r m. move r m)

-- Every list of calls goes on from a view after v to a view after v.
pub go_on : (set : ℕ → Record) (n : ℕ) (v : View) (p : Past) (calls : List Call) → Bridged set n p → After (rules_from set n) v (view_of p.state)
    → After (rules_from set n) v (view_of (after p calls).state)
go_on set n v = view_after set n (After (rules_from set n) v) (λ u w a m. further a m)

-- The theory knows every history from a fresh start: its state keeps the rules and holds the set.
pub history_bridged : (g : Given) (n : ℕ) (calls : List Call) → read_given g ≡ Ok n → Bridged (records g) (tasks g) (after (begun (fresh_state g n)) calls)
history_bridged g n calls e = bridged_after (records g) (tasks g) (begun (fresh_state g n)) calls (bridged_begun g n e)

pub history_reaches : (g : Given) (n : ℕ) (calls : List Call) → read_given g ≡ Ok n
    → Reach (rules_of g.table) (view_of (after (begun (fresh_state g n)) calls).state)
history_reaches g n calls e = reach_after (records g) (tasks g) (begun (fresh_state g n)) calls (bridged_begun g n e) (start (begun_fresh g n e))

-- The rules of a sound table are as the theory needs them.
pub rules_sound : (g : Given) (n : ℕ) → read_given g ≡ Ok n → Sound (rules_of g.table)
rules_sound g n e = set_sound (record_at g.table) (records_in g.table - 1) (given_set g n e).set
