-- There is rest after a tail tick, from any state that has its places, over any calls.
use Rattle.std.specs.Prelude.{ℕ, ◌+◌, ◌≤◌, ◌≡◌, List, Ok}
use Rattle.theory.specs.Rules.{Rules}
use Rattle.theory.specs.Boundary.{boundary}
use Rattle.theory.proofs.System.{Sound}
use Rattle.theory.proofs.TailLaws.{here, tail_still}
use Rattle.table.specs.Set.{rules_from}
use Rattle.table.proofs.SetLaws.{set_sound}
use Rattle.scheduler.specs.declared.State.{State}
use Rattle.decisions.specs.declared.Tally.{Tally}
use Rattle.decisions.specs.declared.Tick.TheVariants.{Run, Tail}
use Rattle.scheduler.specs.States.{record_in}
use Rattle.scheduler.specs.Lawful.{LawfulState}
use Rattle.scheduler.specs.Steps.{first_ready, step_of}
use Rattle.histories.specs.History.{Call, Past, after}
use Rattle.scheduler.proofs.PlaceLaws.{Sized}
use Rattle.bridge.specs.Views.{view_of, holds_own}
use Rattle.bridge.specs.Ticks.{made_tick, RunIs, run_is, tail_is}
use Rattle.bridge.specs.Runs.{Bridged, bridged_after, step_bridged, go_on}

-- AFTER A TAIL TICK of a state s no task runs before the end of the sleep slot that starts at the first boundary after
-- it, in whatever goes on from the state that the tick left.
pub tail_rests : (s : State) (t u : Tally) (k : ℕ) (p : Past) (between : List Call) → Sized s → (step_of s t).answer ≡ Ok Tail → p.state ≡ (step_of s t).state
    → (step_of (after p between).state u).answer ≡ Ok (Run k)
    → boundary s.sleep.period s.clock + s.sleep.work ≤ (after p between).state.clock
unfolding record_in
tail_rests s t u k p between size tail from run =
    tail_still R (view_of s) (view_of p.state) (view_of q.state) (view_of (step_of q.state u).state) (first_ready q.state) X.a X.l
    sound (rw from (tail_is (record_in s) s.n s t size (holds_own s) tail)) (go_on (record_in s) s.n (view_of p.state) p between B here) X.ran
  where
    L : LawfulState s
    L = (made_tick s t Tail tail).lawful_state

    R : Rules
    R = rules_from (record_in s) s.n

    sound : Sound R
    sound = set_sound (record_in s) s.n L.set

    B : Bridged (record_in s) s.n p
    B = step_bridged (record_in s) s.n s t p size L (holds_own s) from

    q : Past
    q = after p between

    C : Bridged (record_in s) s.n q
    C = bridged_after (record_in s) s.n p between B

    X : RunIs (record_in s) s.n q.state u k
    X = run_is (record_in s) s.n q.state u k C.sized C.holds run
