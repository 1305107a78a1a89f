-- `scheduler::places_fit` meets its contract: every place passed keeps its rules.
use Rattle.std.proofs.Common.{ℕ, ◌≡◌, List, Bool, true, get_or}
use Rattle.base.specs.Every.{every}
use Rattle.decisions.specs.Fits.{no_entry, place_fits}
use Rattle.scheduler.specs.States.{period_before}
use Rattle.decisions.specs.declared.Entry.{Entry}
use Rattle.decisions.specs.declared.Head.{Head}
use Rattle.scheduler.proofs.places_fit.Given as goal

-- `place` is the test of place i.
abbrev place : Head → List Entry → ℕ → Bool
place head entries i = place_fits head i (period_before entries i) (get_or entries i no_entry)

abbrev pub invariant-loop-i : goal.invariant-loop-i
invariant-loop-i l = record {
  above_is : l.above ≡ period_before l.entries l.i;
  passed : every (place l.head l.entries) l.i ≡ true;
}
