-- `scheduler::fresh` meets its contract: the places passed hold their tasks.
use Rattle.std.proofs.Common.{◌≡◌}
use Rattle.scheduler.specs.States.{entries_of}
use Rattle.scheduler.proofs.fresh.Given as goal

abbrev pub invariant-loop-i : goal.invariant-loop-i
invariant-loop-i l = l.entries ≡ entries_of l.table l.i
