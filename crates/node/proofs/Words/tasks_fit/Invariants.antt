-- `node::Words::tasks_fit` meets its contract: every task's place passed is encoded and keeps its rules.
use mathlib.Core.Bool.{true}
use mathlib.Core.Path.{◌≡◌}
use Rattle.scheduler.specs.States.{period_before}
use Rattle.node.specs.Layout.{entries_in}
use Rattle.node.specs.Calls.{places_fit_in}
use Rattle.node.proofs.Words.tasks_fit.Given as goal

abbrev pub invariant-loop-i : goal.invariant-loop-i
invariant-loop-i l = (l.above ≡ period_before (entries_in l.self.words.now) l.i) × (places_fit_in l.self.words.now l.head l.i ≡ true)
