-- The rounds from here end as the whole search of the task does, and the walk from here gives the verdict of the whole
-- walk. The values rise, so that the rounds end.
use Rattle.std.specs.Prelude.{Ok}
use Rattle.std.proofs.Common.{◌≡◌, ◌≤◌, ◌-◌, ◌+◌}
use Rattle.table.specs.Set.{rules_of}
use Rattle.theory.specs.Rules.{demand}
use Rattle.theory.specs.Rounds.{outcome, rounds as rounds·of}
use Rattle.admission.specs.Verdicts.{walk_from, no_rows}
use Rattle.admission.proofs.ReadTable.walk.Given as goal

abbrev pub invariant-rounds : goal.invariant-rounds
invariant-rounds l = record {
  same : l.answer ≡ l.initial.answer;
  rises : l.w ≤ demand (rules_of l.self.bytes.now) l.i l.w;
  counted : l.k + 1 ≤ l.w;
  ends : rounds·of (demand (rules_of l.self.bytes.now) l.i) l.most (l.most + 1 - l.k) l.k l.w ≡ outcome (rules_of l.self.bytes.now) l.i l.most;
}

abbrev pub decreases-rounds : goal.decreases-rounds
decreases-rounds l = l.most + 1 - l.w

abbrev pub invariant-tasks : goal.invariant-tasks
invariant-tasks l = record {
  so_far : l.answer ≡ Ok l.self.tasks;
  goes : walk_from (rules_of l.self.bytes.now) (l.self.tasks - l.i) l.i l.rows ≡ walk_from (rules_of l.self.bytes.now) l.self.tasks 0 no_rows;
}
