-- `ReadTable::jobs_above` meets its contract: the sum so far is that of the tasks passed.
use Rattle.std.proofs.Common.{◌≡◌, ◌*◌}
use Rattle.base.specs.Sum.{sum_to}
use Rattle.table.specs.Set.{rules_of}
use Rattle.theory.specs.Round.{ceil}
use Rattle.admission.proofs.ReadTable.jobs_above.Given as goal

abbrev pub invariant-loop-j : goal.invariant-loop-j
invariant-loop-j l = l.sum ≡ sum_to l.j (λ k. (rules_of l.self.bytes.now).C k * ceil l.span ((rules_of l.self.bytes.now).T k))
