-- The wait is the set's, and small.
use Rattle.std.proofs.Common.{arith}
use Rattle.admission.proofs.DemandLaws.{wait_small}
use Rattle.admission.proofs.ReadTable.figure.Goals as goal

pub overflow_add-result : goal.overflow_add-result
overflow_add-result c = rw c.wait.ensures (omega (arith, wait_small c.args.self.now c.args.i c.requires.0))
