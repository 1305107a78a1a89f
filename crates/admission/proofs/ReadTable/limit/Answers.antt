-- What is read is the set's, and no job waits longer than it has.
use Rattle.std.proofs.Common.{arith}
use Rattle.admission.proofs.DemandLaws.{period_at, waits_at}
use Rattle.admission.proofs.ReadTable.limit.Goals as goal

pub overflow_sub-result : goal.overflow_sub-result
overflow_sub-result c =
    let t = c.args.self.now in
    rw (c.wait.ensures, c.task.ensures) (omega (arith, period_at t c.args.i c.requires, waits_at t c.args.i c.requires))

pub returns : goal.returns
returns c = rw (c.wait.ensures, c.task.ensures, period_at c.args.self.now c.args.i c.requires)
