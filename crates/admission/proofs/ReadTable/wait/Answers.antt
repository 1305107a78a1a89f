-- H is no 0.
use Rattle.std.proofs.Common.{arith}
use Rattle.admission.proofs.DemandLaws.{sleep_at}
use Rattle.admission.proofs.ReadTable.wait.Goals as goal

pub overflow_sub-result : goal.overflow_sub-result
overflow_sub-result c = rw c.sleep-h.ensures (omega (arith, sleep_at c.args.self.now))
