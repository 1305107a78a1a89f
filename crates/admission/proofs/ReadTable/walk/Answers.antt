-- There are at most 16 tasks, and so places for them.
use Rattle.std.proofs.Common.{arith}
use Rattle.admission.proofs.DemandLaws.{few_tasks}
use Rattle.admission.proofs.ReadTable.walk.Goals as goal

pub bounds-rows-i : goal.bounds-rows-i
bounds-rows-i c = omega (arith, few_tasks c.args.self.now)
