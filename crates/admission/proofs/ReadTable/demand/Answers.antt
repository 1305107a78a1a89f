-- The parts of the demand are those of the definition, and small.
use Rattle.std.proofs.Common.{◌*◌, ◌≤◌, arith}
use Rattle.admission.proofs.DemandLaws.{parts_small, few_tasks, work_small, sleep_at}
use Rattle.admission.proofs.ReadTable.demand.Goals as goal

pub ceil-k-requires : goal.ceil-k-requires
ceil-k-requires c = rw c.sleep-sleep.ensures (omega (arith, sleep_at c.args.self.now))

pub overflow_mul-span : goal.overflow_mul-span
overflow_mul-span c =
    let parts = parts_small c.args.self.now c.args.i c.args.w c.requires.0 c.requires.1 in
    rw (c.ceil-k.ensures, c.sleep-sleep.ensures) (omega (arith, parts.span))

pub jobs_above-above-requires : goal.jobs_above-above-requires
jobs_above-above-requires c =
    let parts = parts_small c.args.self.now c.args.i c.args.w c.requires.0 c.requires.1 in
    let span : c.ceil-k.result * c.sleep-sleep.result.period ≤ 120000 = rw (c.ceil-k.ensures, c.sleep-sleep.ensures) parts.span in
    (omega (arith, c.requires.0), span)

pub overflow_mul-result : goal.overflow_mul-result
overflow_mul-result c =
    let parts = parts_small c.args.self.now c.args.i c.args.w c.requires.0 c.requires.1 in
    rw (c.ceil-k.ensures, c.sleep-sleep.ensures) (omega (arith, parts.slots))

pub overflow_add-result : goal.overflow_add-result
overflow_add-result c =
    let t = c.args.self.now in
    let parts = parts_small t c.args.i c.args.w c.requires.0 c.requires.1 in
    rw (c.ceil-k.ensures, c.sleep-sleep.ensures, c.task.ensures) (omega (arith, parts.slots, work_small t c.args.i c.requires.0))

-- The work of the tasks above it is at most 2,880,000.
pub overflow_add-result-2 : goal.overflow_add-result-2
overflow_add-result-2 c =
    let t = c.args.self.now in
    let parts = parts_small t c.args.i c.args.w c.requires.0 c.requires.1 in
    rw (c.jobs_above-above.ensures, c.ceil-k.ensures, c.sleep-sleep.ensures, c.task.ensures)
    (omega (arith, parts.slots, parts.above, work_small t c.args.i c.requires.0, few_tasks t))
