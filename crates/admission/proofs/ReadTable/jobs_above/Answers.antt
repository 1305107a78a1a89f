-- Each task passed adds at most 180,000, and there are at most 16.
use Rattle.std.proofs.Common.{◌*◌, ◌≤◌, arith}
use Rattle.table.specs.Set.{rules_of}
use Rattle.admission.proofs.DemandLaws.{terms_most, table_small, few_tasks, period_at, jobs_small}
use Rattle.admission.proofs.ReadTable.jobs_above.Goals as goal

pub ceil-requires : goal.ceil-requires
ceil-requires c =
    let t = c.args.self.now in
    let s = rw (period_at t c.loop-j.j (omega arith)) at (table_small t c.loop-j.j) in
    rw c.task-task.ensures (omega (arith, s))

pub overflow_mul-sum : goal.overflow_mul-sum
overflow_mul-sum c =
    let job = jobs_small c.args.self.now c.loop-j.j c.args.span (omega arith) c.requires.1 in
    rw (c.ceil.ensures, c.task-task.ensures) (omega (arith, job))

pub overflow_add-sum : goal.overflow_add-sum
overflow_add-sum c =
    let t = c.args.self.now in
    let j = c.loop-j.j in
    let job = jobs_small t j c.args.span (omega arith) c.requires.1 in
    let sum : c.loop-j.sum ≤ 180000 * j = rw c.loop-j.invariant (terms_most (rules_of t.bytes.now) (table_small t) j c.args.span c.requires.1) in
    rw (c.ceil.ensures, c.task-task.ensures) (omega (arith, job, sum, few_tasks t))
