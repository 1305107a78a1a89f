-- A step that may be made is one of words that fit before the last clock, with a tally that sums to the clock.
use Rattle.std.proofs.Common.{arith, sym, ◌∙◌}
use borrow.Author.Tests.{eqb-true}
use Rattle.decisions.specs.Fits.{total}
use Rattle.scheduler.proofs.StepLaws.{may_step_says}
use Rattle.node.proofs.node_step.Goals as goal

pub move_on-requires : goal.move_on-requires
move_on-requires c =
    let m = may_step_says c.fit.result c.tally_in.result c.head-head.result.clock (sym c.in-Ok.ensures) in
    (sym c.fit.ensures ∙ m.fitting, rw c.head-head.ensures at m.before_end, c.tick-tick.ensures)

pub raise-requires : goal.raise-requires
raise-requires c =
    let m = may_step_says c.fit.result c.tally_in.result c.head-head.result.clock (sym c.in-Ok.ensures) in
    let sum = rw c.tally_in.ensures at (eqb-true (total c.tally_in.result) c.head-head.result.clock m.counted) in
    omega (arith, sum, m.before_end)
