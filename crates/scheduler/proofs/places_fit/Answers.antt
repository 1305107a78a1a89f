-- What was asked of place i is the definition's test.
use Rattle.std.proofs.Common.{◌≡◌, add-one, arith, sym}
use Rattle.base.proofs.EveryLaws.{every_more, every_not}
use Rattle.scheduler.specs.States.{period_before}
use Rattle.scheduler.proofs.places_fit.Goals as goal

pub returns-then-not-place_fits : goal.returns-then-not-place_fits
returns-then-not-place_fits c =
    sym (every_not _ 16 c.loop-i.i (omega arith) (rw (← c.loop-i.invariant.above_is) (sym c.if-not-place_fits.ensures)))

pub loop-i-preserved : goal.loop-i-preserved
unfolding period_before
loop-i-preserved c = record {
  above_is = rw add-one;
  passed = every_more _ c.loop-i.i c.loop-i.invariant.passed (rw (← c.loop-i.invariant.above_is) (sym c.if-not-place_fits.ensures));
}

pub returns : goal.returns
returns c = let e : c.loop-i.i ≡ 16 = omega arith in sym (rw e at c.loop-i.invariant.passed)
