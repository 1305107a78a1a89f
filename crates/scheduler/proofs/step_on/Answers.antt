-- A step that may be made is one of a state that keeps its rules.
use Rattle.std.specs.Prelude.{Ok}
use Rattle.std.proofs.Common.{◌≡◌, Bool, arith, sym, ◌∙◌}
use Rattle.decisions.specs.declared.Tally.{Tally}
use Rattle.decisions.specs.Asks.{may_step}
use Rattle.scheduler.specs.declared.State.{State}
use Rattle.scheduler.specs.States.{record_in, state_fits}
use Rattle.scheduler.specs.Steps.{tick_of, step_of, Ready}
use Rattle.scheduler.proofs.StateLaws.{fits_says}
use Rattle.scheduler.proofs.TickLaws.{tick_is_next}
use Rattle.scheduler.proofs.StepLaws.{may_step_says}
use Rattle.scheduler.proofs.step_on.Goals as goal

ready : (s : State) (t : Tally) (fits : Bool) → fits ≡ state_fits s → Ok tt ≡ may_step fits t s.clock → Ready s
unfolding record_in
ready s t fits e a =
    let m = may_step_says fits t s.clock (sym a) in
    let L = fits_says s (rw e at m.fitting) in
    record { some = omega (arith, L.set.room); few = L.few; before = m.before_end }

pub after_tick-requires : goal.after_tick-requires
after_tick-requires c =
    let R = ready c.args.state c.args.tally c.fits.result c.fits.ensures c.in-Ok.ensures in
    (R, rw c.head_of.ensures at c.next_tick-tick.ensures ∙ tick_is_next c.args.state R.some)

pub returns-in-Ok : goal.returns-in-Ok
unfolding step_of
returns-in-Ok c =
    let s = c.args.state in
    let R = ready s c.args.tally c.fits.result c.fits.ensures c.in-Ok.ensures in
    let tick : c.next_tick-tick.result ≡ tick_of s = rw c.head_of.ensures at c.next_tick-tick.ensures ∙ tick_is_next s R.some in
    let may = rw c.fits.ensures at c.in-Ok.ensures in
    rw (sym may, c.after_tick.ensures, c.raised.ensures, c.count_of.ensures, c.head_of-in-Ok.ensures, tick)
