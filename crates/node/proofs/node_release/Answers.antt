-- Past the test of the rules the words encode a state that keeps them, and what is released is one of its tasks.
use Rattle.std.proofs.Common.{arith, sym}
use Rattle.base.proofs.ChoiceLaws.{both}
use Rattle.scheduler.specs.States.{state_fits}
use Rattle.scheduler.specs.Releases.{release_answer}
use Rattle.scheduler.proofs.ReleaseLaws.{accepted_says}
use Rattle.node.specs.Layout.{encoded, state_in}
use Rattle.node.proofs.node_release.Goals as goal

pub take-requires : goal.take-requires
unfolding release_answer
take-requires c =
    let words = c.in-Some.state.now in
    let f = both (encoded words) (state_fits (state_in words)) (sym c.if-not-fit.ensures) in
    let F = accepted_says (state_in words) c.args.task c.args.demand (rw f.1 (sym (rw (c.head.ensures, c.entry-e.ensures, c.saturating_sub.ensures) at c.in-Ok.ensures))) in
    (f.0, F.from_one, omega (arith, F.to_n, F.lawful_state.few))
