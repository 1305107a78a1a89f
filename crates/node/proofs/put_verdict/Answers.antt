-- Past the last row every row's parts stand there.
use Rattle.std.proofs.Common.{arith}
use Rattle.node.proofs.LayoutLaws.{verdict_put}
use Rattle.node.proofs.put_verdict.Goals as goal

pub returns : goal.returns
returns c = verdict_put c.loop-i.out c.args.v.now c.loop-i.invariant.long (λ k l. c.loop-i.invariant.rows k (omega arith))
