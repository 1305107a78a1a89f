-- What is made of the next tick is the tick of the state.
use Rattle.std.proofs.Common.{◌∙◌}
use Rattle.node.proofs.CallLaws.{tick_is}
use Rattle.node.proofs.Words.tick.Goals as goal

pub returns : goal.returns
returns c = rw c.head.ensures at c.next_tick.ensures ∙ tick_is c.args.self.now.words.now c.requires
