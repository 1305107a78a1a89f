-- The spare places passed are blank, so that what is left decides.
use Rattle.std.proofs.Common.{◌≡◌}
use Rattle.node.specs.Calls.{spares_blank}
use Rattle.node.proofs.Words.spares_blank.Given as goal

abbrev pub invariant-loop-i : goal.invariant-loop-i
invariant-loop-i l = spares_blank l.self.words.now l.i ≡ spares_blank l.self.words.now l.n
