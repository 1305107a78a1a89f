-- `node::put_state` meets its contract: the head, then the words of the first i places.
use mathlib.Core.Path.{◌≡◌}
use mathlib.Core.List.{◌++◌}
use Rattle.node.specs.Words.{puts}
use Rattle.node.specs.Layout.{head_words, places_words}
use Rattle.node.proofs.put_state.Given as goal

abbrev pub invariant-loop-i : goal.invariant-loop-i
invariant-loop-i l = l.out ≡ puts l.fn.out 0 (head_words l.s ++ places_words l.s.entries l.i)
