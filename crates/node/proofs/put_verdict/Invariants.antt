-- `node::put_verdict` meets its contract: the parts of every row passed stand among the words.
use Prim.Native.Nat.{ℕ, ◌<◌}
use mathlib.Core.Path.{◌≡◌}
use lib.ListN.{length, get_or}
use Rattle.admission.specs.Verdicts.{no_row}
use Rattle.node.specs.Layout.{verdict_size}
use Rattle.node.proofs.LayoutLaws.{RowPut}
use Rattle.node.proofs.put_verdict.Given as goal

abbrev pub invariant-loop-i : goal.invariant-loop-i
invariant-loop-i l = record { long : length l.out ≡ verdict_size; rows : (k : ℕ) → k < l.i → RowPut l.out (get_or l.v.rows k no_row) k }
