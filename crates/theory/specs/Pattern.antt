-- The worst pattern (RULES 11) releases each task first at its offset.
use Rattle.std.specs.Prelude.{ℕ, zero, suc}
use Rattle.theory.specs.Rules.{Rules}

-- The offset of the worst pattern is H for the first task and 1 for the others.
unfoldable pub offset : Rules → ℕ → ℕ
offset R zero = R.H
offset R (suc j) = 1
