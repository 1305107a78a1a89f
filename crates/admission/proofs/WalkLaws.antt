-- This file takes the walk of the admission test a task at a time.
use Prim.Native.Nat.{ℕ, zero, suc, ◌+◌, ◌-◌, ◌≤◌}
use mathlib.Core.Path.{◌≡◌}
use mathlib.Core.List.{List}
use native.Mathlib.Omega.{arith}
use Rattle.theory.specs.Rules.{Rules}
use Rattle.theory.specs.Rounds.{outcome}
use Rattle.admission.specs.declared.Row.{Row}
use Rattle.admission.specs.Figure.{limit}
use Rattle.admission.specs.Verdicts.{judged, walk_from}

-- One task of the walk is judged, and the walk goes on with one task fewer.
pub walk_step : (R : Rules) (left i : ℕ) (rows : List Row) → 1 ≤ left
    → walk_from R left i rows ≡ judged (walk_from R (left - 1) (i + 1)) R i rows (outcome R i (limit R i))
unfolding walk_from
walk_step R zero i rows l = absurd (let z : ⊥ = omega arith in z)
walk_step R (suc left) i rows l = let e : suc left - 1 ≡ left = omega arith in rw e
