-- The worst pattern (RULES 11) releases task 1 at tick H and every T after, each other task at tick 1 and every T
-- after, all with full demand. Here it is the list of its calls: each tick, releases in table order, then a step.
use Rattle.std.specs.Prelude.{ℕ, zero, suc, ◌+◌, ◌-◌, ◌%◌, List, [], ◌∷◌, ◌++◌, Bool, cond, ◌&&◌, leb, eqb}
use Rattle.theory.specs.Rules.{Rules}
use Rattle.theory.specs.Pattern.{offset}
use Rattle.histories.specs.History.{Call, release, step}

-- The task at place j is due at tick t: t is its offset (H for the first task, 1 for the others) or periods after it.
unfoldable pub due_at : Rules → ℕ → ℕ → Bool
due_at R j t = leb (offset R j) t && eqb ((t - offset R j) % R.T j) 0

-- `releases_at` lists the releases of the first m tasks at tick t.
unfoldable pub releases_at : Rules → ℕ → ℕ → List Call
releases_at R zero t = []
releases_at R (suc j) t = releases_at R j t ++ cond (due_at R j t) (release (j + 1) (R.C j) ∷ []) []

-- THE WORST PATTERN of the first m tasks is listed up to clock t.
unfoldable pub worst_pattern : Rules → ℕ → ℕ → List Call
worst_pattern R m zero = []
worst_pattern R m (suc t) = worst_pattern R m t ++ (releases_at R m t ++ step ∷ [])
