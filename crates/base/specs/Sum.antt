-- These are sums by index, and numbers by index of which one is raised.
use Rattle.std.specs.Prelude.{ℕ, zero, suc, ◌+◌, cond, eqb}

-- The sum is f 0 + .. + f (n - 1).
unfoldable pub sum_to : ℕ → (ℕ → ℕ) → ℕ
sum_to zero f = 0
sum_to (suc n) f = sum_to n f + f n

-- `plus_at` is f with x more at place j.
unfoldable pub plus_at : ℕ → ℕ → (ℕ → ℕ) → ℕ → ℕ
plus_at j x f k = cond (eqb k j) (f k + x) (f k)
