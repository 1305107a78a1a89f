-- A proof can be split in two ways by a comparison of numbers.
use Prim.Native.Nat.{ℕ, ◌≤◌, ◌<◌}
use mathlib.Core.Path.{◌≡◌}
use mathlib.Core.Logic.{◌≢◌}
use native.Mathlib.Omega.{arith}
use native.Mathlib.Decide.{ℕ_discrete, dec_lt}

-- A proof has two cases: a is below b, or it is not.
pub by_lt {ℓ} : (a b : ℕ) (G : Type ℓ) → (a < b → G) → (b ≤ a → G) → G
by_lt a b G f g = go (dec_lt a b)
  where
    go : Dec (a < b) → G
    go (yes h) = f h
    go (no h) = g (omega arith)

-- A proof has two cases: a is b, or it is not.
pub by_eq {ℓ} : (a b : ℕ) (G : Type ℓ) → (a ≡ b → G) → (a ≢ b → G) → G
by_eq a b G f g = go (ℕ_discrete a b)
  where
    go : Dec (a ≡ b) → G
    go (yes h) = f h
    go (no h) = g h
