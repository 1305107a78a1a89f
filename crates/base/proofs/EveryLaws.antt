-- A test of every number below n holds exactly when it holds of each.
use Prim.Native.Nat.{ℕ, zero, suc, ◌+◌, ◌<◌}
use mathlib.Core.Path.{◌≡◌, refl}
use mathlib.Core.Bool.{Bool, true, false, ◌&&◌, and-eq-true_iff}
use native.Mathlib.Omega.{arith}
use native.Mathlib.Numerals.{add-one}
use Rattle.base.specs.Every.{every}
use Rattle.base.proofs.Split.{by_eq}

-- A test of every number below i that holds at i too holds of every number below i + 1.
pub every_more : (test : ℕ → Bool) (i : ℕ) → every test i ≡ true → test i ≡ true → every test (i + 1) ≡ true
unfolding every
every_more test i e t = rw (add-one, e) t

-- The test of every number below n fails where one of them fails it.
pub every_not : (test : ℕ → Bool) (n i : ℕ) → i < n → test i ≡ false → every test n ≡ false
unfolding every
every_not test zero i l e = absurd (let z : ⊥ = omega arith in z)
every_not test (suc n) i l e = by_eq i n (every test n && test n ≡ false)
    (λ q. rw (← q, e) (no (every test i)))
    (λ d. rw (every_not test n i (omega arith) e))
  where
    no : (b : Bool) → b && false ≡ false
    no true = refl
    no false = refl

-- A test of every number below n that holds is true at each of them.
pub every_says : (test : ℕ → Bool) (n i : ℕ) → every test n ≡ true → i < n → test i ≡ true
unfolding every
every_says test zero i e l = absurd (let z : ⊥ = omega arith in z)
every_says test (suc n) i e l =
    let b = (and-eq-true_iff (every test n) (test n)).0 e in
    by_eq i n (test i ≡ true) (λ q. rw q b.1) (λ d. every_says test n i b.0 (omega arith))

-- A test that is true at each number below n holds of every one.
pub says_every : (test : ℕ → Bool) (n : ℕ) → ((i : ℕ) → i < n → test i ≡ true) → every test n ≡ true
unfolding every
says_every test zero h = refl
says_every test (suc n) h = rw (says_every test n (λ i l. h i (omega arith)), h n (omega arith))

-- To test every number for both f and g is to test every number for f and every number for g.
pub every_both : (f g : ℕ → Bool) (n : ℕ) → every (λ i. f i && g i) n ≡ every f n && every g n
unfolding every
every_both f g zero = refl
every_both f g (suc n) = rw (every_both f g n) (four (every f n) (every g n) (f n) (g n))
  where
    four : (a b c d : Bool) → (a && b) && (c && d) ≡ (a && c) && (b && d)
    four true true c d = refl
    four true false true d = refl
    four true false false d = refl
    four false b c d = refl
