-- Sums by index keep the order of their terms, and one term raised raises the sum by as much.
use Prim.Native.Nat.{ℕ, zero, suc, ◌+◌, ◌≤◌, ◌<◌}
use mathlib.Core.Path.{◌≡◌, refl}
use mathlib.Core.Logic.{◌≢◌}
use native.Mathlib.Omega.{arith}
use borrow.Author.Tests.{eq-eqb, ne_eqb}
use Rattle.base.specs.Sum.{sum_to, plus_at}
use Rattle.base.proofs.Split.{by_eq}

-- A sum of terms that are not smaller is not smaller.
pub sum_to_mono : (n : ℕ) (f g : ℕ → ℕ) → ((j : ℕ) → j < n → f j ≤ g j) → sum_to n f ≤ sum_to n g
unfolding sum_to
sum_to_mono zero f g h = omega arith
sum_to_mono (suc n) f g h = omega (arith, sum_to_mono n f g (λ j l. h j (omega arith)), h n (omega arith))

-- A sum of zeros is zero.
pub sum_to_zero : (n : ℕ) → sum_to n (λ j. 0) ≡ 0
unfolding sum_to
sum_to_zero zero = refl
sum_to_zero (suc n) = omega (arith, sum_to_zero n)

-- The sum of two sums is the sum of their terms, one by one.
pub sum_same : (n : ℕ) (f g h : ℕ → ℕ) → ((i : ℕ) → i < n → f i + g i ≡ h i) → sum_to n f + sum_to n g ≡ sum_to n h
unfolding sum_to
sum_same zero f g h e = refl
sum_same (suc n) f g h e = omega (arith, sum_same n f g h (λ i l. e i (omega arith)), e n (omega arith))

-- With x more at place j, the number at place j is x more.
pub plus_same : (j x : ℕ) (f : ℕ → ℕ) → plus_at j x f j ≡ f j + x
unfolding plus_at
plus_same j x f = rw (eq-eqb j j refl)

-- With x more at place j, the numbers at the other places stay as they are.
pub plus_other : (j x : ℕ) (f : ℕ → ℕ) (k : ℕ) → k ≢ j → plus_at j x f k ≡ f k
unfolding plus_at
plus_other j x f k n = rw (ne_eqb k j n)

-- With x more at place j, a sum of terms before place j stays the same.
sum_plus_low : (n j x : ℕ) (f : ℕ → ℕ) → n ≤ j → sum_to n (plus_at j x f) ≡ sum_to n f
unfolding sum_to
sum_plus_low zero j x f l = refl
sum_plus_low (suc n) j x f l = omega (arith, sum_plus_low n j x f (omega arith), plus_other j x f n (λ q. omega arith))

-- With x more at place j, a sum with the term at place j is x more.
pub sum_plus : (n j x : ℕ) (f : ℕ → ℕ) → j < n → sum_to n (plus_at j x f) ≡ sum_to n f + x
unfolding sum_to
sum_plus zero j x f l = absurd (let z : ⊥ = omega arith in z)
sum_plus (suc n) j x f l = by_eq n j (sum_to n (plus_at j x f) + plus_at j x f n ≡ sum_to n f + f n + x)
    (λ q. rw q (omega (arith, sum_plus_low j j x f (omega arith), plus_same j x f)))
    (λ d. omega (arith, sum_plus n j x f (omega arith), plus_other j x f n d))
