-- The laws of rounding up, and the slot ticks of a stretch of ticks, are the arithmetic under the response bound.
use Prim.Native.Nat.{ℕ, suc, ◌+◌, ◌-◌, ◌*◌, ◌/◌, ◌%◌, min, ◌≤◌, ◌<◌}
use mathlib.Core.Path.{◌≡◌, ap}
use native.Mathlib.Omega.{arith, both_ways}
use native.Mathlib.Nat.{div-mul-le_self, lt-div-mul-add, div-add-mod', mod-lt, div-eq_of_lt-le, lt_of_mul-lt-mul_right, mul-le-mul_right, div-eq_of_lt, mod-eq_of_lt, le_of_mul-le-mul_right}
use Rattle.std.proofs.lemmas.Grind.{div_ceil_times}
use Rattle.base.proofs.Split.{by_lt}
use Rattle.theory.specs.Round.{ceil}

-- The multiple of b that rounding up reaches is not below a.
pub ceil_up : (a b : ℕ) → 1 ≤ b → a ≤ ceil a b * b
unfolding ceil
ceil_up a b h = omega (arith, lt-div-mul-add {a = a + (b - 1)} {b = b} h)

-- The multiple of b that rounding up reaches is less than b above a.
pub ceil_near : (a b : ℕ) → 1 ≤ b → ceil a b * b < a + b
unfolding ceil
ceil_near a b h = omega (arith, div-mul-le_self (a + (b - 1)) b)

-- A multiple of b that is not below a is not below the rounded one.
pub ceil_least : (a b c : ℕ) → 1 ≤ b → a ≤ c * b → ceil a b ≤ c
ceil_least a b c h k = omega (arith, lt_of_mul-lt-mul_right b {m = ceil a b} {n = suc c} (omega (arith, ceil_near a b h)))

-- A multiple of b below a is below the rounded one.
pub ceil_past : (a b c : ℕ) → 1 ≤ b → c * b < a → c < ceil a b
ceil_past a b c h k = lt_of_mul-lt-mul_right b {m = c} {n = ceil a b} (omega (arith, ceil_up a b h))

-- Within one stretch of h ticks the next number has the same quotient.
pub div_suc_in : (x h : ℕ) → 1 ≤ h → suc (x % h) < h → suc x / h ≡ x / h
div_suc_in x h p q = div-eq_of_lt-le h (omega (arith, div-add-mod' x h)) (omega (arith, div-add-mod' x h))

-- Within one stretch of h ticks the remainder goes up by one.
pub mod_suc_in : (x h : ℕ) → 1 ≤ h → suc (x % h) < h → suc x % h ≡ suc (x % h)
mod_suc_in x h p q = omega (arith, div-add-mod' x h, div-add-mod' (suc x) h, ap (λ (k : ℕ). k * h) (div_suc_in x h p q))

-- At the end of a stretch of h ticks the quotient goes up by one.
pub div_suc_end : (x h : ℕ) → 1 ≤ h → suc (x % h) ≡ h → suc x / h ≡ suc (x / h)
div_suc_end x h p q = div-eq_of_lt-le h (omega (arith, div-add-mod' x h)) (omega (arith, div-add-mod' x h))

-- At the end of a stretch of h ticks the remainder starts again at 0.
pub mod_suc_end : (x h : ℕ) → 1 ≤ h → suc (x % h) ≡ h → suc x % h ≡ 0
mod_suc_end x h p q = omega (arith, div-add-mod' x h, div-add-mod' (suc x) h, ap (λ (k : ℕ). k * h) (div_suc_end x h p q))

-- `slots` counts the ticks x' of 0 to x - 1 with x' % h below s.
unfoldable pub slots : ℕ → ℕ → ℕ → ℕ
slots h s x = x / h * s + min (x % h) s

-- No ticks hold no slot tick.
pub slots_zero : (h s : ℕ) → 1 ≤ h → slots h s 0 ≡ 0
unfolding slots
slots_zero h s p = omega (arith, ap (λ (k : ℕ). k * s) (div-eq_of_lt {n = 0} {m = h} p), mod-eq_of_lt {n = 0} {m = h} p)

-- A slot tick raises the count by one.
pub slots_slot : (h s x : ℕ) → 1 ≤ h → s < h → x % h < s → slots h s (suc x) ≡ suc (slots h s x)
unfolding slots
slots_slot h s x p q r =
    let in_h : suc (x % h) < h = omega arith in
    omega (arith, ap (λ (k : ℕ). k * s) (div_suc_in x h p in_h), mod_suc_in x h p in_h)

-- A tick that is no slot tick leaves the count as it is.
pub slots_other : (h s x : ℕ) → 1 ≤ h → s < h → s ≤ x % h → slots h s (suc x) ≡ slots h s x
unfolding slots
slots_other h s x p l q =
    by_lt (suc (x % h)) h (slots h s (suc x) ≡ slots h s x)
    (λ in_h. omega (arith, ap (λ (k : ℕ). k * s) (div_suc_in x h p in_h), mod_suc_in x h p in_h))
    (λ out.
    let end : suc (x % h) ≡ h = omega (arith, mod-lt x {m = h} p) in
    omega (arith, ap (λ (k : ℕ). k * s) (div_suc_end x h p end), mod_suc_end x h p end))

-- There are at most s slot ticks in x ticks for each stretch of h ticks begun.
pub slots_most : (h s x : ℕ) → 1 ≤ h → slots h s x ≤ ceil x h * s
unfolding slots
slots_most h s x p =
    by_lt 0 (x % h) (slots h s x ≤ ceil x h * s)
    (λ r. omega (arith, mul-le-mul_right s (ceil_past x h (x / h) p (omega (arith, div-add-mod' x h)))))
    (λ r. omega (
      arith,
      mul-le-mul_right s (
          div_least x h (ceil x h) p (omega (arith, ceil_up x h p, div-add-mod' x h))),
    ))
  where
    div_least : (a b c : ℕ) → 1 ≤ b → a / b * b ≤ c * b → a / b ≤ c
    div_least a b c h k = le_of_mul-le-mul_right {m = a / b} {n = c} {k = b} k h

-- After the slot of a stretch all its slot ticks are counted.
slots_full : (h s x : ℕ) → s ≤ x % h → slots h s x ≡ x / h * s + s
unfolding slots
slots_full h s x q = omega arith

-- After a tick that is no slot tick there were exactly s slot ticks for each stretch of h ticks begun.
pub slots_all : (h s x : ℕ) → 1 ≤ h → s < h → s ≤ x % h → slots h s (suc x) ≡ ceil (suc x) h * s
slots_all h s x p l q =
    let e : ceil (suc x) h ≡ suc (x / h) = both_ways _ _
    (ceil_least (suc x) h (suc (x / h)) p (omega (arith, lt-div-mul-add {a = x} {b = h} p)))
    (ceil_past (suc x) h (x / h) p (omega (arith, div-mul-le_self x h))) in
    omega (arith, slots_other h s x p l q, slots_full h s x q, ap (λ (k : ℕ). k * s) e)

-- The quotient, with one more where something is left over, is the quotient rounded up.
pub div_ceil_is : (a b : ℕ) → 1 ≤ b → a / b + min 1 (a % b) ≡ ceil a b
div_ceil_is a b h =
    let t = div_ceil_times a b (omega arith) in
    let up : ceil a b ≤ a / b + min 1 (a % b) = ceil_least a b (a / b + min 1 (a % b)) h t.0 in
    let low : a / b + min 1 (a % b) < suc (ceil a b) =
    lt_of_mul-lt-mul_right b {m = a / b + min 1 (a % b)} {n = suc (ceil a b)} (omega (arith, t.1, ceil_up a b h)) in
    omega arith
