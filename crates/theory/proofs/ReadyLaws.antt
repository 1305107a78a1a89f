-- The boundary from which a job may run is at its release or after it, by less than H.
use Prim.Native.Nat.{ℕ, ◌+◌, ◌-◌, ◌*◌, ◌/◌, ◌%◌, ◌≤◌, ◌<◌}
use mathlib.Core.Path.{◌≡◌}
use native.Mathlib.Omega.{arith}
use native.Mathlib.Nat.{mul-le-mul_right, lt_of_mul-lt-mul_right, div-add-mod', mul-mod_left}
use Rattle.theory.specs.Round.{ceil}
use Rattle.theory.specs.Rules.{ready}
use Rattle.theory.proofs.RoundLaws.{ceil_up, ceil_near, ceil_least, ceil_past}

-- A job is ready at its release or after it.
pub ready_up : (h a : ℕ) → 1 ≤ h → a ≤ ready h a
unfolding ready
ready_up h a p = ceil_up a h p

-- A job is ready less than H after its release.
pub ready_near : (h a : ℕ) → 1 ≤ h → ready h a < a + h
unfolding ready
ready_near h a p = ceil_near a h p

-- A later release is not ready earlier.
pub ready_mono : (h a b : ℕ) → 1 ≤ h → a ≤ b → ready h a ≤ ready h b
unfolding ready
ready_mono h a b p l = mul-le-mul_right h (ceil_least a h (ceil b h) p (omega (arith, ceil_up b h p)))

-- A job is ready at a boundary.
pub ready_mod : (h a : ℕ) → ready h a % h ≡ 0
unfolding ready
ready_mod h a = mul-mod_left (ceil a h) h

-- A ready tick before the end of x ticks from a boundary is a whole H before the end of those ticks rounded up.
pub ready_inside : (h c x a : ℕ) → 1 ≤ h → ready h a < c * h + x → ready h a + h ≤ c * h + ready h x
unfolding ready
ready_inside h c x a p l =
    let k : ceil a h < c + ceil x h = lt_of_mul-lt-mul_right h {m = ceil a h} {n = c + ceil x h} (omega (arith, ceil_up x h p)) in
    omega (arith, mul-le-mul_right h k)

-- A ready tick is H or later for a release at 1 or later.
pub ready_first : (h a : ℕ) → 1 ≤ h → 1 ≤ a → h ≤ ready h a
unfolding ready
ready_first h a p q = omega (arith, mul-le-mul_right h (ceil_past a h 0 p (omega arith)))

-- A release not after a boundary is ready by the boundary.
pub ready_by : (h a k : ℕ) → 1 ≤ h → a ≤ k * h → ready h a ≤ k * h
unfolding ready
ready_by h a k p q = mul-le-mul_right h (ceil_least a h k p q)

-- No job waits more than H - 1 ticks for its boundary.
pub wait_most : (h a : ℕ) → 1 ≤ h → ready h a ≤ a + (h - 1)
wait_most h a p = omega (arith, ready_near h a p)

-- A job released on a boundary does not wait.
pub wait_none : (h a : ℕ) → 1 ≤ h → a % h ≡ 0 → ready h a ≤ a + 0
unfolding ready
wait_none h a p e = omega (
  arith,
  div-add-mod' a h,
  mul-le-mul_right h (ceil_least a h (a / h) p (omega (arith, div-add-mod' a h))),
)
