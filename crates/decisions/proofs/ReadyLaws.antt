-- A job may run at a tick exactly when it was released at or before the last boundary: so one division finds the first
-- of all tasks that may.
use Prim.Native.Nat.{ℕ, ◌-◌, ◌*◌, ◌/◌, ◌%◌, ◌≤◌, ◌<◌}
use mathlib.Core.Path.{◌≡◌, refl}
use native.Mathlib.Omega.{arith}
use native.Mathlib.Nat.{div-add-mod', div-mul-le_self, mul-le-mul_right, le-div_iff_mul-le}
use lib.Dec.{leb}
use borrow.Author.Tests.{le-leb, lt-leb}
use Rattle.base.proofs.Split.{by_lt}
use Rattle.theory.specs.Rules.{ready}
use Rattle.theory.proofs.ReadyLaws.{ready_up, ready_by}
use Rattle.decisions.specs.declared.Job.{Job}
use Rattle.decisions.specs.declared.Job.TheVariants.{Resting, Working}
use Rattle.decisions.specs.declared.Head.{Head}
use Rattle.decisions.specs.Ticks.{last_boundary, may_run, came}

-- The last boundary is h times the quotient of t by h.
boundary_is : (h t : ℕ) → t - t % h ≡ t / h * h
boundary_is h t = omega (arith, div-add-mod' t h)

-- A ready tick not after t is not after the last boundary.
ready_boundary : (h t a : ℕ) → 1 ≤ h → ready h a ≤ t → ready h a ≤ t / h * h
unfolding ready
ready_boundary h t a p l = mul-le-mul_right h ((le-div_iff_mul-le {k = h} p).1 l)

-- A release is at or before the last boundary exactly when its ready tick is not after t.
pub came_ready : (h t a : ℕ) → 1 ≤ h → leb a (t - t % h) ≡ leb (ready h a) t
came_ready h t a p = by_lt t (ready h a) (leb a (t - t % h) ≡ leb (ready h a) t)
    (λ lt.
    let after : t - t % h < a = by_lt (t - t % h) a (t - t % h < a) (λ l. l)
    (λ l.
    let b : a ≤ t / h * h = omega (arith, boundary_is h t) in
    absurd (omega (arith, ready_by h a (t / h) p b, div-mul-le_self t h))) in
    rw (lt-leb a (t - t % h) after, lt-leb (ready h a) t lt))
    (λ le.
    let by : a ≤ t - t % h = omega (arith, boundary_is h t, ready_up h a p, ready_boundary h t a p le) in
    rw (le-leb a (t - t % h) by, le-leb (ready h a) t le))

-- A job that was released at or before the last boundary is the same as one that may run.
pub came_may_run : (head : Head) (job : Job) → 1 ≤ head.sleep.period → came (last_boundary head) job ≡ may_run head job
came_may_run head Resting p = refl
came_may_run head (Working a l) p = came_ready head.sleep.period head.clock a p
