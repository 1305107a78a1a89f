-- After a tail tick no task runs before the end of the next sleep slot.
use Prim.Native.Nat.{ℕ, suc, ◌+◌, ◌-◌, ◌*◌, ◌/◌, ◌%◌, ◌≤◌, ◌<◌}
use mathlib.Core.Path.{◌≡◌, ap, sym, ◌∙◌}
use native.Mathlib.Omega.{arith}
use native.Mathlib.Nat.{div-mul-le_self, mul-le-mul_right, lt_of_mul-lt-mul_right, mul-add-mod_self_right, mod-eq_of_lt}
use Rattle.base.proofs.Split.{by_lt, by_eq}
use Rattle.theory.specs.Round.{ceil}
use Rattle.theory.specs.Rules.{Rules, ready}
use Rattle.theory.specs.Boundary.{boundary}
use Rattle.theory.proofs.System.{View, Sound, Idle, Ran, Tailed, Move, working, slotted, ran, tailed, released, ticked}
use Rattle.theory.proofs.ReadyLaws.{ready_up}
use Rattle.theory.proofs.Reachable.{worked_same}

-- These are the views that moves reach from v.
pub data After (R : Rules) (v : View) : View → Type 0 where
  here : After R v v
  next : {u u' : View} → After R v u → Move R u u' → After R v u'

-- No job may run before boundary b.
unfoldable pub Still : Rules → ℕ → View → Type 0
Still R b v = (k a l : ℕ) → v.job k ≡ working a l → b ≤ ready R.H a

-- A ready tick after t is at or after the first boundary there.
boundary_least : (h t a : ℕ) → 1 ≤ h → t < ready h a → boundary h t ≤ ready h a
unfolding ready boundary
boundary_least h t a p l =
    mul-le-mul_right h (lt_of_mul-lt-mul_right h {m = t / h} {n = ceil a h} (omega (arith, div-mul-le_self t h)))

-- Every move after the clock t keeps it so that no job may run before the first boundary after t.
still_move : (R : Rules) (t : ℕ) (v v' : View) → 1 ≤ R.H → t < v.clock → Still R (boundary R.H t) v → Move R v v' → Still R (boundary R.H t) v'
unfolding Still
still_move R t v v' p lt S (released j d r) k a l e = by_eq k j (boundary R.H t ≤ ready R.H a)
    (λ q.
    let ea : v.clock ≡ a = cc r.job_new in
    boundary_least R.H t a p (omega (arith, ready_up R.H a p)))
    (λ n. S k a l (sym (r.jobs_same k n) ∙ e))
still_move R t v v' p lt S (ticked (slotted r)) k a l e = S k a l (sym (r.jobs_same k) ∙ e)
still_move R t v v' p lt S (ticked (tailed r)) k a l e = S k a l (sym (r.jobs_same k) ∙ e)
still_move R t v v' p lt S (ticked (ran j b m r)) k a l e = by_eq k j (boundary R.H t ≤ ready R.H a)
    (λ q.
    let w = worked_same b m a l (cc r.job_new) in
    rw w.0 at (S j b (suc m) r.was))
    (λ n. S k a l (sym (r.jobs_same k n) ∙ e))

-- No move sets the clock back.
move_clock : (R : Rules) (v v' : View) → Move R v v' → v.clock ≤ v'.clock
move_clock R v v' (released j d r) = omega (arith, r.clock_same)
move_clock R v v' (ticked (slotted r)) = omega (arith, r.clock_next)
move_clock R v v' (ticked (tailed r)) = omega (arith, r.clock_next)
move_clock R v v' (ticked (ran j b m r)) = omega (arith, r.clock_next)

-- Every view after a still one is still.
still_after : (R : Rules) (t : ℕ) (v u : View) → 1 ≤ R.H → t < v.clock → Still R (boundary R.H t) v → After R v u
    → (t < u.clock) × Still R (boundary R.H t) u
still_after R t v u p lt S here = (lt, S)
still_after R t v u p lt S (next {u = x} q m) =
    let I = still_after R t v x p lt S q in
    (omega (arith, I.0, move_clock R x u m), still_move R t x u p I.0 I.1 m)

-- The s ticks from a boundary on are slot ticks.
in_slot : (h s c t : ℕ) → s < h → c * h ≤ t → t < c * h + s → s ≤ t % h → ⊥
in_slot h s c t p q l n =
    let d : ℕ = t - c * h in
    let e : t ≡ c * h + d = omega arith in
    omega (arith, ap (λ (x : ℕ). x % h) e, mul-add-mod_self_right c h d, mod-eq_of_lt {n = d} {m = h} (omega arith))

-- NO RUN COMES AFTER A TAIL TICK before the next boundary and the slot that starts there are over.
pub tail_still : (R : Rules) (v v' u u' : View) (j a l : ℕ) → Sound R → Tailed R v v' → After R v' u → Ran R j a l u u'
    → boundary R.H v.clock + R.S ≤ u.clock
unfolding Still Idle boundary
tail_still R v v' u u' j a l ok t q r =
    let h1 : 1 ≤ R.H = omega (arith, ok.room) in
    let S0 : Still R (boundary R.H v.clock) v' = λ k b m e. boundary_least R.H v.clock b h1 (t.idle k b m (sym (t.jobs_same k) ∙ e)) in
    let I = still_after R v.clock v' u h1 (omega (arith, t.clock_next)) S0 q in
    let b : boundary R.H v.clock ≤ u.clock = omega (arith, I.1 j a (suc l) r.was, r.may) in
    by_lt u.clock (boundary R.H v.clock + R.S) (boundary R.H v.clock + R.S ≤ u.clock)
    (λ early. absurd (in_slot R.H R.S (suc (v.clock / R.H)) u.clock ok.room b early r.no_slot))
    (λ h. h)
