-- The two bounds say of the worst pattern that it can be followed where figures are within periods, keeps each first
-- job at work until its figure is over, and shows a task without a window late.
use Prim.Native.Nat.{ℕ, zero, suc, ◌+◌, ◌*◌, ◌≤◌, ◌<◌}
use mathlib.Core.Path.{◌≡◌, refl, ap, ◌∙◌}
use native.Mathlib.Omega.{arith}
use native.Mathlib.Nat.{lt_of_mul-lt-mul_right, mul-le-mul_right}
use mathlib.Core.Logic.{◌≢◌}
use Rattle.theory.specs.Rules.{Rules, demand}
use Rattle.theory.specs.Pattern.{offset}
use Rattle.theory.proofs.System.{Job, View, Sound, Allowed, Reach, resting, working, never, at}
use Rattle.theory.proofs.Reachable.{Fine, reach_fine}
use Rattle.theory.proofs.Response.{response}
use Rattle.theory.proofs.Worst.{Offsets, Due, Pattern, pattern_reach, Count, follows, Standing, standing, none, some, at_work, fitted}

-- A window of task i is w.
pub record Windowed (R : Rules) (i w : ℕ) : Type 0 where
  pub some : 1 ≤ w
  pub fits : demand R i w ≤ w

-- The offsets are as they should be where the first period is a multiple of H.
pub offset_good : (R : Rules) (e : ℕ) → 1 ≤ R.H → R.T 0 ≡ e * R.H → Offsets R (offset R)
unfolding offset
offset_good R e p q = record { low = low; high = high; tight = tight }
  where
    low : (j : ℕ) → 1 ≤ offset R j
    low zero = p
    low (suc j) = omega arith

    high : (j : ℕ) → offset R j ≤ R.H
    high zero = omega arith
    high (suc j) = p

    tight : (j k m : ℕ) → k * R.H < offset R j + m * R.T j → k * R.H ≤ m * R.T j
    tight zero k m h =
        let h' : k * R.H < R.H + m * (e * R.H) = rw q at h in
        let s : k < suc (m * e) = lt_of_mul-lt-mul_right R.H {m = k} {n = suc (m * e)} (omega arith) in
        let s' : k ≤ m * e = omega arith in
        rw q (omega (arith, mul-le-mul_right R.H s'))
    tight (suc j) k m h = omega arith

-- A task that was never released is free to be released.
pub due_first : (R : Rules) (v : View) (j : ℕ) → Reach R v → v.last j ≡ never → (v.job j ≡ resting) × Allowed (R.T j) (v.last j) v.clock
unfolding Fine Allowed
due_first R v j r e = (rest (v.job j) refl, rw e tt)
  where
    rest : (J : Job) → v.job j ≡ J → v.job j ≡ resting
    rest resting q = q
    rest (working a l) q =
        let f = (reach_fine R v r j a l q).last_is in
        let z : ◌≡◌ {A = ℕ} 0 1 = cc in absurd (omega arith)

-- THE PATTERN CAN BE FOLLOWED: where the figure of task j is within its period, the release that is due is accepted.
pub due_free : (R : Rules) (o : ℕ → ℕ) (i j w : ℕ) (v : View) → Sound R → Offsets R o → Pattern R o i v → j ≤ i
    → Windowed R j w → w + R.wait j ≤ R.T j → Due R o j v.clock → v.last j ≢ at v.clock
    → (v.job j ≡ resting) × Allowed (R.T j) (v.last j) v.clock
unfolding Fine Allowed Due
due_free R o i j w v ok O P le W short due fresh = go ((follows R o i v ok O P).counts j le)
  where
    r : Reach R v
    r = pattern_reach R o i v P

    go : Count R o v j ((follows R o i v ok O P).m j) → (v.job j ≡ resting) × Allowed (R.T j) (v.last j) v.clock
    go (none e z l) = due_first R v j r e
    go (some p e pl m1 q l) =
        let before : p ≢ v.clock = λ h. fresh (e ∙ ap at h) in
        let m : ℕ = (follows R o i v ok O P).m j in
        let n : m < suc due.0 = lt_of_mul-lt-mul_right (R.T j) {m = m} {n = suc due.0} (omega (arith, due.1)) in
        let n' : m ≤ due.0 = omega arith in
        let next : p + R.T j ≤ v.clock = omega (arith, due.1, mul-le-mul_right (R.T j) n') in
        (rest (v.job j) refl p e next, rw e next)
      where
        rest : (J : Job) → v.job j ≡ J → (p : ℕ) → v.last j ≡ at p → p + R.T j ≤ v.clock → v.job j ≡ resting
        rest resting h p e next = h
        rest (working a l) h p e next =
            let f = (reach_fine R v r j a l h).last_is in
            let pa : p ≡ a = cc in
            absurd (omega (arith, response R j w v a l ok W.some W.fits r h))

-- NOT BEFORE THE FIGURE: task i's first job is at work until tick H + w, where w is the least window.
pub reached_before : (R : Rules) (o : ℕ → ℕ) (i w : ℕ) (v : View) → Sound R → Offsets R o → Pattern R o i v
    → ((x : ℕ) → demand R i x ≤ x → w ≤ x) → o i < v.clock → v.clock < R.H + w
    → (l : ℕ) × (1 ≤ l) × (v.job i ≡ working (o i) l)
reached_before R o i w v ok O P least after early = go (standing R o i v ok O P after)
  where
    go : Standing R o i v → (l : ℕ) × (1 ≤ l) × (v.job i ≡ working (o i) l)
    go (at_work l p e) = (l, p, e)
    go (fitted x h d) = absurd (omega (arith, least x d))

-- A TASK WITHOUT A WINDOW IS LATE: where no window of task i ends within d ticks of its release, its first job is at
-- work then.
pub late : (R : Rules) (o : ℕ → ℕ) (i d : ℕ) (v : View) → Sound R → Offsets R o → Pattern R o i v → 1 ≤ d
    → ((x : ℕ) → R.H + x ≤ o i + d → demand R i x ≤ x → ⊥) → v.clock ≡ o i + d
    → (l : ℕ) × (1 ≤ l) × (v.job i ≡ working (o i) l)
late R o i d v ok O P d1 none_fits e = go (standing R o i v ok O P (omega arith))
  where
    go : Standing R o i v → (l : ℕ) × (1 ≤ l) × (v.job i ≡ working (o i) l)
    go (at_work l p q) = (l, p, q)
    go (fitted x h f) = absurd (none_fits x (omega arith) f)
