-- A task is not in the way of its own release under the worst pattern when its figure is within its period, or when its
-- second release is not yet due.
use Prim.Native.Nat.{ℕ, zero, suc, ◌+◌, ◌*◌, ◌≤◌, ◌<◌}
use mathlib.Core.Path.{◌≡◌, ap, ◌∙◌}
use mathlib.Core.Logic.{◌≢◌}
use native.Mathlib.Omega.{arith}
use native.Mathlib.Nat.{mul-le-mul_right}
use Rattle.theory.specs.Rules.{Rules}
use Rattle.theory.proofs.System.{View, Sound, Allowed, resting, at}
use Rattle.theory.proofs.Worst.{Offsets, Due, Pattern, pattern_reach, Count, follows, none, some}
use Rattle.theory.proofs.Figures.{Windowed, due_first, due_free}

-- At t task j cannot be in the way of its release: its figure is within its period, or its second release is not yet
-- due.
pub data Free (R : Rules) (o : ℕ → ℕ) (j t : ℕ) : Type 0 where
  windowed : (w : ℕ) → Windowed R j w → w + R.wait j ≤ R.T j → Free R o j t
  one_job : t < o j + R.T j → Free R o j t

-- The offset is the only due tick before the second job.
alone : (o t n p c : ℕ) → c < o + t → c ≡ o + n * t → o ≤ p → p ≤ c → p ≡ c
alone o t zero p c lt e h k = omega arith
alone o t (suc n) p c lt e h k = omega arith

-- A task that is free at the clock has its due release accepted.
pub free_due : (R : Rules) (o : ℕ → ℕ) (i j : ℕ) (v : View) → Sound R → Offsets R o → Pattern R o i v → j ≤ i → Free R o j v.clock
    → Due R o j v.clock → v.last j ≢ at v.clock → (v.job j ≡ resting) × Allowed (R.T j) (v.last j) v.clock
unfolding Due
free_due R o i j v ok O P le (windowed w W short) due fresh = due_free R o i j w v ok O P le W short due fresh
free_due R o i j v ok O P le (one_job lt) due fresh = go ((follows R o i v ok O P).counts j le)
  where
    go : Count R o v j ((follows R o i v ok O P).m j) → (v.job j ≡ resting) × Allowed (R.T j) (v.last j) v.clock
    go (none e z l) = due_first R v j (pattern_reach R o i v P) e
    go (some p e pl m1 q l) =
        let p0 : o j ≤ p = omega (arith, mul-le-mul_right (R.T j) m1) in
        absurd (fresh (e ∙ ap at (alone (o j) (R.T j) due.0 p v.clock lt due.1 p0 pl)))
