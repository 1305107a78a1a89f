-- The release times stand here as facts, and the wait of a job released at one: at a multiple of H there is none, and
-- no job waits as long as H.
use Prim.Native.Nat.{ℕ, zero, suc, ◌+◌, ◌-◌, ◌%◌, ◌≤◌}
use mathlib.Core.Path.{◌≡◌, refl}
use mathlib.Core.Bool.{true, not, ◌||◌}
use native.Mathlib.Omega.{arith}
use lib.Dec.{eqb}
use borrow.Author.Tests.{eqb-true, eq-eqb, ne_eqb}
use Rattle.base.proofs.Split.{by_eq}
use Rattle.theory.specs.Rules.{ready}
use Rattle.theory.proofs.ReadyLaws.{wait_most, wait_none}
use Rattle.table.specs.Times.{release_time, waiting}

-- The first task is released at multiples of H.
pub time_says : (h i t : ℕ) → release_time h i t ≡ true → i ≡ 0 → t % h ≡ 0
unfolding release_time
time_says h i t e z = eqb-true (t % h) 0 (rw (eq-eqb i 0 z) at e)

-- Nothing is asked of a release time but that the first task's is a multiple of H.
pub says_time : (h i t : ℕ) → (i ≡ 0 → t % h ≡ 0) → release_time h i t ≡ true
unfolding release_time
says_time h i t f = by_eq i 0 (not (eqb i 0) || eqb (t % h) 0 ≡ true)
    (λ z. rw (eq-eqb i 0 z, eq-eqb (t % h) 0 (f z)))
    (λ n. rw (ne_eqb i 0 n))

-- A JOB RELEASED AT A RELEASE TIME may run after its wait.
pub time_waits : (h i t : ℕ) → 1 ≤ h → release_time h i t ≡ true → ready h t ≤ t + waiting i h
unfolding waiting
time_waits h zero t p e = wait_none h t p (time_says h 0 t e refl)
time_waits h (suc i) t p e = wait_most h t p

-- No wait is longer than H - 1.
pub waiting_most : (i h : ℕ) → waiting i h ≤ h - 1
unfolding waiting
waiting_most zero h = omega arith
waiting_most (suc i) h = omega arith
