-- This file gives the tick in words: the test of a job tells whether it may run, and so the search for the first of
-- them finds the lowest-numbered task whose job may.
use Prim.Native.Nat.{ℕ, ◌+◌, ◌-◌, ◌%◌, ◌≤◌, ◌<◌}
use mathlib.Core.Path.{◌≡◌, refl, ap, ◌∙◌}
use mathlib.Core.Logic.{◌↔◌}
use mathlib.Core.Bool.{true, false}
use native.Mathlib.Omega.{arith}
use borrow.Author.Tests.{leb-true, le-leb}
use Rattle.base.proofs.Split.{by_lt}
use Rattle.base.proofs.FirstLaws.{first_is}
use Rattle.decisions.specs.declared.Job.{Job}
use Rattle.decisions.specs.declared.Job.TheVariants.{Resting, Working}
use Rattle.scheduler.specs.declared.State.{State}
use Rattle.decisions.specs.declared.Tick.TheVariants.{Run, Slot, Tail}
use Rattle.scheduler.specs.States.{head_of, entry_in}
use Rattle.decisions.specs.Ticks.{may_run}
use Rattle.scheduler.specs.Steps.{first_ready, tick_of}
use Rattle.scheduler.specs.MayRun.{MayRun, FirstToRun}
use Rattle.scheduler.proofs.TickLaws.{TickIs, slots, runs, tails, tick_is}

-- The test of a job tells whether it may run.
pub may_run_test : (s : State) (i : ℕ) → (may_run (head_of s) (entry_in s i).job ≡ true) ↔ MayRun s i
may_run_test s i = (to (entry_in s i).job refl, λ M. rw M.working (le-leb _ _ M.come))
  where
    to : (job : Job) → (entry_in s i).job ≡ job → may_run (head_of s) job ≡ true → MayRun s i
    to Resting q e = let z : ◌≡◌ {A = ℕ} 0 1 = cc in absurd (let y : ⊥ = omega arith in y)
    to (Working a l) q e = record { release = a; left = l; working = q; come = leb-true _ _ e }

module _ (s : State) where
  -- No job at a place before `first_ready` may run.
  none_before_first : (i : ℕ) → i < first_ready s → MayRun s i → ⊥
  none_before_first i l M =
      let no : may_run (head_of s) (entry_in s i).job ≡ false = (first_is (λ j. may_run (head_of s) (entry_in s j).job) s.n 0).before i (omega arith) l in
      let yes : may_run (head_of s) (entry_in s i).job ≡ true = (may_run_test s i).1 M in
      let z : ◌≡◌ {A = ℕ} 0 1 = cc in omega arith

  -- The job at `first_ready` may run, where that is the place of one of the tasks.
  first_may_run : first_ready s < s.n → MayRun s (first_ready s)
  first_may_run l = (may_run_test s (first_ready s)).0 ((first_is (λ j. may_run (head_of s) (entry_in s j).job) s.n 0).holds (omega arith))

  -- SLOT: a tick is a slot tick exactly where t mod H is below S.
  pub slot_exactly : (tick_of s ≡ Slot) ↔ (s.clock % s.sleep.period < s.sleep.work)
  slot_exactly = (to (tick_is s), from (tick_is s))
    where
      to : TickIs s → tick_of s ≡ Slot → s.clock % s.sleep.period < s.sleep.work
      to (slots a e) q = a
      to (runs a b e) q = let z : ◌≡◌ {A = ℕ} 0 1 = cc in absurd (let y : ⊥ = omega arith in y)
      to (tails a b e) q = let z : ◌≡◌ {A = ℕ} 0 1 = cc in absurd (let y : ⊥ = omega arith in y)

      from : TickIs s → s.clock % s.sleep.period < s.sleep.work → tick_of s ≡ Slot
      from (slots a e) l = e
      from (runs a b e) l = absurd (let y : ⊥ = omega arith in y)
      from (tails a b e) l = absurd (let y : ⊥ = omega arith in y)

  -- RUN: a tick runs task k exactly where t mod H is not below S and k is the first task to run.
  pub run_exactly : (k : ℕ) → (tick_of s ≡ Run k) ↔ ((s.sleep.work ≤ s.clock % s.sleep.period) × FirstToRun s k)
  run_exactly k = (to (tick_is s), from (tick_is s))
    where
      to : TickIs s → tick_of s ≡ Run k → (s.sleep.work ≤ s.clock % s.sleep.period) × FirstToRun s k
      to (slots a e) q = let z : ◌≡◌ {A = ℕ} 0 1 = cc in absurd (let y : ⊥ = omega arith in y)
      to (tails a b e) q = let z : ◌≡◌ {A = ℕ} 0 1 = cc in absurd (let y : ⊥ = omega arith in y)
      to (runs a b e) q =
          let same : k ≡ first_ready s + 1 = cc in
          let place : k - 1 ≡ first_ready s = omega arith in (
            a,
            record {
              from_one = omega arith;
              to_n = omega arith;
              may_run = rw place (first_may_run b);
              none_before = λ i l. none_before_first i (rw place at l);
            },
          )

      from : TickIs s → (s.sleep.work ≤ s.clock % s.sleep.period) × FirstToRun s k → tick_of s ≡ Run k
      from (slots a e) f = absurd (let y : ⊥ = omega (arith, f.0) in y)
      from (tails a b e) f = absurd (none_before_first (k - 1) (omega (arith, f.1.from_one, f.1.to_n)) f.1.may_run)
      from (runs a b e) f = by_lt (k - 1) (first_ready s) (tick_of s ≡ Run k)
          (λ l. absurd (none_before_first (k - 1) l f.1.may_run))
          (λ g. by_lt (first_ready s) (k - 1) (tick_of s ≡ Run k)
          (λ l. absurd (f.1.none_before (first_ready s) l (first_may_run b)))
          (λ m. let same : first_ready s + 1 ≡ k = omega (arith, f.1.from_one) in e ∙ ap Run same))

  -- TAIL: a tick is a tail tick exactly where t mod H is not below S and no task's job may run.
  pub tail_exactly : (tick_of s ≡ Tail) ↔ ((s.sleep.work ≤ s.clock % s.sleep.period) × ((i : ℕ) → i < s.n → MayRun s i → ⊥))
  tail_exactly = (to (tick_is s), from (tick_is s))
    where
      to : TickIs s → tick_of s ≡ Tail → (s.sleep.work ≤ s.clock % s.sleep.period) × ((i : ℕ) → i < s.n → MayRun s i → ⊥)
      to (slots a e) q = let z : ◌≡◌ {A = ℕ} 0 1 = cc in absurd (let y : ⊥ = omega arith in y)
      to (runs a b e) q = let z : ◌≡◌ {A = ℕ} 0 1 = cc in absurd (let y : ⊥ = omega arith in y)
      to (tails a b e) q = (a, λ i l. none_before_first i (omega arith))

      from : TickIs s → (s.sleep.work ≤ s.clock % s.sleep.period) × ((i : ℕ) → i < s.n → MayRun s i → ⊥) → tick_of s ≡ Tail
      from (slots a e) f = absurd (let y : ⊥ = omega (arith, f.0) in y)
      from (runs a b e) f = absurd (f.1 (first_ready s) b (first_may_run b))
      from (tails a b e) f = e
