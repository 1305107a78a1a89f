-- This file proves of a tick, by its kinds, what it is, which task runs, and that the state after it keeps the rules. A
-- run changes the place of the task that runs, any other tick none.
use Prim.Native.Nat.{ℕ, ◌+◌, ◌-◌, ◌%◌, ◌≤◌, ◌<◌}
use mathlib.Core.Path.{◌≡◌, refl}
use mathlib.Core.Bool.{Bool, true, false, cond}
use native.Mathlib.Omega.{arith}
use lib.Dec.{leb, ltb}
use borrow.Author.Tests.{leb-false, ltb-true, ltb-false}
use Rattle.base.specs.First.{first_from}
use Rattle.base.proofs.FirstLaws.{first_is, first_same}
use Rattle.decisions.specs.declared.Job.{Job}
use Rattle.decisions.specs.declared.Job.TheVariants.{Resting, Working}
use Rattle.scheduler.specs.declared.State.{State}
use Rattle.decisions.specs.declared.Tick.TheVariants.{Run, Slot, Tail}
use Rattle.decisions.specs.Fits.{clock_end}
use Rattle.scheduler.specs.States.{head_of, entry_in, aged}
use Rattle.scheduler.specs.Lawful.{LawfulState}
use Rattle.decisions.specs.Ticks.{last_boundary, in_slot, may_run, came, next_tick, worked_job, worked_of}
use Rattle.decisions.proofs.ReadyLaws.{came_may_run}
use Rattle.scheduler.specs.Steps.{first_ready, tick_of, after_run, after_tick}
use Rattle.scheduler.proofs.PlaceLaws.{Sized, Keeps, keeps_lawful, set_place}

-- The first task of a state that may run is found by its last boundary.
pub first_ready_is : (s : State) → 1 ≤ s.sleep.period → first_from (λ i. came (last_boundary (head_of s)) (entry_in s i).job) s.n 0 ≡ first_ready s
first_ready_is s p =
    first_same (λ i. came (last_boundary (head_of s)) (entry_in s i).job) (λ i. may_run (head_of s) (entry_in s i).job) s.n 0
    (λ i g l. came_may_run (head_of s) (entry_in s i).job p)

-- So what the engines make of the next tick is the tick of the state.
pub tick_is_next : (s : State) → 1 ≤ s.sleep.period → next_tick (head_of s) (entry_in s) ≡ tick_of s
tick_is_next s p = rw (first_ready_is s p)

-- The job at `first_ready` may run, where that is a task's place, and no job before it may.
pub first_says : (s : State) → first_ready s < s.n
    → (may_run (head_of s) (entry_in s (first_ready s)).job ≡ true)
    × ((i : ℕ) → i < first_ready s → may_run (head_of s) (entry_in s i).job ≡ false)
first_says s l =
    let F = first_is (λ i. may_run (head_of s) (entry_in s i).job) s.n 0 in
    (F.holds (omega arith), λ i li. F.before i (omega arith) li)

-- One unit of work done leaves a job of the same release.
pub worked_says : (job : Job) (a l : ℕ) → worked_job job ≡ Working a l → job ≡ Working a (l + 1)
worked_says Resting a l e = let z : ◌≡◌ {A = ℕ} 0 1 = cc in absurd (let y : ⊥ = omega arith in y)
worked_says (Working b m) a l e = go (leb m 1) refl e
  where
    go : (t : Bool) → leb m 1 ≡ t → cond t Resting (Working b (m - 1)) ≡ Working a l → Working b m ≡ Working a (l + 1)
    go true q w = let z : ◌≡◌ {A = ℕ} 0 1 = cc in absurd (let y : ⊥ = omega arith in y)
    go false q w =
        let ab : b ≡ a = cc in
        let ml : m - 1 ≡ l = cc in
        let m' : m ≡ l + 1 = omega (arith, leb-false m 1 q) in
        rw (ab, m')

-- A job that goes on after one unit of work has work left.
worked_some : (job : Job) (a l : ℕ) → worked_job job ≡ Working a l → 1 ≤ l
worked_some Resting a l e = let z : ◌≡◌ {A = ℕ} 0 1 = cc in absurd (let y : ⊥ = omega arith in y)
worked_some (Working b m) a l e = go (leb m 1) refl e
  where
    go : (t : Bool) → leb m 1 ≡ t → cond t Resting (Working b (m - 1)) ≡ Working a l → 1 ≤ l
    go true q w = let z : ◌≡◌ {A = ℕ} 0 1 = cc in absurd (let y : ⊥ = omega arith in y)
    go false q w =
        let ml : m - 1 ≡ l = cc in
        omega (arith, leb-false m 1 q)

-- WHAT A TICK IS: it is a slot tick, a run of the first task that may run, or a tail tick.
pub data TickIs (s : State) : Type 0 where
  slots : s.clock % s.sleep.period < s.sleep.work → tick_of s ≡ Slot → TickIs s
  runs : s.sleep.work ≤ s.clock % s.sleep.period → first_ready s < s.n → tick_of s ≡ Run (first_ready s + 1) → TickIs s
  tails : s.sleep.work ≤ s.clock % s.sleep.period → s.n ≤ first_ready s → tick_of s ≡ Tail → TickIs s

pub tick_is : (s : State) → TickIs s
tick_is s = go (in_slot (head_of s)) refl (ltb (first_ready s) s.n) refl
  where
    go : (a : Bool) → in_slot (head_of s) ≡ a → (b : Bool) → ltb (first_ready s) s.n ≡ b → TickIs s
    go true e b q = slots (ltb-true _ _ e) (rw e)
    go false e true q = runs (ltb-false _ _ e) (ltb-true _ _ q) (rw (e, q))
    go false e false q = tails (ltb-false _ _ e) (ltb-false _ _ q) (rw (e, q))

-- A run is of one of the tasks.
pub run_is_task : (s : State) (k : ℕ) → Run k ≡ tick_of s → (1 ≤ k) × (k ≤ s.n)
run_is_task s k e = by_tick (tick_is s)
  where
    by_tick : TickIs s → (1 ≤ k) × (k ≤ s.n)
    by_tick (slots a b) = let z : ◌≡◌ {A = ℕ} 0 1 = cc in absurd (let y : ⊥ = omega arith in y)
    by_tick (runs a b c) = let same : k ≡ first_ready s + 1 = cc in omega arith
    by_tick (tails a b c) = let z : ◌≡◌ {A = ℕ} 0 1 = cc in absurd (let y : ⊥ = omega arith in y)

-- A tick that runs no task changes no place.
pub still_place : (s : State) → Sized s → LawfulState s → s.clock < clock_end → Keeps s (aged s) 0 (entry_in s 0)
still_place s size L l = record {
  place = record { sleep_same = refl; n_same = refl; waking_same = refl; here = refl; there = λ i n. refl; task_same = refl; sized = size };
  a_task = L.set.some;
  on_time = omega arith;
  in_time = omega arith;
  last_fits = λ a q. let f = (L.task 0 L.set.some).last_fits a q in (omega (arith, f.0), f.1);
  job_fits = (L.task 0 L.set.some).job_fits;
}

-- A run changes the place of the task that runs.
pub run_place : (s : State) (j : ℕ) → Sized s → LawfulState s → s.clock < clock_end → j < s.n → Keeps s (after_run s j) j (worked_of (entry_in s j))
run_place s j size L l lj = record {
  place = set_place s (after_run s j) j (worked_of (entry_in s j)) size (omega (arith, L.few)) refl refl refl refl refl;
  a_task = lj;
  on_time = omega arith;
  in_time = omega arith;
  last_fits = λ a q. let f = (L.task j lj).last_fits a q in (omega (arith, f.0), f.1);
  job_fits = λ a m q.
      let f = (L.task j lj).job_fits a (m + 1) (worked_says (entry_in s j).job a m q) in
      (worked_some (entry_in s j).job a m q, omega (arith, f.1), f.2);
}

-- THE STATE AFTER A TICK keeps the rules.
pub after_lawful : (s : State) → Sized s → LawfulState s → s.clock < clock_end → Sized (after_tick s (tick_of s)) × LawfulState (after_tick s (tick_of s))
after_lawful s size L l = go (tick_is s)
  where
    still : Sized (aged s) × LawfulState (aged s)
    still = (size, keeps_lawful s (aged s) 0 (entry_in s 0) L (still_place s size L l))

    go : TickIs s → Sized (after_tick s (tick_of s)) × LawfulState (after_tick s (tick_of s))
    go (slots a e) = rw e still
    go (tails a b e) = rw e still
    go (runs a b e) =
        let same : first_ready s + 1 - 1 ≡ first_ready s = omega arith in
        let K = run_place s (first_ready s) size L l b in
        rw (e, same) (K.place.sized, keeps_lawful s (after_run s (first_ready s)) (first_ready s) (worked_of (entry_in s (first_ready s))) L K)
