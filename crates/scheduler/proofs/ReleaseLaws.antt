-- This file proves what an accepted release found, that a refused one changes nothing, and what an accepted one does to
-- the state. Each test of numbers 6 to 12, passed, gives its fact.
use Rattle.std.specs.Prelude.{Result, Ok, Err, Option, Some, None}
use Prim.Native.Nat.{ℕ, ◌+◌, ◌-◌, ◌≤◌, ◌<◌}
use mathlib.Core.Path.{◌≡◌, refl, ap}
use mathlib.Core.Bool.{true, false, cond, ◌&&◌, and-eq-true_iff}
use native.Mathlib.Omega.{arith}
use lib.Dec.{leb}
use borrow.Author.Tests.{leb-true, leb-false, ltb-false, le-leb, lt-leb, le-ltb}
use Rattle.base.proofs.ChoiceLaws.{chosen, passed}
use Rattle.table.specs.declared.Refusal.{Refusal}
use Rattle.table.specs.declared.Refusal.TheVariants as refusal
use Rattle.table.specs.Times.{release_time}
use Rattle.decisions.specs.declared.Job.{Job}
use Rattle.decisions.specs.declared.Job.TheVariants.{Resting, Working}
use Rattle.scheduler.specs.declared.State.{State}
use Rattle.decisions.specs.Fits.{clock_end}
use Rattle.scheduler.specs.States.{head_of, entry_in, state_fits}
use Rattle.scheduler.specs.Lawful.{LawfulState}
use Rattle.decisions.specs.Asks.{working, early, ask_spacing, ask_time, ask_demand, ask_task, may_release}
use Rattle.scheduler.specs.Releases.{released_from, release_answer, released_entry, released_state, release_of}
use Rattle.scheduler.proofs.StateLaws.{fits_says, says_fits}
use Rattle.scheduler.proofs.PlaceLaws.{Sized, Keeps, set_place}

-- An accepted release found the rules kept, the clock not at its end, a task that there is, a demand of 1 to C, a tick
-- at which the task may be released, the task at rest, and its last release a period ago or more.
pub record FreeTask (s : State) (task demand : ℕ) : Type 0 where
  pub lawful_state : LawfulState s
  pub before_end : s.clock < clock_end
  pub from_one : 1 ≤ task
  pub to_n : task ≤ s.n
  pub some : 1 ≤ demand
  pub full : demand ≤ (entry_in s (task - 1)).task.work
  pub on_time : release_time s.sleep.period (task - 1) s.clock ≡ true
  pub resting : (entry_in s (task - 1)).job ≡ Resting
  pub spaced : (a : ℕ) → (entry_in s (task - 1)).last ≡ Some a → a + (entry_in s (task - 1)).task.period ≤ s.clock

-- The answer that a release hands back is `release_answer`.
pub release_answer_lem : (s : State) (task demand : ℕ) → (release_of s task demand).answer ≡ release_answer s task demand
release_answer_lem s task demand = go (release_answer s task demand)
  where
    go : (a : Result (Unit {0}) Refusal) → (released_from s task demand a).answer ≡ a
    go (Ok tt) = refl
    go (Err r) = refl

-- A refused answer is not the accepted one.
pub refused_not : (r : Refusal) → Err r ≡ Ok (tt {0}) → ⊥
refused_not r e = let z : ◌≡◌ {A = ℕ} 0 1 = cc in omega arith

-- A task that is not working rests.
rests : (job : Job) → working job ≡ false → job ≡ Resting
rests Resting e = refl
rests (Working a l) e = let z : ◌≡◌ {A = ℕ} 0 1 = cc in absurd (let y : ⊥ = omega arith in y)

-- A last release that is not early is a period ago or more.
not_early : (last : Option ℕ) (period clock : ℕ) → early last period clock ≡ false → (a : ℕ) → last ≡ Some a → a + period ≤ clock
not_early None period clock e a q = let z : ◌≡◌ {A = ℕ} 0 1 = cc in absurd (let y : ⊥ = omega arith in y)
not_early (Some p) period clock e a q = let pa : p ≡ a = cc in rw pa at (ltb-false clock (p + period) e)

-- AN ACCEPTED RELEASE found a free task.
pub accepted_says : (s : State) (task demand : ℕ) → release_answer s task demand ≡ Ok tt → FreeTask s task demand
unfolding release_answer may_release ask_task ask_demand
accepted_says s task demand e =
    let h = head_of s in
    let x = entry_in s (task - 1) in
    let p6 = chosen (state_fits s) (may_release h x task demand) (Err refusal.Unfit) (Ok tt) (refused_not _) e in
    let p7 = passed (leb clock_end s.clock) (Err refusal.ClockEnd) (ask_task h x task demand) (Ok tt) (refused_not _) p6.1 in
    let p8 = chosen (leb 1 task && leb task s.n) (ask_demand h x task demand) (Err refusal.NoTask) (Ok tt) (refused_not _) p7.1 in
    let p9 = chosen (leb 1 demand && leb demand x.task.work) (ask_time h x task) (Err refusal.Demand) (Ok tt) (refused_not _) p8.1 in
    let p10 = chosen (release_time s.sleep.period (task - 1) s.clock) (ask_spacing s.clock x) (Err refusal.OffBoundary) (Ok tt) (refused_not _) p9.1 in
    let p11 = passed (working x.job) (Err refusal.Working) (cond (early x.last x.task.period s.clock) (Err refusal.Early) (Ok tt)) (Ok tt) (refused_not _) p10.1 in
    let p12 = passed (early x.last x.task.period s.clock) (Err refusal.Early) (Ok tt) (Ok tt) (refused_not _) p11.1 in
    let t = (and-eq-true_iff (leb 1 task) (leb task s.n)).0 p8.0 in
    let d = (and-eq-true_iff (leb 1 demand) (leb demand x.task.work)).0 p9.0 in
    record {
      lawful_state = fits_says s p6.0;
      before_end = leb-false _ _ p7.0;
      from_one = leb-true _ _ t.0;
      to_n = leb-true _ _ t.1;
      some = leb-true _ _ d.0;
      full = leb-true _ _ d.1;
      on_time = p10.0;
      resting = rests x.job p11.0;
      spaced = not_early x.last x.task.period s.clock p12.0;
    }

-- A RELEASE THAT FINDS A FREE TASK is accepted.
pub says_accepted : (s : State) (task demand : ℕ) → FreeTask s task demand → release_answer s task demand ≡ Ok tt
unfolding release_answer may_release ask_task ask_demand
says_accepted s task demand F =
    rw (
      says_fits s F.lawful_state,
      lt-leb _ _ F.before_end,
      le-leb _ _ F.from_one,
      le-leb _ _ F.to_n,
      le-leb _ _ F.some,
      le-leb _ _ F.full,
      F.on_time,
      F.resting,
      late (entry_in s (task - 1)).last F.spaced,
    )
  where
    late : (last : Option ℕ) → ((a : ℕ) → last ≡ Some a → a + (entry_in s (task - 1)).task.period ≤ s.clock)
        → early last (entry_in s (task - 1)).task.period s.clock ≡ false
    late None f = refl
    late (Some a) f = le-ltb _ _ (f a refl)

-- A REFUSED RELEASE HANDS BACK THE VERY STATE.
pub release_refused : (s : State) (task demand : ℕ) (r : Refusal) → (release_of s task demand).answer ≡ Err r → (release_of s task demand).state ≡ s
release_refused s task demand r e = go (release_answer s task demand) refl
  where
    go : (a : Result (Unit {0}) Refusal) → release_answer s task demand ≡ a → (release_of s task demand).state ≡ s
    go (Ok tt) q =
        let f : Ok tt ≡ Err r = rw q at e in
        let z : ◌≡◌ {A = ℕ} 0 1 = cc in absurd (let y : ⊥ = omega arith in y)
    go (Err f) q = rw q

-- AN ACCEPTED RELEASE changes the task's place alone, and keeps the rules.
pub release_place : (s : State) (task demand : ℕ) → Sized s → FreeTask s task demand
    → Keeps s (released_state s task demand) (task - 1) (released_entry s (task - 1) demand)
release_place s task demand size F = record {
  place = set_place s (released_state s task demand) (task - 1) (released_entry s (task - 1) demand) size
      (omega (arith, F.from_one, F.to_n, F.lawful_state.few)) refl refl refl refl refl;
  a_task = omega (arith, F.from_one, F.to_n);
  on_time = omega arith;
  in_time = F.lawful_state.in_time;
  last_fits = λ a q.
      let same : s.clock ≡ a = cc in
      (omega arith, rw (← same) F.on_time);
  job_fits = λ a l q.
      let same : s.clock ≡ a = cc in
      let left : demand ≡ l = cc in
      (rw (← left) F.some, rw (← left) F.full, ap Some same);
}
