-- An accepted release is a release of the abstract scheduler, and a step that is not refused is one of its ticks.
use Rattle.std.specs.Prelude.{ℕ, zero, suc, ◌+◌, ◌-◌, ◌%◌, ◌≤◌, ◌<◌, ◌≡◌, refl, true, false, Option, Some, None}
use Rattle.std.proofs.Common.{ap, ◌∙◌, arith, add-one, leb-true, leb-false}
use Rattle.std.proofs.Math.ListN.{get_or-eq_default}
use Rattle.std.proofs.lemmas.Bool.{lt-leb}
use Rattle.base.proofs.Split.{by_lt, by_eq}
use Rattle.base.proofs.FirstLaws.{first_is}
use Rattle.theory.specs.Rules.{ready}
use Rattle.theory.proofs.System as theory
use Rattle.theory.proofs.System.{worked, Allowed, Idle, Released, Slotted, Ran, Tailed}
use Rattle.table.specs.Sound.{places}
use Rattle.table.specs.declared.Record.{Record}
use Rattle.table.specs.Set.{rules_from}
use Rattle.decisions.specs.declared.Job.{Job}
use Rattle.decisions.specs.declared.Job.TheVariants.{Resting, Working}
use Rattle.decisions.specs.declared.Entry.{Entry}
use Rattle.scheduler.specs.declared.State.{State}
use Rattle.decisions.specs.Fits.{clock_end, no_entry}
use Rattle.scheduler.specs.States.{entry_in, head_of, aged}
use Rattle.scheduler.specs.Lawful.{LawfulState}
use Rattle.scheduler.specs.Releases.{released_state, released_entry}
use Rattle.decisions.specs.Ticks.{may_run, worked_job, worked_of}
use Rattle.scheduler.specs.Steps.{first_ready, after_run}
use Rattle.decisions.specs.declared.Head.{Head}
use Rattle.scheduler.proofs.ReleaseLaws.{FreeTask, release_place}
use Rattle.scheduler.proofs.PlaceLaws.{Sized, OnePlace}
use Rattle.scheduler.proofs.TickLaws.{first_says, run_place}
use Rattle.bridge.specs.Views.{job_view, last_view, view_of, Holds, work_of, period_of}

-- A place that is no task's rests.
pub beyond_rests : (s : State) → Sized s → LawfulState s → (i : ℕ) → s.n ≤ i → entry_in s i ≡ no_entry
beyond_rests s size L i g = by_lt i places (entry_in s i ≡ no_entry)
    (λ l. L.spare i g l)
    (λ ge. get_or-eq_default s.entries no_entry {n = i} (omega (arith, size)))

-- The spacing of releases that a state keeps is the spacing that the theory asks for.
allowed : (last : Option ℕ) (period clock : ℕ) → ((a : ℕ) → last ≡ Some a → a + period ≤ clock) → Allowed period (last_view last) clock
unfolding Allowed
allowed None period clock f = tt
allowed (Some a) period clock f = f a refl

-- A RELEASE of a task that is free is a release of the abstract scheduler.
pub release_moves : (set : ℕ → Record) (n : ℕ) (s : State) (task demand : ℕ) → Holds set n s → Sized s → FreeTask s task demand
    → Released (rules_from set n) (task - 1) demand (view_of s) (view_of (released_state s task demand))
release_moves set n s task demand H size F = record {
  free = ap job_view F.resting;
  some = F.some;
  full = rw (work_of set n s H j lj) F.full;
  ok = (lj, rw (← H.sleep_is) F.on_time);
  spaced = rw (period_of set n s H j lj) (allowed (entry_in s j).last (entry_in s j).task.period s.clock F.spaced);
  clock_same = refl;
  job_new = ap {A = Entry} (λ e. job_view e.job) P.here;
  last_new = ap {A = Entry} (λ e. last_view e.last) P.here;
  jobs_same = λ k d. ap {A = Entry} (λ e. job_view e.job) (P.there k d);
  lasts_same = λ k d. ap {A = Entry} (λ e. last_view e.last) (P.there k d);
}
  where
    j : ℕ
    j = task - 1

    lj : task - 1 < n
    lj = omega (arith, F.from_one, F.to_n, H.n_is)

    P : OnePlace s (released_state s task demand) (task - 1) (released_entry s (task - 1) demand)
    P = (release_place s task demand size F).place

-- A job that may not run is idle.
idle_of : (head : Head) (job : Job) (a l : ℕ) → may_run head job ≡ false → job_view job ≡ theory.working a l → head.clock < ready head.sleep.period a
idle_of head Resting a l e q = let z : ◌≡◌ {A = ℕ} 0 1 = cc in absurd (let y : ⊥ = omega arith in y)
idle_of head (Working b m) a l e q = let ab : b ≡ a = cc in rw ab at (leb-false (ready head.sleep.period b) head.clock e)

-- A job that may run is at work, and its boundary has come.
pub record May (head : Head) (job : Job) : Type 0 where
  pub a : ℕ
  pub l : ℕ
  pub is : job ≡ Working a l
  pub by : ready head.sleep.period a ≤ head.clock

may_of : (head : Head) (job : Job) → may_run head job ≡ true → May head job
may_of head Resting e = let z : ◌≡◌ {A = ℕ} 0 1 = cc in absurd (let y : ⊥ = omega arith in y)
may_of head (Working a l) e = record { a = a; l = l; is = refl; by = leb-true (ready head.sleep.period a) head.clock e }

-- One unit of a job's work done is one unit done in its view.
worked_view : (a l : ℕ) → job_view (worked_job (Working a (suc l))) ≡ worked a l
unfolding worked
worked_view a zero = refl
worked_view a (suc l) =
    let more : 1 < suc (suc l) = omega arith in
    let less : suc (suc l) - 1 ≡ suc l = omega arith in
    rw (lt-leb (suc (suc l)) 1 more, less)

-- A TICK of a state is a tick of the abstract scheduler: a slot tick, a tail tick or a run.
pub tick_slotted : (set : ℕ → Record) (n : ℕ) (s : State) → Holds set n s → s.clock % s.sleep.period < s.sleep.work
    → Slotted (rules_from set n) (view_of s) (view_of (aged s))
tick_slotted set n s H l = record {
  slot = rw (← H.sleep_is) l;
  clock_next = add-one s.clock;
  jobs_same = λ k. refl;
  lasts_same = λ k. refl;
}

pub tick_tailed : (set : ℕ → Record) (n : ℕ) (s : State) → Holds set n s → Sized s → LawfulState s
    → s.sleep.work ≤ s.clock % s.sleep.period → s.n ≤ first_ready s
    → Tailed (rules_from set n) (view_of s) (view_of (aged s))
unfolding Idle
tick_tailed set n s H size L l none = record {
  no_slot = rw (← H.sleep_is) l;
  idle = λ k a m e. by_lt k s.n (s.clock < ready (rules_from set n).H a)
      (λ lt. rw (← H.sleep_is) (idle_of (head_of s) (entry_in s k).job a m
      ((first_is (λ i. may_run (head_of s) (entry_in s i).job) s.n 0).before k (omega arith) (omega arith)) e))
      (λ ge.
      let r : entry_in s k ≡ no_entry = beyond_rests s size L k ge in
      let q : theory.resting ≡ theory.working a m = rw r at e in
      let z : ◌≡◌ {A = ℕ} 0 1 = cc in absurd (let y : ⊥ = omega arith in y));
  clock_next = add-one s.clock;
  jobs_same = λ k. refl;
  lasts_same = λ k. refl;
}

-- The job of the first task that is ready may run.
pub runner : (s : State) → first_ready s < s.n → May (head_of s) (entry_in s (first_ready s)).job
runner s l = may_of (head_of s) (entry_in s (first_ready s)).job (first_says s l).0

pub tick_ran : (set : ℕ → Record) (n : ℕ) (s : State) (a l : ℕ) → Holds set n s → Sized s → LawfulState s → s.clock < clock_end
    → s.sleep.work ≤ s.clock % s.sleep.period → (lt : first_ready s < s.n) → (entry_in s (first_ready s)).job ≡ Working a (suc l)
    → Ran (rules_from set n) (first_ready s) a l (view_of s) (view_of (after_run s (first_ready s)))
unfolding Idle
tick_ran set n s a l H size L before off lt is = record {
  no_slot = rw (← H.sleep_is) off;
  was = ap job_view is;
  may =
      let m = runner s lt in
      let same : m.a ≡ a = cc m.is in
      rw (← H.sleep_is) (rw same at m.by);
  first = λ k lk b m e. rw (← H.sleep_is) (idle_of (head_of s) (entry_in s k).job b m ((first_says s lt).1 k lk) e);
  clock_next = add-one s.clock;
  job_new = ap {A = Entry} (λ e. job_view e.job) P.here ∙ ap (λ (j : Job). job_view (worked_job j)) is ∙ worked_view a l;
  jobs_same = λ k d. ap {A = Entry} (λ e. job_view e.job) (P.there k d);
  lasts_same = λ k. by_eq k (first_ready s) ((view_of s').last k ≡ (view_of s).last k)
      (λ q. rw q (ap {A = Entry} (λ e. last_view e.last) P.here))
      (λ d. ap {A = Entry} (λ e. last_view e.last) (P.there k d));
}
  where
    s' : State
    s' = after_run s (first_ready s)

    P : OnePlace s s' (first_ready s) (worked_of (entry_in s (first_ready s)))
    P = (run_place s (first_ready s) size L before lt).place
