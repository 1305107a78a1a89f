-- RULES 7.2 to 7.6 are stated here as facts: which job may run at the clock, and which task runs.
use Rattle.std.specs.Prelude.{ℕ, ◌-◌, ◌≤◌, ◌<◌, ◌≡◌}
use Rattle.theory.specs.Rules.{ready}
use Rattle.decisions.specs.declared.Job.TheVariants.{Working}
use Rattle.scheduler.specs.declared.State.{State}
use Rattle.scheduler.specs.States.{entry_in}

-- The task at place i works on a job that may run: the smallest multiple of H that is at least its release has come.
pub record MayRun (s : State) (i : ℕ) : Type 0 where
  pub release : ℕ
  pub left : ℕ
  pub working : (entry_in s i).job ≡ Working release left
  pub come : ready s.sleep.period release ≤ s.clock

-- Task k is the lowest-numbered working task whose job may run.
pub record FirstToRun (s : State) (k : ℕ) : Type 0 where
  pub from_one : 1 ≤ k
  pub to_n : k ≤ s.n
  pub may_run : MayRun s (k - 1)
  pub none_before : (i : ℕ) → i < k - 1 → MayRun s i → ⊥
