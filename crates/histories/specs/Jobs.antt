-- The job of an accepted release stands, after further calls, among the finishes, or it is its task's job now. A task
-- is released at most once a tick, so its place and the release tick name the job.
use Rattle.std.specs.Prelude.{ℕ, ◌≤◌, ◌<◌, ◌≡◌, List}
use Rattle.base.specs.List.{In}
use Rattle.decisions.specs.declared.Job.TheVariants.{Working}
use Rattle.scheduler.specs.declared.State.{State}
use Rattle.scheduler.specs.States.{entry_in}
use Rattle.histories.specs.History.{Taken, Finish, Past}

-- `finish_at` is the finish, at clock t, of the very job of an accepted release.
abbrev pub finish_at : Taken → ℕ → Finish
finish_at j t = record { place = j.place; release = j.at; at = t }

-- The job's finish stands in a list, after the clock `since` and not after the clock `till`.
pub record Finished (till : ℕ) (finishes : List Finish) (since : ℕ) (j : Taken) : Type 0 where
  pub at : ℕ
  pub later : since < at
  pub in_time : at ≤ till
  pub noted : In (finish_at j at) finishes

-- `Standing` says that the job has finished after the clock `since`, or that it is its task's job now.
pub data Standing (s : State) (finishes : List Finish) (since : ℕ) (j : Taken) : Type 0 where
  done : Finished s.clock finishes since j → Standing s finishes since j
  going : (left : ℕ) → since ≤ s.clock → (entry_in s j.place).job ≡ Working j.at left → Standing s finishes since j

-- A job is followed where its standing holds from its release on.
abbrev pub Followed : Past → Taken → Type 0
Followed p j = Standing p.state p.finishes j.at j

-- The job of the task at place i released at tick a is one of a list of accepted releases.
abbrev pub WasReleased : List Taken → ℕ → ℕ → Type 0
WasReleased taken i a = (demand : ℕ) × In (record { place = i; at = a; demand = demand }) taken

-- After calls none of which was refused, at clock t, the finishes hold that of a job of the task at place i, released
-- at a, at that very clock.
pub record FinishesAt (p : Past) (i a t : ℕ) : Type 0 where
  pub none_refused : p.refusals ≡ 0
  pub clock_is : p.state.clock ≡ t
  pub noted : In (record { place = i; release = a; at = t }) p.finishes
