-- A release (RULES 6) is defined here: refusal 6 comes before what is asked of it (decisions/specs/Asks.antt).
use Rattle.std.specs.Prelude.{ℕ, ◌-◌, cond, Result, Ok, Err, Some}
use Rattle.table.specs.declared.Refusal.{Refusal}
use Rattle.table.specs.declared.Refusal.TheVariants as refusal
use Rattle.decisions.specs.declared.Job.TheVariants.{Working}
use Rattle.decisions.specs.declared.Entry.{Entry}
use Rattle.scheduler.specs.declared.State.{State}
use Rattle.decisions.specs.Asks.{may_release}
use Rattle.scheduler.specs.declared.Handed.{Handed}
use Rattle.scheduler.specs.States.{head_of, entry_in, with_entry, state_fits}

-- `release_answer` is the answer to a release: refusal 6 comes first, then 7 to 12.
unfoldable pub release_answer : State → ℕ → ℕ → Result (Unit {0}) Refusal
release_answer s task demand = cond (state_fits s) (may_release (head_of s) (entry_in s (task - 1)) task demand) (Err refusal.Unfit)

-- `released_entry` is the entry at place i, at work on a job released now.
abbrev pub released_entry : State → ℕ → ℕ → Entry
released_entry s i demand = record { task = (entry_in s i).task; job = Working s.clock demand; last = Some s.clock }

-- `released_state` is the state with the task at work on a job released now.
abbrev pub released_state : State → ℕ → ℕ → State
released_state s task demand = with_entry s (task - 1) (released_entry s (task - 1) demand)

-- `released_from` is what an answer makes of the state: a refused release hands it back unchanged.
abbrev pub released_from : State → ℕ → ℕ → Result (Unit {0}) Refusal → Handed (Unit {0})
released_from s task demand (Ok tt) = record { answer = Ok tt; state = released_state s task demand }
released_from s task demand (Err r) = record { answer = Err r; state = s }

-- A RELEASE is defined for any task number with any demand, on any state.
abbrev pub release_of : State → ℕ → ℕ → Handed (Unit {0})
release_of s task demand = released_from s task demand (release_answer s task demand)
