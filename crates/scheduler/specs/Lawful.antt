-- RULES 4, "State", is stated here as facts: what it means that a state keeps its rules. `state_fits` tests exactly
-- these (proofs/StateLaws.antt).
use Rattle.std.specs.Prelude.{ℕ, ◌≤◌, ◌<◌, ◌≡◌, true, Some}
use Rattle.table.specs.Sound.{places}
use Rattle.table.specs.Times.{release_time}
use Rattle.table.specs.Rules.{SoundSet}
use Rattle.decisions.specs.declared.Job.TheVariants.{Working}
use Rattle.scheduler.specs.declared.State.{State}
use Rattle.decisions.specs.Fits.{clock_end, no_entry}
use Rattle.scheduler.specs.States.{entry_in, record_in}

-- The last release and the job of the task at place i keep their rules.
pub record LawfulTask (s : State) (i : ℕ) : Type 0 where
  pub last_fits : (a : ℕ) → (entry_in s i).last ≡ Some a → (a ≤ s.clock) × (release_time s.sleep.period i a ≡ true)
  pub job_fits : (a l : ℕ) → (entry_in s i).job ≡ Working a l → (1 ≤ l) × (l ≤ (entry_in s i).task.work) × ((entry_in s i).last ≡ Some a)

-- A state keeps its rules: its records are a sound set of at most 16 tasks, as a table's are, its clock is not after
-- its end, its waking length is at most S, its tasks keep their rules, and every place after them is a spare one.
pub record LawfulState (s : State) : Type 0 where
  pub set : SoundSet (record_in s) s.n
  pub few : s.n ≤ places
  pub in_time : s.clock ≤ clock_end
  pub waking_fits : s.waking ≤ s.sleep.work
  pub task : (i : ℕ) → i < s.n → LawfulTask s i
  pub spare : (i : ℕ) → s.n ≤ i → i < places → entry_in s i ≡ no_entry
