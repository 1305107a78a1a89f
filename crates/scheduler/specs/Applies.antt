-- RULES 3.1 is stated here as facts: when each refusal applies to a start, to a release, to a step and to an energy
-- reading, in the words of the column "applies when".
use Rattle.std.specs.Prelude.{ℕ, ◌+◌, ◌-◌, ◌%◌, ◌≤◌, ◌<◌, ◌≡◌, ◌≢◌, ◌⊎◌, Some}
use Rattle.table.specs.declared.Refusal.{Refusal}
use Rattle.table.specs.declared.Refusal.TheVariants as refusal
use Rattle.table.specs.Bytes.{record_at}
use Rattle.table.specs.Rules.{SoundTable}
use Rattle.table.specs.Applies.{TableApplies}
use Rattle.decisions.specs.declared.Job.TheVariants.{Resting, Working}
use Rattle.scheduler.specs.declared.State.{State}
use Rattle.decisions.specs.declared.Tally.{Tally}
use Rattle.decisions.specs.Fits.{clock_end, total}
use Rattle.scheduler.specs.States.{entry_in}
use Rattle.scheduler.specs.Lawful.{LawfulState}
use Rattle.scheduler.specs.Starts.{Given}
use Rattle.decisions.specs.declared.Powers.{Powers}
use Rattle.decisions.specs.Energies.{power_most}

-- WHEN A REFUSAL APPLIES TO A START: 14 does where V is above S; the others do as they apply to its table.
abbrev pub StartApplies : Given → Refusal → Type 0
StartApplies g r = TableApplies g.table r ⊎ ((r ≡ refusal.LongWaking) × ((record_at g.table 0).work < g.waking))

-- No refusal applies to a start where the table, of n tasks, is sound and V is at most S.
pub record Startable (g : Given) (n : ℕ) : Type 0 where
  pub sound : SoundTable g.table n
  pub waking_fits : g.waking ≤ (record_at g.table 0).work

-- WHEN A REFUSAL APPLIES TO A RELEASE: 6 does where the state breaks a rule, 7 where the clock stands at its end, 8
-- where the task number is not in 1 to n, 9 where the demand is not in 1 to C, 10 where it is task 1 off a multiple of
-- H, 11 where that task is still working, 12 where its last release is fewer than T ticks ago. No other one does.
abbrev pub ReleaseApplies : State → ℕ → ℕ → Refusal → Type 0
ReleaseApplies s task demand refusal.Length = ⊥
ReleaseApplies s task demand (refusal.Broken k) = ⊥
ReleaseApplies s task demand (refusal.Falling k) = ⊥
ReleaseApplies s task demand refusal.Sleep = ⊥
ReleaseApplies s task demand (refusal.NoWindow k rounds) = ⊥
ReleaseApplies s task demand refusal.Unfit = LawfulState s → ⊥
ReleaseApplies s task demand refusal.ClockEnd = s.clock ≡ clock_end
ReleaseApplies s task demand refusal.NoTask = (1 ≤ task) × (task ≤ s.n) → ⊥
ReleaseApplies s task demand refusal.Demand = (1 ≤ demand) × (demand ≤ (entry_in s (task - 1)).task.work) → ⊥
ReleaseApplies s task demand refusal.OffBoundary = (task ≡ 1) × (s.clock % s.sleep.period ≢ 0)
ReleaseApplies s task demand refusal.Working = (a : ℕ) × (l : ℕ) × ((entry_in s (task - 1)).job ≡ Working a l)
ReleaseApplies s task demand refusal.Early = (a : ℕ) × ((entry_in s (task - 1)).last ≡ Some a) × (s.clock < a + (entry_in s (task - 1)).task.period)
ReleaseApplies s task demand refusal.Power = ⊥
ReleaseApplies s task demand refusal.LongWaking = ⊥

-- No refusal applies to a release where the rules are kept, the clock is before its end, there is such a task, the
-- demand is 1 to C, task 1 is at a multiple of H, the task rests, and its last release is at least its period ago.
pub record Releasable (s : State) (task demand : ℕ) : Type 0 where
  pub lawful_state : LawfulState s
  pub before_end : s.clock < clock_end
  pub from_one : 1 ≤ task
  pub to_n : task ≤ s.n
  pub some : 1 ≤ demand
  pub full : demand ≤ (entry_in s (task - 1)).task.work
  pub on_boundary : task ≡ 1 → s.clock % s.sleep.period ≡ 0
  pub resting : (entry_in s (task - 1)).job ≡ Resting
  pub spaced : (a : ℕ) → (entry_in s (task - 1)).last ≡ Some a → a + (entry_in s (task - 1)).task.period ≤ s.clock

-- State and tally keep their rules: the state is lawful, and the tally's counts sum to the clock.
pub record RulesKept (s : State) (t : Tally) : Type 0 where
  pub lawful_state : LawfulState s
  pub counted : total t ≡ s.clock

-- WHEN A REFUSAL APPLIES TO A STEP: 6 does where state or tally breaks a rule, 7 at the clock's end, and no other one.
abbrev pub StepApplies : State → Tally → Refusal → Type 0
StepApplies s t refusal.Length = ⊥
StepApplies s t (refusal.Broken k) = ⊥
StepApplies s t (refusal.Falling k) = ⊥
StepApplies s t refusal.Sleep = ⊥
StepApplies s t (refusal.NoWindow k rounds) = ⊥
StepApplies s t refusal.Unfit = RulesKept s t → ⊥
StepApplies s t refusal.ClockEnd = s.clock ≡ clock_end
StepApplies s t refusal.NoTask = ⊥
StepApplies s t refusal.Demand = ⊥
StepApplies s t refusal.OffBoundary = ⊥
StepApplies s t refusal.Working = ⊥
StepApplies s t refusal.Early = ⊥
StepApplies s t refusal.Power = ⊥
StepApplies s t refusal.LongWaking = ⊥

-- WHEN A REFUSAL APPLIES TO AN ENERGY READING: 6 does where the counts sum to more than 1,000,000,000, 13 where a power
-- figure is above 1,000,000 microwatts, and no other one.
abbrev pub EnergyApplies : Tally → Powers → Refusal → Type 0
EnergyApplies t powers r =
    ((r ≡ refusal.Unfit) × (clock_end < total t))
    ⊎ ((r ≡ refusal.Power) × ((power_most < powers.run) ⊎ (power_most < powers.sleep) ⊎ (power_most < powers.waking)))
