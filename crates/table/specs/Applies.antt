-- RULES 3.1 to 3.3 stand here as facts: when each of 1 to 4 applies to a table, in the words of the column "applies
-- when", and which of the refusals that apply is given.
use Rattle.std.specs.Prelude.{ℕ, ◌+◌, ◌-◌, ◌%◌, ◌≤◌, ◌<◌, ◌≡◌, ◌≢◌, ◌⊎◌, List, length}
use Rattle.table.specs.declared.Record.{Record}
use Rattle.table.specs.declared.Refusal.{Refusal}
use Rattle.table.specs.declared.Refusal.TheVariants.{Length, Broken, Falling, Sleep, NoWindow, Unfit, ClockEnd, NoTask, Demand, OffBoundary, Working, Early, Power, LongWaking}
use Rattle.table.specs.Bytes.{records_in, record_at}
use Rattle.table.specs.Refusals.{told_of}
use Rattle.table.specs.Sound.{places}
use Rattle.table.specs.Rules.{Lawful}

-- Where several refusals apply, the lowest number is given: this one applies, and none with a lower number does.
pub record Lowest (Applies : Refusal → Type 0) (r : Refusal) : Type 0 where
  pub applies : Applies r
  pub none_lower : (q : Refusal) → (told_of q).number < (told_of r).number → Applies q → ⊥

-- Bytes are whole records where their length is a multiple of 16 and gives 2 to 17 records.
pub record WholeRecords (bytes : List ℕ) : Type 0 where
  pub whole : length bytes % 16 ≡ 0
  pub two : 2 ≤ records_in bytes
  pub few : records_in bytes ≤ 1 + places

-- `FirstBroken` says that record k is the first of `count` that breaks the C, T or reserved rule.
pub record FirstBroken (set : ℕ → Record) (count k : ℕ) : Type 0 where
  pub one_of : k < count
  pub broken : Lawful (set k) → ⊥
  pub none_before : (j : ℕ) → j < k → Lawful (set j)

-- `FirstFalling` says that record k is the first of `count` that is a task's with a period below that of the task
-- before.
pub record FirstFalling (set : ℕ → Record) (count k : ℕ) : Type 0 where
  pub from_two : 2 ≤ k
  pub one_of : k < count
  pub falls : (set k).period < (set (k - 1)).period
  pub none_before : (j : ℕ) → 2 ≤ j → j < k → (set (j - 1)).period ≤ (set j).period

-- WHEN A REFUSAL APPLIES TO A TABLE: 1 the length is no multiple of 16, or not 2 to 17 records; 2 a record breaks the
-- C, T or reserved rule, the first such; 3 a task's period is below that of the task before, the first such; 4 S = H,
-- or task 1's period is no multiple of H. No other one does.
abbrev pub TableApplies : List ℕ → Refusal → Type 0
TableApplies bytes Length = WholeRecords bytes → ⊥
TableApplies bytes (Broken k) = FirstBroken (record_at bytes) (records_in bytes) k
TableApplies bytes (Falling k) = FirstFalling (record_at bytes) (records_in bytes) k
TableApplies bytes Sleep =
    ((record_at bytes 0).work ≡ (record_at bytes 0).period) ⊎ ((record_at bytes 1).period % (record_at bytes 0).period ≢ 0)
TableApplies bytes (NoWindow task rounds) = ⊥
TableApplies bytes Unfit = ⊥
TableApplies bytes ClockEnd = ⊥
TableApplies bytes NoTask = ⊥
TableApplies bytes Demand = ⊥
TableApplies bytes OffBoundary = ⊥
TableApplies bytes Working = ⊥
TableApplies bytes Early = ⊥
TableApplies bytes Power = ⊥
TableApplies bytes LongWaking = ⊥
