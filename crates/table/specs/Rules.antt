-- RULES 2, "The table", stands here as facts about records: what it means that a set, or a table, is sound.
-- `read_of` tests exactly these (proofs/SoundLaws.antt).
use Rattle.std.specs.Prelude.{ℕ, ◌+◌, ◌-◌, ◌*◌, ◌%◌, ◌≤◌, ◌<◌, ◌≡◌, List, length}
use Rattle.table.specs.declared.Record.{Record}
use Rattle.table.specs.Bytes.{record_at}
use Rattle.table.specs.Sound.{largest, places}

-- A record is lawful where it keeps the rule of C, T and the reserved field.
pub record Lawful (r : Record) : Type 0 where
  pub some : 1 ≤ r.work
  pub within : r.work ≤ r.period
  pub small : r.period ≤ largest
  pub reserved_zero : r.reserved ≡ 0

-- A set of n tasks, its records by number, is sound where every record is lawful, no period is below the one before, 1
-- ≤ S < H, and the first period is a multiple of H.
pub record SoundSet (set : ℕ → Record) (n : ℕ) : Type 0 where
  pub some : 1 ≤ n
  pub lawful_at : (k : ℕ) → k ≤ n → Lawful (set k)
  pub ordered : (k : ℕ) → 2 ≤ k → k ≤ n → (set (k - 1)).period ≤ (set k).period
  pub room : (set 0).work < (set 0).period
  pub whole : (set 1).period % (set 0).period ≡ 0

-- A sound table of n tasks has 16 bytes for each of its records, and these are a sound set.
pub record SoundTable (bytes : List ℕ) (n : ℕ) : Type 0 where
  pub length_is : length bytes ≡ 16 * (n + 1)
  pub few : n ≤ places
  pub set : SoundSet (record_at bytes) n
