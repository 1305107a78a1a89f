-- RULES 2, "The table", and refusals 1 to 4 of RULES 3 stand here: the rules of a set, given by its records by number
-- (record 0 is the sleep record), and the first refusal that applies. The rules speak of records by number, not of
-- bytes, so that a state that holds its records elsewhere is held to the same ones.
use Rattle.std.specs.Prelude.{ℕ, ◌+◌, ◌-◌, ◌%◌, List, Bool, cond, not, ◌&&◌, leb, ltb, eqb, length, Result, Ok, Err}
use Rattle.base.specs.First.{first_from}
use Rattle.table.specs.declared.Refusal.{Refusal}
use Rattle.table.specs.declared.Record.{Record}
use Rattle.table.specs.declared.Refusal.TheVariants.{Length, Broken, Falling, Sleep}
use Rattle.table.specs.Bytes.{records_in, record_at}

-- `largest` is the largest period.
abbrev pub largest : ℕ
largest = 60000

-- `places` is how many places there are for tasks.
abbrev pub places : ℕ
places = 16

-- A record fits where 1 ≤ C ≤ T ≤ 60,000 and the reserved field is 0.
abbrev pub record_fits : Record → Bool
record_fits r = leb 1 r.work && leb r.work r.period && leb r.period largest && eqb r.reserved 0

-- The sleep record fits where 1 ≤ S < H (one that keeps its own rule has S at least 1) and the period of task 1 is a
-- multiple of H.
abbrev pub sleep_fits : Record → Record → Bool
sleep_fits sleep first = ltb sleep.work sleep.period && eqb (first.period % sleep.period) 0

-- Record k is broken where it breaks the C, T or reserved rule.
abbrev pub broken : (ℕ → Record) → ℕ → Bool
broken set k = not (record_fits (set k))

-- Record k, a task's, is falling where its period is below that of the task before.
abbrev pub falling : (ℕ → Record) → ℕ → Bool
falling set k = ltb (set k).period (set (k - 1)).period

-- `first_broken` is the first of `count` records that breaks its rule, and the count itself where none does.
abbrev pub first_broken : (ℕ → Record) → ℕ → ℕ
first_broken set count = first_from (broken set) count 0

-- `first_falling` is the first record whose period falls: record 2 is the first that has a task before it.
abbrev pub first_falling : (ℕ → Record) → ℕ → ℕ
first_falling set count = first_from (falling set) (count - 2) 2

-- `ask_sleep` tests number 4.
unfoldable pub ask_sleep : (ℕ → Record) → ℕ → Result ℕ Refusal
ask_sleep set count = cond (sleep_fits (set 0) (set 1)) (Ok (count - 1)) (Err Sleep)

-- `ask_order` tests number 3, then 4.
unfoldable pub ask_order : (ℕ → Record) → ℕ → Result ℕ Refusal
ask_order set count = cond (ltb (first_falling set count) count) (Err (Falling (first_falling set count))) (ask_sleep set count)

-- `ask_records` is the reading of `count` records: it tests number 2 over all records, then 3 and 4.
unfoldable pub ask_records : (ℕ → Record) → ℕ → Result ℕ Refusal
ask_records set count = cond (ltb (first_broken set count) count) (Err (Broken (first_broken set count))) (ask_order set count)

-- A length fits where it is a multiple of 16 and gives 2 to 17 records.
abbrev pub length_fits : List ℕ → Bool
length_fits bytes = eqb (length bytes % 16) 0 && leb 2 (records_in bytes) && leb (records_in bytes) (1 + places)

-- THE READING of any bytes is the number of tasks of a sound table, or the lowest of refusals 1 to 4 that applies.
unfoldable pub read_of : List ℕ → Result ℕ Refusal
read_of bytes = cond (length_fits bytes) (ask_records (record_at bytes) (records_in bytes)) (Err Length)
