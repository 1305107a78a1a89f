-- This is the set that a table describes, as the theory's rules: task j of the theory (from 0) is task j + 1 of
-- docs/RULES.md.
use Rattle.std.specs.Prelude.{ℕ, ◌+◌, ◌-◌, ◌<◌, ◌≡◌, List, true, cond, ltb}
use Rattle.theory.specs.Rules.{Rules}
use Rattle.table.specs.declared.Record.{Record}
use Rattle.table.specs.Bytes.{records_in, record_at}
use Rattle.table.specs.Times.{release_time, waiting}

-- The rules take H and S from record 0, C and T from records 1 to n (1 beyond n, where there is no task). A job has its
-- period to finish, and a task is released at its release times.
abbrev pub rules_from : (ℕ → Record) → ℕ → Rules
rules_from set n = record {
  H = (set 0).period;
  S = (set 0).work;
  C = λ j. cond (ltb j n) (set (j + 1)).work 1;
  T = λ j. cond (ltb j n) (set (j + 1)).period 1;
  D = λ j. cond (ltb j n) (set (j + 1)).period 1;
  wait = λ j. waiting j (set 0).period;
  Ok = λ j t. (j < n) × (release_time (set 0).period j t ≡ true);
}

-- The rules of a table are those of its records: every record after the sleep record is a task's.
abbrev pub rules_of : List ℕ → Rules
rules_of bytes = rules_from (record_at bytes) (records_in bytes - 1)
