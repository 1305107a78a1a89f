-- This file defines what a start hands back (RULES 5).
use Rattle.std.specs.Prelude.{ℕ, ◌≡◌, List, cond, replicate, Result, Ok, Err}
use Rattle.table.specs.declared.Refusal.{Refusal}
use Rattle.table.specs.declared.Refusal.TheVariants.{LongWaking}
use Rattle.table.specs.Bytes.{no_record, record_at}
use Rattle.table.specs.Sound.{places, read_of}
use Rattle.scheduler.specs.declared.State.{State}
use Rattle.scheduler.specs.declared.Handed.{Handed}
use Rattle.decisions.specs.Fits.{no_entry, waking_fits}
use Rattle.scheduler.specs.States.{entries_of}

-- WHAT A START IS GIVEN: it is the bytes of a table, and the waking length V.
pub record Given : Type 0 where
  pub table : List ℕ
  pub waking : ℕ

-- `beyond_table` goes on from the reading of the table: a table's own refusal stands, and a sound table gets 14 where V
-- is above S.
abbrev pub beyond_table : Given → Result ℕ Refusal → Result ℕ Refusal
beyond_table g (Ok n) = cond (waking_fits g.waking (record_at g.table 0)) (Ok n) (Err LongWaking)
beyond_table g (Err refusal) = Err refusal

-- `read_given` is the reading of all that a start is given.
unfoldable pub read_given : Given → Result ℕ Refusal
read_given g = beyond_table g (read_of g.table)

-- A fresh state holds the table, V, clock 0, and every task resting with the mark "never".
abbrev pub fresh_state : Given → ℕ → State
fresh_state g n = record { sleep = record_at g.table 0; n = n; clock = 0; waking = g.waking; entries = entries_of g.table n }

-- `no_state` has no tasks, clock 0, a waking length of 0, a sleep record of zeros and only spare places.
abbrev pub no_state : State
no_state = record { sleep = no_record; n = 0; clock = 0; waking = 0; entries = replicate places no_entry }

-- `started_from` is what that reading makes of the start.
abbrev pub started_from : Given → Result ℕ Refusal → Handed (Unit {0})
started_from g (Ok n) = record { answer = Ok tt; state = fresh_state g n }
started_from g (Err refusal) = record { answer = Err refusal; state = no_state }

-- A START is defined on anything that it is given.
abbrev pub start_of : Given → Handed (Unit {0})
start_of g = started_from g (read_given g)

-- A start is accepted.
abbrev pub IsStarted : Given → Type 0
IsStarted g = (start_of g).answer ≡ Ok tt
