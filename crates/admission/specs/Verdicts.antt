-- The admission test (RULES 10) is a walk over tasks and rounds, which stops at the first task without a window.
use Rattle.std.specs.Prelude.{ℕ, zero, suc, ◌+◌, List, set, replicate, Result, Ok, Err}
use Rattle.theory.specs.Rules.{Rules}
use Rattle.theory.specs.Rounds.{Outcome, found, none, outcome}
use Rattle.table.specs.declared.Refusal.{Refusal}
use Rattle.table.specs.declared.Refusal.TheVariants.{NoWindow}
use Rattle.table.specs.Sound.{places, read_of}
use Rattle.table.specs.Set.{rules_of}
use Rattle.admission.specs.declared.Row.{Row}
use Rattle.admission.specs.declared.Verdict.{Verdict}
use Rattle.admission.specs.Figure.{limit, figure}

-- A verdict is an answer with a row by task: its window, figure and rounds.
abbrev pub verdict : Result ℕ Refusal → List Row → Verdict
verdict answer rows = record { answer = answer; rows = rows }

abbrev pub row : ℕ → ℕ → ℕ → Row
row window figure rounds = record { window = window; figure = figure; rounds = rounds }

-- Rows that nothing fills are zero.
abbrev pub no_row : Row
no_row = row 0 0 0

abbrev pub no_rows : List Row
no_rows = replicate places no_row

-- A task's outcome decides the walk: it goes on with the task's row noted, or refusal 5 ends it.
abbrev pub judged : (List Row → Verdict) → Rules → ℕ → List Row → Outcome → Verdict
judged go R i rows (found w k) = go (set rows i (row w (figure R i w) k))
judged go R i rows (none k) = verdict (Err (NoWindow (i + 1) k)) rows

-- `walk_from` is the walk from task i on, with so many tasks left.
unfoldable pub walk_from : Rules → ℕ → ℕ → List Row → Verdict
walk_from R zero i rows = verdict (Ok i) rows
walk_from R (suc left) i rows = judged (walk_from R left (i + 1)) R i rows (outcome R i (limit R i))

-- `verdict_of` is what the reading of a table makes of the verdict.
abbrev pub verdict_of : List ℕ → Result ℕ Refusal → Verdict
verdict_of bytes (Ok n) = walk_from (rules_of bytes) n 0 no_rows
verdict_of bytes (Err refusal) = verdict (Err refusal) no_rows

-- THE VERDICT is defined on any bytes.
abbrev pub admit_of : List ℕ → Verdict
admit_of bytes = verdict_of bytes (read_of bytes)
