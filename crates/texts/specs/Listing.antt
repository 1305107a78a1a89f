-- This is the listing (RULES 12) as text, in ASCII codes.
use Rattle.std.specs.Prelude.{ℕ, zero, suc, ◌+◌, ◌-◌, ◌/◌, ◌%◌, List, [], ◌∷◌, ◌++◌, cond, ltb, get_or, Result, Ok, Err}
use Rattle.table.specs.declared.Refusal.{Refusal}
use Rattle.table.specs.declared.Record.{Record}
use Rattle.table.specs.Refusals.{told_of, search_gives}
use Rattle.table.specs.Bytes.{record_at}
use Rattle.admission.specs.declared.Row.{Row}
use Rattle.admission.specs.declared.Verdict.{Verdict}
use Rattle.admission.specs.Verdicts.{no_row, admit_of}

-- `digits` are the decimal digits of n, of which there are at most `most`.
unfoldable pub digits : ℕ → ℕ → List ℕ
digits zero n = []
digits (suc most) n = cond (ltb n 10) ((48 + n) ∷ []) (digits most (n / 10) ++ (48 + n % 10) ∷ [])

-- A 32-bit number in decimal has at most ten digits.
abbrev pub decimal : ℕ → List ℕ
decimal n = digits 10 n

-- A field is a number and a space.
unfoldable pub field_of : ℕ → List ℕ
field_of n = decimal n ++ 32 ∷ []

-- The header is "task label work period window response rounds" and a line end.
unfoldable pub header : List ℕ
header = 116 ∷ 97 ∷ 115 ∷ 107 ∷ 32 ∷ 108 ∷ 97 ∷ 98 ∷ 101 ∷ 108 ∷ 32 ∷ 119 ∷ 111 ∷ 114 ∷ 107 ∷ 32 ∷ 112 ∷ 101 ∷ 114 ∷ 105 ∷ 111 ∷ 100 ∷ 32 ∷ 119 ∷ 105 ∷ 110 ∷ 100 ∷ 111 ∷ 119 ∷ 32 ∷ 114 ∷ 101 ∷ 115 ∷ 112 ∷ 111 ∷ 110 ∷ 115 ∷ 101 ∷ 32 ∷ 114 ∷ 111 ∷ 117 ∷ 110 ∷ 100 ∷ 115 ∷ 10 ∷ []

-- The line of the task at place i has task number, label, C, T, window, figure and rounds.
unfoldable pub line_of : ℕ → Record → Row → List ℕ
line_of i task row =
    field_of (i + 1) ++ field_of task.label ++ field_of task.work ++ field_of task.period ++ field_of row.window ++ field_of row.figure ++ decimal row.rounds ++ 10 ∷ []

-- `lines_of` has the lines of the first so many tasks.
unfoldable pub lines_of : List ℕ → Verdict → ℕ → List ℕ
lines_of table v zero = []
lines_of table v (suc i) =
    lines_of table v i ++ line_of i (record_at table (i + 1)) (get_or v.rows i no_row)

-- The tasks that have a line are all of an admitted set, those before the one without a window, and none under another
-- refusal.
abbrev pub rows_shown : Result ℕ Refusal → ℕ
rows_shown (Ok n) = n
rows_shown (Err refusal) = cond (search_gives refusal) ((told_of refusal).place - 1) 0

-- The last line is "admitted" and n, or "refused", the number and its record or task; and a line end.
abbrev pub last_of : Result ℕ Refusal → List ℕ
last_of (Ok n) = (97 ∷ 100 ∷ 109 ∷ 105 ∷ 116 ∷ 116 ∷ 101 ∷ 100 ∷ 32 ∷ []) ++ decimal n ++ 10 ∷ []
last_of (Err refusal) = (114 ∷ 101 ∷ 102 ∷ 117 ∷ 115 ∷ 101 ∷ 100 ∷ 32 ∷ []) ++ field_of (told_of refusal).number ++ decimal (told_of refusal).place ++ 10 ∷ []

-- A listing with a verdict has the header, the lines of the tasks that have one, and the last line.
abbrev pub listed : List ℕ → Verdict → List ℕ
listed table v = header ++ lines_of table v (rows_shown v.answer) ++ last_of v.answer

-- THE LISTING of any bytes is the one with the verdict of the admission test on them.
abbrev pub listing_of : List ℕ → List ℕ
listing_of table = listed table (admit_of table)
