-- What a verdict says is stated here as facts: they are the vocabulary of demand 2. `admit_of` says exactly this
-- (proofs/AdmitLaws.antt).
use Rattle.std.specs.Prelude.{ℕ, ◌+◌, ◌≤◌, ◌<◌, ◌≡◌, List, get_or, Ok, Err}
use Rattle.theory.specs.Rules.{Rules, demand}
use Rattle.theory.specs.Rounds.{Found, Overrun, Window}
use Rattle.table.specs.declared.Refusal.TheVariants.{NoWindow}
use Rattle.admission.specs.declared.Row.{Row}
use Rattle.admission.specs.declared.Verdict.{Verdict}
use Rattle.admission.specs.Verdicts.{no_row}
use Rattle.admission.specs.Figure.{limit, figure}

-- Task i has a window: a number of at least 1 and at most its limit whose demand is at most it.
abbrev pub HasWindow : Rules → ℕ → Type 0
HasWindow R i = (w : ℕ) × (1 ≤ w) × (w ≤ limit R i) × (demand R i w ≤ w)

-- A row of a verdict is right for task i: its window is the least within the limit, its figure that window's, and its
-- rounds the replacements done.
pub record RightRow (R : Rules) (i : ℕ) (r : Row) : Type 0 where
  pub window : Window R i (limit R i) r.window
  pub figure_is : r.figure ≡ figure R i r.window
  pub rounds : Found R i (limit R i) r.window r.rounds

-- The rows of the first i tasks are right, and the others zero.
pub record RightRows (R : Rules) (i : ℕ) (rows : List Row) : Type 0 where
  pub row : (j : ℕ) → j < i → RightRow R j (get_or rows j no_row)
  pub rest : (j : ℕ) → i ≤ j → get_or rows j no_row ≡ no_row

-- A verdict on n tasks says that every task has a window, or that task f is the first that has none.
pub data Judged (R : Rules) (n : ℕ) (v : Verdict) : Type 0 where
  admitted : v.answer ≡ Ok n → RightRows R n v.rows → Judged R n v
  refused : (f rounds : ℕ) → f < n → v.answer ≡ Err (NoWindow (f + 1) rounds) → Overrun R f (limit R f) rounds
      → RightRows R f v.rows → Judged R n v
