-- RULES 3.1 is stated here as facts: when each refusal applies to an admission, in the words of the column "applies
-- when". Its 1 to 4 are those of the table (table/specs/Applies.antt).
use Rattle.std.specs.Prelude.{ℕ, ◌+◌, ◌<◌, ◌≡◌, ◌⊎◌, List}
use Rattle.theory.specs.Rounds.{Overrun}
use Rattle.table.specs.declared.Refusal.{Refusal}
use Rattle.table.specs.declared.Refusal.TheVariants.{NoWindow}
use Rattle.table.specs.Rules.{SoundTable}
use Rattle.table.specs.Applies.{TableApplies}
use Rattle.table.specs.Set.{rules_of}
use Rattle.admission.specs.Figure.{limit}
use Rattle.admission.specs.Says.{HasWindow}

-- Number 5 applies: the table is sound, the task at a place is the first without a window, and so many rounds were
-- spent on it.
pub record Fails (bytes : List ℕ) (r : Refusal) : Type 0 where
  pub tasks : ℕ
  pub place : ℕ
  pub rounds : ℕ
  pub is : r ≡ NoWindow (place + 1) rounds
  pub sound : SoundTable bytes tasks
  pub a_task : place < tasks
  pub no_window : HasWindow (rules_of bytes) place → ⊥
  pub windows_before : (i : ℕ) → i < place → HasWindow (rules_of bytes) i
  pub spent : Overrun (rules_of bytes) place (limit (rules_of bytes) place) rounds

-- WHEN A REFUSAL APPLIES TO AN ADMISSION: 1 to 4 do where they apply to the table, and 5 where it is sound and some
-- task has no window.
abbrev pub AdmissionApplies : List ℕ → Refusal → Type 0
AdmissionApplies bytes r = TableApplies bytes r ⊎ Fails bytes r
