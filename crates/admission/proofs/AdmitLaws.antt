-- This file proves what a verdict says. The walk fills one row after another, each with its task's least window, until
-- a task has none: so the rows of the tasks before it are right, those after it zero, and where the walk comes to its
-- end every task has a window.
use Rattle.std.specs.Prelude.{Ok, Err}
use Prim.Native.Nat.{ℕ, zero, suc, ◌+◌, ◌-◌, ◌≤◌, ◌<◌}
use mathlib.Core.Path.{◌≡◌, refl, ap, ◌∙◌}
use mathlib.Core.Logic.{◌↔◌}
use mathlib.Core.List.{List}
use native.Mathlib.Omega.{arith}
use lib.ListN.{length, get_or, set, length-set, get_or-replicate, get_or-eq_default}
use lib.Seq.{get_or-set_same, get_or-set_other}
use Rattle.base.proofs.Split.{by_lt, by_eq}
use Rattle.theory.specs.Rules.{Rules}
use Rattle.theory.specs.Rounds.{Outcome, found, none, outcome, Overrun, Says}
use Rattle.theory.proofs.System.{Sound}
use Rattle.theory.proofs.RoundsLaws.{outcome_says, found_window, overrun_none}
use Rattle.table.specs.declared.Refusal.TheVariants.{NoWindow}
use Rattle.table.specs.Bytes.{record_at, records_in}
use Rattle.table.specs.Sound.{places, read_of}
use Rattle.table.specs.Set.{rules_of}
use Rattle.table.proofs.SetLaws.{read_set, set_sound}
use Rattle.admission.specs.declared.Row.{Row}
use Rattle.admission.specs.Figure.{limit, figure}
use Rattle.admission.specs.Says.{RightRow, RightRows, Judged, admitted, refused, HasWindow}
use Rattle.admission.specs.Verdicts.{row, no_row, no_rows, judged, walk_from, admit_of}

-- At the walk's start all rows are zero.
rows_none : (R : Rules) → RightRows R 0 no_rows
rows_none R = record {
  row = λ j l. absurd (let z : ⊥ = omega arith in z);
  rest = λ j l. by_lt j places (get_or no_rows j no_row ≡ no_row) (λ l. get_or-replicate places j no_row no_row l) (λ l. get_or-eq_default no_rows no_row {n = j} l);
}

-- A right row noted at place i makes the rows of the first i + 1 tasks right.
rows_next : (R : Rules) (i : ℕ) (rows : List Row) (r : Row) → i < length rows → RightRows R i rows → RightRow R i r → RightRows R (i + 1) (set rows i r)
rows_next R i rows r l A right = record {
  row = λ j lj. by_eq j i (RightRow R j (get_or (set rows i r) j no_row))
      (λ e. rw (e, get_or-set_same rows i r no_row l) right)
      (λ n. rw (get_or-set_other rows i j r no_row n) (A.row j (omega arith)));
  rest = λ j lj. let n : j ≡ i → ⊥ = λ e. omega arith in get_or-set_other rows i j r no_row n ∙ A.rest j (omega arith);
}

-- The walk from task i on gives a right verdict where the rows of the first i tasks are right.
walk_says : (R : Rules) (left i : ℕ) (rows : List Row) → Sound R → i + left ≤ length rows → RightRows R i rows → Judged R (i + left) (walk_from R left i rows)
unfolding walk_from
walk_says R zero i rows ok l A =
    let e : i ≡ i + 0 = omega arith in
    admitted (ap Ok e) (rw (← e) A)
walk_says R (suc left) i rows ok l A =
    by_outcome (outcome R i (limit R i)) (outcome_says R i (limit R i) ok) (λ w k r.
    let e : i + 1 + left ≡ i + suc left = omega arith in
    rw e at (walk_says R left (i + 1) (set rows i (row w (figure R i w) k)) ok (simp length-set (omega arith)) (rows_next R i rows (row w (figure R i w) k) (omega arith) A r)))
  where
    by_outcome : (o : Outcome) → Says R i (limit R i) o
        → ((w k : ℕ) → RightRow R i (row w (figure R i w) k) → Judged R (i + suc left) (walk_from R left (i + 1) (set rows i (row w (figure R i w) k))))
        → Judged R (i + suc left) (judged (walk_from R left (i + 1)) R i rows o)
    by_outcome (found w k) F go = go w k (record { window = found_window R i (limit R i) w k ok F; figure_is = refl; rounds = F })
    by_outcome (none k) P go = refused i k (omega arith) refl P A

-- WHAT A VERDICT SAYS OF A SOUND TABLE: every task has a window, or the refused one is the first that has none.
pub admit_says : (bytes : List ℕ) (n : ℕ) → read_of bytes ≡ Ok n → Judged (rules_of bytes) n (admit_of bytes)
admit_says bytes n e =
    let S = read_set bytes n e in
    let few : 0 + n ≤ places = omega (arith, S.few) in
    let same : 0 + n ≡ n = omega arith in
    rw e (rw same at (walk_says (rules_of bytes) n 0 no_rows (set_sound (record_at bytes) (records_in bytes - 1) S.set) few (rows_none (rules_of bytes))))

-- A SOUND TABLE IS ADMITTED EXACTLY WHEN EVERY TASK HAS A WINDOW.
pub admitted_exactly : (bytes : List ℕ) (n : ℕ) → read_of bytes ≡ Ok n
    → ((admit_of bytes).answer ≡ Ok n) ↔ ((i : ℕ) → i < n → HasWindow (rules_of bytes) i)
admitted_exactly bytes n e = (to (admit_says bytes n e), from (admit_says bytes n e))
  where
    R : Rules
    R = rules_of bytes

    to : Judged R n (admit_of bytes) → (admit_of bytes).answer ≡ Ok n → (i : ℕ) → i < n → HasWindow R i
    to (admitted a A) h i l = let W = (A.row i l).window in ((get_or (admit_of bytes).rows i no_row).window, W.some, W.within, W.fits)
    to (refused f k l a P A) h i q = let z : ◌≡◌ {A = ℕ} 0 1 = cc in absurd (let y : ⊥ = omega arith in y)

    from : Judged R n (admit_of bytes) → ((i : ℕ) → i < n → HasWindow R i) → (admit_of bytes).answer ≡ Ok n
    from (admitted a A) h = a
    from (refused f k l a P A) h =
        let W = h f l in
        let S = read_set bytes n e in
        absurd (overrun_none R f (limit R f) k (set_sound (record_at bytes) (records_in bytes - 1) S.set) P W.0 W.2 W.3)

-- A TASK IS REFUSED EXACTLY WHEN IT IS THE FIRST WITHOUT A WINDOW.
pub refused_exactly : (bytes : List ℕ) (n f : ℕ) → read_of bytes ≡ Ok n
    → ((rounds : ℕ) × ((admit_of bytes).answer ≡ Err (NoWindow (f + 1) rounds)))
    ↔ ((f < n) × (HasWindow (rules_of bytes) f → ⊥) × ((i : ℕ) → i < f → HasWindow (rules_of bytes) i))
refused_exactly bytes n f e = (to (admit_says bytes n e), from (admit_says bytes n e))
  where
    R : Rules
    R = rules_of bytes

    ok : Sound R
    ok = set_sound (record_at bytes) (records_in bytes - 1) (read_set bytes n e).set

    row_window : (i m : ℕ) → i < m → RightRows R m (admit_of bytes).rows → HasWindow R i
    row_window i m l A = let W = (A.row i l).window in ((get_or (admit_of bytes).rows i no_row).window, W.some, W.within, W.fits)

    no_window : (g k : ℕ) → Overrun R g (limit R g) k → HasWindow R g → ⊥
    no_window g k P W = overrun_none R g (limit R g) k ok P W.0 W.2 W.3

    to : Judged R n (admit_of bytes) → ((rounds : ℕ) × ((admit_of bytes).answer ≡ Err (NoWindow (f + 1) rounds)))
        → (f < n) × (HasWindow R f → ⊥) × ((i : ℕ) → i < f → HasWindow R i)
    to (admitted a A) (k, h) = let z : ◌≡◌ {A = ℕ} 0 1 = cc in absurd (let y : ⊥ = omega arith in y)
    to (refused g k l a P A) (m, h) =
        let same : g + 1 ≡ f + 1 = cc in
        let q : g ≡ f = omega arith in
        (rw (← q) l, rw (← q) (no_window g k P), λ i li. row_window i g (omega arith) A)

    from : Judged R n (admit_of bytes) → ((f < n) × (HasWindow R f → ⊥) × ((i : ℕ) → i < f → HasWindow R i))
        → (rounds : ℕ) × ((admit_of bytes).answer ≡ Err (NoWindow (f + 1) rounds))
    from (admitted a A) (lf, none_f, below) = absurd (none_f (row_window f n lf A))
    from (refused g k l a P A) (lf, none_f, below) =
        by_lt f g ((m : ℕ) × ((admit_of bytes).answer ≡ Err (NoWindow (f + 1) m)))
        (λ lt. absurd (none_f (row_window f g lt A)))
        (λ ge. by_lt g f ((m : ℕ) × ((admit_of bytes).answer ≡ Err (NoWindow (f + 1) m)))
        (λ lt. absurd (no_window g k P (below g lt)))
        (λ le. let q : g ≡ f = omega arith in (k, rw (← q) a)))
