-- RULES 15 stands here: the cases marked (P), A to I, as one table, and one statement that covers it. Both sides are
-- computed by the definitions that the contracts cite.
use Rattle.std.specs.Prelude.{ℕ, ◌+◌, ◌/◌, ◌%◌, ◌≡◌, refl, List, [], ◌∷◌, ◌++◌, get_or, Result, Ok, Err}
use Rattle.base.specs.First.{first_from}
use Rattle.base.specs.List.{list_from}
use Rattle.base.specs.Sum.{sum_to}
use Rattle.theory.specs.Round.{ceil}
use Rattle.theory.specs.Rules.{ready, demand}
use Rattle.theory.specs.Rounds.{rounds, outcome}
use Rattle.table.specs.declared.Refusal.{Refusal}
use Rattle.table.specs.declared.Refusal.TheVariants.{NoWindow}
use Rattle.table.specs.Bytes.{word_at, record_at}
use Rattle.table.specs.Sound.{places, ask_records, ask_order, ask_sleep, read_of}
use Rattle.table.specs.Times.{waiting}
use Rattle.admission.specs.declared.Row.{Row as Found}
use Rattle.admission.specs.Verdicts.{row, verdict, walk_from, admit_of}

infixl 80 ◌per◌
-- A `Row` is a record by its work and period.
pub data Row : Type 0 where
  ◌per◌ : ℕ → ℕ → Row

-- `word` is a 32-bit number as bytes, little-endian.
abbrev word : ℕ → List ℕ
word n = n % 256 ∷ n / 256 % 256 ∷ n / 65536 % 256 ∷ n / 16777216 % 256 ∷ []

-- `bytes_of` is the bytes of a table, its records labelled upwards from a first label.
unfoldable pub bytes_of : ℕ → List Row → List ℕ
bytes_of label [] = []
bytes_of label (c per t ∷ rest) = word label ++ word c ++ word t ++ word 0 ++ bytes_of (label + 1) rest

-- `padded` is the rows by task of windows, figures and rounds, with zeros in the places that nothing fills.
abbrev padded : List ℕ → List ℕ → List ℕ → List Found
padded windows figures rounds = list_from (λ i. row (get_or windows i 0) (get_or figures i 0) (get_or rounds i 0)) places

-- A case is a set (its first label, its records, the sleep record first) with the answer it gets and the windows,
-- figures and rounds by task; or it is a release with the tick from which its job may run.
pub data Case : Type 0 where
  set : ℕ → List Row → Result ℕ Refusal → List ℕ → List ℕ → List ℕ → Case
  release : (H at from : ℕ) → Case

-- `Holds` says that the case holds.
abbrev pub Holds : Case → Type 0
Holds (set label rows answer windows figures rounds) =
    admit_of (bytes_of label rows) ≡ verdict answer (padded windows figures rounds)
Holds (release H at from) = ready H at ≡ from

-- `Every` says that every case of a list holds.
abbrev pub Every : List Case → Type 0
Every [] = Unit {0}
Every (c ∷ rest) = Holds c × Every rest

-- These are the cases A to I.
unfoldable pub cases : List Case
cases =
    -- A: the house table
    set 10 (8 per 20 ∷ 2 per 20 ∷ 3 per 50 ∷ 2 per 100 ∷ 4 per 200 ∷ []) (Ok 4)
    (10 ∷ 13 ∷ 15 ∷ 19 ∷ []) (10 ∷ 32 ∷ 34 ∷ 38 ∷ []) (1 ∷ 2 ∷ 2 ∷ 2 ∷ [])
    -- B: last work 5
    ∷ set 0 (8 per 20 ∷ 2 per 20 ∷ 3 per 50 ∷ 2 per 100 ∷ 5 per 200 ∷ []) (Ok 4)
    (10 ∷ 13 ∷ 15 ∷ 20 ∷ []) (10 ∷ 32 ∷ 34 ∷ 39 ∷ []) (1 ∷ 2 ∷ 2 ∷ 2 ∷ [])
    -- C: last work 6
    ∷ set 0 (8 per 20 ∷ 2 per 20 ∷ 3 per 50 ∷ 2 per 100 ∷ 6 per 200 ∷ []) (Ok 4)
    (10 ∷ 13 ∷ 15 ∷ 31 ∷ []) (10 ∷ 32 ∷ 34 ∷ 50 ∷ []) (1 ∷ 2 ∷ 2 ∷ 3 ∷ [])
    -- D: the source's Table I
    ∷ set 0 (1 per 5 ∷ 3 per 10 ∷ 1 per 15 ∷ 1 per 40 ∷ 1 per 300 ∷ 1 per 500 ∷ []) (Ok 5)
    (4 ∷ 5 ∷ 7 ∷ 8 ∷ 9 ∷ []) (4 ∷ 9 ∷ 11 ∷ 12 ∷ 13 ∷ []) (1 ∷ 2 ∷ 3 ∷ 3 ∷ 3 ∷ [])
    -- E: the source's Figure 1
    ∷ set 0 (5 per 10 ∷ 1 per 10 ∷ 1 per 15 ∷ 2 per 26 ∷ []) (Err (NoWindow 2 1)) (6 ∷ []) (6 ∷ []) (1 ∷ [])
    -- F: the source's Figure 3
    ∷ set 0 (7 per 10 ∷ 1 per 10 ∷ 1 per 15 ∷ 2 per 26 ∷ []) (Err (NoWindow 2 0)) (8 ∷ []) (8 ∷ []) (1 ∷ [])
    -- G: three sets of a single task
    ∷ set 0 (1 per 2 ∷ 1 per 2 ∷ []) (Ok 1) (2 ∷ []) (2 ∷ []) (1 ∷ [])
    ∷ set 0 (1 per 2 ∷ 2 per 4 ∷ []) (Ok 1) (4 ∷ []) (4 ∷ []) (2 ∷ [])
    ∷ set 0 (1 per 2 ∷ 3 per 4 ∷ []) (Err (NoWindow 1 1)) [] [] []
    -- H: 1 in 4 and 1 in 6, then 5 for 6
    ∷ set 0 (1 per 4 ∷ 1 per 4 ∷ 1 per 6 ∷ []) (Ok 2) (2 ∷ 3 ∷ []) (2 ∷ 6 ∷ []) (1 ∷ 2 ∷ [])
    ∷ set 0 (1 per 4 ∷ 1 per 4 ∷ 1 per 5 ∷ []) (Err (NoWindow 2 1)) (2 ∷ []) (2 ∷ []) (1 ∷ [])
    -- I: H = 20
    ∷ release 20 20 20
    ∷ release 20 21 40
    ∷ []

-- THE CASES HOLD.
pub cases_hold : Every cases
unfolding cases list_from bytes_of word_at record_at first_from ask_records ask_order ask_sleep read_of ceil sum_to demand rounds outcome waiting walk_from ready
cases_hold = (refl, (refl, (refl, (refl, (refl, (refl, (refl, (refl, (refl, (refl, (refl, (refl, (refl, tt)))))))))))))
