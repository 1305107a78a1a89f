-- A listing has a line for at most 16 tasks, and a line has at most 77 bytes: so it fits its page.
use Rattle.std.specs.Prelude.{Result, Ok, Err}
use Prim.Native.Nat.{ℕ, zero, suc, ◌+◌, ◌-◌, ◌*◌, ◌/◌, ◌%◌, ◌≤◌, ◌<◌}
use mathlib.Core.Path.{◌≡◌, refl}
use mathlib.Core.List.{List, [], ◌∷◌, ◌++◌}
use mathlib.Core.Bool.{Bool, true, false, cond}
use native.Mathlib.Omega.{arith}
use lib.Dec.{ltb}
use lib.ListN.{length, get_or, take, length-append}
use Rattle.std.proofs.lemmas.List.{get_or-take, length-take, length-take-le}
use Rattle.table.specs.declared.Refusal.{Refusal}
use Rattle.table.specs.declared.Record.{Record}
use Rattle.table.specs.Bytes.{record_at}
use Rattle.table.specs.Refusals.{told_of, search_gives}
use Rattle.table.specs.Sound.{places, read_of}
use Rattle.table.specs.Set.{rules_of}
use Rattle.table.proofs.SetLaws.{read_set}
use Rattle.table.proofs.SoundLaws.{reading_has}
use Rattle.admission.specs.declared.Row.{Row}
use Rattle.admission.specs.declared.Verdict.{Verdict}
use Rattle.admission.specs.Says.{Judged, admitted, refused}
use Rattle.admission.specs.Verdicts.{no_row, admit_of}
use Rattle.admission.proofs.AdmitLaws.{admit_says}
use Rattle.texts.specs.Pages.{room, blank, shown}
use Rattle.texts.specs.Listing.{digits, field_of, header, line_of, lines_of, rows_shown, last_of, listing_of}
use Rattle.texts.proofs.PageLaws.{blank_whole, shown_says}

-- At most 16 tasks have a line.
pub rows_few : (bytes : List ℕ) → rows_shown (admit_of bytes).answer ≤ places
rows_few bytes = go (read_of bytes) refl
  where
    go : (r : Result ℕ Refusal) → read_of bytes ≡ r → rows_shown (admit_of bytes).answer ≤ places
    go (Ok n) e = by_verdict (admit_says bytes n e)
      where
        few : n ≤ places
        few = (read_set bytes n e).few

        by_verdict : Judged (rules_of bytes) n (admit_of bytes) → rows_shown (admit_of bytes).answer ≤ places
        by_verdict (admitted a A) = rw a few
        by_verdict (refused f k l a P A) = let p : f + 1 - 1 ≤ places = omega (arith, few) in rw a p
    go (Err refusal) e =
        let none : search_gives refusal ≡ false = reading_has (λ r. search_gives r ≡ false) refl (λ k. refl) (λ k. refl) refl bytes refusal e in
        rw (e, none) (omega arith)

-- The first n of so many rows or more are n rows.
pub rows_taken : (n : ℕ) (rows : List Row) → n ≤ length rows → length (take n rows) ≡ n
rows_taken = length-take-le

-- Each of the first n rows is the row that stands there.
pub row_taken : (n : ℕ) (rows : List Row) (i : ℕ) (d : Row) → i < length (take n rows) → get_or (take n rows) i d ≡ get_or rows i d
row_taken n rows i d l = get_or-take n rows i d (omega (arith, length-take n rows))

-- No number has more digits than the f that are asked for, which are ten for a decimal.
decimal_short : (f n : ℕ) → length (digits f n) ≤ f
unfolding digits
decimal_short zero n = omega arith
decimal_short (suc f) n = go (ltb n 10) (decimal_short f (n / 10))
  where
    go : (b : Bool) → length (digits f (n / 10)) ≤ f → length (cond b ((48 + n) ∷ []) (digits f (n / 10) ++ (48 + n % 10) ∷ [])) ≤ suc f
    go true h = omega arith
    go false h = simp length-append (omega arith)

-- No field has more than eleven bytes.
field_short : (n : ℕ) → length (field_of n) ≤ 11
unfolding field_of
field_short n = simp length-append (omega (arith, decimal_short 10 n))

-- No line has more than 77 bytes.
line_short : (i : ℕ) (task : Record) (row : Row) → length (line_of i task row) ≤ 77
unfolding line_of
line_short i task row = simp length-append (omega (
  arith,
  field_short (i + 1),
  field_short task.label,
  field_short task.work,
  field_short task.period,
  field_short row.window,
  field_short row.figure,
  decimal_short 10 row.rounds,
))

-- The lines of n tasks have at most 77 * n bytes.
lines_short : (table : List ℕ) (v : Verdict) (n : ℕ) → length (lines_of table v n) ≤ 77 * n
unfolding lines_of
lines_short table v zero = omega arith
lines_short table v (suc n) =
    simp length-append (omega (
      arith,
      lines_short table v n,
      line_short n (record_at table (n + 1)) (get_or v.rows n no_row),
    ))

-- The last line has at most 30 bytes.
last_short : (a : Result ℕ Refusal) → length (last_of a) ≤ 30
last_short (Ok n) = simp length-append (omega (arith, decimal_short 10 n))
last_short (Err r) = simp length-append (omega (arith, field_short (told_of r).number, decimal_short 10 (told_of r).place))

header_length : length header ≡ 46
unfolding header
header_length = refl

-- A LISTING FITS ITS PAGE.
pub listing_fits : (table : List ℕ) → length (listing_of table) ≤ room
listing_fits table =
    simp length-append (omega (
      arith,
      header_length,
      lines_short table (admit_of table) (rows_shown (admit_of table).answer),
      rows_few table,
      last_short (admit_of table).answer,
    ))

-- THE PAGE HOLDS THE LISTING, whole, because the listing fits it.
pub page_holds : (table : List ℕ)
    → ((shown blank (listing_of table)).len ≡ length (listing_of table))
    × (take (shown blank (listing_of table)).len (shown blank (listing_of table)).text ≡ listing_of table)
page_holds table =
    let fits : 0 + length (listing_of table) ≤ room = omega (arith, listing_fits table) in
    let S = shown_says blank (listing_of table) blank_whole fits in
    (omega (arith, S.0), S.1)
