-- A reading is refused with the lowest of 1 to 4 that applies: each search finds the first record that breaks its rule,
-- and there is one such.
use Rattle.std.specs.Prelude.{Result, Ok, Err}
use Prim.Native.Nat.{ℕ, ◌+◌, ◌-◌, ◌%◌, ◌≤◌, ◌<◌}
use mathlib.Core.Path.{◌≡◌, refl, ap, subst}
use mathlib.Core.Logic.{◌↔◌, ◌≢◌, ◌⊎◌, inl, inr}
use mathlib.Core.List.{List}
use mathlib.Core.Bool.{Bool, true, false, cond, ◌&&◌}
use native.Mathlib.Omega.{arith}
use lib.Dec.{leb, ltb, eqb}
use lib.ListN.{length}
use borrow.Author.Tests.{leb-true, ltb-true, ltb-false, eqb-true, not-true, not-false, le-leb, lt-ltb, eq-eqb, ne_eqb}
use Rattle.base.proofs.Split.{by_lt}
use Rattle.base.proofs.ChoiceLaws.{both}
use Rattle.base.proofs.FirstLaws.{IsFirst, first_is}
use Rattle.table.specs.declared.Record.{Record}
use Rattle.table.specs.declared.Refusal.{Refusal}
use Rattle.table.specs.declared.Refusal.TheVariants.{Length, Broken, Falling, Sleep, NoWindow, Unfit, ClockEnd, NoTask, Demand, OffBoundary, Working, Early, Power, LongWaking}
use Rattle.table.specs.Bytes.{records_in, record_at}
use Rattle.table.specs.Sound.{places, sleep_fits, broken, falling, first_broken, first_falling, ask_records, ask_order, ask_sleep, length_fits, read_of}
use Rattle.table.specs.Rules.{Lawful}
use Rattle.table.specs.Applies.{Lowest, WholeRecords, FirstBroken, FirstFalling, TableApplies}
use Rattle.table.proofs.SoundLaws.{record_says, says_record}
use Rattle.table.proofs.LowestLaws.{not_both, fails, number, Chain, first, when, unless, past, one_lowest}

module _ (set : ℕ → Record) (count : ℕ) where
  -- The search of number 2 finds a record that breaks its rule, and the records that it passed keep it.
  broken_says : (k : ℕ) → broken set k ≡ true → Lawful (set k) → ⊥
  broken_says k e L = not_both _ (says_record (set k) L) (not-true _ e)

  sound_says : (k : ℕ) → broken set k ≡ false → Lawful (set k)
  sound_says k e = record_says (set k) (not-false _ e)

  search_2 : IsFirst (broken set) count 0 (first_broken set count)
  search_2 = first_is (broken set) count 0

  broken_test : (ltb (first_broken set count) count ≡ true) ↔ FirstBroken set count (first_broken set count)
  broken_test = (
    λ e.
        let l : first_broken set count < count = ltb-true _ _ e in
        record {
          one_of = l;
          broken = broken_says (first_broken set count) (search_2.holds (omega arith));
          none_before = λ j lj. sound_says j (search_2.before j (omega arith) lj);
        },
    λ F. lt-ltb _ _ F.one_of,
  )

  broken_is : (k : ℕ) → FirstBroken set count k → first_broken set count ≡ k
  broken_is k F = by_lt (first_broken set count) k (first_broken set count ≡ k)
      (λ l. absurd (broken_says (first_broken set count) (search_2.holds (omega (arith, F.one_of))) (F.none_before (first_broken set count) l)))
      (λ g. by_lt k (first_broken set count) (first_broken set count ≡ k)
      (λ l. absurd (F.broken (sound_says k (search_2.before k (omega arith) l))))
      (λ h. omega arith))

  -- The search of number 3 finds the first record whose period falls.
  search_3 : IsFirst (falling set) (count - 2) 2 (first_falling set count)
  search_3 = first_is (falling set) (count - 2) 2

  falling_test : 2 ≤ count → (ltb (first_falling set count) count ≡ true) ↔ FirstFalling set count (first_falling set count)
  falling_test two = (
    λ e.
        let l : first_falling set count < count = ltb-true _ _ e in
        record {
          from_two = search_3.from;
          one_of = l;
          falls = ltb-true _ _ (search_3.holds (omega arith));
          none_before = λ j p lj. ltb-false _ _ (search_3.before j p lj);
        },
    λ F. lt-ltb _ _ F.one_of,
  )

  falling_is : (k : ℕ) → FirstFalling set count k → first_falling set count ≡ k
  falling_is k F = by_lt (first_falling set count) k (first_falling set count ≡ k)
      (λ l.
      let falls : (set (first_falling set count)).period < (set (first_falling set count - 1)).period =
      ltb-true _ _ (search_3.holds (omega (arith, F.one_of, F.from_two))) in
      absurd (let z : ⊥ = omega (arith, F.none_before (first_falling set count) search_3.from l) in z))
      (λ g. by_lt k (first_falling set count) (first_falling set count ≡ k)
      (λ l.
      let no : (set (k - 1)).period ≤ (set k).period = ltb-false _ _ (search_3.before k F.from_two l) in
      absurd (let z : ⊥ = omega (arith, F.falls) in z))
      (λ h. omega arith))

-- The test of number 1 is passed exactly where the length is a multiple of 16 and gives 2 to 17 records.
length_test : (bytes : List ℕ) → (length_fits bytes ≡ true) ↔ WholeRecords bytes
length_test bytes = (
  λ e.
      let a = both (eqb (length bytes % 16) 0 && leb 2 (records_in bytes)) (leb (records_in bytes) (1 + places)) e in
      let b = both (eqb (length bytes % 16) 0) (leb 2 (records_in bytes)) a.0 in
      record { whole = eqb-true _ _ b.0; two = leb-true _ _ b.1; few = leb-true _ _ a.1 },
  λ W. rw (eq-eqb _ _ W.whole, le-leb _ _ W.two) (le-leb _ _ W.few),
)

-- The test of number 4, where S is at most H, fails exactly where S = H or task 1's period is no multiple of H.
sleep_test : (sleep task : Record) → sleep.work ≤ sleep.period
    → (sleep_fits sleep task ≡ false) ↔ ((sleep.work ≡ sleep.period) ⊎ (task.period % sleep.period ≢ 0))
sleep_test sleep task most = (to (ltb sleep.work sleep.period) refl, from (ltb sleep.work sleep.period) refl)
  where
    whole : Bool
    whole = eqb (task.period % sleep.period) 0

    to : (b : Bool) → ltb sleep.work sleep.period ≡ b → b && whole ≡ false → (sleep.work ≡ sleep.period) ⊎ (task.period % sleep.period ≢ 0)
    to true q e = inr (λ z. not_both whole (eq-eqb _ _ z) e)
    to false q e = inl (omega (arith, ltb-false sleep.work sleep.period q))

    from : (b : Bool) → ltb sleep.work sleep.period ≡ b → (sleep.work ≡ sleep.period) ⊎ (task.period % sleep.period ≢ 0) → b && whole ≡ false
    from true q (inl e) = absurd (let z : ⊥ = omega (arith, ltb-true sleep.work sleep.period q) in z)
    from true q (inr n) = ne_eqb _ _ n
    from false q c = refl

-- A number from 1 to 4 belongs to one refusal of the table, which `due` gives.
abbrev due : List ℕ → ℕ → Refusal
due bytes k =
    cond (eqb k 1) Length
    (cond (eqb k 2) (Broken (first_broken (record_at bytes) (records_in bytes)))
    (cond (eqb k 3) (Falling (first_falling (record_at bytes) (records_in bytes))) Sleep))

known : (bytes : List ℕ) (q : Refusal) → TableApplies bytes q → (1 ≤ number q) × (number q < 5) × (due bytes (number q) ≡ q)
known bytes Length a = (omega arith, omega arith, refl)
known bytes (Broken k) a = (omega arith, omega arith, ap Broken (broken_is (record_at bytes) (records_in bytes) k a))
known bytes (Falling k) a = (omega arith, omega arith, ap Falling (falling_is (record_at bytes) (records_in bytes) k a))
known bytes Sleep a = (omega arith, omega arith, refl)
known bytes (NoWindow task rounds) a = absurd a
known bytes Unfit a = absurd a
known bytes ClockEnd a = absurd a
known bytes NoTask a = absurd a
known bytes Demand a = absurd a
known bytes OffBoundary a = absurd a
known bytes Working a = absurd a
known bytes Early a = absurd a
known bytes Power a = absurd a
known bytes LongWaking a = absurd a

-- The refusals that apply to a table have numbers below 5.
pub table_numbers : (bytes : List ℕ) (q : Refusal) → TableApplies bytes q → number q < 5
table_numbers bytes q a = (known bytes q a).1

-- `Says` is what a reading says of the refusals that apply: sound that none does, refused that its own is the lowest.
abbrev Says : (Refusal → Type 0) → Result ℕ Refusal → Type 0
Says Applies (Ok n) = (q : Refusal) → Applies q → ⊥
Says Applies (Err r) = Lowest Applies r

abbrev chain : (bytes : List ℕ) → Chain (TableApplies bytes) (Result ℕ Refusal)
chain bytes = record { low = 1; end = 5; due = due bytes; known = known bytes; refused = Err; Says = Says (TableApplies bytes); says = λ r L. L }

-- A READING says that none applies, or that its own refusal is the lowest that does, by its tests in their order.
reading_says : (bytes : List ℕ) → Says (TableApplies bytes) (read_of bytes)
unfolding read_of ask_records ask_order ask_sleep
reading_says bytes =
    unless (chain bytes) Length refl (length_fits bytes) (ask_records set count) (fails _ _ (length_test bytes)) (first (chain bytes)) (λ e1 b1.
    when (chain bytes) (Broken (first_broken set count)) refl (ltb (first_broken set count) count) (ask_order set count) (broken_test set count) b1 (λ e2 b2.
    let two : 2 ≤ count = ((length_test bytes).0 e1).two in
    let none : count ≤ first_broken set count = ltb-false _ _ e2 in
    when (chain bytes) (Falling (first_falling set count)) refl (ltb (first_falling set count) count) (ask_sleep set count) (falling_test set count two) b2 (λ e3 b3.
    unless (chain bytes) Sleep refl (sleep_fits (set 0) (set 1)) (Ok (count - 1))
    (sleep_test (set 0) (set 1) (sound_says set count 0 ((search_2 set count).before 0 (omega arith) (omega arith))).within) b3 (λ e4 b4.
    past (chain bytes) b4))))
  where
    set : ℕ → Record
    set = record_at bytes

    count : ℕ
    count = records_in bytes

-- A READING IS REFUSED exactly with the lowest refusal that applies.
pub reading_refused_exactly : (bytes : List ℕ) (r : Refusal) → (read_of bytes ≡ Err r) ↔ Lowest (TableApplies bytes) r
reading_refused_exactly bytes r = go (read_of bytes) (reading_says bytes)
  where
    go : (x : Result ℕ Refusal) → Says (TableApplies bytes) x → (x ≡ Err r) ↔ Lowest (TableApplies bytes) r
    go (Ok n) S = (
      λ e. let z : ◌≡◌ {A = ℕ} 0 1 = cc in absurd (let y : ⊥ = omega arith in y),
      λ L. absurd (S r L.applies),
    )
    go (Err q) S = (
      λ e. let same : q ≡ r = cc in subst (Lowest (TableApplies bytes)) same S,
      λ L. ap Err (one_lowest (chain bytes) q r S L),
    )

-- No refusal applies to a table that reads as sound.
pub sound_none_applies : (bytes : List ℕ) (n : ℕ) → read_of bytes ≡ Ok n → (q : Refusal) → TableApplies bytes q → ⊥
sound_none_applies bytes n e = subst (Says (TableApplies bytes)) e (reading_says bytes)
