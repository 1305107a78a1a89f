-- A reading is sound exactly when every rule holds. Each number's test, passed, gives its rule; the searches of numbers
-- 2 and 3 give theirs for every record, since nothing was found before their end.
use Rattle.std.specs.Prelude.{Result, Ok, Err}
use Prim.Native.Nat.{ℕ, ◌+◌, ◌-◌, ◌*◌, ◌%◌, ◌≤◌}
use mathlib.Core.Path.{◌≡◌, refl}
use mathlib.Core.List.{List}
use mathlib.Core.Bool.{true, ◌&&◌}
use native.Mathlib.Omega.{arith}
use lib.Dec.{leb, ltb, eqb}
use lib.ListN.{length}
use borrow.Author.Tests.{leb-true, ltb-true, ltb-false, eqb-true, not-false, le-leb, lt-ltb, le-ltb, eq-eqb}
use Rattle.base.proofs.ChoiceLaws.{chosen, passed, either, both}
use Rattle.base.proofs.FirstLaws.{first_is, search_none}
use Rattle.table.specs.declared.Record.{Record}
use Rattle.table.specs.declared.Refusal.{Refusal}
use Rattle.table.specs.declared.Refusal.TheVariants.{Length, Broken, Falling, Sleep}
use Rattle.table.specs.Refusals.{reading_gives}
use Rattle.table.specs.Rules.{Lawful, SoundSet, SoundTable}
use Rattle.table.specs.Bytes.{records_in, record_at}
use Rattle.table.specs.Sound.{largest, places, record_fits, sleep_fits, broken, falling, first_broken, first_falling, ask_records, ask_order, ask_sleep, length_fits, read_of}

-- A refused reading is not sound.
pub refused_not_sound : (f : Refusal) (n : ℕ) → Err f ≡ Ok n → ⊥
refused_not_sound f n e = let z : ◌≡◌ {A = ℕ} 0 1 = cc in omega arith

-- A record that passes the test keeps the rule of C, T and the reserved field.
pub record_says : (r : Record) → record_fits r ≡ true → Lawful r
record_says r e =
    let a = both (leb 1 r.work && leb r.work r.period && leb r.period largest) (eqb r.reserved 0) e in
    let b = both (leb 1 r.work && leb r.work r.period) (leb r.period largest) a.0 in
    let c = both (leb 1 r.work) (leb r.work r.period) b.0 in
    record {
      some = leb-true 1 r.work c.0;
      within = leb-true r.work r.period c.1;
      small = leb-true r.period largest b.1;
      reserved_zero = eqb-true r.reserved 0 a.1;
    }

-- A record that keeps the rule of C, T and the reserved field passes the test.
pub says_record : (r : Record) → Lawful r → record_fits r ≡ true
says_record r L = rw (le-leb _ _ L.some, le-leb _ _ L.within, le-leb _ _ L.small, eq-eqb _ _ L.reserved_zero)

-- The reading of records is sound only where the rules hold.
pub ask_sound : (set : ℕ → Record) (count n : ℕ) → 2 ≤ count → ask_records set count ≡ Ok n → (count ≡ n + 1) × SoundSet set n
unfolding ask_records ask_order ask_sleep
ask_sound set count n two e =
    let p2 = passed (ltb (first_broken set count) count) (Err (Broken (first_broken set count))) (ask_order set count) (Ok n) (refused_not_sound _ n) e in
    let p3 = passed (ltb (first_falling set count) count) (Err (Falling (first_falling set count))) (ask_sleep set count) (Ok n) (refused_not_sound _ n) p2.1 in
    let p4 = chosen (sleep_fits (set 0) (set 1)) (Ok (count - 1)) (Err Sleep) (Ok n) (refused_not_sound Sleep n) p3.1 in
    let n_is : count - 1 ≡ n = cc p4.1 in
    let h = both (ltb (set 0).work (set 0).period) (eqb ((set 1).period % (set 0).period) 0) p4.0 in
    let F2 = first_is (broken set) count 0 in
    let F3 = first_is (falling set) (count - 2) 2 in
    let none2 : count ≤ first_broken set count = ltb-false _ _ p2.0 in
    let none3 : count ≤ first_falling set count = ltb-false _ _ p3.0 in (
      omega arith,
      record {
        some = omega arith;
        lawful_at = λ k l. record_says (set k) (not-false _ (F2.before k (omega arith) (omega arith)));
        ordered = λ k p l. ltb-false _ _ (F3.before k p (omega arith));
        room = ltb-true _ _ h.0;
        whole = eqb-true _ _ h.1;
      },
    )

-- The reading of records is sound where the rules hold.
pub sound_ask : (set : ℕ → Record) (n : ℕ) → SoundSet set n → ask_records set (n + 1) ≡ Ok n
unfolding ask_records ask_order ask_sleep
sound_ask set n S =
    let some : 1 ≤ n = S.some in
    let two : 2 + (n + 1 - 2) ≡ n + 1 = omega arith in
    let none2 : n + 1 ≤ first_broken set (n + 1) =
    omega (arith, search_none (broken set) (n + 1) 0 (λ m p l. rw (says_record (set m) (S.lawful_at m (omega arith))))) in
    let none3 : 2 + (n + 1 - 2) ≤ first_falling set (n + 1) =
    search_none (falling set) (n + 1 - 2) 2 (λ m p l. le-ltb _ _ (S.ordered m p (omega arith))) in
    let none3' : n + 1 ≤ first_falling set (n + 1) = omega arith in
    let less : n + 1 - 1 ≡ n = omega arith in
    rw (le-ltb _ _ none2, le-ltb _ _ none3', lt-ltb _ _ S.room, eq-eqb _ _ S.whole, less)

-- Bytes of the length of n + 1 records hold n + 1 records.
pub records_are : (bytes : List ℕ) (n : ℕ) → length bytes ≡ 16 * (n + 1) → records_in bytes ≡ n + 1
records_are bytes n e = omega arith

-- A READING IS SOUND EXACTLY WHEN THE RULES HOLD: first, the rules hold of a table that reads as sound.
pub read_sound : (bytes : List ℕ) (n : ℕ) → read_of bytes ≡ Ok n → SoundTable bytes n
unfolding read_of
read_sound bytes n e =
    let p1 = chosen (length_fits bytes) (ask_records (record_at bytes) (records_in bytes)) (Err Length) (Ok n) (refused_not_sound Length n) e in
    let a = both (eqb (length bytes % 16) 0 && leb 2 (records_in bytes)) (leb (records_in bytes) (1 + places)) p1.0 in
    let b = both (eqb (length bytes % 16) 0) (leb 2 (records_in bytes)) a.0 in
    let s = ask_sound (record_at bytes) (records_in bytes) n (leb-true _ _ b.1) p1.1 in
    let m : length bytes % 16 ≡ 0 = eqb-true _ _ b.0 in
    let f : records_in bytes ≤ 1 + places = leb-true _ _ a.1 in
    record { length_is = omega (arith, s.0); few = omega (arith, s.0); set = s.1 }

-- A READING IS SOUND EXACTLY WHEN THE RULES HOLD: the other way round, a table of which they hold reads as sound.
pub sound_read : (bytes : List ℕ) (n : ℕ) → SoundTable bytes n → read_of bytes ≡ Ok n
unfolding read_of
sound_read bytes n S =
    let some : 1 ≤ n = S.set.some in
    let few : n ≤ places = S.few in
    let count : records_in bytes ≡ n + 1 = records_are bytes n S.length_is in
    let whole : length bytes % 16 ≡ 0 = omega (arith, S.length_is) in
    let two : 2 ≤ records_in bytes = omega arith in
    let most : records_in bytes ≤ 1 + places = omega arith in
    rw (eq-eqb _ _ whole, le-leb _ _ two, le-leb _ _ most, count) (sound_ask (record_at bytes) n S.set)

-- A reading gives four refusals, and what holds of all four holds of the one that it gives.
module _ (P : Refusal → Type 0) (length_has : P Length) (broken_has : (k : ℕ) → P (Broken k)) (falling_has : (k : ℕ) → P (Falling k)) (sleep_has : P Sleep) where
  abbrev IfRefused : Result ℕ Refusal → Type 0
  IfRefused (Ok n) = Unit {0}
  IfRefused (Err refusal) = P refusal

  if_refused : (bytes : List ℕ) → IfRefused (read_of bytes)
  unfolding read_of ask_records ask_order ask_sleep
  if_refused bytes =
      either IfRefused (length_fits bytes) (ask_records set count) (Err Length)
      (either IfRefused (ltb (first_broken set count) count) (Err (Broken (first_broken set count))) (ask_order set count) (broken_has _)
      (either IfRefused (ltb (first_falling set count) count) (Err (Falling (first_falling set count))) (ask_sleep set count) (falling_has _)
      (either IfRefused (sleep_fits (set 0) (set 1)) (Ok (count - 1)) (Err Sleep) tt sleep_has)))
      length_has
    where
      set : ℕ → Record
      set = record_at bytes

      count : ℕ
      count = records_in bytes

  pub reading_has : (bytes : List ℕ) (refusal : Refusal) → read_of bytes ≡ Err refusal → P refusal
  reading_has bytes refusal e = rw e at (if_refused bytes)

-- The refusal that a reading gives is one of those that a reading is said to give.
pub reading_gives_lem : (bytes : List ℕ) (refusal : Refusal) → read_of bytes ≡ Err refusal → reading_gives refusal ≡ true
reading_gives_lem = reading_has (λ r. reading_gives r ≡ true) refl (λ k. refl) (λ k. refl) refl
