-- The rules of a sound set are what the theory asks of a set: S below H, every work and period at least 1, no job that
-- waits longer than the set says; the first period is a multiple of H, and so no period is below H.
use Rattle.std.specs.Prelude.{Ok}
use Prim.Native.Nat.{ℕ, zero, suc, ◌+◌, ◌-◌, ◌*◌, ◌/◌, ◌≤◌, ◌<◌}
use mathlib.Core.Path.{◌≡◌, refl}
use mathlib.Core.List.{List}
use mathlib.Core.Bool.{Bool, true, false, cond}
use native.Mathlib.Omega.{arith}
use native.Mathlib.Nat.{div-add-mod', mod-eq_of_lt}
use lib.Dec.{ltb}
use borrow.Author.Tests.{ltb-true, lt-ltb}
use Rattle.base.proofs.Split.{by_lt}
use Rattle.theory.proofs.System.{Sound}
use Rattle.table.specs.declared.Record.{Record}
use Rattle.table.specs.Bytes.{records_in, record_at}
use Rattle.table.specs.Sound.{largest, places, read_of}
use Rattle.table.specs.Rules.{SoundSet}
use Rattle.table.specs.Set.{rules_from}
use Rattle.table.proofs.TimesLaws.{time_waits, waiting_most}
use Rattle.table.proofs.SoundLaws.{records_are, read_sound}

module _ (set : ℕ → Record) (n : ℕ) where
  -- C and T of a task are those of its record.
  pub work_is : (j : ℕ) → j < n → (rules_from set n).C j ≡ (set (j + 1)).work
  work_is j l = rw (lt-ltb j n l)

  pub period_is : (j : ℕ) → j < n → (rules_from set n).T j ≡ (set (j + 1)).period
  period_is j l = rw (lt-ltb j n l)

  -- C and T are small: C is at least 1 and at most T, and T is at most the largest period.
  pub works_small : (S : SoundSet set n) (j : ℕ) → (1 ≤ (rules_from set n).C j) × ((rules_from set n).C j ≤ (rules_from set n).T j) × ((rules_from set n).T j ≤ largest)
  works_small S j = go (ltb j n) refl
    where
      go : (b : Bool) → ltb j n ≡ b
          → (1 ≤ cond b (set (j + 1)).work 1) × (cond b (set (j + 1)).work 1 ≤ cond b (set (j + 1)).period 1) × (cond b (set (j + 1)).period 1 ≤ largest)
      go true e = let L = S.lawful_at (j + 1) (omega (arith, ltb-true j n e)) in (L.some, L.within, L.small)
      go false e = (omega arith, omega arith, omega arith)

  -- The rules of a sound set are sound in the theory.
  pub set_sound : SoundSet set n → Sound (rules_from set n)
  set_sound S = record {
    room = S.room;
    work = λ j. (works_small S j).0;
    period = λ j. omega (arith, works_small S j);
    waits = λ j t ok. time_waits (set 0).period j t (omega (arith, S.room)) ok.1;
  }

  -- The first period of a sound set is a multiple of H.
  pub first_multiple : SoundSet set n → (rules_from set n).T 0 ≡ (set 1).period / (set 0).period * (set 0).period
  first_multiple S = rw (lt-ltb 0 n S.some) (omega (arith, div-add-mod' (set 1).period (set 0).period, S.whole))

  -- No period of a sound set is below H.
  pub first_not_below : SoundSet set n → (set 0).period ≤ (set 1).period
  first_not_below S = by_lt (set 1).period (set 0).period ((set 0).period ≤ (set 1).period)
      (λ l. absurd (omega (arith, mod-eq_of_lt {n = (set 1).period} {m = (set 0).period} l, S.whole, S.lawful_at 1 S.some)))
      (λ l. l)

  pub not_below : SoundSet set n → (j : ℕ) → j < n → (set 0).period ≤ (set (j + 1)).period
  not_below S zero l = first_not_below S
  not_below S (suc j) l =
      let e : suc j + 1 - 1 ≡ j + 1 = omega arith in
      let o : (set (suc j + 1 - 1)).period ≤ (set (suc j + 1)).period = S.ordered (suc j + 1) (omega arith) (omega arith) in
      let o' : (set (j + 1)).period ≤ (set (suc j + 1)).period = rw e at o in
      omega (arith, not_below S j (omega arith))

  -- No job of a sound set waits longer than it has to finish.
  pub wait_within : SoundSet set n → (j : ℕ) → j < n → (rules_from set n).wait j ≤ (rules_from set n).D j
  wait_within S j l = omega (arith, period_is j l, not_below S j l, waiting_most j (set 0).period)

-- A `TableSet` is a sound table's records as a set, of as many tasks as its reading says.
pub record TableSet (bytes : List ℕ) (n : ℕ) : Type 0 where
  pub tasks : records_in bytes - 1 ≡ n
  pub few : n ≤ places
  pub set : SoundSet (record_at bytes) (records_in bytes - 1)

-- Every table that reads as sound is a `TableSet`.
pub read_set : (bytes : List ℕ) (n : ℕ) → read_of bytes ≡ Ok n → TableSet bytes n
read_set bytes n e =
    let S = read_sound bytes n e in
    let count : records_in bytes - 1 ≡ n = omega (arith, records_are bytes n S.length_is) in
    record { tasks = count; few = S.few; set = rw count S.set }

-- A set with the same records as a sound one is sound too.
pub set_same : (set set' : ℕ → Record) (n : ℕ) → ((k : ℕ) → k ≤ n → set' k ≡ set k) → SoundSet set n → SoundSet set' n
set_same set set' n same S = record {
  some = S.some;
  lawful_at = λ k l. rw (same k l) (S.lawful_at k l);
  ordered = λ k g l. rw (same k l, same (k - 1) (omega arith)) (S.ordered k g l);
  room = rw (same 0 (omega arith)) S.room;
  whole = rw (same 0 (omega arith), same 1 S.some) S.whole;
}
