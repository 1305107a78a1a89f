-- Energy has room above a number in one answer, and a refused reading has none there.
use Prim.Native.Nat.{ℕ, ◌*◌, ◌/◌, ◌%◌, ◌≤◌}
use mathlib.Core.Path.{◌≡◌, refl}
use mathlib.Core.List.{List}
use mathlib.Core.Bool.{Bool, true, false, cond, ◌||◌}
use native.Mathlib.Nat.{mul-le-mul}
use native.Mathlib.Omega.{arith}
use lib.Dec.{ltb}
use borrow.Author.Tests.{ltb-false}
use Rattle.std.specs.Prelude.{Ok, Err}
use Rattle.table.specs.declared.Refusal.TheVariants.{Unfit, Power}
use Rattle.decisions.specs.declared.Tally.{Tally}
use Rattle.decisions.specs.declared.Powers.{Powers}
use Rattle.decisions.specs.Fits.{clock_end, total}
use Rattle.decisions.specs.Energies.{power_most, powers, energy_in, energy_of, nanojoules_of}
use Rattle.node.specs.Layout.{tally_in, tally_encoded}
use Rattle.node.specs.Calls.{unfit_answer, reading_answer, energy_on}

-- The energy of a tally is small: it is at most 4,000,000,000,000,000 nanojoules.
nanojoules_small : (t : Tally) (p : Powers) → nanojoules_of (energy_of t p) ≤ 4000000000000000
nanojoules_small t p = go (ltb clock_end (total t)) refl (ltb power_most p.run) refl (ltb power_most p.sleep) refl (ltb power_most p.waking) refl
  where
    small : (count power : ℕ) → count ≤ 1000000000 → power ≤ 1000000 → count * power ≤ 1000000000000000
    small count power l m = mul-le-mul {n₂ = 1000000000} {m₂ = 1000000} l m

    go : (a : Bool) → ltb clock_end (total t) ≡ a → (b : Bool) → ltb power_most p.run ≡ b → (c : Bool) → ltb power_most p.sleep ≡ c
        → (d : Bool) → ltb power_most p.waking ≡ d → nanojoules_of (energy_of t p) ≤ 4000000000000000
    go true e b q c r d s = rw e (omega arith)
    go false e true q c r d s = rw (e, q) (omega arith)
    go false e false q true r d s = rw (e, q, r) (omega arith)
    go false e false q false r true s = rw (e, q, r, s) (omega arith)
    go false e false q false r false s =
        let sum = ltb-false clock_end (total t) e in
        let x = small t.run p.run (omega arith) (ltb-false power_most p.run q) in
        let y = small t.slot p.sleep (omega arith) (ltb-false power_most p.sleep r) in
        let z = small t.tail p.sleep (omega arith) (ltb-false power_most p.sleep r) in
        let w = small t.waking p.waking (omega arith) (ltb-false power_most p.waking s) in
        rw (e, q, r, s) (omega arith)

pub energy_small : (t : Tally) (p : Powers) (nanojoules : ℕ) → Ok nanojoules ≡ energy_of t p → nanojoules ≤ 4000000000000000
energy_small t p nanojoules e = rw (← e) at (nanojoules_small t p)

-- A REFUSED READING on words reads as no energy: above its number stand zeros.
pub energy_reads_zero : (tally : List ℕ) (run sleep waking : ℕ) → 1 ≤ energy_on tally run sleep waking % 256 → energy_on tally run sleep waking / 256 ≡ 0
unfolding energy_on
energy_reads_zero tally run sleep waking = by_length (tally_encoded tally)
  where
    by_tests : (a b : Bool) (n : ℕ) → 1 ≤ reading_answer (cond a (Err Unfit) (cond b (Err Power) (Ok n))) % 256
        → reading_answer (cond a (Err Unfit) (cond b (Err Power) (Ok n))) / 256 ≡ 0
    by_tests true b n l = refl
    by_tests false true n l = refl
    by_tests false false n l = absurd (let z : ⊥ = omega (arith, l) in z)

    by_length : (a : Bool) → 1 ≤ cond a (reading_answer (energy_of (tally_in tally) (powers run sleep waking))) unfit_answer % 256
        → cond a (reading_answer (energy_of (tally_in tally) (powers run sleep waking))) unfit_answer / 256 ≡ 0
    by_length true l =
        by_tests (ltb clock_end (total (tally_in tally))) (ltb power_most run || ltb power_most sleep || ltb power_most waking)
        (energy_in (tally_in tally) (powers run sleep waking)) l
    by_length false l = refl
