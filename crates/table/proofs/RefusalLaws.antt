-- The search for windows gives one refusal, and that is number 5.
use Prim.Native.Nat.{ℕ}
use mathlib.Core.Path.{◌≡◌, refl}
use mathlib.Core.Bool.{true, false}
use native.Mathlib.Omega.{arith}
use Rattle.table.specs.declared.Refusal.{Refusal}
use Rattle.table.specs.declared.Refusal.TheVariants.{Length, Broken, Falling, Sleep, NoWindow, Unfit, ClockEnd, NoTask, Demand, OffBoundary, Working, Early, Power, LongWaking}
use Rattle.table.specs.Refusals.{told_of, search_gives}

-- A test that fails does not hold.
not_so : {A : Type 0} → false ≡ true → A
not_so e = let z : ◌≡◌ {A = ℕ} 0 1 = cc in absurd (let y : ⊥ = omega arith in y)

pub search_number : (r : Refusal) → search_gives r ≡ true → (told_of r).number ≡ 5
search_number Length e = not_so e
search_number (Broken k) e = not_so e
search_number (Falling k) e = not_so e
search_number Sleep e = not_so e
search_number (NoWindow task rounds) e = refl
search_number Unfit e = not_so e
search_number ClockEnd e = not_so e
search_number NoTask e = not_so e
search_number Demand e = not_so e
search_number OffBoundary e = not_so e
search_number Working e = not_so e
search_number Early e = not_so e
search_number Power e = not_so e
search_number LongWaking e = not_so e
