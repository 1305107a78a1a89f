-- The values of the rounds rise, stay at or below every window, and end at the least.
use Prim.Native.Nat.{ℕ, zero, suc, ◌+◌, ◌*◌, ◌≤◌, ◌<◌}
use mathlib.Core.Path.{◌≡◌, ap, sym}
use mathlib.Core.Logic.{◌≢◌}
use native.Mathlib.Omega.{arith}
use native.Mathlib.Nat.{mul-le-mul_right, mul-le-mul_left}
use Rattle.base.specs.Sum.{sum_to}
use Rattle.base.proofs.SumLaws.{sum_to_mono}
use Rattle.theory.specs.Round.{ceil}
use Rattle.theory.specs.Rules.{Rules, demand}
use Rattle.theory.specs.Rounds.{value}
use Rattle.theory.proofs.RoundLaws.{ceil_up, ceil_least, ceil_past}
use Rattle.theory.proofs.System.{Sound}

-- Rounding up keeps the order.
pub ceil_mono : (a b h : ℕ) → 1 ≤ h → a ≤ b → ceil a h ≤ ceil b h
ceil_mono a b h p l = ceil_least a h (ceil b h) p (omega (arith, ceil_up b h p))

-- The demand of a longer window is not smaller.
pub demand_mono : (R : Rules) (i w w' : ℕ) → Sound R → w ≤ w' → demand R i w ≤ demand R i w'
unfolding demand
demand_mono R i w w' ok l =
    let h1 : 1 ≤ R.H = omega (arith, ok.room) in
    let k : ceil w R.H ≤ ceil w' R.H = ceil_mono w w' R.H h1 l in
    omega (
      arith,
      mul-le-mul_right R.S k,
      sum_to_mono i (λ j. R.C j * ceil (ceil w R.H * R.H) (R.T j)) (λ j. R.C j * ceil (ceil w' R.H * R.H) (R.T j))
          (λ j lj. mul-le-mul_left (R.C j) (ceil_mono (ceil w R.H * R.H) (ceil w' R.H * R.H) (R.T j) (ok.period j) (mul-le-mul_right R.H k))),
    )

-- No window's demand is below the first value.
pub demand_first : (R : Rules) (i w : ℕ) → Sound R → 1 ≤ w → R.C i + R.S ≤ demand R i w
unfolding demand
demand_first R i w ok p =
    let h1 : 1 ≤ R.H = omega (arith, ok.room) in
    omega (arith, mul-le-mul_right R.S (ceil_past w R.H 0 h1 (omega arith)))

-- Every value is at most every window.
pub value_below : (R : Rules) (i w n : ℕ) → Sound R → 1 ≤ w → demand R i w ≤ w → value R i n ≤ w
unfolding value
value_below R i w zero ok p f = omega (arith, demand_first R i w ok p)
value_below R i w (suc n) ok p f = omega (arith, demand_mono R i (value R i n) w ok (value_below R i w n ok p f))

-- Every value is at least 1.
pub value_some : (R : Rules) (i n : ℕ) → Sound R → 1 ≤ value R i n
unfolding value demand
value_some R i zero ok = omega (arith, ok.work i)
value_some R i (suc n) ok = omega (arith, ok.work i)

-- The values rise.
pub value_rises : (R : Rules) (i n : ℕ) → Sound R → value R i n ≤ value R i (suc n)
unfolding value
value_rises R i zero ok = demand_first R i (R.C i + R.S) ok (omega (arith, ok.work i))
value_rises R i (suc n) ok = demand_mono R i (value R i n) (demand R i (value R i n)) ok (value_rises R i n ok)

-- A number whose demand is at most it is 1 or more: no window is 0.
pub window_some : (R : Rules) (i w : ℕ) → Sound R → demand R i w ≤ w → 1 ≤ w
unfolding demand
window_some R i w ok f = omega (arith, ok.work i)

-- A ROUND THAT CHANGES NOTHING ENDS WITH THE LEAST WINDOW.
pub value_least : (R : Rules) (i n : ℕ) → Sound R → value R i (suc n) ≡ value R i n
    → (demand R i (value R i n) ≤ value R i n) × ((x : ℕ) → demand R i x ≤ x → value R i n ≤ x)
unfolding value
value_least R i n ok e = (omega arith, λ x f. value_below R i x n ok (window_some R i x ok f) f)

-- A VALUE ABOVE THE LIMIT shows that no window is within it.
pub value_none : (R : Rules) (i n limit : ℕ) → Sound R → limit < value R i n → (x : ℕ) → x ≤ limit → demand R i x ≤ x → ⊥
value_none R i n limit ok l x lx f = omega (arith, value_below R i x n ok (window_some R i x ok f) f)

-- The demand goes by the boundaries that the window begins.
demand_ceil : (R : Rules) (i w w' : ℕ) → ceil w R.H ≡ ceil w' R.H → demand R i w ≡ demand R i w'
unfolding demand
demand_ceil R i w w' e = ap (λ (k : ℕ). R.C i + k * R.S + sum_to i (λ j. R.C j * ceil (k * R.H) (R.T j))) e

-- While the values change, each begins one boundary more.
pub value_further : (R : Rules) (i n : ℕ) → Sound R → value R i (suc n) ≢ value R i n → suc n ≤ ceil (value R i n) R.H
unfolding value
value_further R i zero ok d = ceil_past (R.C i + R.S) R.H 0 (omega (arith, ok.room)) (omega (arith, ok.work i))
value_further R i (suc n) ok d =
    let before : value R i (suc n) ≢ value R i n = λ e. d (ap (demand R i) e) in
    let more : ceil (value R i n) R.H ≢ ceil (value R i (suc n)) R.H =
    λ e. d (sym (demand_ceil R i (value R i n) (value R i (suc n)) e)) in
    let rise : ceil (value R i n) R.H ≤ ceil (value R i (suc n)) R.H =
    ceil_mono (value R i n) (value R i (suc n)) R.H (omega (arith, ok.room)) (value_rises R i n ok) in
    omega (arith, value_further R i n ok before)

-- THE ROUNDS ARE FEW: where round n + 1 changed the value and value n was within the limit, the count n + 2 is at most
-- the boundaries of the limit and one.
pub rounds_most : (R : Rules) (i n limit : ℕ) → Sound R → value R i (suc n) ≢ value R i n → value R i n ≤ limit
    → suc (suc n) ≤ ceil limit R.H + 1
rounds_most R i n limit ok d l =
    omega (arith, value_further R i n ok d, ceil_mono (value R i n) limit R.H (omega (arith, ok.room)) l)
