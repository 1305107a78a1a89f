-- The outcome of the rounds says what it should: with n rounds done the value is that of n replacements, so a round
-- that changes nothing ends with the least window, and a value above the limit shows that none is within it.
use Prim.Native.Nat.{ℕ, zero, suc, ◌+◌, ◌-◌, ◌≤◌, ◌<◌}
use mathlib.Core.Path.{◌≡◌, refl, sym, ◌∙◌, ap}
use mathlib.Core.Logic.{◌≢◌}
use mathlib.Core.Bool.{Bool, true, false, cond}
use native.Mathlib.Omega.{arith}
use native.Mathlib.Numerals.{add-one}
use lib.Dec.{leb, eqb}
use borrow.Author.Tests.{leb-true, leb-false, eqb-true, eqb-false, le-leb, lt-leb, eq-eqb, ne_eqb}
use Rattle.base.proofs.Split.{by_eq}
use Rattle.theory.specs.Rules.{Rules, demand}
use Rattle.theory.specs.Rounds.{value, found, none, rounds, outcome, Found, Overrun, Says, Window}
use Rattle.theory.proofs.System.{Sound}
use Rattle.theory.proofs.WindowLaws.{value_least, value_none, value_rises, value_some}

-- The rounds at a value above the limit end without a window, whatever number of rounds is left.
pub rounds_none : (f : ℕ → ℕ) (limit most n w : ℕ) → limit < w → rounds f limit most n w ≡ none n
unfolding rounds
rounds_none f limit zero n w h = refl
rounds_none f limit (suc most) n w h = rw (lt-leb w limit h)

-- A round that changes nothing ends the rounds with a window, where a round is left.
pub rounds_found : (f : ℕ → ℕ) (limit most n w : ℕ) → 1 ≤ most → w ≤ limit → f w ≡ w → rounds f limit most n w ≡ found w (n + 1)
unfolding rounds
rounds_found f limit zero n w p h e = absurd (let z : ⊥ = omega arith in z)
rounds_found f limit (suc most) n w p h e = rw (le-leb w limit h, eq-eqb (f w) w e)

-- A round that changes the value goes on from its demand, where a round is left.
pub rounds_go : (f : ℕ → ℕ) (limit most n w : ℕ) → 1 ≤ most → w ≤ limit → f w ≢ w
    → rounds f limit most n w ≡ rounds f limit (most - 1) (n + 1) (f w)
unfolding rounds
rounds_go f limit zero n w p h d = absurd (let z : ⊥ = omega arith in z)
rounds_go f limit (suc most) n w p h d =
    let e : suc most - 1 ≡ most = omega arith in
    rw (le-leb w limit h, ne_eqb (f w) w d, e)

-- The rounds from every value that n rounds reach have an outcome that says what it should.
rounds_says : (R : Rules) (i limit most n w : ℕ) → Sound R → value R i n ≡ w → limit < most + w
    → ((k : ℕ) → k < n → value R i (suc k) ≢ value R i k) → ((k : ℕ) → k < n → value R i k ≤ limit)
    → Says R i limit (rounds (demand R i) limit most n w)
unfolding rounds value
rounds_says R i limit zero n w ok at enough changed within = record { above = omega arith; changed = changed; within = within }
rounds_says R i limit (suc most) n w ok at enough changed within =
    by_limit (leb w limit) refl (λ le differs.
    rounds_says R i limit most (n + 1) (demand R i w) ok (rw add-one next)
    (let rise : value R i n ≤ value R i (suc n) = value_rises R i n ok in omega (arith, next))
    (λ k l. by_eq k n (value R i (suc k) ≢ value R i k)
    (λ q. rw q (λ s. differs (sym next ∙ s ∙ at)))
    (λ d. changed k (omega arith)))
    (λ k l. by_eq k n (value R i k ≤ limit) (λ q. rw q (omega arith)) (λ d. within k (omega arith))))
  where
    next : value R i (suc n) ≡ demand R i w
    next = ap (demand R i) at

    by_value : w ≤ limit → (b : Bool) → eqb (demand R i w) w ≡ b
        → (demand R i w ≢ w → Says R i limit (rounds (demand R i) limit most (n + 1) (demand R i w)))
        → Says R i limit (cond b (found w (n + 1)) (rounds (demand R i) limit most (n + 1) (demand R i w)))
    by_value le true e go = record {
      last = n;
      counted = add-one n;
      is = at;
      unchanged = next ∙ eqb-true (demand R i w) w e;
      changed = changed;
      within = le;
    }
    by_value le false e go = go (eqb-false (demand R i w) w e)

    by_limit : (b : Bool) → leb w limit ≡ b
        → (w ≤ limit → demand R i w ≢ w → Says R i limit (rounds (demand R i) limit most (n + 1) (demand R i w)))
        → Says R i limit (cond b (cond (eqb (demand R i w) w) (found w (n + 1)) (rounds (demand R i) limit most (n + 1) (demand R i w))) (none n))
    by_limit true e go = by_value (leb-true w limit e) (eqb (demand R i w) w) refl (go (leb-true w limit e))
    by_limit false e go = record { above = omega (arith, leb-false w limit e); changed = changed; within = within }

-- THE ROUNDS REPORTED ARE THE REPLACEMENTS DONE.
pub outcome_says : (R : Rules) (i limit : ℕ) → Sound R → Says R i limit (outcome R i limit)
unfolding outcome value
outcome_says R i limit ok =
    rounds_says R i limit (limit + 1) 0 (R.C i + R.S) ok refl (omega arith)
    (λ k l. absurd (let z : ⊥ = omega arith in z)) (λ k l. absurd (let z : ⊥ = omega arith in z))

-- THE WINDOW FOUND IS THE LEAST.
pub found_window : (R : Rules) (i limit w n : ℕ) → Sound R → Found R i limit w n → Window R i limit w
found_window R i limit w n ok F =
    let L = value_least R i F.last ok (F.unchanged ∙ sym F.is) in
    record {
      some = rw F.is at (value_some R i F.last ok);
      within = F.within;
      fits = rw F.is at L.0;
      least = λ x f. rw F.is at (L.1 x f);
    }

-- WHERE NONE IS FOUND THERE IS NONE.
pub overrun_none : (R : Rules) (i limit n : ℕ) → Sound R → Overrun R i limit n → (x : ℕ) → x ≤ limit → demand R i x ≤ x → ⊥
overrun_none R i limit n ok P = value_none R i n limit ok P.above
