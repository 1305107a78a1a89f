-- A search for the first number finds one at which the test holds and none before it. A loop that searches keeps what
-- is left of the search from one number to the next.
use Prim.Native.Nat.{ℕ, zero, suc, ◌+◌, ◌-◌, ◌≤◌, ◌<◌}
use mathlib.Core.Path.{◌≡◌, refl}
use mathlib.Core.Bool.{Bool, true, false, cond}
use native.Mathlib.Omega.{arith}
use Rattle.std.specs.Prelude.{Option, Some, None, MatchOption}
use lib.Dec.{ltb}
use borrow.Author.Tests.{lt-ltb, le-ltb}
use Rattle.base.specs.First.{first_from, found_in}
use Rattle.base.proofs.Split.{by_lt, by_eq}

-- A search of one number or more tests its first number, and goes on after it where the test fails there.
pub first_step : (test : ℕ → Bool) (left k : ℕ) → 1 ≤ left
    → first_from test left k ≡ cond (test k) k (first_from test (left - 1) (k + 1))
unfolding first_from
first_step test zero k l = absurd (let z : ⊥ = omega arith in z)
first_step test (suc left) k l = let e : suc left - 1 ≡ left = omega arith in rw e

-- The search ends at f, within the numbers searched or at their end; the test holds there, and held nowhere before.
pub record IsFirst (test : ℕ → Bool) (left k f : ℕ) : Type 0 where
  pub from : k ≤ f
  pub to : f ≤ k + left
  pub holds : f < k + left → test f ≡ true
  pub before : (m : ℕ) → k ≤ m → m < f → test m ≡ false

-- Every search finds such a number, whatever its test is.
pub first_is : (test : ℕ → Bool) (left k : ℕ) → IsFirst test left k (first_from test left k)
unfolding first_from
first_is test zero k = record {
  from = omega arith;
  to = omega arith;
  holds = λ l. absurd (let z : ⊥ = omega arith in z);
  before = λ m p q. absurd (let z : ⊥ = omega arith in z);
}
first_is test (suc left) k = go (test k) refl (first_is test left (k + 1))
  where
    go : (b : Bool) → test k ≡ b → IsFirst test left (k + 1) (first_from test left (k + 1))
        → IsFirst test (suc left) k (cond b k (first_from test left (k + 1)))
    go true e I = record {
      from = omega arith;
      to = omega arith;
      holds = λ l. e;
      before = λ m p q. absurd (let z : ⊥ = omega arith in z);
    }
    go false e I = record {
      from = omega (arith, I.from);
      to = omega (arith, I.to);
      holds = λ l. I.holds (omega arith);
      before = λ m p q. by_eq m k (test m ≡ false) (λ h. rw h e) (λ n. I.before m (omega arith) q);
    }

-- A search for what nowhere holds ends at the end.
pub search_none : (test : ℕ → Bool) (left k : ℕ) → ((m : ℕ) → k ≤ m → m < k + left → test m ≡ false) → k + left ≤ first_from test left k
search_none test left k none = by_lt (first_from test left k) (k + left) (k + left ≤ first_from test left k)
    (λ l.
    let F = first_is test left k in
    let z : ◌≡◌ {A = ℕ} 0 1 = cc (F.holds l, none (first_from test left k) F.from l) in absurd (let y : ⊥ = omega arith in y))
    (λ l. l)

-- The number at which the test holds, and before which it does not, is the one that the search finds.
pub one_first : (test : ℕ → Bool) (left k i : ℕ) → k ≤ i → i < k + left → test i ≡ true → ((m : ℕ) → k ≤ m → m < i → test m ≡ false)
    → first_from test left k ≡ i
one_first test left k i from to holds before =
    let F = first_is test left k in
    by_lt (first_from test left k) i (first_from test left k ≡ i)
    (λ l.
    let z : ◌≡◌ {A = ℕ} 0 1 = cc (F.holds (omega arith), before (first_from test left k) F.from l) in absurd (let y : ⊥ = omega arith in y))
    (λ g. by_lt i (first_from test left k) (first_from test left k ≡ i)
    (λ l. let z : ◌≡◌ {A = ℕ} 0 1 = cc (holds, F.before i from l) in absurd (let y : ⊥ = omega arith in y))
    (λ h. omega arith))

-- Two tests that agree on the numbers searched have the same first number.
pub first_same : (test test' : ℕ → Bool) (left k : ℕ) → ((m : ℕ) → k ≤ m → m < k + left → test m ≡ test' m)
    → first_from test left k ≡ first_from test' left k
unfolding first_from
first_same test test' zero k same = refl
first_same test test' (suc left) k same =
    rw (same k (omega arith) (omega arith), first_same test test' left (k + 1) (λ m p q. same m (omega arith) (omega arith)))

-- A loop that searches up to `end`, with what is left of the search as its invariant, goes on past a number at which
-- the test fails.
pub first_on : (test : ℕ → Bool) (end k f : ℕ) → k < end → test k ≡ false → first_from test (end - k) k ≡ f
    → first_from test (end - (k + 1)) (k + 1) ≡ f
first_on test end k f l e h =
    let p : end - (k + 1) ≡ end - k - 1 = omega arith in
    rw p (rw (first_step test (end - k) k (omega arith), e) at h)

-- A loop that searches up to `end` has found its number where the test holds.
pub first_here : (test : ℕ → Bool) (end k f : ℕ) → k < end → test k ≡ true → first_from test (end - k) k ≡ f → k ≡ f
first_here test end k f l e h = rw (first_step test (end - k) k (omega arith), e) at h

-- A loop that searches up to `end` has found its number when it is at the end.
pub first_end : (test : ℕ → Bool) (end k f : ℕ) → end ≤ k → first_from test (end - k) k ≡ f → k ≡ f
unfolding first_from
first_end test end k f l h = let p : end - k ≡ 0 = omega arith in rw p at h

-- What searches `left` numbers from `start` up to `end` for one at which the test holds, and finds none or one with none
-- before it, found what the search from `start` does.
pub found_is : (test : ℕ → Bool) (left start end : ℕ) (r : Option ℕ) → start + left ≡ end
    → MatchOption r ((k : ℕ) → start ≤ k → k < end → test k ≡ false) (λ i. (start ≤ i) × (i < end) × (test i ≡ true) × ((k : ℕ) → start ≤ k → k < i → test k ≡ false))
    → r ≡ found_in (first_from test left start) end
found_is test left start end None s h =
    let z : end ≤ first_from test left start = omega (arith, search_none test left start (λ m p q. h m p (omega arith))) in
    rw (le-ltb (first_from test left start) end z)
found_is test left start end (Some i) s h =
    let e : first_from test left start ≡ i = one_first test left start i h.0 (omega (arith, h.1)) h.2 h.3 in
    rw (e, lt-ltb i end h.1)

-- A search that gives a number found it: the number is below the end.
pub found_some : (f end i : ℕ) → found_in f end ≡ Some i → (f ≡ i) × (ltb f end ≡ true)
found_some f end i = go (ltb f end)
  where
    go : (b : Bool) → cond b (Some f) None ≡ Some i → (f ≡ i) × (b ≡ true)
    go true e = (cc, refl)
    go false e = let z : ◌≡◌ {A = ℕ} 0 1 = cc in absurd (let y : ⊥ = omega arith in y)

-- A search that gives none went to its end.
pub found_none : (f end : ℕ) → found_in f end ≡ None → ltb f end ≡ false
found_none f end = go (ltb f end)
  where
    go : (b : Bool) → cond b (Some f) None ≡ None → b ≡ false
    go true e = let z : ◌≡◌ {A = ℕ} 0 1 = cc in absurd (let y : ⊥ = omega arith in y)
    go false e = refl
