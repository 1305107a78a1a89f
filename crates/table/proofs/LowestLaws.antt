-- A chain of tests, one for each refusal in the order of their numbers, gives the lowest-numbered refusal that applies.
-- At each test it is known that no lower one does; the test tells whether its own does. The argument is one for the
-- reading of a table, for a release and for a step.
use Prim.Native.Nat.{ℕ, ◌+◌, ◌≤◌, ◌<◌}
use mathlib.Core.Path.{◌≡◌, refl, ap, subst, sym, ◌∙◌}
use mathlib.Core.Logic.{◌↔◌, ◌⊎◌, inl}
use mathlib.Core.Bool.{Bool, true, false, cond}
use native.Mathlib.Omega.{arith}
use Rattle.base.proofs.Split.{by_lt, by_eq}
use Rattle.table.specs.declared.Refusal.{Refusal}
use Rattle.table.specs.Refusals.{told_of}
use Rattle.table.specs.Applies.{Lowest}

-- No test is both passed and failed.
pub not_both : (b : Bool) → b ≡ true → b ≡ false → ⊥
not_both b p q = let z : ◌≡◌ {A = ℕ} 0 1 = cc in omega arith

-- A test that tells whether a fact holds fails exactly where the fact does not hold.
pub fails : (b : Bool) (F : Type 0) → (b ≡ true) ↔ F → (b ≡ false) ↔ (F → ⊥)
fails true F t = (λ e. absurd (not_both true refl e), λ n. absurd (n (t.0 refl)))
fails false F t = (λ e f. not_both false (t.1 f) refl, λ n. refl)

-- A fact that a test decides holds where it does not fail to hold.
pub holds : (b : Bool) (F : Type 0) → (b ≡ true) ↔ F → ((F → ⊥) → ⊥) → F
holds true F t n = t.0 refl
holds false F t n = absurd (n (λ f. not_both false (t.1 f) refl))

-- `number` is a refusal's number.
abbrev pub number : Refusal → ℕ
number r = (told_of r).number

-- The lowest that applies for one of two reasons, where it applies for the first, is the lowest that does for the first.
pub lowest_of_first : {First Other : Refusal → Type 0} {r : Refusal} → Lowest (λ q. First q ⊎ Other q) r → First r → Lowest First r
lowest_of_first L f = record { applies = f; none_lower = λ q lower a. L.none_lower q lower (inl a) }

-- `Below Applies b` says that no refusal with a number below b applies.
abbrev pub Below : (Refusal → Type 0) → ℕ → Type 0
Below Applies b = (q : Refusal) → number q < b → Applies q → ⊥

-- A chain asks of the refusals that may apply that their numbers run from `low` to below `end` and that each number
-- belongs to one. Of the answers it asks that a refused one may say of its refusal that it is the lowest.
pub record Chain (Applies : Refusal → Type 0) (Answer : Type 0) : Type 1 where
  pub low : ℕ
  pub end : ℕ
  pub due : ℕ → Refusal
  pub known : (q : Refusal) → Applies q → (low ≤ number q) × (number q < end) × (due (number q) ≡ q)
  pub refused : Refusal → Answer
  pub Says : Answer → Type 0
  pub says : (r : Refusal) → Lowest Applies r → Says (refused r)

module _ {Applies : Refusal → Type 0} {Answer : Type 0} (C : Chain Applies Answer) where
  -- Before the first test no refusal with a number below that of the first applies.
  pub first : Below Applies C.low
  first q l a = omega (arith, (C.known q a).0)

  -- Where the refusal of a test does not apply, and none with a lower number does, none applies below the next number.
  pub more : (r : Refusal) → C.due (number r) ≡ r → Below Applies (number r) → (Applies r → ⊥) → Below Applies (number r + 1)
  more r own B n q l a = by_eq (number q) (number r) ⊥
      (λ e. n (subst Applies (sym (C.known q a).2 ∙ ap C.due e ∙ own) a))
      (λ d. B q (omega arith) a)

  -- A test that refuses where it holds gives an answer that says what it must, if what comes after the test does.
  pub when : (r : Refusal) → C.due (number r) ≡ r → (b : Bool) (rest : Answer) → (b ≡ true) ↔ Applies r → Below Applies (number r)
      → (b ≡ false → Below Applies (number r + 1) → C.Says rest) → C.Says (cond b (C.refused r) rest)
  when r own true rest t B go = C.says r (record { applies = t.0 refl; none_lower = B })
  when r own false rest t B go = go refl (more r own B (λ a. not_both false (t.1 a) refl))

  -- A test that refuses where it fails gives an answer that says what it must, if what comes after the test does.
  pub unless : (r : Refusal) → C.due (number r) ≡ r → (b : Bool) (rest : Answer) → (b ≡ false) ↔ Applies r → Below Applies (number r)
      → (b ≡ true → Below Applies (number r + 1) → C.Says rest) → C.Says (cond b rest (C.refused r))
  unless r own false rest t B go = C.says r (record { applies = t.0 refl; none_lower = B })
  unless r own true rest t B go = go refl (more r own B (λ a. not_both true refl (t.1 a)))

  -- After all the tests of a chain no refusal applies.
  pub past : Below Applies C.end → (q : Refusal) → Applies q → ⊥
  past B q a = B q (C.known q a).1 a

  -- There is only one lowest refusal that applies.
  pub one_lowest : (q r : Refusal) → Lowest Applies q → Lowest Applies r → q ≡ r
  one_lowest q r Q R = by_lt (number q) (number r) (q ≡ r)
      (λ l. absurd (R.none_lower q l Q.applies))
      (λ g. by_lt (number r) (number q) (q ≡ r)
      (λ l. absurd (Q.none_lower r l R.applies))
      (λ h.
      let e : number q ≡ number r = omega arith in
      sym (C.known q Q.applies).2 ∙ ap C.due e ∙ (C.known r R.applies).2))
