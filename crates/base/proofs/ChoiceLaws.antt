-- These laws say what is known of a choice by a test, and of two tests in one.
use mathlib.Core.Path.{◌≡◌, refl}
use mathlib.Core.Bool.{Bool, true, false, cond, ◌&&◌, and-eq-true_iff}

-- A choice that came out as something that the second is not was the first.
pub chosen : {A : Type 0} (b : Bool) (x y r : A) → (y ≡ r → ⊥) → cond b x y ≡ r → (b ≡ true) × (x ≡ r)
chosen true x y r n e = (refl, e)
chosen false x y r n e = absurd (n e)

-- A choice that came out as something that the first is not was the second.
pub passed : {A : Type 0} (b : Bool) (x y r : A) → (x ≡ r → ⊥) → cond b x y ≡ r → (b ≡ false) × (y ≡ r)
passed true x y r n e = absurd (n e)
passed false x y r n e = (refl, e)

-- A property that both sides of a choice have is one of the choice.
pub either {ℓ} : {A : Type 0} (P : A → Type ℓ) (b : Bool) (x y : A) → P x → P y → P (cond b x y)
either P true x y p q = p
either P false x y p q = q

-- Both parts of a test that holds are true.
pub both : (a b : Bool) → a && b ≡ true → (a ≡ true) × (b ≡ true)
both a b = (and-eq-true_iff a b).0
