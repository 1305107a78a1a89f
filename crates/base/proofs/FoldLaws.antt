-- A fold over a list goes part by part, and keeps what each of its steps keeps.
use mathlib.Core.Path.{◌≡◌, refl}
use mathlib.Core.List.{List, [], ◌∷◌, ◌++◌}
use Rattle.base.specs.Fold.{folded}

-- A fold over two lists, one after the other, folds the first and then the second.
pub folded_append : {A B : Type 0} (step : A → B → A) (a : A) (xs ys : List B) → folded step a (xs ++ ys) ≡ folded step (folded step a xs) ys
unfolding folded
folded_append step a [] ys = refl
folded_append step a (x ∷ xs) ys = folded_append step (step a x) xs ys

-- What each step keeps, the whole fold keeps.
pub folded_keeps {ℓ} : {A B : Type 0} (P : A → Type ℓ) (step : A → B → A) → ((a : A) (b : B) → P a → P (step a b)) → (a : A) (bs : List B) → P a → P (folded step a bs)
unfolding folded
folded_keeps P step keeps a [] p = p
folded_keeps P step keeps a (b ∷ bs) p = folded_keeps P step keeps (step a b) bs (keeps a b p)
