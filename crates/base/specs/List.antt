-- Lists are given here by what stands at each index; a list has elements, and each of them may have a property.
use Rattle.std.specs.Prelude.{ℕ, zero, suc, ◌≡◌, ◌⊎◌, List, [], ◌∷◌, ◌++◌}

-- `list_from` is the list of f 0 to f (n - 1).
unfoldable pub list_from : {A : Type 0} → (ℕ → A) → ℕ → List A
list_from f zero = []
list_from f (suc n) = list_from f n ++ f n ∷ []

-- P holds of each element of the list.
unfoldable pub Each : {A : Type 0} → (A → Type 0) → List A → Type 0
Each P [] = Unit {0}
Each P (x ∷ xs) = P x × Each P xs

-- The list has x as an element.
unfoldable pub In : {A : Type 0} → A → List A → Type 0
In x [] = ⊥
In x (y ∷ ys) = (x ≡ y) ⊎ In x ys
