-- A fold is what a list makes of a start, one element after another.
use Rattle.std.specs.Prelude.{List, [], ◌∷◌}

-- `folded` takes each element of the list in turn, the first one first.
unfoldable pub folded : {A B : Type 0} → (A → B → A) → A → List B → A
folded step a [] = a
folded step a (b ∷ bs) = folded step (step a b) bs
