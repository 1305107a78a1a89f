-- A list by index has at each index what was asked for, and every list is such a list: two lists are equal where their
-- lengths and their elements are.
use Prim.Native.Nat.{ℕ, zero, suc, ◌<◌}
use mathlib.Core.Path.{◌≡◌, refl, ap, sym, ◌∙◌}
use mathlib.Core.Logic.{inl, inr}
use mathlib.Core.List.{List, [], ◌∷◌, ◌++◌}
use native.Mathlib.Omega.{arith}
use lib.ListN.{length, get_or, length-append, get_or-append}
use lib.Seq.{get_or-append_seam, ext_get_or}
use Rattle.base.specs.List.{list_from, Each, In}
use Rattle.base.proofs.Split.{by_eq}

-- The list of f 0 to f (n - 1) has length n.
pub length_list : {A : Type 0} (f : ℕ → A) (n : ℕ) → length (list_from f n) ≡ n
unfolding list_from length
length_list f zero = refl
length_list f (suc n) =
    let e = length-append (list_from f n) (f n ∷ []) in
    let p = length_list f n in
    omega arith

-- The list by index has f i at place i.
pub list_at : {A : Type 0} (f : ℕ → A) (n i : ℕ) (d : A) → i < n → get_or (list_from f n) i d ≡ f i
unfolding list_from
list_at f zero i d l = absurd (let z : ⊥ = omega arith in z)
list_at {A} f (suc n) i d l = by_eq i n (get_or (list_from f n ++ f n ∷ []) i d ≡ f i)
    (λ q. let e : i ≡ length (list_from f n) = omega (arith, length_list f n) in
    ap (λ (x : ℕ). get_or (list_from f n ++ f n ∷ []) x d) e ∙ get_or-append_seam (list_from f n) (f n) [] d ∙ ap f (sym q))
    (λ u. get_or-append (list_from f n) (f n ∷ []) d i (omega (arith, length_list f n)) ∙ list_at f n i d (omega arith))

-- Two lists by index are equal where their elements are.
pub list_same : {A : Type 0} (f g : ℕ → A) (n : ℕ) → ((i : ℕ) → i < n → f i ≡ g i) → list_from f n ≡ list_from g n
unfolding list_from
list_same f g zero e = refl
list_same f g (suc n) e = rw (list_same f g n (λ i l. e i (omega arith)), e n (omega arith))

-- Every list is the list by index of its own elements.
pub list_back : {A : Type 0} (xs : List A) (d : A) → list_from (λ i. get_or xs i d) (length xs) ≡ xs
list_back xs d = ext_get_or d (list_from (λ i. get_or xs i d) (length xs)) xs (length_list (λ i. get_or xs i d) (length xs))
    (λ i l. list_at (λ i. get_or xs i d) (length xs) i d (omega (arith, length_list (λ i. get_or xs i d) (length xs))))

-- What each element of a list has, any one of them has.
pub each_says : {A : Type 0} (P : A → Type 0) (x : A) (xs : List A) → Each P xs → In x xs → P x
unfolding Each In
each_says P x [] e i = absurd i
each_says P x (y ∷ ys) e (inl q) = rw q e.0
each_says P x (y ∷ ys) e (inr i) = each_says P x ys e.1 i
