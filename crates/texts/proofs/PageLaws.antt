-- A page that has room holds exactly what was written: its first bytes are the text, in order.
use Prim.Native.Nat.{ℕ, ◌+◌, ◌≤◌, ◌<◌}
use mathlib.Core.Path.{◌≡◌, refl, ap, sym, ◌∙◌}
use mathlib.Core.List.{List, [], ◌∷◌, ◌++◌, append_assoc, append-nil}
use mathlib.Core.Bool.{Bool, true, false, cond}
use native.Mathlib.Omega.{arith}
use native.Mathlib.Numerals.{add-one}
use lib.Dec.{ltb}
use lib.ListN.{length, take, set, length-set}
use lib.Seq.{take-suc-set}
use borrow.Author.Tests.{ltb-true, lt-ltb}
use Rattle.texts.specs.declared.Page.{Page}
use Rattle.texts.specs.Pages.{room, blank, put, shown}

-- A page is whole that has its size, and no more written than it holds.
pub record Whole (page : Page) : Type 0 where
  pub size : length page.text ≡ room
  pub within : page.len ≤ room

put_whole : (page : Page) (b : ℕ) → Whole page → Whole (put page b)
unfolding put
put_whole page b W = go (ltb page.len room) refl
  where
    go : (t : Bool) → ltb page.len room ≡ t → Whole (cond t (record { text = set page.text page.len b; len = page.len + 1 }) page)
    go true e = record { size = length-set page.text page.len b ∙ W.size; within = omega (arith, ltb-true page.len room e) }
    go false e = W

-- A page stays whole, whatever is written.
pub shown_whole : (page : Page) (text : List ℕ) → Whole page → Whole (shown page text)
unfolding shown
shown_whole page [] W = W
shown_whole page (b ∷ text) W = shown_whole (put page b) text (put_whole page b W)

-- A blank page is whole.
pub blank_whole : Whole blank
blank_whole = record { size = refl; within = omega arith }

-- What is shown on a blank page has no more bytes than the page.
pub shown_within : (text : List ℕ) → (shown blank text).len ≤ length (shown blank text).text
shown_within text = let W = shown_whole blank text blank_whole in omega (arith, W.size, W.within)

-- A byte for which there is room is written at the end of what stands there.
put_here : (page : Page) (b : ℕ) → page.len < room → put page b ≡ record { text = set page.text page.len b; len = page.len + 1 }
unfolding put
put_here page b l = rw (lt-ltb page.len room l)

-- WHAT A PAGE SHOWS: a text for which there is room stands after what stood there.
pub shown_says : (page : Page) (text : List ℕ) → Whole page → page.len + length text ≤ room
    → ((shown page text).len ≡ page.len + length text)
    × (take (shown page text).len (shown page text).text ≡ take page.len page.text ++ text)
unfolding shown
shown_says page [] W l = (omega arith, sym (append-nil (take page.len page.text)))
shown_says page (b ∷ text) W l =
    let here : page.len < room = omega arith in
    let next : Page = record { text = set page.text page.len b; len = page.len + 1 } in
    let W' : Whole next = record { size = length-set page.text page.len b ∙ W.size; within = omega arith } in
    let I = shown_says next text W' (omega arith) in
    let one : take (page.len + 1) (set page.text page.len b) ≡ take page.len page.text ++ (b ∷ []) =
    rw add-one (take-suc-set page.text page.len b (omega (arith, W.size))) in
    let e : shown page (b ∷ text) ≡ shown next text = ap (λ (q : Page). shown q text) (put_here page b here) in
    rw e (omega (arith, I.0), I.1 ∙ (rw one (append_assoc (take page.len page.text) (b ∷ []) text)))
