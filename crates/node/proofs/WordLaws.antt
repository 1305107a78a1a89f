-- Words put into a buffer where there is room for them: those that are put stand there, the others stay, and as many as
-- the buffer has are all that it holds.
use Prim.Native.Nat.{ℕ, ◌+◌, ◌-◌, ◌≤◌, ◌<◌}
use mathlib.Core.Path.{◌≡◌, sym, ◌∙◌, ap}
use mathlib.Core.Logic.{◌⊎◌, ⊎_elim}
use mathlib.Core.List.{List, ◌++◌, append_assoc, append-nil}
use native.Mathlib.Omega.{arith}
use lib.ListN.{length, get_or, take, drop, length-append, get_or-append}
use lib.Seq.{get_or-append-add, take-append_seam, drop-append-add}
use Rattle.std.proofs.Common.{length-drop}
use Rattle.std.proofs.lemmas.List.{get_or-take, get_or-drop, length-take-le, drop_all, drop-drop}
use Rattle.node.specs.Words.{puts}

module _ (xs : List ℕ) (k : ℕ) (ws : List ℕ) (room : k + length ws ≤ length xs) where
  -- What stands before the words that are put.
  before : length (take k xs) ≡ k
  before = length-take-le k xs (omega arith)

  -- Words that are put change no length.
  pub length_puts : length (puts xs k ws) ≡ length xs
  length_puts = simp (length-append, length-drop) (omega (arith, before))

  -- The words of a buffer before and after those that are put stay as they were.
  pub puts_out : (m : ℕ) → (m < k) ⊎ (k + length ws ≤ m) → get_or (puts xs k ws) m 0 ≡ get_or xs m 0
  puts_out m = ⊎_elim
      (λ l. get_or-append (take k xs) (ws ++ drop (k + length ws) xs) 0 m (omega (arith, before)) ∙ get_or-take k xs m 0 l)
      (λ g.
      let e : m ≡ length (take k xs) + (length ws + (m - (k + length ws))) = omega (arith, before) in
      let f : k + length ws + (m - (k + length ws)) ≡ m = omega arith in
      ap (λ (y : ℕ). get_or (puts xs k ws) y 0) e
      ∙ get_or-append-add (take k xs) (ws ++ drop (k + length ws) xs) (length ws + (m - (k + length ws))) 0
      ∙ get_or-append-add ws (drop (k + length ws) xs) (m - (k + length ws)) 0
      ∙ get_or-drop (k + length ws) xs (m - (k + length ws)) 0
      ∙ ap (λ (y : ℕ). get_or xs y 0) f)

  -- The words that are put stand in the buffer.
  pub puts_in : (q : ℕ) → q < length ws → get_or (puts xs k ws) (k + q) 0 ≡ get_or ws q 0
  puts_in q l =
      let e : k + q ≡ length (take k xs) + q = omega (arith, before) in
      ap (λ (y : ℕ). get_or (puts xs k ws) y 0) e
      ∙ get_or-append-add (take k xs) (ws ++ drop (k + length ws) xs) q 0
      ∙ get_or-append ws (drop (k + length ws) xs) 0 q l

-- Words put after those at the start are the same as all of them put at once.
pub puts_more : (xs vs ws : List ℕ) (k : ℕ) → k ≡ length vs → puts (puts xs 0 vs) k ws ≡ puts xs 0 (vs ++ ws)
puts_more xs vs ws k e =
    let rest = drop (0 + length vs) xs in
    let n : 0 + length vs + length ws ≡ 0 + length (vs ++ ws) = omega (arith, length-append vs ws) in
    rw (e, take-append_seam vs rest, drop-append-add vs rest (length ws), drop-drop (length ws) (0 + length vs) xs, n) (sym (append_assoc vs ws (drop (0 + length (vs ++ ws)) xs)))

-- A buffer holds just the words that are put into it where they are as many as it has.
pub puts_whole : (xs ws : List ℕ) → length ws ≡ length xs → puts xs 0 ws ≡ ws
puts_whole xs ws e = ap (λ (ys : List ℕ). ws ++ ys) (drop_all (0 + length ws) xs (omega arith)) ∙ append-nil ws
