-- These are the rounds (RULES 10) as they are computed, and what their outcome says: a window is the least, or none is
-- within the limit, and the rounds counted are the replacements done.
use Rattle.std.specs.Prelude.{ℕ, zero, suc, ◌+◌, ◌≤◌, ◌<◌, ◌≡◌, ◌≢◌, cond, leb, eqb}
use Rattle.theory.specs.Rules.{Rules, demand}

-- `value` is the value after n rounds.
unfoldable pub value : Rules → ℕ → ℕ → ℕ
value R i zero = R.C i + R.S
value R i (suc n) = demand R i (value R i n)

-- The rounds of a task end with a window and the rounds done, or without a window and with the rounds done.
pub data Outcome : Type 0 where
  found : ℕ → ℕ → Outcome
  none : ℕ → Outcome

-- The rounds go on from the value w, n of them done: while the value is at most the limit, a round replaces it by its
-- demand. A round that changes nothing ends with that value, a value above the limit without a window.
unfoldable pub rounds : (ℕ → ℕ) → ℕ → ℕ → ℕ → ℕ → Outcome
rounds demanded limit zero n w = none n
rounds demanded limit (suc most) n w =
    cond (leb w limit)
    (cond (eqb (demanded w) w) (found w (n + 1)) (rounds demanded limit most (n + 1) (demanded w)))
    (none n)

-- The search for task i's window begins with C + S. The value rises in every round but the last, so that limit + 1
-- rounds are always enough (`outcome_says` shows that they never run out).
unfoldable pub outcome : Rules → ℕ → ℕ → Outcome
outcome R i limit = rounds (demand R i) limit (limit + 1) 0 (R.C i + R.S)

-- The search succeeded: n replacements, of which only the last changed nothing, end at w.
pub record Found (R : Rules) (i limit w n : ℕ) : Type 0 where
  pub last : ℕ
  pub counted : n ≡ suc last
  pub is : value R i last ≡ w
  pub unchanged : value R i (suc last) ≡ w
  pub changed : (k : ℕ) → k < last → value R i (suc k) ≢ value R i k
  pub within : w ≤ limit

-- The search failed: n replacements, each of which changed the value, end above the limit.
pub record Overrun (R : Rules) (i limit n : ℕ) : Type 0 where
  pub above : limit < value R i n
  pub changed : (k : ℕ) → k < n → value R i (suc k) ≢ value R i k
  pub within : (k : ℕ) → k < n → value R i k ≤ limit

-- An outcome with a window says that the search succeeded, one without that it failed.
abbrev pub Says : Rules → ℕ → ℕ → Outcome → Type 0
Says R i limit (found w n) = Found R i limit w n
Says R i limit (none n) = Overrun R i limit n

-- The window of task i is w: the least number of at least 1 and at most the limit whose demand is at most it.
pub record Window (R : Rules) (i limit w : ℕ) : Type 0 where
  pub some : 1 ≤ w
  pub within : w ≤ limit
  pub fits : demand R i w ≤ w
  pub least : (x : ℕ) → demand R i x ≤ x → w ≤ x
