-- The first of some numbers at which a test holds is the search under every "first such record" and "lowest-numbered
-- task" of docs/RULES.md.
use Rattle.std.specs.Prelude.{ℕ, zero, suc, ◌+◌, Bool, cond, ltb, Option, Some, None}

-- `first_from` gives the first of the `left` numbers from k on at which the test holds, or the number after them where
-- it holds at none.
unfoldable pub first_from : (ℕ → Bool) → ℕ → ℕ → ℕ
first_from test zero k = k
first_from test (suc left) k = cond (test k) k (first_from test left (k + 1))

-- `found_in` reads what such a search gives: a number below the end was found, and the end itself says that none was.
abbrev pub found_in : ℕ → ℕ → Option ℕ
found_in f end = cond (ltb f end) (Some f) None
