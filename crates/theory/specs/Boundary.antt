-- This is the boundary at which the next sleep slot starts.
use Rattle.std.specs.Prelude.{ℕ, suc, ◌*◌, ◌/◌}

-- `boundary` is the first boundary after the clock t.
unfoldable pub boundary : ℕ → ℕ → ℕ
boundary h t = suc (t / h) * h
