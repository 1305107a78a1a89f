-- This file says when a task may be released, and how long its job may then wait for its boundary. The release test,
-- the rules of a state, the set's rules, its limits and its figures all read it here.
use Rattle.std.specs.Prelude.{ℕ, zero, suc, ◌-◌, ◌%◌, Bool, ◌||◌, not, eqb}

-- The task at place i, from 0, may be released at tick t, h being H, where this holds: the first task may at multiples
-- of H alone, any other at every tick.
unfoldable pub release_time : ℕ → ℕ → ℕ → Bool
release_time h i t = not (eqb i 0) || eqb (t % h) 0

-- `waiting i h` is the most whole ticks that a job of the task at place i waits for its boundary: a job of the first
-- task waits none, one of another H - 1.
unfoldable pub waiting : ℕ → ℕ → ℕ
waiting zero h = 0
waiting (suc i) h = h - 1
