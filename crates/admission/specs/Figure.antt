-- The limit and the response figure are those of RULES 9, "The window", both over the wait for a boundary. Task i of
-- these definitions is task i + 1 of docs/RULES.md.
use Rattle.std.specs.Prelude.{ℕ, ◌+◌, ◌-◌}
use Rattle.theory.specs.Rules.{Rules}

-- The limit of a window is the ticks that a job has, without those that it may wait; it is never below 0.
abbrev pub limit : Rules → ℕ → ℕ
limit R i = R.D i - R.wait i

-- The response figure is the window after the wait.
abbrev pub figure : Rules → ℕ → ℕ → ℕ
figure R i window = window + R.wait i
