-- This file has a set of tasks, the boundary from which a job may run (RULES 7.2), and the demand of a window
-- (RULES 9.2). Task j of these definitions is task j + 1 of docs/RULES.md.
use Rattle.std.specs.Prelude.{ℕ, ◌+◌, ◌*◌}
use Rattle.base.specs.Sum.{sum_to}
use Rattle.theory.specs.Round.{ceil}

-- A set of tasks has the harmonizing period H and the sleep time S; by index, the work C, the period T, the ticks D
-- that a job has from its release on, and the most ticks that a job waits for its boundary; and it says at which ticks
-- a task may be released.
pub record Rules : Type 1 where
  pub H : ℕ
  pub S : ℕ
  pub C : ℕ → ℕ
  pub T : ℕ → ℕ
  pub D : ℕ → ℕ
  pub wait : ℕ → ℕ
  pub Ok : ℕ → ℕ → Type 0

-- `ready` is the smallest multiple of h that is at least a: a job released at a may run from there.
unfoldable pub ready : ℕ → ℕ → ℕ
ready h a = ceil a h * h

-- `demand` is the demand of a window of w ticks at task i.
unfoldable pub demand : Rules → ℕ → ℕ → ℕ
demand R i w =
    R.C i + ceil w R.H * R.S + sum_to i (λ j. R.C j * ceil (ceil w R.H * R.H) (R.T j))
