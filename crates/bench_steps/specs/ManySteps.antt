-- Many steps are made here, one after the other.
use Rattle.std.specs.Prelude.{ℕ, zero, suc, ◌+◌, ◌*◌, List}
use Rattle.scheduler.specs.declared.State.{State}
use Rattle.decisions.specs.declared.Tally.{Tally}
use Rattle.decisions.specs.Fits.{no_ticks}
use Rattle.scheduler.specs.Steps.{step_of}
use Rattle.node.specs.Calls.{BothLeft, step_on}

-- `steps_on` makes n steps on words.
unfoldable pub steps_on : List ℕ → List ℕ → ℕ → BothLeft
steps_on state tally zero = record { answer = 0; state = state; tally = tally }
steps_on state tally (suc n) = step_on (steps_on state tally n).state (steps_on state tally n).tally

-- A pair has a state and its tally.
pub record Pair : Type 0 where
  pub state : State
  pub tally : Tally

-- `steps_of` makes n steps by value, from a tally of zeros.
unfoldable pub steps_of : State → ℕ → Pair
steps_of s zero = record { state = s; tally = no_ticks }
steps_of s (suc n) = record { state = (step_of (steps_of s n).state (steps_of s n).tally).state; tally = (step_of (steps_of s n).state (steps_of s n).tally).tally }

-- The count is the slot ticks, and above them the tail ticks.
abbrev pub counted : Pair → ℕ
counted p = p.tally.slot + 4294967296 * p.tally.tail
