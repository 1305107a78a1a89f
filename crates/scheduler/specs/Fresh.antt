-- What an accepted start hands back (RULES 5.3) is stated here as facts.
use Rattle.std.specs.Prelude.{ℕ, ◌≤◌, ◌<◌, ◌≡◌, length, None}
use Rattle.table.specs.Bytes.{record_at}
use Rattle.table.specs.Sound.{places}
use Rattle.decisions.specs.declared.Job.TheVariants.{Resting}
use Rattle.scheduler.specs.declared.State.{State}
use Rattle.decisions.specs.Fits.{no_entry}
use Rattle.scheduler.specs.States.{entry_in, record_in}
use Rattle.scheduler.specs.Starts.{Given}

-- The state holds the table of n tasks and the waking length, the clock is 0, every task rests with the mark "never",
-- and every place after the tasks is a spare one.
pub record Fresh (g : Given) (n : ℕ) (s : State) : Type 0 where
  pub tasks : s.n ≡ n
  pub records : (k : ℕ) → k ≤ n → record_in s k ≡ record_at g.table k
  pub waking_is : s.waking ≡ g.waking
  pub clock_zero : s.clock ≡ 0
  pub resting : (i : ℕ) → i < n → (entry_in s i).job ≡ Resting
  pub never : (i : ℕ) → i < n → (entry_in s i).last ≡ None
  pub spare : (i : ℕ) → n ≤ i → i < places → entry_in s i ≡ no_entry
  pub room : length s.entries ≡ places
