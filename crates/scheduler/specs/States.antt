-- A state (RULES 4) is defined here: what it holds and how it changes, and its rules, which are those of its head and of
-- every place (decisions/specs/Fits.antt).
use Rattle.std.specs.Prelude.{ℕ, zero, suc, ◌+◌, List, Bool, ◌&&◌, get_or, set, replicate, None}
use Rattle.base.specs.Every.{every}
use Rattle.table.specs.declared.Record.{Record}
use Rattle.table.specs.Bytes.{record_at}
use Rattle.table.specs.Sound.{places}
use Rattle.decisions.specs.declared.Job.TheVariants.{Resting}
use Rattle.decisions.specs.declared.Entry.{Entry}
use Rattle.decisions.specs.declared.Head.{Head}
use Rattle.decisions.specs.Fits.{no_entry, place_fits, head_fits}
use Rattle.scheduler.specs.declared.State.{State}

-- `entry_in` is the entry of the task at place i.
abbrev pub entry_in : State → ℕ → Entry
entry_in s i = get_or s.entries i no_entry

-- The head is what a state holds beside its entries: the sleep record, the number of tasks, the clock and the waking
-- length.
abbrev pub head_of : State → Head
head_of s = record { sleep = s.sleep; n = s.n; clock = s.clock; waking = s.waking }

-- `with_entries` is the state with other entries.
abbrev pub with_entries : State → List Entry → State
with_entries s entries = record { sleep = s.sleep; n = s.n; clock = s.clock; waking = s.waking; entries = entries }

-- `with_entry` is the state with another entry at place i.
abbrev pub with_entry : State → ℕ → Entry → State
with_entry s i e = with_entries s (set s.entries i e)

-- `aged` is the state one tick on.
abbrev pub aged : State → State
aged s = record { sleep = s.sleep; n = s.n; clock = s.clock + 1; waking = s.waking; entries = s.entries }

-- `with_waking` is the state with another waking length.
abbrev pub with_waking : State → ℕ → State
with_waking s v = record { sleep = s.sleep; n = s.n; clock = s.clock; waking = v; entries = s.entries }

-- `record_in` is record k of the state's table: record 0 is the sleep record, record k that of the task at place k - 1.
unfoldable pub record_in : State → ℕ → Record
record_in s zero = s.sleep
record_in s (suc i) = (entry_in s i).task

-- `period_before` is the period of the task before the one at place i, or 0: none stands before the first.
unfoldable pub period_before : List Entry → ℕ → ℕ
period_before entries zero = 0
period_before entries (suc i) = (get_or entries i no_entry).task.period

-- `places_fit` tests every place.
abbrev pub places_fit : Head → List Entry → Bool
places_fit head entries = every (λ i. place_fits head i (period_before entries i) (get_or entries i no_entry)) places

-- THE RULES OF A STATE are those of its head and those of every place.
unfoldable pub state_fits : State → Bool
state_fits s = head_fits (head_of s) (record_in s 1) && places_fit (head_of s) s.entries

-- `entries_of` gives the entries of the first n tasks of a table, resting and never released, then spare places.
unfoldable pub entries_of : List ℕ → ℕ → List Entry
entries_of table zero = replicate places no_entry
entries_of table (suc i) = set (entries_of table i) i (record { task = record_at table (i + 1); job = Resting; last = None })
