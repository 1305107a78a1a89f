-- This is the layout of the buffers that a caller lends: the 32-bit words of a state, a tally and a verdict in their
-- order, and what words are read as. include/node.h has the same for C.
use Rattle.std.specs.Prelude.{ℕ, zero, suc, ◌+◌, ◌*◌, List, [], ◌∷◌, ◌++◌, Bool, ◌&&◌, ◌||◌, eqb, length, get_or, take, drop, Option, Some, None}
use Rattle.base.specs.Every.{every}
use Rattle.base.specs.List.{list_from}
use Rattle.table.specs.declared.Record.{Record}
use Rattle.table.specs.Sound.{places}
use Rattle.admission.specs.declared.Row.{Row}
use Rattle.admission.specs.declared.Verdict.{Verdict}
use Rattle.admission.specs.Verdicts.{no_row}
use Rattle.decisions.specs.declared.Job.{Job}
use Rattle.decisions.specs.declared.Job.TheVariants.{Resting, Working}
use Rattle.decisions.specs.declared.Entry.{Entry}
use Rattle.scheduler.specs.declared.State.{State}
use Rattle.decisions.specs.declared.Tally.{Tally}
use Rattle.decisions.specs.Fits.{no_entry}

-- These say HOW MANY WORDS stand before the first place, and how many a place, a state, a tally and a verdict have.
abbrev pub head_size : ℕ
head_size = 7

abbrev pub place_size : ℕ
place_size = 9

abbrev pub state_size : ℕ
state_size = head_size + place_size * places

abbrev pub tally_size : ℕ
tally_size = 4

abbrev pub verdict_size : ℕ
verdict_size = places + places + places

-- These say WHERE WORDS STAND: `place_start` is a place's first word, and the others are counted from there on, the
-- record first, then job and last release.
abbrev pub place_start : ℕ → ℕ
place_start i = head_size + place_size * i

abbrev pub label_at : ℕ
label_at = 0

abbrev pub work_at : ℕ
work_at = 1

abbrev pub period_at : ℕ
period_at = 2

abbrev pub reserved_at : ℕ
reserved_at = 3

abbrev pub job_at : ℕ
job_at = 4

abbrev pub release_at : ℕ
release_at = 5

abbrev pub left_at : ℕ
left_at = 6

abbrev pub last_at : ℕ
last_at = 7

abbrev pub tick_at : ℕ
tick_at = 8

-- The number n, the clock and the waking length stand after the sleep record.
abbrev pub n_at : ℕ
n_at = 4

abbrev pub clock_at : ℕ
clock_at = 5

abbrev pub waking_at : ℕ
waking_at = 6

-- These say where the counts of a tally stand.
abbrev pub run_at : ℕ
run_at = 0

abbrev pub slot_at : ℕ
slot_at = 1

abbrev pub tail_at : ℕ
tail_at = 2

abbrev pub wakings_at : ℕ
wakings_at = 3

-- A record IS WRITTEN as its label, work, period and reserved field.
abbrev pub record_words : Record → List ℕ
record_words r = r.label ∷ r.work ∷ r.period ∷ r.reserved ∷ []

-- A job is written as 0 resting or 1 at work, then its release tick and its work left.
abbrev pub job_words : Job → List ℕ
job_words Resting = 0 ∷ 0 ∷ 0 ∷ []
job_words (Working a l) = 1 ∷ a ∷ l ∷ []

-- A last release is written as 0 never or 1 at a tick, then that tick.
abbrev pub last_words : Option ℕ → List ℕ
last_words None = 0 ∷ 0 ∷ []
last_words (Some a) = 1 ∷ a ∷ []

-- A place is written as its record, its job and its last release.
abbrev pub entry_words : Entry → List ℕ
entry_words e = record_words e.task ++ job_words e.job ++ last_words e.last

-- The first n places are written one after the other.
unfoldable pub places_words : List Entry → ℕ → List ℕ
places_words entries zero = []
places_words entries (suc i) = places_words entries i ++ entry_words (get_or entries i no_entry)

-- What stands before the places is the sleep record, n, the clock and the waking length.
abbrev pub head_words : State → List ℕ
head_words s = record_words s.sleep ++ s.n ∷ s.clock ∷ s.waking ∷ []

-- A STATE is written as what stands before its places, then all places.
abbrev pub state_words : State → List ℕ
state_words s = head_words s ++ places_words s.entries places

-- A TALLY is written as its run, slot, tail and waking counts.
abbrev pub tally_words : Tally → List ℕ
tally_words t = t.run ∷ t.slot ∷ t.tail ∷ t.waking ∷ []

-- A VERDICT is written as its windows, figures and rounds by place.
abbrev pub by_place : (Row → ℕ) → Verdict → List ℕ
by_place part v = list_from (λ i. part (get_or v.rows i no_row)) places

abbrev pub verdict_words : Verdict → List ℕ
verdict_words v = by_place (λ r. r.window) v ++ by_place (λ r. r.figure) v ++ by_place (λ r. r.rounds) v

-- `place_of` is the words of place i.
abbrev pub place_of : List ℕ → ℕ → List ℕ
place_of words i = take place_size (drop (place_start i) words)

-- These ARE READ from words: word k; a record, a job, a last release and an entry whose first word has number k.
abbrev pub word_in : List ℕ → ℕ → ℕ
word_in words k = get_or words k 0

abbrev pub record_from : List ℕ → ℕ → Record
record_from words k =
    record { label = word_in words (k + label_at); work = word_in words (k + work_at); period = word_in words (k + period_at); reserved = word_in words (k + reserved_at) }

abbrev pub job_from : ℕ → ℕ → ℕ → Job
job_from zero a l = Resting
job_from (suc kind) a l = Working a l

abbrev pub last_from : ℕ → ℕ → Option ℕ
last_from zero a = None
last_from (suc kind) a = Some a

abbrev pub entry_from : List ℕ → ℕ → Entry
entry_from words k = record {
  task = record_from words k;
  job = job_from (word_in words (k + job_at)) (word_in words (k + release_at)) (word_in words (k + left_at));
  last = last_from (word_in words (k + last_at)) (word_in words (k + tick_at));
}

-- THE STATE AND THE TALLY of some words are what the words are read as.
abbrev pub entries_in : List ℕ → List Entry
entries_in words = list_from (λ i. entry_from words (place_start i)) places

abbrev pub state_in : List ℕ → State
state_in words =
    record { sleep = record_from words 0; n = word_in words n_at; clock = word_in words clock_at; waking = word_in words waking_at; entries = entries_in words }

abbrev pub tally_in : List ℕ → Tally
tally_in words =
    record { run = word_in words run_at; slot = word_in words slot_at; tail = word_in words tail_at; waking = word_in words wakings_at }

-- A kind is encoded where it is 1, or it is 0 and so is what it would carry.
abbrev pub kind_encoded : ℕ → ℕ → ℕ → Bool
kind_encoded kind a b = eqb kind 1 || eqb (kind + a + b) 0

-- `place_encoded` says that the words of a place from k on encode an entry.
abbrev pub place_encoded : List ℕ → ℕ → Bool
place_encoded words k =
    kind_encoded (word_in words (k + job_at)) (word_in words (k + release_at)) (word_in words (k + left_at))
    && kind_encoded (word_in words (k + last_at)) (word_in words (k + tick_at)) 0

-- THE WORDS ENCODE A STATE where there are as many as it has, and every place is encoded.
unfoldable pub encoded : List ℕ → Bool
encoded words = eqb (length words) state_size && every (λ i. place_encoded words (place_start i)) places

-- Words encode a tally where there are as many as it has.
abbrev pub tally_encoded : List ℕ → Bool
tally_encoded words = eqb (length words) tally_size
