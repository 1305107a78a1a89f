-- This file says what each exported call gives on any words: its answer, one number, and what it leaves in the buffers.
use Rattle.std.specs.Prelude.{ℕ, ◌+◌, ◌*◌, List, Bool, cond, not, ◌&&◌, ◌||◌, eqb, ltb, length, get_or, drop, Result, Ok, Err}
use Rattle.std.specs.List.{list_all}
use Rattle.base.specs.Every.{every}
use Rattle.table.specs.declared.Refusal.{Refusal}
use Rattle.table.specs.declared.Refusal.TheVariants.{Unfit}
use Rattle.table.specs.declared.Told.{Told}
use Rattle.table.specs.Refusals.{told_of, search_gives}
use Rattle.admission.specs.declared.Verdict.{Verdict}
use Rattle.admission.specs.Verdicts.{admit_of}
use Rattle.decisions.specs.declared.Head.{Head}
use Rattle.decisions.specs.declared.Tick.{Tick}
use Rattle.decisions.specs.declared.Tick.TheVariants.{Run, Slot, Tail}
use Rattle.scheduler.specs.declared.Handed.{Handed}
use Rattle.scheduler.specs.declared.Moved.{Moved}
use Rattle.decisions.specs.Fits.{no_entry, place_fits}
use Rattle.scheduler.specs.States.{state_fits, period_before}
use Rattle.scheduler.specs.Starts.{Given, start_of}
use Rattle.scheduler.specs.Releases.{release_of}
use Rattle.scheduler.specs.Steps.{step_of}
use Rattle.decisions.specs.Energies.{powers, energy_of}
use Rattle.node.specs.Layout.{state_size, verdict_size, place_start, state_words, tally_words, verdict_words, place_encoded, entries_in, state_in, tally_in, encoded, tally_encoded}

-- AN ANSWER is one number: a refusal's number, or 0, in its low byte, and two parts above it.
abbrev pub packed : ℕ → ℕ → ℕ → ℕ
packed number a b = number + 256 * a + 65536 * b

-- A refusal is answered with its number, its record or task, and the rounds spent.
abbrev pub told_answer : Told → ℕ
told_answer t = packed t.number t.place t.rounds

-- A buffer of another length, and words that encode no state, get 6.
abbrev pub unfit_answer : ℕ
unfit_answer = told_answer (told_of Unfit)

abbrev pub answered : Result (Unit {0}) Refusal → ℕ
answered (Ok tt) = 0
answered (Err r) = told_answer (told_of r)

-- A tick is answered with its kind, 0 run, 1 slot or 2 tail, and the task that ran.
abbrev pub tick_answer : Tick → ℕ
tick_answer (Run task) = packed 0 0 task
tick_answer Slot = packed 0 1 0
tick_answer Tail = packed 0 2 0

abbrev pub ticked_answer : Result Tick Refusal → ℕ
ticked_answer (Ok t) = tick_answer t
ticked_answer (Err r) = told_answer (told_of r)

-- These records are what a call leaves: admission leaves the verdict, a start and a release the state, a step the state
-- and the tally.
pub record VerdictLeft : Type 0 where
  pub answer : ℕ
  pub verdict : List ℕ

pub record StateLeft : Type 0 where
  pub answer : ℕ
  pub state : List ℕ

pub record BothLeft : Type 0 where
  pub answer : ℕ
  pub state : List ℕ
  pub tally : List ℕ

-- The verdict is written where the test was made, that is where the set is admitted or a task has no window.
abbrev pub judged_on : Verdict → List ℕ → Result ℕ Refusal → VerdictLeft
judged_on v words (Ok n) =
    cond (eqb (length words) verdict_size) (record { answer = packed 0 n 0; verdict = verdict_words v }) (record { answer = unfit_answer; verdict = words })
judged_on v words (Err r) =
    record { answer = told_answer (told_of r); verdict = cond (search_gives r && eqb (length words) verdict_size) (verdict_words v) words }

-- THE ADMISSION TEST of a table leaves its answer and the verdict's words.
abbrev pub admit_on : List ℕ → List ℕ → VerdictLeft
admit_on table words = judged_on (admit_of table) words (admit_of table).answer

-- `after_unfit` tells whether a refusal's number is above 6.
abbrev pub after_unfit : Refusal → Bool
after_unfit r = ltb (told_of Unfit).number (told_of r).number

-- A refused start leaves the buffer as it is; where the buffer has another length it gets 6, unless a lower number
-- applies.
abbrev pub started_on : Handed (Unit {0}) → List ℕ → Result (Unit {0}) Refusal → StateLeft
started_on s words (Ok tt) =
    cond (eqb (length words) state_size) (record { answer = 0; state = state_words s.state }) (record { answer = unfit_answer; state = words })
started_on s words (Err r) =
    record { answer = cond (eqb (length words) state_size || not (after_unfit r)) (told_answer (told_of r)) unfit_answer; state = words }

-- A START leaves its answer and the words of the fresh state.
abbrev pub start_on : Given → List ℕ → StateLeft
start_on g words = started_on (start_of g) words (start_of g).answer

-- A RELEASE on words is the release on the state that they encode.
abbrev pub released_on : Handed (Unit {0}) → StateLeft
released_on r = record { answer = answered r.answer; state = state_words r.state }

unfoldable pub release_on : List ℕ → ℕ → ℕ → StateLeft
release_on words task demand =
    cond (encoded words) (released_on (release_of (state_in words) task demand)) (record { answer = unfit_answer; state = words })

-- A STEP on words is the step on the state and the tally that they encode.
abbrev pub moved_on : Moved → BothLeft
moved_on m = record { answer = ticked_answer m.answer; state = state_words m.state; tally = tally_words m.tally }

unfoldable pub step_on : List ℕ → List ℕ → BothLeft
step_on words tally =
    cond (encoded words && tally_encoded tally) (moved_on (step_of (state_in words) (tally_in tally)))
    (record { answer = unfit_answer; state = words; tally = tally })

-- AN ENERGY READING is answered with the number, and the nanojoules above it.
abbrev pub reading_answer : Result ℕ Refusal → ℕ
reading_answer (Ok nanojoules) = 256 * nanojoules
reading_answer (Err r) = told_answer (told_of r)

unfoldable pub energy_on : List ℕ → ℕ → ℕ → ℕ → ℕ
energy_on tally run sleep waking = cond (tally_encoded tally) (reading_answer (energy_of (tally_in tally) (powers run sleep waking))) unfit_answer

-- Words fit where they encode a state and it keeps its rules.
abbrev pub words_fit : List ℕ → Bool
words_fit words = encoded words && state_fits (state_in words)

-- Place i fits where it is encoded and keeps its rules, after one of period `above`.
abbrev pub place_fits_in : List ℕ → Head → ℕ → ℕ → Bool
place_fits_in words head i above = place_encoded words (place_start i) && place_fits head i above (get_or (entries_in words) i no_entry)

-- The first m places fit where every one of them is encoded and keeps its rules.
abbrev pub places_fit_in : List ℕ → Head → ℕ → Bool
places_fit_in words head m = every (λ i. place_fits_in words head i (period_before (entries_in words) i)) m

-- The spare places are blank where every word from the first of them on is 0.
abbrev pub spares_blank : List ℕ → ℕ → Bool
spares_blank words n = list_all (λ w. eqb w 0) (drop (place_start n) words)
