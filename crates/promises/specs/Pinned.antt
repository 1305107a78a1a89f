-- What no theorem can see: numbers, answers and the order of words, held against literal numbers. A definition that is
-- wrong together with its code is refused here.
use Rattle.std.specs.Prelude.{ℕ, ◌≡◌, refl, Bool, true, false, [], ◌∷◌, ◌++◌, replicate, set, Ok, Some}
use Rattle.base.specs.First.{first_from}
use Rattle.base.specs.Sum.{sum_to}
use Rattle.base.specs.Every.{every}
use Rattle.base.specs.List.{list_from}
use Rattle.theory.specs.Round.{ceil}
use Rattle.theory.specs.Rules.{demand}
use Rattle.theory.specs.Rounds.{rounds, outcome}
use Rattle.table.specs.declared.Refusal.TheVariants.{Length, Broken, Falling, Sleep, NoWindow, Unfit, ClockEnd, NoTask, Demand, OffBoundary, Working, Early, Power, LongWaking}
use Rattle.table.specs.declared.Told.{Told}
use Rattle.table.specs.Bytes.{word_at, record_at}
use Rattle.table.specs.Refusals.{told_of, Givers, givers}
use Rattle.table.specs.Times.{waiting, release_time}
use Rattle.table.specs.Sound.{largest, places, ask_records, ask_order, ask_sleep, read_of}
use Rattle.admission.specs.Verdicts.{row, no_rows, verdict, walk_from}
use Rattle.decisions.specs.declared.Job.TheVariants as job
use Rattle.scheduler.specs.declared.State.{State}
use Rattle.decisions.specs.declared.Tick.TheVariants.{Run, Slot, Tail}
use Rattle.decisions.specs.Fits.{clock_end, no_entry}
use Rattle.decisions.specs.Energies.{power_most}
use Rattle.scheduler.specs.Starts.{Given, read_given}
use Rattle.scheduler.specs.States.{record_in, period_before, state_fits}
use Rattle.scheduler.specs.Steps.{step_of}
use Rattle.node.specs.Layout.{places_words, state_words, tally_words, verdict_words, encoded}
use Rattle.node.specs.Calls.{told_answer, tick_answer, admit_on, start_on, release_on, step_on, energy_on}
use Rattle.promises.specs.Cases.{◌per◌, bytes_of}

-- A refusal is written here as its number, the record or task that comes back with it, and the rounds spent.
abbrev told : ℕ → ℕ → ℕ → Told
told number place rounds = record { number = number; place = place; rounds = rounds }

-- The table of RULES 3.1 has these numbers, in its order, with what comes back.
pub refusals_are_told : told_of Length ∷ told_of (Broken 7) ∷ told_of (Falling 9) ∷ told_of Sleep ∷ told_of (NoWindow 3 40) ∷ told_of Unfit ∷ told_of ClockEnd ∷ told_of NoTask ∷ told_of Demand ∷ told_of OffBoundary ∷ told_of Working ∷ told_of Early ∷ told_of Power ∷ told_of LongWaking ∷ []
    ≡ told 1 0 0 ∷ told 2 7 0 ∷ told 3 9 0 ∷ told 4 0 0 ∷ told 5 3 40 ∷ told 6 0 0 ∷ told 7 0 0 ∷ told 8 0 0 ∷ told 9 0 0 ∷ told 10 0 0 ∷ told 11 0 0 ∷ told 12 0 0 ∷ told 13 0 0 ∷ told 14 0 0 ∷ []
refusals_are_told = refl

-- An answer has its number in the low byte, the record, task or kind in the next, and rounds or the task that ran above:
-- refusal 5 of task 3 after 40 rounds, a run of task 3, a slot tick and a tail tick.
pub answers_are_packed : told_answer (told_of (NoWindow 3 40)) ∷ tick_answer (Run 3) ∷ tick_answer Slot ∷ tick_answer Tail ∷ [] ≡ 2622213 ∷ 196608 ∷ 256 ∷ 512 ∷ []
answers_are_packed = refl

-- An energy reading has its nanojoules above the low byte: case J of RULES 15, with V = 0 and with V = 2.
pub energy_is_packed : (energy_on (11 ∷ 16 ∷ 13 ∷ 0 ∷ []) 23000 16 9000 ≡ 64886784) × (energy_on (11 ∷ 12 ∷ 13 ∷ 4 ∷ []) 23000 16 9000 ≡ 74086400)
unfolding energy_on
energy_is_packed = (refl, refl)

-- A state's words stand in this order: the sleep record, n, the clock and V; then by place label, work, period, reserved,
-- 1 at work with its release and what is left, 1 released with that tick.
abbrev two : State
two = record {
  sleep = record { label = 10; work = 8; period = 20; reserved = 0 };
  n = 2;
  clock = 45;
  waking = 3;
  entries = record { task = record { label = 11; work = 2; period = 20; reserved = 0 }; job = job.Working 40 1; last = Some 40 }
      ∷ record { task = record { label = 12; work = 3; period = 50; reserved = 0 }; job = job.Resting; last = Some 21 }
      ∷ replicate 14 no_entry;
}

pub state_words_are : state_words two
    ≡ (10 ∷ 8 ∷ 20 ∷ 0 ∷ 2 ∷ 45 ∷ 3 ∷ [])
    ++ (11 ∷ 2 ∷ 20 ∷ 0 ∷ 1 ∷ 40 ∷ 1 ∷ 1 ∷ 40 ∷ [])
    ++ (12 ∷ 3 ∷ 50 ∷ 0 ∷ 0 ∷ 0 ∷ 0 ∷ 1 ∷ 21 ∷ [])
    ++ replicate 126 0
unfolding places_words
state_words_are = refl

-- A tally's words are its run, slot, tail and waking ticks.
pub tally_words_are : tally_words (record { run = 11; slot = 12; tail = 13; waking = 4 }) ≡ 11 ∷ 12 ∷ 13 ∷ 4 ∷ []
tally_words_are = refl

-- A verdict's words are 16 windows, 16 figures and 16 rounds.
pub verdict_words_are : verdict_words (verdict (Ok 2) (set (set no_rows 0 (row 10 10 1)) 1 (row 13 32 2)))
    ≡ (10 ∷ 13 ∷ []) ++ replicate 14 0 ++ (10 ∷ 32 ∷ []) ++ replicate 14 0 ++ (1 ∷ 2 ∷ []) ++ replicate 14 0
unfolding list_from
verdict_words_are = refl

-- The limits of RULES are these: the clock's end, the largest power figure, the largest period and the most tasks.
pub limits_are : clock_end ∷ power_most ∷ largest ∷ places ∷ [] ≡ 1000000000 ∷ 1000000 ∷ 60000 ∷ 16 ∷ []
limits_are = refl

-- Which parts of the calls give a refusal, in the order of numbers: the reading of a table, the search, a start besides
-- the table, a release, a step, an energy reading (RULES 3.1, last column).
abbrev gives : Bool → Bool → Bool → Bool → Bool → Bool → Givers
gives reading search start release step energy = record { reading = reading; search = search; start = start; release = release; step = step; energy = energy }

pub givers_are : givers Length ∷ givers (Broken 7) ∷ givers (Falling 9) ∷ givers Sleep ∷ givers (NoWindow 3 40) ∷ givers Unfit ∷ givers ClockEnd ∷ givers NoTask ∷ givers Demand ∷ givers OffBoundary ∷ givers Working ∷ givers Early ∷ givers Power ∷ givers LongWaking ∷ []
    ≡ gives true false false false false false
    ∷ gives true false false false false false
    ∷ gives true false false false false false
    ∷ gives true false false false false false
    ∷ gives false true false false false false
    ∷ gives false false false true true true
    ∷ gives false false false true true false
    ∷ gives false false false true false false
    ∷ gives false false false true false false
    ∷ gives false false false true false false
    ∷ gives false false false true false false
    ∷ gives false false false true false false
    ∷ gives false false false false false true
    ∷ gives false false true false false false
    ∷ []
givers_are = refl

-- A start is given here no bytes, or S = 1, H = 2 and one task of 1 in 2; and a V.
abbrev nothing : ℕ → Given
nothing v = record { table = []; waking = v }

abbrev single : ℕ → Given
single v = record { table = bytes_of 0 (1 per 2 ∷ 1 per 2 ∷ []); waking = v }

-- A V above S gets 14, after 1 to 4 (here 1, and 4 where S = H); one of S does not.
pub long_wakings_are : ((start_on (single 1) (replicate 151 7)).answer ≡ 0)
    × ((start_on (single 2) (replicate 151 7)).answer ≡ 14)
    × ((start_on (nothing 2) (replicate 151 7)).answer ≡ 1)
    × ((start_on (record { table = bytes_of 0 (2 per 2 ∷ 1 per 2 ∷ []); waking = 3 }) (replicate 151 7)).answer ≡ 4)
unfolding bytes_of word_at record_at first_from ask_records ask_order ask_sleep read_of read_given
long_wakings_are = (refl, refl, refl, refl)

-- A buffer with one word too few or too many gets 6, also a state's or a tally's own words with a 0 behind them; and 6
-- comes after 1 to 4 of a table (RULES 13.4) and before 13 and 14.
pub other_lengths_are : ((start_on (nothing 0) (replicate 150 7)).answer ≡ 1)
    × ((start_on (single 0) (replicate 150 7)).answer ≡ 6)
    × ((start_on (single 0) (replicate 152 7)).answer ≡ 6)
    × ((start_on (single 2) (replicate 150 7)).answer ≡ 6)
    × ((admit_on [] (replicate 47 7)).answer ≡ 1)
    × ((admit_on (single 0).table (replicate 47 7)).answer ≡ 6)
    × ((admit_on (single 0).table (replicate 49 7)).answer ≡ 6)
    × ((release_on (state_words two ++ 0 ∷ []) 2 3).answer ≡ 6)
    × ((step_on (state_words two ++ 0 ∷ []) (20 ∷ 20 ∷ 4 ∷ 1 ∷ [])).answer ≡ 6)
    × ((step_on (state_words two) (20 ∷ 20 ∷ 4 ∷ 1 ∷ 0 ∷ [])).answer ≡ 6)
    × ((step_on (state_words two) (20 ∷ 20 ∷ 5 ∷ [])).answer ≡ 6)
    × (energy_on (11 ∷ 16 ∷ 13 ∷ []) 1000001 16 9000 ≡ 6)
    × (energy_on (11 ∷ 16 ∷ 13 ∷ 0 ∷ 0 ∷ []) 23000 16 9000 ≡ 6)
unfolding bytes_of word_at record_at first_from ask_records ask_order ask_sleep read_of read_given ceil sum_to demand rounds outcome waiting walk_from every release_on step_on energy_on encoded places_words
other_lengths_are = (refl, refl, refl, refl, refl, refl, refl, refl, refl, refl, refl, refl, refl)

-- The same state and tally at their own lengths are accepted: a slot tick at 45.
pub own_lengths_are : (step_on (state_words two) (20 ∷ 20 ∷ 4 ∷ 1 ∷ [])).answer ≡ 256
unfolding list_from every release_time record_in period_before state_fits step_of step_on encoded places_words
own_lengths_are = refl

-- S being 8, H 20 and V 3, the slot tick at 45 is the first of its slot's waking ticks, since 45 mod 20 is 8 − 3, and the
-- one at 44 is none; nor is the one at 45 with V = 2. V = 8, which is S, is accepted, and V = 9 gets 6.
pub wakings_are : ((step_on (state_words two) (20 ∷ 20 ∷ 4 ∷ 1 ∷ [])).tally ≡ 20 ∷ 20 ∷ 4 ∷ 2 ∷ [])
    × ((step_on (set (state_words two) 5 44) (20 ∷ 20 ∷ 3 ∷ 1 ∷ [])).tally ≡ 20 ∷ 21 ∷ 3 ∷ 1 ∷ [])
    × ((step_on (set (state_words two) 6 2) (20 ∷ 20 ∷ 4 ∷ 1 ∷ [])).tally ≡ 20 ∷ 21 ∷ 4 ∷ 1 ∷ [])
    × ((step_on (set (state_words two) 6 8) (20 ∷ 20 ∷ 4 ∷ 1 ∷ [])).answer ≡ 256)
    × ((step_on (set (state_words two) 6 9) (20 ∷ 20 ∷ 4 ∷ 1 ∷ [])).answer ≡ 6)
unfolding list_from every release_time record_in period_before state_fits step_of step_on encoded places_words
wakings_are = (refl, refl, refl, refl, refl)
