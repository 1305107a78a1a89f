-- DEMAND 1 is used with its hypotheses met, on the sets and histories of specs/Uses.antt: its parts that have several
-- sentences, and each call refused.
use Rattle.std.specs.Prelude.{◌/◌, ◌≡◌, refl, [], ◌∷◌, true, Err}
use Rattle.std.proofs.Common.{arith}
use Rattle.table.specs.declared.Refusal.TheVariants.{Length, NoWindow, Unfit, OffBoundary, Power, LongWaking}
use Rattle.table.specs.Sound.{read_of}
use Rattle.table.specs.Refusals.{start_gives, release_gives, step_gives, energy_gives}
use Rattle.table.specs.Applies.{Lowest}
use Rattle.admission.specs.Verdicts.{verdict, no_rows, admit_of}
use Rattle.admission.specs.Applies.{AdmissionApplies}
use Rattle.decisions.specs.Fits.{no_ticks}
use Rattle.scheduler.specs.Releases.{release_of}
use Rattle.scheduler.specs.Steps.{step_of}
use Rattle.decisions.specs.Energies.{powers, energy_of, nanojoules_of}
use Rattle.scheduler.specs.Applies.{StartApplies, ReleaseApplies, StepApplies, EnergyApplies}
use Rattle.histories.specs.History.{history}
use Rattle.scheduler.specs.Starts.{read_given, no_state, start_of}
use Rattle.node.specs.Layout.{encoded}
use Rattle.node.specs.Calls.{admit_on, start_on, release_on, step_on, energy_on}
use Rattle.promises.specs.Answers.{start_gives_lem, release_gives_lem, step_gives_lem, energy_gives_lem, unsound_refused}
use Rattle.promises.specs.Demand1.{RefusedByNumber, Unchanged}
use Rattle.promises.proofs.Demand1.{demand_1}
use Rattle.promises.specs.Waking.{given}
use Rattle.promises.specs.Uses.{house, figure_1, figure_1_refused, eight, nothing_is_read, house_off_boundary, house_wrong_tally, long_waking}

-- These are the parts of demand 1 that have several sentences.
numbers : RefusedByNumber
numbers = demand_1.bad_input_is_refused_by_number

unchanged : Unchanged
unchanged = demand_1.all_is_left_unchanged

-- Figure 1 is refused with 5 at task 2, which is the first without a window.
figure_1_five : Lowest (AdmissionApplies figure_1.table) (NoWindow 2 1)
figure_1_five = (numbers.admission_is_refused figure_1.table (NoWindow 2 1)).0 figure_1_refused

-- No bytes are refused with 1, by a start and by admission, with zeros, a state of no tasks and the words as they were.
nothing_is_refused : Lowest (StartApplies (given [] 0)) Length
unfolding read_given
nothing_is_refused = (numbers.start_is_refused (given [] 0) Length).0 (rw nothing_is_read)

nothing_hands_back : (admit_of [] ≡ verdict (Err Length) no_rows) × ((start_of (given [] 0)).state ≡ no_state)
unfolding read_given
nothing_hands_back = (unsound_refused [] Length nothing_is_read, unchanged.start_gives_no_state (given [] 0) Length (rw nothing_is_read))

nothing_leaves_words : ((admit_on [] (7 ∷ [])).verdict ≡ 7 ∷ []) × ((start_on (given [] 0) (7 ∷ [])).state ≡ 7 ∷ [])
unfolding read_of read_given
nothing_leaves_words = (unchanged.admit_leaves_words [] (7 ∷ []) (omega arith) (λ e. omega arith), unchanged.start_leaves_words (given [] 0) (7 ∷ []) (omega arith))

-- At tick 8 a release of task 1 is refused with 10, and leaves the state.
house_off_boundary_is_ten : Lowest (ReleaseApplies (history house eight).state 1 2) OffBoundary × (release_gives OffBoundary ≡ true) × ((release_of (history house eight).state 1 2).state ≡ (history house eight).state)
house_off_boundary_is_ten = (
  (numbers.release_is_refused (history house eight).state 1 2 OffBoundary).0 house_off_boundary,
  release_gives_lem (history house eight).state 1 2 OffBoundary house_off_boundary,
  unchanged.release_unchanged (history house eight).state 1 2 OffBoundary house_off_boundary,
)

-- At tick 8 a step that is lent a tally of zeros is refused with 6, and leaves state and tally.
house_wrong_tally_is_six : Lowest (StepApplies (history house eight).state no_ticks) Unfit × (step_gives Unfit ≡ true)
    × (((step_of (history house eight).state no_ticks).state ≡ (history house eight).state) × ((step_of (history house eight).state no_ticks).tally ≡ no_ticks))
house_wrong_tally_is_six = (
  (numbers.step_is_refused (history house eight).state no_ticks Unfit).0 house_wrong_tally,
  step_gives_lem (history house eight).state no_ticks Unfit house_wrong_tally,
  unchanged.step_unchanged (history house eight).state no_ticks Unfit house_wrong_tally,
)

-- Words that are too few encode no state, and are left as they are.
few_words : ((release_on (7 ∷ []) 1 1).state ≡ 7 ∷ []) × (((step_on (7 ∷ []) (9 ∷ [])).state ≡ 7 ∷ []) × ((step_on (7 ∷ []) (9 ∷ [])).tally ≡ 9 ∷ []))
unfolding release_on step_on encoded
few_words = (unchanged.release_leaves_words (7 ∷ []) 1 1 (omega arith), unchanged.step_leaves_words (7 ∷ []) (9 ∷ []) (omega arith))

-- The house table with V = 9, which is above its S, is refused with 14.
long_waking_is_fourteen : Lowest (StartApplies (given house.table 9)) LongWaking × (start_gives LongWaking ≡ true) × ((start_of (given house.table 9)).state ≡ no_state)
long_waking_is_fourteen = (
  (numbers.start_is_refused (given house.table 9) LongWaking).0 long_waking,
  start_gives_lem (given house.table 9) LongWaking long_waking,
  unchanged.start_gives_no_state (given house.table 9) LongWaking long_waking,
)

-- A reading with a waking power of 1,000,001 microwatts is refused with 13 and is 0.
strong : Lowest (EnergyApplies no_ticks (powers 23000 16 1000001)) Power × (energy_gives Power ≡ true) × (nanojoules_of (energy_of no_ticks (powers 23000 16 1000001)) ≡ 0)
strong = (
  (numbers.energy_is_refused no_ticks (powers 23000 16 1000001) Power).0 refl,
  energy_gives_lem no_ticks (powers 23000 16 1000001) Power refl,
  unchanged.energy_zero no_ticks (powers 23000 16 1000001) Power refl,
)

-- On words that reading gets 13, and reads as 0.
strong_words : energy_on (0 ∷ 0 ∷ 0 ∷ 0 ∷ []) 23000 16 1000001 / 256 ≡ 0
unfolding energy_on
strong_words = unchanged.energy_reads_zero (0 ∷ 0 ∷ 0 ∷ 0 ∷ []) 23000 16 1000001 (omega arith)
