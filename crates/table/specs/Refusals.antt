-- RULES 3, "What is refused", stands here: each refusal's number, what it comes back with, and which calls give it.
use Rattle.std.specs.Prelude.{ℕ, Bool, true, false, ◌||◌}
use Rattle.table.specs.declared.Refusal.{Refusal}
use Rattle.table.specs.declared.Refusal.TheVariants.{Length, Broken, Falling, Sleep, NoWindow, Unfit, ClockEnd, NoTask, Demand, OffBoundary, Working, Early, Power, LongWaking}
use Rattle.table.specs.declared.Told.{Told}

-- `told` has a number, the record or task that comes back with it, and the rounds spent.
abbrev told : ℕ → ℕ → ℕ → Told
told number place rounds = record { number = number; place = place; rounds = rounds }

-- `told_of` is what a refusal comes back with: 1, 4 and 14 come with record 0, 6 to 12 with nothing more, and 13 with
-- energy 0, which `nanojoules_of` of `decisions` says, and on words `energy_reads_zero` of `promises`.
abbrev pub told_of : Refusal → Told
told_of Length = told 1 0 0
told_of (Broken k) = told 2 k 0
told_of (Falling k) = told 3 k 0
told_of Sleep = told 4 0 0
told_of (NoWindow task rounds) = told 5 task rounds
told_of Unfit = told 6 0 0
told_of ClockEnd = told 7 0 0
told_of NoTask = told 8 0 0
told_of Demand = told 9 0 0
told_of OffBoundary = told 10 0 0
told_of Working = told 11 0 0
told_of Early = told 12 0 0
told_of Power = told 13 0 0
told_of LongWaking = told 14 0 0

-- `Givers` has the parts of the calls that refuse: the reading of a table, the search for its windows, what a start
-- tests besides the table, a release, a step and an energy reading.
pub record Givers : Type 0 where
  pub reading : Bool
  pub search : Bool
  pub start : Bool
  pub release : Bool
  pub step : Bool
  pub energy : Bool

abbrev by : Bool → Bool → Bool → Bool → Bool → Bool → Givers
by reading search start release step energy = record { reading = reading; search = search; start = start; release = release; step = step; energy = energy }

-- `givers` says which parts of the calls give a refusal, in the order in which `Givers` has them.
abbrev pub givers : Refusal → Givers
givers Length = by true false false false false false
givers (Broken k) = by true false false false false false
givers (Falling k) = by true false false false false false
givers Sleep = by true false false false false false
givers (NoWindow task rounds) = by false true false false false false
givers Unfit = by false false false true true true
givers ClockEnd = by false false false true true false
givers NoTask = by false false false true false false
givers Demand = by false false false true false false
givers OffBoundary = by false false false true false false
givers Working = by false false false true false false
givers Early = by false false false true false false
givers Power = by false false false false false true
givers LongWaking = by false false true false false false

-- These definitions say which refusals each call gives.
abbrev pub reading_gives : Refusal → Bool
reading_gives r = (givers r).reading

abbrev pub search_gives : Refusal → Bool
search_gives r = (givers r).search

abbrev pub admission_gives : Refusal → Bool
admission_gives r = reading_gives r || search_gives r

abbrev pub start_gives : Refusal → Bool
start_gives r = reading_gives r || (givers r).start

abbrev pub release_gives : Refusal → Bool
release_gives r = (givers r).release

abbrev pub step_gives : Refusal → Bool
step_gives r = (givers r).step

abbrev pub energy_gives : Refusal → Bool
energy_gives r = (givers r).energy
