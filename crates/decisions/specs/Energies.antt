-- The energy of a tally (RULES 8.5) is counted in nanojoules, and powers in microwatts.
use Rattle.std.specs.Prelude.{ℕ, ◌+◌, ◌*◌, cond, ◌||◌, ltb, Result, Ok, Err}
use Rattle.table.specs.declared.Refusal.{Refusal}
use Rattle.table.specs.declared.Refusal.TheVariants as refusal
use Rattle.decisions.specs.declared.Tally.{Tally}
use Rattle.decisions.specs.declared.Powers.{Powers}
use Rattle.decisions.specs.Fits.{clock_end, total}

-- `power_most` is the largest power figure.
abbrev pub power_most : ℕ
power_most = 1000000

-- `powers` are those of a run tick, of a slot or tail tick, and of a waking tick.
abbrev pub powers : ℕ → ℕ → ℕ → Powers
powers run sleep waking = record { run = run; sleep = sleep; waking = waking }

-- The energy is run ticks times the run power plus slot ticks and tail ticks times the sleep power plus waking ticks
-- times the waking power.
abbrev pub energy_in : Tally → Powers → ℕ
energy_in t p = t.run * p.run + t.slot * p.sleep + t.tail * p.sleep + t.waking * p.waking

-- AN ENERGY READING is defined for any tally at any powers: refusal 6 where the counts sum to more than the last clock,
-- then refusal 13 where a power figure is above its largest.
abbrev pub energy_of : Tally → Powers → Result ℕ Refusal
energy_of t p =
    cond (ltb clock_end (total t)) (Err refusal.Unfit)
    (cond (ltb power_most p.run || ltb power_most p.sleep || ltb power_most p.waking) (Err refusal.Power)
    (Ok (energy_in t p)))

-- A refusal comes with energy 0.
abbrev pub nanojoules_of : Result ℕ Refusal → ℕ
nanojoules_of (Ok nanojoules) = nanojoules
nanojoules_of (Err r) = 0
