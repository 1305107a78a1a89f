-- Whether a release or a step may be made is defined here, with its refusals in their order (RULES 6 and 7.1).
use Rattle.std.specs.Prelude.{ℕ, ◌+◌, ◌-◌, Bool, true, false, cond, ◌&&◌, leb, ltb, Result, Ok, Err, Option, Some, None}
use Rattle.table.specs.declared.Refusal.{Refusal}
use Rattle.table.specs.declared.Refusal.TheVariants as refusal
use Rattle.table.specs.Times.{release_time}
use Rattle.decisions.specs.declared.Job.{Job}
use Rattle.decisions.specs.declared.Job.TheVariants.{Resting, Working}
use Rattle.decisions.specs.declared.Entry.{Entry}
use Rattle.decisions.specs.declared.Head.{Head}
use Rattle.decisions.specs.Fits.{clock_end, tally_fits}
use Rattle.decisions.specs.declared.Tally.{Tally}

-- `working` tells whether a task is still working.
abbrev pub working : Job → Bool
working Resting = false
working (Working a l) = true

-- `early` tells whether the last release is fewer than so many ticks before the clock.
abbrev pub early : Option ℕ → ℕ → ℕ → Bool
early None period clock = false
early (Some a) period clock = ltb clock (a + period)

-- `ask_spacing` gives refusals 11 and 12, from the task's entry.
abbrev pub ask_spacing : ℕ → Entry → Result (Unit {0}) Refusal
ask_spacing clock e =
    cond (working e.job) (Err refusal.Working)
    (cond (early e.last e.task.period clock) (Err refusal.Early) (Ok tt))

-- `ask_time` gives refusal 10, then 11 and 12: the clock must be a tick at which the task may be released.
abbrev pub ask_time : Head → Entry → ℕ → Result (Unit {0}) Refusal
ask_time head e task = cond (release_time head.sleep.period (task - 1) head.clock) (ask_spacing head.clock e) (Err refusal.OffBoundary)

-- `ask_demand` gives refusal 9, then 10 to 12: a demand must be 1 to C.
unfoldable pub ask_demand : Head → Entry → ℕ → ℕ → Result (Unit {0}) Refusal
ask_demand head e task demand = cond (leb 1 demand && leb demand e.task.work) (ask_time head e task) (Err refusal.Demand)

-- `ask_task` gives refusal 8, then 9 to 12: a task number must be 1 to n.
unfoldable pub ask_task : Head → Entry → ℕ → ℕ → Result (Unit {0}) Refusal
ask_task head e task demand = cond (leb 1 task && leb task head.n) (ask_demand head e task demand) (Err refusal.NoTask)

-- `may_release` says whether a task may be released, e being its entry, in a state that keeps its rules: refusal 7 comes
-- first, then 8 to 12.
unfoldable pub may_release : Head → Entry → ℕ → ℕ → Result (Unit {0}) Refusal
may_release head e task demand = cond (leb clock_end head.clock) (Err refusal.ClockEnd) (ask_task head e task demand)

-- `may_step` says whether a step may be made, of a state that keeps its rules or does not: refusal 6, of state or tally,
-- comes first, then 7.
abbrev pub may_step : Bool → Tally → ℕ → Result (Unit {0}) Refusal
may_step fits t clock =
    cond (fits && tally_fits t clock) (cond (leb clock_end clock) (Err refusal.ClockEnd) (Ok tt)) (Err refusal.Unfit)
