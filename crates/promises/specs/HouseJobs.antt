-- That every job finishes and that each figure is reached is used here on the house table with all hypotheses met. By
-- computation, under the worst pattern up to tick 30 its finishes are exactly task 1's at 30.
use Rattle.std.specs.Prelude.{◌≤◌, ◌≡◌, refl, List, [], ◌∷◌, ◌++◌}
use Rattle.std.proofs.Common.{inl, inr, arith}
use Rattle.base.specs.First.{first_from}
use Rattle.base.specs.Sum.{sum_to}
use Rattle.base.specs.Every.{every}
use Rattle.base.specs.Fold.{folded}
use Rattle.base.specs.List.{In}
use Rattle.theory.specs.Round.{ceil}
use Rattle.theory.specs.Rules.{ready, demand}
use Rattle.theory.specs.Rounds.{rounds, outcome}
use Rattle.theory.specs.Pattern.{offset}
use Rattle.table.specs.Bytes.{word_at, record_at}
use Rattle.table.specs.Times.{release_time, waiting}
use Rattle.table.specs.Sound.{ask_records, ask_order, ask_sleep, read_of}
use Rattle.table.specs.Set.{rules_of}
use Rattle.admission.specs.Verdicts.{walk_from}
use Rattle.decisions.specs.declared.Job.TheVariants.{Working}
use Rattle.scheduler.specs.States.{entry_in, record_in, period_before, state_fits, entries_of}
use Rattle.decisions.specs.Asks.{ask_demand, ask_task, may_release}
use Rattle.scheduler.specs.Releases.{release_answer}
use Rattle.scheduler.specs.Starts.{read_given}
use Rattle.scheduler.specs.Steps.{step_of}
use Rattle.histories.specs.History.{Call, release, lend, Taken, Finish, next, history}
use Rattle.histories.specs.Jobs.{Finished, Followed, WasReleased, FinishesAt}
use Rattle.histories.specs.Pattern.{due_at, releases_at, worst_pattern}
use Rattle.promises.specs.Cases.{bytes_of}
use Rattle.promises.specs.Demand3.{figure_of, worst, every_job_is_followed, every_job_was_released, every_finish_was_released, figure_within_period, demand_3}
use Rattle.promises.specs.Uses.{house, house_starts, house_admitted}

-- `released` are the releases of the worst pattern up to tick 30, tasks 2 to 4 at 1 and task 1 at 20, and `first` is
-- the one finish.
released : List Taken
released =
    record { place = 0; at = 20; demand = 2 }
    ∷ record { place = 3; at = 1; demand = 4 }
    ∷ record { place = 2; at = 1; demand = 2 }
    ∷ record { place = 1; at = 1; demand = 3 }
    ∷ []

first : Finish
first = record { place = 0; release = 20; at = 30 }

-- `thirty` is the house table's worst pattern up to tick 30.
thirty : List Call
thirty = worst_pattern (rules_of house.table) 4 30

-- THE FINISHES ARE EXACTLY TASK 1'S AT 30, released at 20; no call is refused, task 4 is still at work, and the
-- counts are 2 run, 12 slot, 12 tail and 4 waking ticks.
thirty_is : ((history house thirty).finishes ≡ first ∷ []) × ((history house thirty).taken ≡ released) × ((history house thirty).state.clock ≡ 30)
    × ((history house thirty).refusals ≡ 0) × ((entry_in (history house thirty).state 3).job ≡ Working 1 4) × ((history house thirty).tally ≡ record { run = 2; slot = 12; tail = 12; waking = 4 })
unfolding first released thirty house bytes_of word_at record_at first_from ask_records ask_order ask_sleep read_of read_given ceil ready every record_in period_before state_fits entries_of step_of ask_demand ask_task may_release release_answer release_time next folded offset due_at releases_at worst_pattern
thirty_is = (refl, refl, refl, refl, refl, refl)

-- The finishes are exactly task 1's at 30 also where the last step lends another tally that sums to the clock.
lent : List Call
lent = worst_pattern (rules_of house.table) 4 29 ++ lend (record { run = 29; slot = 0; tail = 0; waking = 0 }) ∷ []

lent_is : ((history house lent).finishes ≡ first ∷ []) × ((history house lent).taken ≡ released) × ((history house lent).state.clock ≡ 30)
unfolding first released lent house bytes_of word_at record_at first_from ask_records ask_order ask_sleep read_of read_given ceil ready every record_in period_before state_fits entries_of step_of ask_demand ask_task may_release release_answer release_time next folded offset due_at releases_at worst_pattern
lent_is = (refl, refl, refl)

-- A release that comes twice in a tick and a step that lends a wrong tally are counted as refused, and only the first
-- release is noted.
twice : List Call
twice = release 1 2 ∷ release 1 2 ∷ lend (record { run = 1; slot = 0; tail = 0; waking = 0 }) ∷ []

twice_is : ((history house twice).refusals ≡ 2) × ((history house twice).taken ≡ record { place = 0; at = 0; demand = 2 } ∷ []) × ((history house twice).finishes ≡ []) × ((history house twice).state.clock ≡ 0)
unfolding twice house bytes_of word_at record_at first_from ask_records ask_order ask_sleep read_of read_given ceil ready every record_in period_before state_fits entries_of step_of ask_demand ask_task may_release release_answer release_time next folded
twice_is = (refl, refl, refl, refl)

-- These are the figures of tasks 1 and 4, when the pattern releases task 4 first, and task 4's period.
figures : (figure_of house 0 ≡ 10) × (figure_of house 3 ≡ 38) × (offset (rules_of house.table) 3 ≡ 1) × ((rules_of house.table).T 3 ≡ 200)
unfolding house bytes_of word_at record_at first_from ask_records ask_order ask_sleep read_of ceil sum_to demand rounds outcome waiting walk_from offset
figures = (refl, refl, refl, refl)

-- Task 1's release at 20 has finished after it and by 30, as it must have, also where another tally is lent.
job_1 : Taken
job_1 = record { place = 0; at = 20; demand = 2 }

first_finishes : (calls : List Call) → (history house calls).taken ≡ released → (history house calls).state.clock ≡ 30
    → Finished 30 (history house calls).finishes 20 job_1
unfolding In released job_1
first_finishes calls taken clock =
    rw figures.0 at ((demand_3 house 4).every_job_finishes house_admitted calls job_1 (rw taken (inl refl)) (omega (arith, figures.0, clock)))

house_job_finishes : Finished 30 (history house thirty).finishes 20 job_1
house_job_finishes = first_finishes thirty thirty_is.1 thirty_is.2

house_lent_finishes : Finished 30 (history house lent).finishes 20 job_1
house_lent_finishes = first_finishes lent lent_is.1 lent_is.2

-- Task 4's release at 1 is followed: it is at work with all of its 4 ticks.
house_job_is_followed : Followed (history house thirty) (record { place = 3; at = 1; demand = 4 })
unfolding In released
house_job_is_followed = every_job_is_followed house thirty (record { place = 3; at = 1; demand = 4 }) (rw thirty_is.1 (inr (inl refl)))

-- Task 4's job at work and task 1's finish are both among the accepted releases.
house_job_was_released : WasReleased (history house thirty).taken 3 1
house_job_was_released = every_job_was_released house 3 1 4 thirty (omega arith) thirty_is.4

house_finish_was_released : WasReleased (history house thirty).taken 0 20
unfolding In first
house_finish_was_released = every_finish_was_released house thirty first (rw thirty_is.0 (inl refl))

-- Task 4's job finishes at 39, its figure 38 after its release, which is within its period.
house_finish_at_figure : FinishesAt (worst house 4 39) 3 1 39
house_finish_at_figure = rw (figures.1, figures.2) at ((demand_3 house 4).each_figure_is_reached house_starts house_admitted 3 (omega arith))

house_figure_within : 38 ≤ 200
house_figure_within = rw (figures.1, figures.3) at (figure_within_period house 4 house_admitted 3 (omega arith))
