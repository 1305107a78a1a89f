-- What is said of waking is used here with all hypotheses met, on the house table, whose S is 8 and H 20, with V = 2;
-- and case J of RULES 15 is computed by the definitions, with V = 0, V = 2 and V = S.
use Rattle.std.specs.Prelude.{Ok, ℕ, ◌+◌, ◌<◌, ◌≡◌, refl, List, [], ◌∷◌, ◌++◌, Err}
use Rattle.std.proofs.Common.{arith}
use Rattle.base.specs.First.{first_from}
use Rattle.base.specs.Every.{every}
use Rattle.base.specs.Fold.{folded}
use Rattle.base.specs.List.{Each}
use Rattle.theory.specs.Round.{ceil}
use Rattle.theory.specs.Rules.{ready}
use Rattle.theory.specs.Pattern.{offset}
use Rattle.table.specs.declared.Refusal.TheVariants.{Length, Unfit, Power}
use Rattle.table.specs.Bytes.{word_at, record_at}
use Rattle.table.specs.Times.{release_time}
use Rattle.table.specs.Sound.{ask_records, ask_order, ask_sleep, read_of}
use Rattle.table.specs.Set.{rules_of}
use Rattle.table.specs.Rules.{SoundTable}
use Rattle.decisions.specs.declared.Tally.{Tally}
use Rattle.decisions.specs.Energies.{powers, energy_of}
use Rattle.decisions.specs.Asks.{ask_demand, ask_task, may_release}
use Rattle.scheduler.specs.States.{with_waking, record_in, period_before, state_fits, entries_of}
use Rattle.scheduler.specs.Starts.{read_given, start_of, IsStarted}
use Rattle.scheduler.specs.Releases.{release_answer, release_of}
use Rattle.scheduler.specs.Steps.{step_of}
use Rattle.histories.specs.History.{Call, release, step, Own, next, history}
use Rattle.histories.specs.Pattern.{due_at, releases_at, worst_pattern}
use Rattle.promises.specs.Cases.{bytes_of}
use Rattle.promises.specs.Uses.{house, house_starts, eight, long_waking}
use Rattle.promises.specs.Waking.{given, NothingElse, waking}

-- `forty` is the house table's worst pattern up to tick 40, and `counted` a tally.
forty : List Call
forty = worst_pattern (rules_of house.table) 4 40

abbrev counted : ℕ → ℕ → ℕ → ℕ → Tally
counted run slot tail waking = record { run = run; slot = slot; tail = tail; waking = waking }

-- CASE J is run: with V = 2 the tally is run 11, slot 12, tail 13 and waking 4, no call is refused, and the energy at
-- 23,000, 16 and 9,000 microwatts is 289,400 nanojoules.
case_j : ((history house forty).tally ≡ counted 11 12 13 4) × ((history house forty).refusals ≡ 0) × (energy_of (history house forty).tally (powers 23000 16 9000) ≡ Ok 289400)
unfolding forty house bytes_of word_at record_at first_from ask_records ask_order ask_sleep read_of read_given ceil ready every record_in period_before state_fits entries_of step_of ask_demand ask_task may_release release_answer release_time next folded offset due_at releases_at worst_pattern
case_j = (refl, refl, refl)

forty_is : ((history house forty).state.clock ≡ 40) × ((history house forty).state.sleep.work ≡ 8)
unfolding forty house bytes_of word_at record_at first_from ask_records ask_order ask_sleep read_of read_given ceil ready every record_in period_before state_fits entries_of step_of ask_demand ask_task may_release release_answer release_time next folded offset due_at releases_at worst_pattern
forty_is = (refl, refl)

-- With V = 0 it is as it was, and with V = S the whole slot is waking.
case_j_with : ((history (given house.table 0) forty).tally ≡ counted 11 16 13 0) × ((history (given house.table 8) forty).tally ≡ counted 11 0 13 16)
unfolding forty house bytes_of word_at record_at first_from ask_records ask_order ask_sleep read_of read_given ceil ready every record_in period_before state_fits entries_of step_of ask_demand ask_task may_release release_answer release_time next folded offset due_at releases_at worst_pattern
case_j_with = (refl, refl)

-- V = 9 gets 14: the table is sound, and 9 is above 8.
nine_is_long : ((n : ℕ) × SoundTable house.table n) × ((record_at house.table 0).work < 9)
nine_is_long = (waking.fourteen_exactly (given house.table 9)).0 long_waking

-- V stays in the state.
house_keeps_two : (history house forty).state.waking ≡ 2
unfolding house
house_keeps_two = waking.kept_in_the_state house forty house_starts

-- Tick 5 is counted as slot, tick 6 as waking, tick 8 as tail, and where task 1 came at 0 tick 8 as a run.
five : List Call
five = step ∷ step ∷ step ∷ step ∷ step ∷ []

six : List Call
six = five ++ step ∷ []

tick_5 : (step_of (history house five).state (history house five).tally).tally ≡ counted 0 6 0 0
unfolding five house bytes_of word_at record_at first_from ask_records ask_order ask_sleep read_of read_given every record_in period_before state_fits entries_of step_of next folded
tick_5 = (waking.each_tick_is_counted (history house five).state (history house five).tally).slot_counts refl (omega arith)

tick_6 : (step_of (history house six).state (history house six).tally).tally ≡ counted 0 6 0 1
unfolding six five house bytes_of word_at record_at first_from ask_records ask_order ask_sleep read_of read_given every record_in period_before state_fits entries_of step_of next folded
tick_6 = (waking.each_tick_is_counted (history house six).state (history house six).tally).waking_counts refl (omega arith)

tick_8 : (step_of (history house eight).state (history house eight).tally).tally ≡ counted 0 6 1 2
unfolding eight house bytes_of word_at record_at first_from ask_records ask_order ask_sleep read_of read_given ceil ready every record_in period_before state_fits entries_of step_of next folded
tick_8 = (waking.each_tick_is_counted (history house eight).state (history house eight).tally).tail_counts refl

run_8 : let p = history house (release 1 2 ∷ eight) in (step_of p.state p.tally).tally ≡ counted 1 6 0 2
unfolding eight house bytes_of word_at record_at first_from ask_records ask_order ask_sleep read_of read_given ceil ready every record_in period_before state_fits entries_of step_of next folded release_time ask_demand ask_task may_release release_answer
run_8 = (waking.each_tick_is_counted (history house (release 1 2 ∷ eight)).state (history house (release 1 2 ∷ eight)).tally).run_counts 1 refl

-- The first period, of 20 ticks, counts 6 as slot and 2 as waking.
twenty : List Call
twenty = five ++ five ++ five ++ five

twenty_own : Each Own twenty
unfolding Each twenty five
twenty_own = (tt, (tt, (tt, (tt, (tt, (tt, (tt, (tt, (tt, (tt, (tt, (tt, (tt, (tt, (tt, (tt, (tt, (tt, (tt, (tt, tt))))))))))))))))))))

twenty_is : let s = (history house twenty).state in (s.clock ≡ 20) × (s.sleep.period ≡ 20) × (s.sleep.work ≡ 8) × (s.waking ≡ 2)
unfolding twenty five house bytes_of word_at record_at first_from ask_records ask_order ask_sleep read_of read_given ceil ready every record_in period_before state_fits entries_of step_of next folded
twenty_is = (refl, refl, refl, refl)

first_period : ((history house twenty).tally.slot ≡ 6) × ((history house twenty).tally.waking ≡ 2)
first_period =
    let W = waking.whole_periods_have house 1 twenty house_starts twenty_own (omega (arith, twenty_is)) in
    (omega (arith, W.slots_are, twenty_is), omega (arith, W.wakings_are, twenty_is))

-- With V = 2 and with V = 0 the worst pattern goes the same way; 12 counted as slot and 4 as waking were 16.
zero_starts : IsStarted (given house.table 0)
unfolding house bytes_of word_at record_at first_from ask_records ask_order ask_sleep read_of read_given
zero_starts = refl

same_way : NothingElse house.table 2 0 forty
unfolding house
same_way = waking.nothing_else_changes house.table 2 0 forty house_starts zero_starts

together : 12 + 4 ≡ 16
together = rw (case_j.0, case_j_with.0) at (waking.together_as_before house forty house_starts)

-- Where waking costs what sleeping costs, both tallies have the same energy.
same_cost : energy_of (counted 11 12 13 4) (powers 23000 16 16) ≡ energy_of (counted 11 16 13 0) (powers 23000 16 16)
same_cost = waking.same_power_same_energy (counted 11 16 13 0) (counted 11 12 13 4) 23000 16 (record { runs_same = refl; tails_same = refl; slots_same = refl })

-- 79 bytes get 1 whatever V is; a V of 9 in the state, 41 ticks counted at clock 40, or a tally of more than
-- 1,000,000,000 ticks get 6; a waking power of 1,000,001 gets 13.
short_table : (start_of (given [] 9)).answer ≡ Err Length
unfolding read_of
short_table = waking.after_four (given [] 9) Length refl

long_state : let s = with_waking (history house forty).state 9 in ((release_of s 2 3).answer ≡ Err Unfit) × ((step_of s (counted 11 12 13 4)).answer ≡ Err Unfit)
long_state = waking.six_in_a_state (with_waking (history house forty).state 9) (counted 11 12 13 4) 2 3 (omega (arith, forty_is.1))

one_more : (step_of (history house forty).state (counted 11 12 13 5)).answer ≡ Err Unfit
one_more = waking.six_of_a_step (history house forty).state (counted 11 12 13 5) (λ e. omega (arith, forty_is.0, e))

too_many : energy_of (counted 0 0 1 1000000000) (powers 23000 16 1000001) ≡ Err Unfit
too_many = waking.six_of_a_reading (counted 0 0 1 1000000000) (powers 23000 16 1000001) (omega arith)

too_strong : energy_of (counted 11 12 13 4) (powers 23000 16 1000001) ≡ Err Power
too_strong = waking.joins_thirteen (counted 11 12 13 4) (powers 23000 16 1000001) (omega arith) (omega arith)
