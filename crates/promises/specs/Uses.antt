-- No sentence of the demands is vacuous: each theorem that has hypotheses is used here, in HouseJobs.antt or in
-- proofs/UsesOfDemand1.antt, with all of them met, on the house table or on a set that is refused.
use Rattle.std.specs.Prelude.{ℕ, ◌+◌, ◌*◌, ◌≤◌, ◌<◌, ◌≡◌, refl, List, [], ◌∷◌, ◌++◌, true, length, replicate, Ok, Err}
use Rattle.std.proofs.Common.{ap, sym, ◌∙◌, arith}
use Rattle.base.specs.First.{first_from}
use Rattle.base.specs.Sum.{sum_to}
use Rattle.base.specs.Every.{every}
use Rattle.base.specs.List.{Each}
use Rattle.base.specs.Fold.{folded}
use Rattle.theory.specs.Round.{ceil}
use Rattle.theory.specs.Rules.{ready, demand}
use Rattle.theory.specs.Rounds.{found, rounds, outcome, Window}
use Rattle.theory.specs.Pattern.{offset}
use Rattle.theory.specs.Boundary.{boundary}
use Rattle.theory.proofs.RoundsLaws.{outcome_says, found_window}
use Rattle.table.specs.declared.Refusal.TheVariants.{Length, NoWindow, Unfit, OffBoundary, LongWaking}
use Rattle.table.specs.Bytes.{word_at, record_at}
use Rattle.table.specs.Sound.{places, ask_records, ask_order, ask_sleep, read_of}
use Rattle.table.specs.Refusals.{admission_gives, start_gives}
use Rattle.table.specs.Set.{rules_of}
use Rattle.table.specs.Times.{waiting, release_time}
use Rattle.admission.specs.Figure.{limit}
use Rattle.admission.specs.Says.{HasWindow, Judged}
use Rattle.admission.specs.Verdicts.{walk_from, admit_of}
use Rattle.decisions.specs.declared.Job.TheVariants.{Resting, Working}
use Rattle.decisions.specs.declared.Tally.{Tally}
use Rattle.decisions.specs.declared.Tick.TheVariants.{Run, Slot, Tail}
use Rattle.decisions.specs.Fits.{no_ticks, total}
use Rattle.scheduler.specs.States.{entry_in, record_in, period_before, state_fits, entries_of}
use Rattle.decisions.specs.Asks.{ask_demand, ask_task, may_release}
use Rattle.scheduler.specs.Releases.{release_answer, release_of}
use Rattle.scheduler.specs.Steps.{tick_of, made, step_of}
use Rattle.decisions.specs.Energies.{powers, energy_of}
use Rattle.scheduler.specs.Applies.{Startable, RulesKept}
use Rattle.scheduler.specs.Fresh.{Fresh}
use Rattle.scheduler.specs.MayRun.{MayRun}
use Rattle.histories.specs.History.{Own, Call, release, step, Finish, Past, next, after, history, left_in, AtWork}
use Rattle.scheduler.specs.Starts.{Given, read_given, start_of, IsStarted}
use Rattle.scheduler.proofs.GivenLaws.{given_startable}
use Rattle.histories.proofs.HistoryLaws.{history_kept}
use Rattle.bridge.specs.Runs.{rules_sound}
use Rattle.node.specs.Layout.{state_words, tally_words, state_in, tally_in, encoded}
use Rattle.node.specs.Calls.{start_on, released_on, release_on, moved_on, step_on}
use Rattle.node.specs.Saved.{called_all, saved, restored}
use Rattle.promises.specs.Cases.{◌per◌, bytes_of}
use Rattle.promises.specs.Answers.{admission_gives_lem, start_gives_lem, start_hands_back, release_is_accepted, state_keeps_its_rules, rules_are_kept, no_release_gets_6, no_step_gets_6, every_step_answers_a_tick}
use Rattle.promises.specs.Demand2.{TickIs, Reported, demand_2}
use Rattle.promises.specs.Demand3.{figure_of, worst, FirstFailing, any_state_rests, one_window_is_enough, every_finish_is_within, pattern_is_accepted, figure_is_reached, figure_is_enough, demand_3}
use Rattle.promises.specs.Waking.{given}
use Rattle.promises.specs.Saved.{state_read_back, one_encoding, one_tally_encoding, release_on_words, step_on_words, start_on_words, words_follow_a_start, stop_changes_nothing}

-- These are the house table with V = 2, and the source's Figure 1 set (case E) with V = 0.
unfoldable pub house : Given
house = given (bytes_of 10 (8 per 20 ∷ 2 per 20 ∷ 3 per 50 ∷ 2 per 100 ∷ 4 per 200 ∷ [])) 2

unfoldable pub figure_1 : Given
figure_1 = given (bytes_of 0 (5 per 10 ∷ 1 per 10 ∷ 1 per 15 ∷ 2 per 26 ∷ [])) 0

-- What the theorems ask of the house table and of Figure 1 holds by computation.
pub house_sound : read_given house ≡ Ok 4
unfolding house bytes_of word_at record_at first_from ask_records ask_order ask_sleep read_of read_given
house_sound = refl

pub house_admitted : (admit_of house.table).answer ≡ Ok 4
unfolding house bytes_of word_at record_at first_from ask_records ask_order ask_sleep read_of ceil sum_to demand rounds outcome waiting walk_from
house_admitted = refl

pub house_figures : (figure_of house 1 ≡ 32) × (figure_of house 3 ≡ 38) × (offset (rules_of house.table) 3 ≡ 1)
unfolding house bytes_of word_at record_at first_from ask_records ask_order ask_sleep read_of ceil sum_to demand rounds outcome waiting walk_from offset
house_figures = (refl, refl, refl)

pub figure_1_sound : read_given figure_1 ≡ Ok 3
unfolding figure_1 bytes_of word_at record_at first_from ask_records ask_order ask_sleep read_of read_given
figure_1_sound = refl

pub figure_1_refused : (admit_of figure_1.table).answer ≡ Err (NoWindow 2 1)
unfolding figure_1 bytes_of word_at record_at first_from ask_records ask_order ask_sleep read_of ceil sum_to demand rounds outcome waiting walk_from
figure_1_refused = refl

figure_1_first : outcome (rules_of figure_1.table) 0 (limit (rules_of figure_1.table) 0) ≡ found 6 1
unfolding figure_1 bytes_of word_at record_at ceil sum_to demand rounds outcome waiting
figure_1_first = refl

pub house_startable : Startable house 4
house_startable = given_startable house 4 house_sound

figure_1_startable : Startable figure_1 3
figure_1_startable = given_startable figure_1 3 figure_1_sound

pub house_starts : IsStarted house
house_starts = rw house_sound

figure_1_starts : IsStarted figure_1
figure_1_starts = rw figure_1_sound

-- With nothing released, tick 8 of the house table is a tail tick.
unfoldable pub eight : List Call
eight = step ∷ step ∷ step ∷ step ∷ step ∷ step ∷ step ∷ step ∷ []

house_tail : ((step_of (history house eight).state (history house eight).tally).answer ≡ Ok Tail) × ((history house eight).state.clock ≡ 8)
unfolding eight house bytes_of word_at record_at first_from ask_records ask_order ask_sleep read_of read_given ceil ready every record_in period_before state_fits entries_of step_of next folded
house_tail = (refl, refl)

eight_own : Each Own eight
unfolding Each eight
eight_own = (tt, (tt, (tt, (tt, (tt, (tt, (tt, (tt, tt))))))))

eight_kept : RulesKept (history house eight).state (history house eight).tally
eight_kept = rules_are_kept house eight house_starts eight_own

-- These are the part of demand 2 that has several sentences, and tick 8 in words.
reported : Reported
reported = demand_2.what_is_reported_is_defined

eight_tick : TickIs (history house eight).state (history house eight).tally
eight_tick = demand_2.each_tick_is_the_defined_one (history house eight).state (history house eight).tally eight_kept (omega (arith, house_tail.1))

-- No bytes are refused with 1, by a start and by admission (proofs/UsesOfDemand1.antt says what comes back).
pub nothing_is_read : read_of [] ≡ Err Length
unfolding read_of
nothing_is_read = refl

nothing_is_given : (admission_gives Length ≡ true) × (start_gives Length ≡ true)
unfolding read_given
nothing_is_given = (admission_gives_lem [] Length (rw nothing_is_read), start_gives_lem (given [] 0) Length (rw nothing_is_read))

-- At tick 8 a release of task 1 is refused with 10, since 8 is no multiple of 20.
pub house_off_boundary : (release_of (history house eight).state 1 2).answer ≡ Err OffBoundary
unfolding eight house bytes_of word_at record_at first_from ask_records ask_order ask_sleep read_of read_given ceil ready every record_in period_before state_fits entries_of step_of next folded release_time ask_demand ask_task may_release release_answer
house_off_boundary = refl

-- At tick 8 a step that is lent a tally of zeros is refused with 6.
pub house_wrong_tally : (step_of (history house eight).state no_ticks).answer ≡ Err Unfit
unfolding eight house bytes_of word_at record_at first_from ask_records ask_order ask_sleep read_of read_given ceil ready every record_in period_before state_fits entries_of step_of next folded
house_wrong_tally = refl

-- The house table with V = 9, which is above its S, is refused with 14.
pub long_waking : (start_of (given house.table 9)).answer ≡ Err LongWaking
unfolding house bytes_of word_at record_at first_from ask_records ask_order ask_sleep read_of read_given
long_waking = refl

-- Case J's energy at 23,000, 16 and 9,000 microwatts is 289,400 with V = 2.
energy_of_j : (energy_of (record { run = 11; slot = 12; tail = 13; waking = 4 }) (powers 23000 16 9000) ≡ Ok 289400) × (289400 ≡ 11 * 23000 + 12 * 16 + 13 * 16 + 4 * 9000)
energy_of_j = (refl, reported.energy_is (record { run = 11; slot = 12; tail = 13; waking = 4 }) (powers 23000 16 9000) 289400 refl)

-- DEMAND 2 is used. Every task of the house table has a window, and the first row of its verdict is right.
house_windows : (i : ℕ) → i < 4 → HasWindow (rules_of house.table) i
house_windows = ((demand_2.the_verdict_is_the_defined_one house.table 4).admitted_exactly house_startable.sound).0 house_admitted

house_judged : Judged (rules_of house.table) 4 (admit_of house.table)
house_judged = reported.figures_are_the_defined_ones house.table 4 house_startable.sound

-- Tick 0 is a slot tick, since 0 is below 8.
house_sleeps : (step_of (history house []).state (history house []).tally).answer ≡ Ok Slot
unfolding house bytes_of word_at record_at first_from ask_records ask_order ask_sleep read_of read_given folded Each
house_sleeps =
    (demand_2.each_tick_is_the_defined_one (history house []).state (history house []).tally (rules_are_kept house [] house_starts tt) (omega arith)).slot_exactly.1 (omega arith)

-- No job may run at the tail tick 8.
house_waits : (i : ℕ) → i < (history house eight).state.n → MayRun (history house eight).state i → ⊥
house_waits = (eight_tick.tail_exactly.0 house_tail.0).1

-- The tick makes the clock 9, and the counts sum to the clock; nothing was demanded.
house_ticks : step_of (history house eight).state (history house eight).tally ≡ made (history house eight).state (history house eight).tally (tick_of (history house eight).state)
house_ticks = eight_tick.leaves

house_counts : total (history house eight).tally ≡ (history house eight).state.clock
house_counts = reported.ticks_sum_to_the_clock house eight eight_own

-- A job of task 1 released at 0 runs at 8.
released_own : Each Own (release 1 2 ∷ eight)
unfolding Each eight
released_own = (tt, eight_own)

house_runs : (step_of (history house (release 1 2 ∷ eight)).state (history house (release 1 2 ∷ eight)).tally).answer ≡ Ok (Run 1)
unfolding eight house bytes_of word_at record_at first_from ask_records ask_order ask_sleep read_of read_given ceil ready every record_in period_before state_fits entries_of step_of next folded release_time ask_demand ask_task may_release release_answer
house_runs =
    ((demand_2.each_tick_is_the_defined_one (history house (release 1 2 ∷ eight)).state (history house (release 1 2 ∷ eight)).tally
    (rules_are_kept house (release 1 2 ∷ eight) house_starts released_own) (omega arith)).run_exactly 1).1 (
      omega arith,
      record {
        from_one = omega arith;
        to_n = omega arith;
        may_run = record { release = 0; left = 2; working = refl; come = omega arith };
        none_before = λ i l. absurd (let z : ⊥ = omega arith in z);
      },
    )

-- Its two ticks are still to run: what was demanded is what is left, in all and of task 1.
house_demanded : ((history house (release 1 2 ∷ eight)).tally.run + sum_to places (left_in (history house (release 1 2 ∷ eight)).state) ≡ sum_to places (history house (release 1 2 ∷ eight)).demands)
    × ((history house (release 1 2 ∷ eight)).runs 0 + left_in (history house (release 1 2 ∷ eight)).state 0 ≡ (history house (release 1 2 ∷ eight)).demands 0)
house_demanded = (
  reported.run_and_left_are_demanded house (release 1 2 ∷ eight) released_own,
  reported.task_by_task house (release 1 2 ∷ eight) 0 (omega arith),
)

-- A job released at 21 may run from 40, not later.
house_ready : ready 20 21 ≤ 40
unfolding eight house bytes_of word_at record_at first_from ask_records ask_order ask_sleep read_of read_given ceil ready every record_in period_before state_fits entries_of step_of next folded
house_ready = (eight_tick.ready_is_least 21).2 40 refl (omega arith)

-- THE ANSWERS are used: a start on Figure 1, which would get 5, is accepted and hands back the table.
figure_1_hands_back : IsStarted figure_1 × Fresh figure_1 3 (start_of figure_1).state
figure_1_hands_back = start_hands_back figure_1 3 figure_1_startable

-- No call on the house table gets 6.
house_no_6 : (calls : List Call) (task demand : ℕ) → Each Own calls
    → ((release_of (history house calls).state task demand).answer ≡ Err Unfit → ⊥)
    × ((step_of (history house calls).state (history house calls).tally).answer ≡ Err Unfit → ⊥)
house_no_6 calls task demand own = (no_release_gets_6 house calls task demand house_starts, no_step_gets_6 house calls house_starts own)

-- At tick 8 a step of the house table answers a tick.
house_answers : (step_of (history house eight).state (history house eight).tally).answer ≡ Ok (tick_of (history house eight).state)
house_answers = every_step_answers_a_tick house eight house_starts eight_own (omega (arith, house_tail.1))

-- At tick 8 a release of task 2 is accepted with a demand of 3.
house_accepts : (release_of (history house eight).state 2 3).answer ≡ Ok tt
unfolding eight house bytes_of word_at record_at first_from ask_records ask_order ask_sleep read_of read_given ceil ready every record_in period_before state_fits entries_of step_of next folded
house_accepts = (release_is_accepted (history house eight).state 2 3).1 (record {
  lawful_state = state_keeps_its_rules house eight house_starts;
  before_end = omega arith;
  from_one = omega arith;
  to_n = omega arith;
  some = omega arith;
  full = omega arith;
  on_boundary = λ e. absurd (let z : ⊥ = omega arith in z);
  resting = refl;
  spaced = λ a e. let z : ◌≡◌ {A = ℕ} 0 1 = cc in absurd (let y : ⊥ = omega arith in y);
})

-- DEMAND 3 is used: a job of task 4 that is unfinished is younger than 38 ticks, after any calls.
house_no_job_is_late : (a l : ℕ) (calls : List Call) → (entry_in (history house calls).state 3).job ≡ Working a l → (history house calls).state.clock < a + 38
house_no_job_is_late a l calls j = rw house_figures.1 at ((demand_3 house 4).no_job_is_late house_admitted calls 3 a l (omega arith) j)

-- Every finish of every history of the house table is within its figure.
house_every_finish : (calls : List Call) → Each (λ (f : Finish). f.at ≤ f.release + figure_of house f.place) (history house calls).finishes
house_every_finish calls = every_finish_is_within house 4 house_admitted calls

-- Task 1 of Figure 1 has a window of 6, and keeps to it though the set is refused.
figure_1_first_task : (a l : ℕ) (calls : List Call) → (entry_in (history figure_1 calls).state 0).job ≡ Working a l → (history figure_1 calls).state.clock < a + 6
unfolding waiting
figure_1_first_task a l calls j =
    let R = rules_of figure_1.table in
    let sound = rules_sound figure_1 3 figure_1_sound in
    let W : Window R 0 (limit R 0) 6 = found_window R 0 (limit R 0) 6 1 sound (rw figure_1_first at (outcome_says R 0 (limit R 0) sound)) in
    omega (arith, one_window_is_enough figure_1 0 6 a l calls W j)

-- The worst pattern on the house table is accepted up to the clock's end.
house_pattern : ((worst house 4 1000000000).refusals ≡ 0) × ((worst house 4 1000000000).state.clock ≡ 1000000000)
house_pattern = pattern_is_accepted house 4 house_starts house_admitted 1000000000 (omega arith)

-- The first job of task 4 comes at 1, is at work at 38 and at rest at 39: it took its figure, 38.
house_figure_reached : AtWork (worst house 4 38) 3 1 38
house_figure_reached =
    let f = house_figures in
    rw f.2 at (figure_is_reached house 4 house_starts house_admitted 3 38 (omega arith) (omega arith) (omega arith))

house_figure_enough : (entry_in (worst house 4 39).state 3).job ≡ Resting
house_figure_enough = rw (house_figures.1, house_figures.2) at (figure_is_enough house 4 house_starts house_admitted 3 (omega arith))

-- Figure 1 is sound and not admitted: its first failing task is task 2, which the pattern, given to tasks 1 and 2,
-- leaves at work at 16, its period after its release at 1.
figure_1_fails : FirstFailing figure_1 3
figure_1_fails = (demand_3 figure_1 3).not_admitted_is_late figure_1_startable.sound (λ a.
    let w : Err (NoWindow 2 1) ≡ Ok 3 = sym figure_1_refused ∙ a in
    let z : ◌≡◌ {A = ℕ} 0 1 = cc in let y : ⊥ = omega arith in y)

figure_1_fails_at : figure_1_fails.place ≡ 1
figure_1_fails_at =
    let w : Err (NoWindow (figure_1_fails.place + 1) figure_1_fails.rounds) ≡ Err (NoWindow 2 1) = sym figure_1_fails.named ∙ figure_1_refused in
    let up : figure_1_fails.place + 1 ≡ 2 = cc in
    omega arith

figure_1_late : AtWork (worst figure_1 2 16) 1 1 16
unfolding figure_1 bytes_of word_at record_at offset
figure_1_late = rw figure_1_fails_at at (figure_1_fails.late figure_1_starts)

-- The slot that starts at the first boundary after tick 8 ends at 28.
house_slot : boundary (rules_of house.table).H 8 + (rules_of house.table).S ≡ 28
unfolding house bytes_of word_at record_at boundary
house_slot = refl

-- After the tail tick 8 no task runs before 28, whatever comes in between.
house_rests : (k : ℕ) (u : Tally) (between : List Call)
    → (step_of (after (next (history house eight) step) between).state u).answer ≡ Ok (Run k)
    → 28 ≤ (after (next (history house eight) step) between).state.clock
unfolding next
house_rests k u between run =
    omega (
      arith,
      (demand_3 house 4).tail_rests eight between (next (history house eight) step) (history house eight).tally u k house_tail.0 refl run,
      ap (λ (c : ℕ). boundary (rules_of house.table).H c + (rules_of house.table).S) house_tail.1,
      house_slot,
    )

-- At 28 itself a task does run: eleven ticks more bring the clock to 20, where task 1 is released, and eight more to
-- 28. No later end of the rest could be promised.
to_28 : List Call
to_28 = step ∷ step ∷ step ∷ step ∷ step ∷ step ∷ step ∷ step ∷ step ∷ step ∷ step ∷ release 1 2 ∷ eight

house_runs_at_28 : ((after (next (history house eight) step) to_28).state.clock ≡ 28)
    × ((step_of (after (next (history house eight) step) to_28).state (after (next (history house eight) step) to_28).tally).answer ≡ Ok (Run 1))
unfolding to_28 eight house bytes_of word_at record_at first_from ask_records ask_order ask_sleep read_of read_given ceil ready every record_in period_before state_fits entries_of step_of next folded release_time ask_demand ask_task may_release release_answer
house_runs_at_28 = (refl, refl)

house_rests_till_28 : 28 ≤ 28
house_rests_till_28 =
    rw house_runs_at_28.0 at (house_rests 1 (after (next (history house eight) step) to_28).tally to_28 house_runs_at_28.1)

-- The same of the state alone, taken as if it had been handed in.
house_state_rests : (k : ℕ) (u : Tally) (p : Past) (between : List Call) → p.state ≡ (step_of (history house eight).state (history house eight).tally).state
    → (step_of (after p between).state u).answer ≡ Ok (Run k)
    → boundary (history house eight).state.sleep.period (history house eight).state.clock + (history house eight).state.sleep.work ≤ (after p between).state.clock
house_state_rests k u p between = any_state_rests (history house eight).state (history house eight).tally u k p between (rw house_sound (history_kept house 4 eight house_sound).sized) house_tail.0

-- A STATE IN WORDS is used: at tick 8 the state is read back from its words, which are its only ones, and calls on them
-- are calls on it.
eight_sized : length (history house eight).state.entries ≡ places
eight_sized = rw house_sound (history_kept house 4 eight house_sound).sized

house_read_back : (encoded (state_words (history house eight).state) ≡ true) × (state_in (state_words (history house eight).state) ≡ (history house eight).state)
house_read_back = state_read_back (history house eight).state eight_sized

house_one_encoding : (state_words (state_in (state_words (history house eight).state)) ≡ state_words (history house eight).state) × (tally_words (tally_in (tally_words no_ticks)) ≡ tally_words no_ticks)
house_one_encoding = (one_encoding (state_words (history house eight).state) house_read_back.0, one_tally_encoding (tally_words no_ticks) refl)

house_calls_on_words : (release_on (state_words (history house eight).state) 2 3 ≡ released_on (release_of (state_in (state_words (history house eight).state)) 2 3))
    × (step_on (state_words (history house eight).state) (tally_words no_ticks) ≡ moved_on (step_of (state_in (state_words (history house eight).state)) (tally_in (tally_words no_ticks))))
house_calls_on_words = (
  release_on_words (state_words (history house eight).state) 2 3 house_read_back.0,
  step_on_words (state_words (history house eight).state) (tally_words no_ticks) house_read_back.0 refl,
)

-- A start on a buffer of sevens, eight steps on its words, and a stop after them.
sevens : List ℕ
sevens = replicate 151 7

house_starts_on_words : start_on house sevens ≡ record { answer = 0; state = state_words (start_of house).state }
unfolding sevens
house_starts_on_words = start_on_words house sevens house_starts refl

house_words_follow : called_all (record { state = (start_on house sevens).state; tally = tally_words no_ticks }) eight ≡ saved (history house eight)
unfolding sevens
house_words_follow = words_follow_a_start house sevens eight house_starts refl

house_stops : after (restored (history house eight)) to_28 ≡ history house (eight ++ to_28)
house_stops = stop_changes_nothing house eight to_28 house_starts
