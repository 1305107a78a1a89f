-- What the calls answer, beyond demand 1: when a call is accepted, which numbers it gives and no others, what a start
-- hands back, what a table that is not sound gets, and that along a history no call gets 6. `LawfulState` is
-- RULES 4, `Startable` RULES 5.1; `Releasable` and `RulesKept` have RULES 6 and 7.1 in words.
use Rattle.std.specs.Prelude.{ℕ, ◌≤◌, ◌<◌, ◌≡◌, refl, ◌↔◌, List, true, Ok, Err}
use Rattle.base.specs.List.{Each}
use Rattle.table.specs.declared.Refusal.{Refusal}
use Rattle.table.specs.declared.Refusal.TheVariants.{Unfit, ClockEnd}
use Rattle.table.specs.Refusals.{admission_gives, start_gives, release_gives, step_gives, energy_gives}
use Rattle.table.specs.Sound.{read_of}
use Rattle.admission.specs.Verdicts.{verdict, no_rows, admit_of}
use Rattle.admission.proofs.RefusedLaws as admission
use Rattle.scheduler.specs.declared.State.{State}
use Rattle.decisions.specs.declared.Tally.{Tally}
use Rattle.decisions.specs.declared.Tick.{Tick}
use Rattle.decisions.specs.Fits.{clock_end, total}
use Rattle.scheduler.specs.Lawful.{LawfulState}
use Rattle.scheduler.specs.Starts.{Given, start_of, IsStarted}
use Rattle.scheduler.specs.Fresh.{Fresh}
use Rattle.scheduler.specs.Releases.{release_of}
use Rattle.scheduler.specs.Steps.{tick_of, step_of}
use Rattle.decisions.specs.declared.Powers.{Powers}
use Rattle.decisions.specs.Energies.{power_most, energy_in, energy_of}
use Rattle.scheduler.specs.Applies.{Startable, Releasable, RulesKept}
use Rattle.histories.specs.History.{Own, Call, history}
use Rattle.histories.proofs.HistoryLaws.{history_kept, history_counted}
use Rattle.scheduler.proofs.GivenLaws.{started_reads}
use Rattle.scheduler.proofs.RefusalLaws as refusals
use Rattle.scheduler.proofs.AnswerLaws as laws

-- NO CALL GIVES ANOTHER NUMBER than those that `givers` (table/specs/Refusals.antt) has for it: admission 1 to 5, a
-- start 1 to 4 and 14, a release 6 to 12, a step 6 and 7, an energy reading 6 and 13.
pub admission_gives_lem : (bytes : List ℕ) (r : Refusal) → (admit_of bytes).answer ≡ Err r → admission_gives r ≡ true
admission_gives_lem = admission.admission_gives_lem

pub start_gives_lem : (g : Given) (r : Refusal) → (start_of g).answer ≡ Err r → start_gives r ≡ true
start_gives_lem = laws.start_gives_only

pub release_gives_lem : (s : State) (task demand : ℕ) (r : Refusal) → (release_of s task demand).answer ≡ Err r → release_gives r ≡ true
release_gives_lem = refusals.release_gives_lem

pub step_gives_lem : (s : State) (t : Tally) (r : Refusal) → (step_of s t).answer ≡ Err r → step_gives r ≡ true
step_gives_lem = refusals.step_gives_lem

pub energy_gives_lem : (t : Tally) (powers : Powers) (r : Refusal) → energy_of t powers ≡ Err r → energy_gives r ≡ true
energy_gives_lem = refusals.energy_gives_lem

-- A TABLE THAT IS NOT SOUND gets the refusal of its reading, and zeros.
pub unsound_refused : (bytes : List ℕ) (refusal : Refusal) → read_of bytes ≡ Err refusal
    → admit_of bytes ≡ verdict (Err refusal) no_rows
unsound_refused bytes refusal e = rw e

-- A START is accepted exactly when the table is sound and V is at most S.
pub start_is_accepted : (g : Given) → IsStarted g ↔ ((n : ℕ) × Startable g n)
start_is_accepted = laws.start_accepted_exactly

-- Such a start, also on a set that would get 5, is accepted and hands back the table, V, clock 0 and every task resting
-- with the mark "never", with only spare places after them.
pub start_hands_back : (g : Given) (n : ℕ) → Startable g n → IsStarted g × Fresh g n (start_of g).state
start_hands_back g n S = ((start_is_accepted g).1 (n, S), laws.start_hands_back g n S)

-- A RELEASE gets 6 exactly when the state breaks a rule of RULES 4.
pub release_gets_6 : (s : State) (task demand : ℕ) → ((release_of s task demand).answer ≡ Err Unfit) ↔ (LawfulState s → ⊥)
release_gets_6 = laws.release_six_exactly

-- A release is accepted exactly when the state keeps its rules, the clock is before its end, the task is 1 to n, the
-- demand is 1 to C, task 1 is released at a multiple of H, the task rests, and its last release is T ticks ago or more.
pub release_is_accepted : (s : State) (task demand : ℕ) → ((release_of s task demand).answer ≡ Ok tt) ↔ Releasable s task demand
release_is_accepted = laws.release_accepted_exactly

-- A STEP gets 6 exactly when state or tally breaks a rule: the state one of RULES 4, or the tally's four counts do
-- not sum to the clock (RULES 8.2).
pub step_gets_6 : (s : State) (t : Tally) → ((step_of s t).answer ≡ Err Unfit) ↔ (RulesKept s t → ⊥)
step_gets_6 = laws.step_six_exactly

-- A step gets 7 exactly when state and tally keep their rules and the clock stands at 1,000,000,000.
pub step_gets_7 : (s : State) (t : Tally) → ((step_of s t).answer ≡ Err ClockEnd) ↔ (RulesKept s t × (s.clock ≡ clock_end))
step_gets_7 = laws.step_seven_exactly

-- A step answers a tick exactly when state and tally keep their rules, the clock is before its end and the tick is the
-- one of that state (in words: demand 2).
pub step_answers_a_tick : (s : State) (t : Tally) (tick : Tick)
    → ((step_of s t).answer ≡ Ok tick) ↔ (RulesKept s t × (s.clock < clock_end) × (tick_of s ≡ tick))
step_answers_a_tick = laws.step_ticks_exactly

-- AN ENERGY READING is accepted exactly when the four counts sum to at most 1,000,000,000 and no power figure is above
-- 1,000,000 microwatts, and gives the energy then.
pub energy_is_accepted : (t : Tally) (powers : Powers) (nanojoules : ℕ)
    → (energy_of t powers ≡ Ok nanojoules)
    ↔ ((total t ≤ clock_end) × (powers.run ≤ power_most) × (powers.sleep ≤ power_most) × (powers.waking ≤ power_most) × (nanojoules ≡ energy_in t powers))
energy_is_accepted = laws.energy_accepted_exactly

-- ALONG EVERY HISTORY from an accepted start the state keeps its rules, whatever tallies are lent, so that no release
-- gets 6.
pub state_keeps_its_rules : (g : Given) (calls : List Call) → IsStarted g → LawfulState (history g calls).state
state_keeps_its_rules g calls ok =
    let r = started_reads g ok in
    rw r.1 (history_kept g r.0 calls r.1).lawful_state

pub no_release_gets_6 : (g : Given) (calls : List Call) (task demand : ℕ) → IsStarted g
    → (release_of (history g calls).state task demand).answer ≡ Err Unfit → ⊥
no_release_gets_6 g calls task demand ok e =
    (release_gets_6 (history g calls).state task demand).0 e (state_keeps_its_rules g calls ok)

-- Where a history lends no other tally, its own keeps its rule too.
pub rules_are_kept : (g : Given) (calls : List Call) → IsStarted g → Each Own calls → RulesKept (history g calls).state (history g calls).tally
rules_are_kept g calls ok own =
    let r = started_reads g ok in
    record { lawful_state = state_keeps_its_rules g calls ok; counted = rw r.1 (history_counted g r.0 calls r.1 own).counted }

-- Where a history lends no other tally, no step that is lent its own gets 6.
pub no_step_gets_6 : (g : Given) (calls : List Call) → IsStarted g → Each Own calls
    → (step_of (history g calls).state (history g calls).tally).answer ≡ Err Unfit → ⊥
no_step_gets_6 g calls ok own e =
    (step_gets_6 (history g calls).state (history g calls).tally).0 e (rules_are_kept g calls ok own)

-- Where a history lends no other tally, every step that is lent its own before the clock's end answers a tick.
pub every_step_answers_a_tick : (g : Given) (calls : List Call) → IsStarted g → Each Own calls → (history g calls).state.clock < clock_end
    → (step_of (history g calls).state (history g calls).tally).answer ≡ Ok (tick_of (history g calls).state)
every_step_answers_a_tick g calls ok own l =
    (step_answers_a_tick (history g calls).state (history g calls).tally (tick_of (history g calls).state)).1 (rules_are_kept g calls ok own, l, refl)
