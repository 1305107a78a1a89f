-- DEMAND 2 stands here on one page: the record `Demand2` has the user's words, a field for each sentence; the records
-- above it say what we make of them, and `demand_2` shows that all of it holds. It speaks of `read_of`, `admit_of`,
-- `step_of` and `energy_of`, which the contracts of `table::read`, `admission::admit`, `scheduler::step` and
-- `decisions::energy` give as their whole results. In a state s the clock t is `s.clock`, H is `s.sleep.period` and
-- S is `s.sleep.work`.
use Rattle.std.specs.Prelude.{ℕ, ◌+◌, ◌*◌, ◌/◌, ◌%◌, ◌≤◌, ◌<◌, ◌≡◌, ◌↔◌, List, Ok}
use Rattle.std.proofs.Common.{ap, ⊎_elim, arith, div-add-mod'}
use Rattle.base.specs.Sum.{sum_to}
use Rattle.base.specs.List.{Each}
use Rattle.theory.specs.Rules.{ready}
use Rattle.theory.proofs.ReadyLaws.{ready_up, ready_mod, ready_by}
use Rattle.table.specs.Sound.{places, read_of}
use Rattle.table.specs.Rules.{SoundTable}
use Rattle.table.specs.Set.{rules_of}
use Rattle.table.proofs.SoundLaws.{read_sound, sound_read}
use Rattle.admission.specs.Says.{HasWindow, Judged}
use Rattle.admission.specs.Verdicts.{admit_of}
use Rattle.admission.proofs.AdmitLaws as laws
use Rattle.scheduler.specs.declared.State.{State}
use Rattle.decisions.specs.declared.Tally.{Tally}
use Rattle.decisions.specs.declared.Tick.{Tick}
use Rattle.decisions.specs.declared.Tick.TheVariants.{Run, Slot, Tail}
use Rattle.decisions.specs.Fits.{clock_end, total}
use Rattle.scheduler.specs.States.{record_in}
use Rattle.scheduler.specs.Applies.{RulesKept}
use Rattle.scheduler.specs.Starts.{Given}
use Rattle.scheduler.specs.Steps.{tick_of, made, step_of}
use Rattle.scheduler.specs.MayRun.{MayRun, FirstToRun}
use Rattle.decisions.specs.declared.Powers.{Powers}
use Rattle.decisions.specs.Energies.{energy_of}
use Rattle.histories.specs.History.{Own, Call, history, left_in}
use Rattle.scheduler.proofs.StepLaws.{step_made}
use Rattle.scheduler.proofs.MayRunLaws as words
use Rattle.scheduler.proofs.AnswerLaws.{energy_accepted_exactly}
use Rattle.scheduler.proofs.GivenLaws.{started_reads}
use Rattle.histories.proofs.HistoryLaws.{Counted, history_kept, history_counted, accounts}
use Rattle.histories.proofs.StillLaws.{started_or_still, still_each, still_counted}

-- The tick of a state with a tally is the defined one. The answer is a slot tick exactly where t mod H is below S; a run
-- of task k exactly where it is not below S and k is the lowest-numbered working task whose job may run; a tail tick
-- exactly where it is not below S and no task works on a job that may run.
pub record TickIs (s : State) (t : Tally) : Type 0 where
  pub slot_exactly : ((step_of s t).answer ≡ Ok Slot) ↔ (s.clock % s.sleep.period < s.sleep.work)
  pub run_exactly : (k : ℕ) → ((step_of s t).answer ≡ Ok (Run k)) ↔ ((s.sleep.work ≤ s.clock % s.sleep.period) × FirstToRun s k)
  pub tail_exactly : ((step_of s t).answer ≡ Ok Tail) ↔ ((s.sleep.work ≤ s.clock % s.sleep.period) × ((i : ℕ) → i < s.n → MayRun s i → ⊥))
  -- A job released at a may run from the smallest multiple of H that is at least a: that is `ready`, a multiple of H, at
  -- least a, and at most every other number that is both.
  pub ready_is_least : (a : ℕ) → let h = s.sleep.period in (ready h a % h ≡ 0) × (a ≤ ready h a) × ((m : ℕ) → m % h ≡ 0 → a ≤ m → ready h a ≤ m)
  -- The state and the tally after the tick are those of RULES 7 (`made`, with `after_tick` and `raised`).
  pub leaves : step_of s t ≡ made s t (tick_of s)

-- A table reads as sound exactly when the rules of RULES 2 hold of it, and a sound one of n tasks is admitted exactly when
-- every task has a window.
pub record VerdictIs (bytes : List ℕ) (n : ℕ) : Type 0 where
  pub sound_exactly : (read_of bytes ≡ Ok n) ↔ SoundTable bytes n
  pub admitted_exactly : SoundTable bytes n → ((admit_of bytes).answer ≡ Ok n) ↔ ((i : ℕ) → i < n → HasWindow (rules_of bytes) i)

-- What is reported is what is defined. Whether a sound table is admitted or not, the windows reported are the least ones,
-- the figures theirs, the rounds the replacements done, and what no task fills is zero (`Judged`, `RightRows` and `RightRow`).
pub record Reported : Type 0 where
  pub figures_are_the_defined_ones : (bytes : List ℕ) (n : ℕ) → SoundTable bytes n → Judged (rules_of bytes) n (admit_of bytes)
  -- Over every list of calls from a start that lends its own tally to each step, zeros first and untouched in between,
  -- run, slot, tail and waking ticks sum to the clock, and run ticks plus all work left equals the sum of the accepted
  -- demands;
  pub ticks_sum_to_the_clock : (g : Given) (calls : List Call) → Each Own calls → total (history g calls).tally ≡ (history g calls).state.clock
  pub run_and_left_are_demanded : (g : Given) (calls : List Call) → Each Own calls
      → (history g calls).tally.run + sum_to places (left_in (history g calls).state) ≡ sum_to places (history g calls).demands
  -- and whatever tallies are lent, each task's run ticks plus its work left equals the sum of its accepted demands.
  pub task_by_task : (g : Given) (calls : List Call) (i : ℕ) → i < places → (history g calls).runs i + left_in (history g calls).state i ≡ (history g calls).demands i
  -- An accepted energy reading is run ticks times the run power plus slot and tail ticks times the sleep power plus
  -- waking ticks times the waking power.
  pub energy_is : (t : Tally) (powers : Powers) (nanojoules : ℕ) → energy_of t powers ≡ Ok nanojoules
      → nanojoules ≡ t.run * powers.run + t.slot * powers.sleep + t.tail * powers.sleep + t.waking * powers.waking

pub record Demand2 : Type 0 where
  -- "Each tick runs, sleeps or waits exactly as Energy-Saving Rate-Harmonized Scheduling (RTSS 2008) says, in whole ticks
  -- as [docs/RULES.md] states it." It is said of a state and a tally that keep their rules, before the clock's end; any
  -- others are refused (demand 1).
  pub each_tick_is_the_defined_one : (s : State) (t : Tally) → RulesKept s t → s.clock < clock_end → TickIs s t
  -- "A sound set is admitted exactly when every task has a window, within its limit, that holds its demand;
  pub the_verdict_is_the_defined_one : (bytes : List ℕ) (n : ℕ) → VerdictIs bytes n
  -- the figures and counts reported are the defined ones."
  pub what_is_reported_is_defined : Reported

-- What the step of a state and a tally that keep their rules answers is the state's tick.
answers : (s : State) (t : Tally) → RulesKept s t → s.clock < clock_end → (tick : Tick) → ((step_of s t).answer ≡ Ok tick) ↔ (tick_of s ≡ tick)
answers s t K before_end tick = rw (step_made s t K.lawful_state K.counted before_end) (λ e. cc, ap Ok)

-- `ready h a` is the least multiple of h that is at least a.
least : (h a : ℕ) → 1 ≤ h → (ready h a % h ≡ 0) × (a ≤ ready h a) × ((m : ℕ) → m % h ≡ 0 → a ≤ m → ready h a ≤ m)
least h a p = (
  ready_mod h a,
  ready_up h a p,
  λ m whole l. omega (arith, div-add-mod' m h, ready_by h a (m / h) p (omega (arith, div-add-mod' m h))),
)

-- Every history keeps the accounts, task by task, and the counts where it lends no other tally.
each : (g : Given) (calls : List Call) (i : ℕ) → i < places → (history g calls).runs i + left_in (history g calls).state i ≡ (history g calls).demands i
each g calls = ⊎_elim (λ ok. let r = started_reads g ok in rw r.1 (history_kept g r.0 calls r.1).each) (still_each (history g calls)) (started_or_still g calls)

counted : (g : Given) (calls : List Call) → Each Own calls → Counted (history g calls)
counted g calls own = ⊎_elim (λ ok. let r = started_reads g ok in rw r.1 (history_counted g r.0 calls r.1 own)) (still_counted (history g calls)) (started_or_still g calls)

-- DEMAND 2 HOLDS.
pub demand_2 : Demand2
unfolding record_in
demand_2 = record {
  each_tick_is_the_defined_one = λ s t K l. record {
    slot_exactly = (λ e. (words.slot_exactly s).0 ((answers s t K l Slot).0 e), λ f. (answers s t K l Slot).1 ((words.slot_exactly s).1 f));
    run_exactly = λ k. (λ e. (words.run_exactly s k).0 ((answers s t K l (Run k)).0 e), λ f. (answers s t K l (Run k)).1 ((words.run_exactly s k).1 f));
    tail_exactly = (λ e. (words.tail_exactly s).0 ((answers s t K l Tail).0 e), λ f. (answers s t K l Tail).1 ((words.tail_exactly s).1 f));
    ready_is_least = λ a. least s.sleep.period a (omega (arith, K.lawful_state.set.room));
    leaves = step_made s t K.lawful_state K.counted l;
  };
  the_verdict_is_the_defined_one = λ bytes n. record {
    sound_exactly = (read_sound bytes n, sound_read bytes n);
    admitted_exactly = λ S. laws.admitted_exactly bytes n (sound_read bytes n S);
  };
  what_is_reported_is_defined = record {
    figures_are_the_defined_ones = λ bytes n S. laws.admit_says bytes n (sound_read bytes n S);
    ticks_sum_to_the_clock = λ g calls own. (counted g calls own).counted;
    run_and_left_are_demanded = λ g calls own. accounts (history g calls) (each g calls) (counted g calls own);
    task_by_task = each;
    energy_is = λ t powers nanojoules e. ((energy_accepted_exactly t powers nanojoules).0 e).4;
  };
}
