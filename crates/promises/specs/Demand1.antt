-- DEMAND 1 stands here on one page: the record `Demand1` has the user's words, a field for each sentence; the records
-- above it say what we make of them, call by call, and `demand_1` (proofs/Demand1.antt) shows that all of it holds. What
-- a number means is `told_of` (table/specs/Refusals.antt); when a refusal applies is said in the words of RULES 3.1,
-- column "applies when" (specs/Applies.antt of table, admission and scheduler), and `Lowest` is RULES 3.2.
use Rattle.std.specs.Prelude.{ℕ, ◌/◌, ◌%◌, ◌≤◌, ◌≡◌, ◌↔◌, List, Err}
use Rattle.table.specs.declared.Refusal.{Refusal}
use Rattle.table.specs.declared.Refusal.TheVariants.{Unfit}
use Rattle.table.specs.Refusals.{told_of}
use Rattle.table.specs.Applies.{Lowest}
use Rattle.admission.specs.Applies.{AdmissionApplies}
use Rattle.admission.specs.Verdicts.{admit_of}
use Rattle.admission.proofs as admission
use Rattle.admission.specs.contracts as admission_contracts
use Rattle.scheduler.specs.declared.State.{State}
use Rattle.decisions.specs.declared.Tally.{Tally}
use Rattle.scheduler.specs.Starts.{no_state, start_of, Given}
use Rattle.scheduler.specs.Releases.{release_of}
use Rattle.scheduler.specs.Steps.{step_of}
use Rattle.decisions.specs.declared.Powers.{Powers}
use Rattle.decisions.specs.Energies.{energy_of, nanojoules_of}
use Rattle.scheduler.specs.Applies.{StartApplies, ReleaseApplies, StepApplies, EnergyApplies}
use Rattle.decisions.proofs as decisions
use Rattle.decisions.specs.contracts as decisions_contracts
use Rattle.scheduler.proofs as scheduler
use Rattle.scheduler.specs.contracts as scheduler_contracts
use Rattle.node.specs.Calls.{admit_on, start_on, release_on, step_on, energy_on}
use Rattle.node.proofs as node
use Rattle.node.specs.contracts as node_contracts
use Rattle.promises.specs.Settled.{Settles}

-- Any input may be handed in: the contract of a call asks nothing of its arguments and allows one result alone, what is
-- left in the lent buffers included (`Settles`). That the call does nothing undefined and ends is what the proof of each
-- function says.
pub record AnyInput : Type 0 where
  pub any_table_may_be_admitted : Settles admission_contracts.admit.ended admission.admit.Reads.Asked admission.admit.Reads.Learnt
  pub any_table_may_be_started : Settles scheduler_contracts.start.ended scheduler.start.Reads.Asked scheduler.start.Reads.Learnt
  pub any_release_may_be_made : Settles scheduler_contracts.release.ended scheduler.release.Reads.Asked scheduler.release.Reads.Learnt
  pub any_step_may_be_made : Settles scheduler_contracts.step.ended scheduler.step.Reads.Asked scheduler.step.Reads.Learnt
  pub any_tally_may_be_read : Settles decisions_contracts.energy.ended decisions.energy.Reads.Asked decisions.energy.Reads.Learnt
  -- The same of the calls on words.
  pub any_words_may_be_admitted : Settles node_contracts.node_admit.ended node.node_admit.Reads.Asked node.node_admit.Reads.Learnt
  pub any_words_may_be_started : Settles node_contracts.node_start.ended node.node_start.Reads.Asked node.node_start.Reads.Learnt
  pub any_words_may_be_released : Settles node_contracts.node_release.ended node.node_release.Reads.Asked node.node_release.Reads.Learnt
  pub any_words_may_be_stepped : Settles node_contracts.node_step.ended node.node_step.Reads.Asked node.node_step.Reads.Learnt
  pub any_words_may_be_read : Settles node_contracts.node_energy.ended node.node_energy.Reads.Asked node.node_energy.Reads.Learnt

-- Bad input is refused by number: a call gets a refusal exactly when that one applies and none with a lower number does;
-- so admission gives 1 to 5, a start 1 to 4 and 14, a release 6 to 12, a step 6 and 7, an energy reading 6 and 13.
pub record RefusedByNumber : Type 0 where
  pub admission_is_refused : (bytes : List ℕ) (r : Refusal) → ((admit_of bytes).answer ≡ Err r) ↔ Lowest (AdmissionApplies bytes) r
  pub start_is_refused : (g : Given) (r : Refusal) → ((start_of g).answer ≡ Err r) ↔ Lowest (StartApplies g) r
  pub release_is_refused : (s : State) (task demand : ℕ) (r : Refusal) → ((release_of s task demand).answer ≡ Err r) ↔ Lowest (ReleaseApplies s task demand) r
  pub step_is_refused : (s : State) (t : Tally) (r : Refusal) → ((step_of s t).answer ≡ Err r) ↔ Lowest (StepApplies s t) r
  pub energy_is_refused : (t : Tally) (powers : Powers) (r : Refusal) → (energy_of t powers ≡ Err r) ↔ Lowest (EnergyApplies t powers) r

-- All is left unchanged: a refused release hands back the very state, a refused step the very state and tally. A refused
-- start has no state to hand back: it gives one of no tasks, which every release and step refuses with 6. A refused
-- energy reading is 0, and on words it reads as 0.
pub record Unchanged : Type 0 where
  pub release_unchanged : (s : State) (task demand : ℕ) (r : Refusal) → (release_of s task demand).answer ≡ Err r → (release_of s task demand).state ≡ s
  pub step_unchanged : (s : State) (t : Tally) (r : Refusal) → (step_of s t).answer ≡ Err r → ((step_of s t).state ≡ s) × ((step_of s t).tally ≡ t)
  pub start_gives_no_state : (g : Given) (r : Refusal) → (start_of g).answer ≡ Err r → (start_of g).state ≡ no_state
  pub no_state_gets_6 : (task demand : ℕ) (t : Tally)
      → ((release_of no_state task demand).answer ≡ Err Unfit) × ((step_of no_state t).answer ≡ Err Unfit) × ((told_of Unfit).number ≡ 6)
  pub energy_zero : (t : Tally) (powers : Powers) (r : Refusal) → energy_of t powers ≡ Err r → nanojoules_of (energy_of t powers) ≡ 0
  pub energy_reads_zero : (tally : List ℕ) (run sleep waking : ℕ) → 1 ≤ energy_on tally run sleep waking % 256 → energy_on tally run sleep waking / 256 ≡ 0
  -- A refused call on words, whose low byte is the number, leaves every lent word as it was; but number 5 comes back
  -- with the verdict.
  pub admit_leaves_words : (table words : List ℕ) → 1 ≤ (admit_on table words).answer % 256 → ((admit_on table words).answer % 256 ≡ 5 → ⊥) → (admit_on table words).verdict ≡ words
  pub start_leaves_words : (g : Given) (words : List ℕ) → 1 ≤ (start_on g words).answer % 256 → (start_on g words).state ≡ words
  pub release_leaves_words : (words : List ℕ) (task demand : ℕ) → 1 ≤ (release_on words task demand).answer % 256 → (release_on words task demand).state ≡ words
  pub step_leaves_words : (words tally : List ℕ) → 1 ≤ (step_on words tally).answer % 256 → ((step_on words tally).state ≡ words) × ((step_on words tally).tally ≡ tally)

pub record Demand1 : Type 0 where
  -- "Any table, state, tally or release may be handed to it. Nothing is undefined, every call ends,
  pub any_input_may_be_handed : AnyInput
  -- and bad input is refused by number
  pub bad_input_is_refused_by_number : RefusedByNumber
  -- with the state and every lent record unchanged."
  pub all_is_left_unchanged : Unchanged
