-- DEMAND 1 holds, call by call (specs/Demand1.antt says what it is).
use Rattle.std.specs.Prelude.{refl}
use Rattle.admission.proofs.RefusedLaws.{admission_refused_exactly}
use Rattle.scheduler.proofs.ReleaseLaws.{release_refused}
use Rattle.scheduler.proofs.StepLaws.{step_refused}
use Rattle.scheduler.proofs.StartLaws.{no_state_refused}
use Rattle.scheduler.proofs.AnswerLaws as laws
use Rattle.node.proofs.CallLaws as on
use Rattle.node.proofs.EnergyLaws.{energy_reads_zero}
use Rattle.promises.specs.Settled.{Settles}
use Rattle.promises.specs.Settled as settled
use Rattle.promises.specs.Demand1.{Demand1}

-- DEMAND 1 HOLDS.
pub demand_1 : Demand1
demand_1 = record {
  any_input_may_be_handed = record {
    any_table_may_be_admitted = settled.admit;
    any_table_may_be_started = settled.start;
    any_release_may_be_made = settled.release;
    any_step_may_be_made = settled.step;
    any_tally_may_be_read = settled.energy;
    any_words_may_be_admitted = settled.node_admit;
    any_words_may_be_started = settled.node_start;
    any_words_may_be_released = settled.node_release;
    any_words_may_be_stepped = settled.node_step;
    any_words_may_be_read = settled.node_energy;
  };
  bad_input_is_refused_by_number = record {
    admission_is_refused = admission_refused_exactly;
    start_is_refused = laws.start_refused_exactly;
    release_is_refused = laws.release_refused_exactly;
    step_is_refused = laws.step_refused_exactly;
    energy_is_refused = laws.energy_refused_exactly;
  };
  all_is_left_unchanged = record {
    release_unchanged = release_refused;
    step_unchanged = step_refused;
    start_gives_no_state = laws.start_refused;
    no_state_gets_6 = λ task demand t. let f = no_state_refused task demand t in (f.0, f.1, refl);
    energy_zero = λ t powers r e. rw e;
    energy_reads_zero = energy_reads_zero;
    admit_leaves_words = on.admit_leaves;
    start_leaves_words = on.start_leaves;
    release_leaves_words = on.release_leaves;
    step_leaves_words = on.step_leaves;
  };
}
