-- `bench_steps::steps_by_value` meets its contract: after so many turns so many steps are made.
use Rattle.std.proofs.Common.{◌≡◌}
use Rattle.bench_steps.specs.ManySteps.{steps_of}
use Rattle.bench_steps.proofs.steps_by_value.Given as goal

abbrev pub invariant-loop : goal.invariant-loop
invariant-loop l = record {
  state : l.state ≡ (steps_of l.initial.state l.counter).state;
  tally : l.tally ≡ (steps_of l.initial.state l.counter).tally;
}
