-- `bench_steps::steps_on` meets its contract: after so many turns so many steps are made.
use Rattle.std.proofs.Common.{◌≡◌}
use Rattle.bench_steps.specs.ManySteps.{steps_on}
use Rattle.bench_steps.proofs.steps_on.Given as goal

abbrev pub invariant-loop : goal.invariant-loop
invariant-loop l = record {
  answer : l.answer ≡ (steps_on l.initial.state l.initial.tally l.counter).answer;
  state : l.state ≡ (steps_on l.initial.state l.initial.tally l.counter).state;
  tally : l.tally ≡ (steps_on l.initial.state l.initial.tally l.counter).tally;
}
