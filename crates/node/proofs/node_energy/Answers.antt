-- The energy is small enough to stand above a number.
use Rattle.std.proofs.Common.{arith}
use Rattle.decisions.specs.Energies.{powers}
use Rattle.node.proofs.EnergyLaws.{energy_small}
use Rattle.node.proofs.node_energy.Goals as goal

pub overflow_mul-result : goal.overflow_mul-result
overflow_mul-result c = omega (arith, energy_small c.tally_in.result (powers c.args.run c.args.sleep c.args.waking) c.in-Ok.nanojoules c.in-Ok.ensures)
