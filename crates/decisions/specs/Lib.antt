-- `Fits` defines the rules that are checked for refusal 6, of a head, a place and a tally.
pub mod Fits
-- `Asks` defines whether a release or a step may be made.
pub mod Asks
-- `Ticks` defines what a tick is made of.
pub mod Ticks
-- `Energies` defines the energy of a tally.
pub mod Energies
