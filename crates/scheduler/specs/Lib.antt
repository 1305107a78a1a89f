-- `States` defines the rules of a state and of a tally.
pub mod States
-- `Lawful` gives the rules of a state as facts.
pub mod Lawful
-- `Starts` defines a start.
pub mod Starts
-- `Fresh` gives, as facts, what an accepted start hands back.
pub mod Fresh
-- `Releases` defines a release.
pub mod Releases
-- `Steps` defines one tick.
pub mod Steps
-- `Applies` says, as facts, when each refusal applies.
pub mod Applies
-- `MayRun` says, as facts, which task runs.
pub mod MayRun
