-- Round divides and rounds up.
pub mod Round
-- Rules has a set of tasks, the boundary from which a job may run, and the demand of a window.
pub mod Rules
-- Rounds looks for a window, round by round, and says what the outcome means.
pub mod Rounds
-- Pattern has the worst pattern's offsets.
pub mod Pattern
-- Boundary has the first boundary after a tick.
pub mod Boundary
