-- Views shows a state as a view.
pub mod Views
-- Moves shows that accepted releases and ticks are moves.
pub mod Moves
-- Runs shows that every history is a run.
pub mod Runs
-- Ticks says, by the answer of a step, what it was in the abstract scheduler.
pub mod Ticks
-- Bounds carries the response bound over to histories.
pub mod Bounds
-- Rest shows that there is rest after a tail tick.
pub mod Rest
-- Worst shows the worst pattern as a run.
pub mod Worst
-- Reached shows that the figures are reached, and that the task without a window is late.
pub mod Reached
