-- RoundLaws has the laws of rounding up, and counts the slot ticks of a stretch of ticks.
pub mod RoundLaws
-- These define the abstract scheduler: views, moves and what they reach.
pub mod System
pub mod ReadyLaws
pub mod Reachable
-- These show how the demand of a window grows, and that the rounds that look for a window find the least.
pub mod WindowLaws
pub mod RoundsLaws
-- Response shows that no job is late.
pub mod Response
-- These show what the worst pattern makes of the demand, what it says of a figure, and when its releases are accepted.
pub mod Worst
pub mod Figures
pub mod Free
-- TailLaws shows that there is rest after a tail tick.
pub mod TailLaws
