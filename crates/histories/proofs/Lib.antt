-- `HistoryLaws` proves what every history keeps.
pub mod HistoryLaws
-- `JobLaws` proves that every accepted release is followed to its finish.
pub mod JobLaws
-- `TakenLaws` proves that every job comes from an accepted release.
pub mod TakenLaws
-- `StillLaws` proves that nothing moves after a refused start.
pub mod StillLaws
-- `WakingLaws` proves that a waking length changes nothing but how slot ticks are counted.
pub mod WakingLaws
-- `PeriodLaws` proves how many slot and waking ticks a whole period has.
pub mod PeriodLaws
