-- `DemandLaws` proves that the numbers of the test are small.
pub mod DemandLaws
-- `WalkLaws` takes the walk a task at a time.
pub mod WalkLaws
-- `AdmitLaws` proves what a verdict says.
pub mod AdmitLaws
-- `RefusedLaws` proves which refusal an admission gets.
pub mod RefusedLaws
