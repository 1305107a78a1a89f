-- `History` defines lists of calls and what they make of a start.
pub mod History
-- `Jobs` says where the job of an accepted release stands.
pub mod Jobs
-- `Pattern` gives the worst pattern as a list of calls.
pub mod Pattern
-- `Waking` says in what two histories of different waking lengths may differ, and what whole periods count.
pub mod Waking
