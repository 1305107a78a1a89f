-- This module defines the refusals of RULES 3, with their numbers and the calls that give them.
pub mod Refusals
-- This module defines words and records in a table's bytes.
pub mod Bytes
-- This module says when a table is sound, and which refusal it gets where it is not.
pub mod Sound
-- This module states the rules of a sound table as facts.
pub mod Rules
-- This module says when a task may be released, and how long its job may wait.
pub mod Times
-- This module gives the set that a table describes, as the theory's rules.
pub mod Set
-- This module says when each of refusals 1 to 4 applies, as facts.
pub mod Applies
