-- These laws say when a task may be released, and how long its job waits.
pub mod TimesLaws
-- These laws say what a sound reading says of the records, and that rules that hold give one.
pub mod SoundLaws
-- What the theory asks of a set is shown here of a sound table.
pub mod SetLaws
-- A chain of tests gives the lowest-numbered refusal that applies (LowestLaws), and so does a reading (ReadingLaws).
pub mod LowestLaws
pub mod ReadingLaws
-- This law says which refusal the search for windows gives.
pub mod RefusalLaws
