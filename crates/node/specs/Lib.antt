-- This module writes words one after the other.
pub mod Words
-- This module has the words of a state, a tally and a verdict, and their reading back.
pub mod Layout
-- This module says what each call gives on any words.
pub mod Calls
-- This module has a state saved and restored.
pub mod Saved
