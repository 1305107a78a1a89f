-- These laws say what a buffer holds after words are put into it.
pub mod WordLaws
-- These laws say that states and words are read and written, there and back.
pub mod LayoutLaws
-- These laws take the calls on words by their cases.
pub mod CallLaws
-- These laws say that energy has room above a number, and that a refused reading has none there.
pub mod EnergyLaws
-- What is saved is read back, and histories go on from it.
pub mod SavedLaws
