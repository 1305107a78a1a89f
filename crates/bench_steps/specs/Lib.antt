-- ManySteps makes many steps, one after the other.
pub mod ManySteps
