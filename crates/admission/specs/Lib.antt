-- `Figure` defines the limit of a task's window, and its response figure.
pub mod Figure
-- `Verdicts` defines the walk over the tasks of a table, and the verdict.
pub mod Verdicts
-- `Says` gives, as facts, what a verdict says.
pub mod Says
-- `Applies` says, as facts, when each refusal applies to an admission.
pub mod Applies
