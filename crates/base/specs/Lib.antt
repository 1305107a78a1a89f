-- First finds the first number at which a test holds.
pub mod First
-- Sum adds numbers by index, and raises one of them.
pub mod Sum
-- Every tests every number below another.
pub mod Every
-- List makes lists by index, and says that each element has a property.
pub mod List
-- Fold takes one step after another along a list.
pub mod Fold
