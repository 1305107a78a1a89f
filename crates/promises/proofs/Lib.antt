-- What specs/Demand1.antt says holds.
pub mod Demand1
-- It is used with all that it asks met.
pub mod UsesOfDemand1
