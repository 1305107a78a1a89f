-- The cases A to I of RULES 15 hold.
pub mod Cases
-- Any two results that a promise allows are equal.
pub mod Settled
-- Demand 1, on one page, says what is refused, when, and that nothing changes then.
pub mod Demand1
-- The answers say more of it: when a call is accepted, and that along a history no call gets 6.
pub mod Answers
-- Demand 2, on one page, says what each tick is, who is admitted, and which the figures and counts are.
pub mod Demand2
-- Demand 3, on one page, says that every job finishes, that each figure is reached, that who fails is late, and that a
-- tail tick brings rest.
pub mod Demand3
-- A waking length splits the count of slot ticks, and changes nothing else.
pub mod Waking
-- A state is saved in words and restored.
pub mod Saved
-- Numbers, answers and the order of words are held against literal numbers.
pub mod Pinned
-- Every theorem that has hypotheses is used with all of them met.
pub mod Uses
-- What is said of waking is used on the house table, and case J is computed.
pub mod HouseWaking
-- That every job finishes is used on the house table's worst pattern.
pub mod HouseJobs
