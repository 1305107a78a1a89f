-- `StateLaws` proves that the test of a state's rules says what the rules are.
pub mod StateLaws
-- `PlaceLaws` is about states that differ in one place, and when they keep the rules.
pub mod PlaceLaws
-- `ReleaseLaws` proves what an accepted release found, and what it does.
pub mod ReleaseLaws
-- `TickLaws` proves what a tick is, and that the state after it keeps the rules.
pub mod TickLaws
-- `MayRunLaws` proves the tick in words.
pub mod MayRunLaws
-- `StepLaws` proves that a step makes its tick or moves nothing.
pub mod StepLaws
-- `GivenLaws` proves when what a start is given reads as sound.
pub mod GivenLaws
-- `StartLaws` proves that a fresh state keeps the rules.
pub mod StartLaws
-- `RefusalLaws` proves which refusals each call can give.
pub mod RefusalLaws
-- `AnswerLaws` proves that an answer is the lowest-numbered refusal that applies.
pub mod AnswerLaws
