-- `ReadyLaws` proves which job may run at a tick.
pub mod ReadyLaws
