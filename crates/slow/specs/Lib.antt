pub mod Waits
pub mod Behaviour
pub mod Repetition
