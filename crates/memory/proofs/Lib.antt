mod Asking
pub mod Answers
mod Gathering
