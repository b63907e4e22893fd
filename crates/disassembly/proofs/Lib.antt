pub mod Rowing
pub mod Lines
pub mod Law
pub mod Whole
pub mod Hex
