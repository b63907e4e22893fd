pub mod Same
pub mod Placing
pub mod Rows
pub mod Codes
pub mod Reading
pub mod Deciding
pub mod Packing
pub mod Writing
