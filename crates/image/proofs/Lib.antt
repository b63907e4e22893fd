pub mod Sums
pub mod Order
pub mod Walk
pub mod Cover
pub mod Chunks
