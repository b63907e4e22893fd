pub mod Format
pub mod Rules
pub mod Reading
pub mod Blocks
pub mod Load
pub mod Laws
