pub mod Bytes
pub mod Promise
pub mod Plain
pub mod ByteLaws
pub mod Settling
pub mod Calls
