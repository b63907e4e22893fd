pub mod Bits
pub mod Signs
pub mod Results
pub mod Shifting
pub mod Interrupting
