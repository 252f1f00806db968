pub mod Decode
pub mod Reserved
pub mod Traits
