pub mod Resized
pub mod Summed
