pub mod Clamped
pub mod Resized
pub mod Summed
