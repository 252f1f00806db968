pub mod Copying
pub mod Parts
