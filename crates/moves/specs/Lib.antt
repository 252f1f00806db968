pub mod Chosen
pub mod Shifted
