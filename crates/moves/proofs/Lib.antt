pub mod ByName
pub mod Shifted
