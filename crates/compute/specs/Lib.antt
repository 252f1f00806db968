pub mod Families
pub mod Computed
