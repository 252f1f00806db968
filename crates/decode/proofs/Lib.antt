pub mod Clean
pub mod Counts
pub mod Runs
