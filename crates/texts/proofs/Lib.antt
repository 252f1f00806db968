pub mod Joined
pub mod Numbers
