pub mod Addresses
pub mod Answers
pub mod Kinds
pub mod Orders
