pub mod Cases
pub mod Fields
pub mod Kept
pub mod Within
