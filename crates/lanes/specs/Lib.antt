pub mod Integer
pub mod Words
pub mod Numbers
pub mod Operations
pub mod Summary
pub mod Order
pub mod Width
pub mod Placed
