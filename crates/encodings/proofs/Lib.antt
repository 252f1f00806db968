pub mod Arms
pub mod Table
pub mod Unique
pub mod Words
