pub mod Bits
pub mod Encodings
