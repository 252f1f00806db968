pub mod ByFours
pub mod DigitByDigit
