pub mod Above
pub mod Digits
pub mod Powers
pub mod Mantissa
pub mod Bits
pub mod Range
pub mod Quarters
pub mod Series
