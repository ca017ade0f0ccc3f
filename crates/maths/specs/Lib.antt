pub mod Series
pub mod Exp
pub mod Ln
pub mod Trig
pub mod Cplx
pub mod Computing
pub mod Examples
pub mod Zeros
