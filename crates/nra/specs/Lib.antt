pub mod Solver
pub mod Words
pub mod Answers
pub mod RunLaws
pub mod Calls
pub mod Fits
pub mod Computing
pub mod Examples
