pub mod Neighbours
pub mod Signs
pub mod Whole
pub mod Zeros
