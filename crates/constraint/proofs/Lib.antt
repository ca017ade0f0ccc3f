pub mod Testing
pub mod Putting
pub mod Taking
pub mod Filling
