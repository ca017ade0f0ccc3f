pub mod Lent
pub mod Ends
