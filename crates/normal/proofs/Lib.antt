-- Laws that several proofs cite.
pub mod Forms
pub mod Calls
