-- Laws that several proofs cite.
mod Choices
mod Branches
mod Passes
mod Rounds
mod Given
pub mod Shrinking
pub mod Promise
