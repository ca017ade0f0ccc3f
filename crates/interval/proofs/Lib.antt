-- Laws that several proofs cite.
mod Floats
mod Points
mod Loops
