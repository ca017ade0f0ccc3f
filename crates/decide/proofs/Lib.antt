-- Laws that several proofs cite.
mod Ways
