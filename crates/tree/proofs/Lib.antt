pub mod Floats
pub mod Nodes
pub mod Append
pub mod Tests
