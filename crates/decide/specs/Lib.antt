pub mod Deciding
pub mod Views
pub mod Decisions
pub mod Computing
pub mod Examples
