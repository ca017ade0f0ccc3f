pub mod File
pub mod Code
pub mod FileLaws
pub mod Answer
pub mod Computing
pub mod Examples
