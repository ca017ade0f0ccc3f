pub mod Bytes
pub mod ByteLaws
pub mod Refused
pub mod Refusal
pub mod RefusalLaws
pub mod Leaving
pub mod Views
