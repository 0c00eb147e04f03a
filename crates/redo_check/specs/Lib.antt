pub mod Lines
pub mod Slots
pub mod Files
pub mod Checking
