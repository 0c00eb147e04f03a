pub mod Failures
pub mod Target
pub mod Copies
pub mod Refusals
pub mod Length
pub mod Calls
