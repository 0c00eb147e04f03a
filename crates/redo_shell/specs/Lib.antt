pub mod Causes
pub mod Exactly
pub mod Sessions
pub mod Demo
pub mod Calls
pub mod Twice
pub mod Beside
