pub mod Runs
pub mod Reading
pub mod Lines
pub mod Commands
pub mod Replies
pub mod Faults
pub mod Worked
