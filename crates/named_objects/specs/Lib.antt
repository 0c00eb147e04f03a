pub mod Answers
pub mod Giving
pub mod Records
pub mod Acting
