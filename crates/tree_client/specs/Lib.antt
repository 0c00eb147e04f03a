pub mod Answers
pub mod Finding
pub mod Scanning
pub mod Pieces
pub mod Calls
