-- A log is rewritten.
pub mod Log
pub mod Ends
