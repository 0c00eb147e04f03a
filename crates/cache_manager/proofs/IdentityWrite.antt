-- One identity write.
pub mod Taken
pub mod Logging
