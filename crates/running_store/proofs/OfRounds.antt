-- Objects are flushed together.
pub mod Holds
pub mod Fills
pub mod Flushed
pub mod Shows
pub mod Ends
