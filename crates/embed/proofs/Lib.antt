pub mod Exchanged
pub mod Grouped
pub mod Passing
pub mod Saving
pub mod WithinCalls
