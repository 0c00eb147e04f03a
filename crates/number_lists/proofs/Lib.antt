pub mod Links
pub mod Steps
pub mod Poured
pub mod More
pub mod Placed
pub mod Standing
pub mod Marked
pub mod Counted
