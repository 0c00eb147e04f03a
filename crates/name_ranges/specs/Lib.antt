pub mod Directory
pub mod Named
pub mod Changes
pub mod Putting
pub mod Listing
pub mod Worked
