pub mod Matching
pub mod Numerals
pub mod Scanning
pub mod Parts
pub mod Showing
pub mod Pairs
