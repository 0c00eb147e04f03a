pub mod Codes
pub mod ReadNumbers
