pub mod Serves
pub mod Within
pub mod Turning
