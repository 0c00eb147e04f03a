pub mod Embedded
pub mod Within
pub mod Real
