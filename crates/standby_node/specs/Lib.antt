pub mod Failures
pub mod Standby
pub mod Feeding
pub mod Attaching
pub mod Upkeep
pub mod Steps
pub mod OnePrimary
pub mod Same
