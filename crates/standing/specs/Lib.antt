pub mod Members
pub mod Standing
pub mod Shown
pub mod Crashed
pub mod OneStable
pub mod Moments
pub mod Worked
