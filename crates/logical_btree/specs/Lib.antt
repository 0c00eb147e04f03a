pub mod Walk
pub mod Tree
pub mod Plan
pub mod Below
pub mod Laws
pub mod Worked
