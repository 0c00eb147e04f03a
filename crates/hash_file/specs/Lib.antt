pub mod Find
pub mod Plan
pub mod File
pub mod Laws
pub mod Worked
