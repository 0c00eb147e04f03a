pub mod Courses
pub mod Checkpoints
pub mod Left
pub mod Told
pub mod Worked
