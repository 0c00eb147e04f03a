pub mod Causes
pub mod Endings
pub mod Rising
pub mod Redo
pub mod Replayed
pub mod Progress
