pub mod Opened
pub mod Redone
pub mod Restarts
pub mod Judged
pub mod Layouts
pub mod Reopens
