pub mod Accepted
pub mod Got
pub mod ReadOps
pub mod ReadState
