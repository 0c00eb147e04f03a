-- The next node to install, and what it has to flush.
pub mod Least
pub mod Named
pub mod Work
pub mod Taken
pub mod WorkOf
pub mod Planned
pub mod Finishing
pub mod Besides
