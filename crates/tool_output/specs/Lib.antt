pub mod Stops
pub mod Lines
pub mod Saying
pub mod Faults
pub mod FaultLaws
pub mod FrontLaws
pub mod Found
pub mod FoundLaws
