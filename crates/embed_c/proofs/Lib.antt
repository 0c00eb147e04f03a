pub mod Failures
pub mod Fronts
pub mod GivingUp
pub mod Left
pub mod Named
pub mod OnHandles
pub mod OnMaps
pub mod OnTargets
pub mod TargetValues
pub mod Telling
pub mod Transacting
pub mod Untaken
pub mod Values
pub mod WithinCalls
mod Snapshotting
