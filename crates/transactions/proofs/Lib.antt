pub mod Closed
mod Undone
mod Making
mod RoomLemmas
mod Begun
mod Committed
mod Appending
mod OverlayLemmas
mod Reading
mod Staging
mod Kept
mod GoingOn
mod WithinLemmas
