-- A store and a world take the same step.
pub mod Appended
pub mod Forced
pub mod Installed
pub mod Finished
pub mod Written
pub mod RoundImages
