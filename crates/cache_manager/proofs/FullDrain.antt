-- All nodes are installed, by turns.
pub mod Turns
pub mod Taken
pub mod TurnTaken
pub mod GoesOn
