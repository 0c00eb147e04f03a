-- The thin node of the least name.
pub mod Nodes
pub mod Worlds
