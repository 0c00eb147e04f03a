pub mod Edges
pub mod Nodes
pub mod Dot
pub mod Taking
pub mod Lines
