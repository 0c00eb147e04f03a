-- Nodes leave the graph.
pub mod Members
pub mod Entries
pub mod LeftNodes
