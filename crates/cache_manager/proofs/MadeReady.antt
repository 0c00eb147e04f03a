-- Nodes that may not be finished yet are made ready together.
pub mod Nodes
pub mod Full
pub mod Goes
pub mod Worlds
pub mod Chosen
pub mod Stored
