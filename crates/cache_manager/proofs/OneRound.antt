-- Nodes that are due are installed together.
pub mod DueNodes
pub mod DueWorlds
pub mod NextDue
pub mod Singles
pub mod Full
pub mod Goes
pub mod Taken
