-- One node is installed, with the identity writes that it needs.
pub mod Goes
pub mod Logs
pub mod Loops
pub mod Taken
pub mod Telling
pub mod Copying
