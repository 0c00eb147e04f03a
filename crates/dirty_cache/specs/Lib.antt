pub mod Contents
pub mod Ends
pub mod Places
