pub mod Dump
pub mod Upgrading
pub mod Cut
pub mod Making
