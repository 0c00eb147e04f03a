-- A store of an older version becomes one of a later.
pub mod Behind
pub mod Moved
pub mod Grown
pub mod Admitted
pub mod Staying
pub mod Uncut
pub mod Filled
