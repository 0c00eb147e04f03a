-- A store of an older version becomes one of a later.
pub mod Larger
pub mod Growing
pub mod Admitting
pub mod Filling
