pub mod Hash
pub mod Blocks
pub mod Effects
pub mod Operation
pub mod OperationLaws
pub mod Laws
pub mod BlockLaws
pub mod RenameLaws
