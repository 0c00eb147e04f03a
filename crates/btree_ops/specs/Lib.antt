pub mod Node
pub mod Head
pub mod NodeLaws
pub mod Effects
pub mod Operation
pub mod OperationLaws
pub mod Laws
pub mod MapLaws
