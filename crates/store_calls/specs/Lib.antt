pub mod View
pub mod Making
pub mod Laws
pub mod OfEngine
pub mod EngineLaws
