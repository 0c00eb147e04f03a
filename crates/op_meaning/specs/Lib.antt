pub mod AppState
pub mod AppStateLaws
pub mod Order
pub mod OrderLaws
pub mod Table
pub mod TableLaws
