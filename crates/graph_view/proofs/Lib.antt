pub mod EdgeLemmas
pub mod NodeLemmas
pub mod LineLemmas
pub mod DotLemmas
