pub mod SplitLemmas
pub mod Outcomes
pub mod ReadLemmas
