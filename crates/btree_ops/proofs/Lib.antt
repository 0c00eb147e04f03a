pub mod LeafLemmas
pub mod SplitLemmas
pub mod Outcomes
