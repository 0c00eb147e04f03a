pub mod FreeLemmas
pub mod RunLemmas
pub mod RoundLemmas
