pub mod ReadOps
pub mod ReadState
pub mod RecordLemmas
