pub mod FindLemmas
pub mod PutLemmas
