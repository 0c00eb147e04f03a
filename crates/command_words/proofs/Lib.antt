pub mod AskedLemmas
pub mod CommandLemmas
pub mod NameLemmas
pub mod OneLemmas
pub mod PlainLemmas
pub mod ReadLemmas
pub mod WordLemmas
