pub mod LaidLemmas
pub mod SetLemmas
pub mod FetchLemmas
pub mod Inside
pub mod StartsNow
pub mod DirtyCount
pub mod Commanded
pub mod FlushLemmas
pub mod Tails
pub mod OfRewrites
pub mod PrepareLemmas
pub mod OfRounds
mod LentLemmas
mod DoneLemmas
