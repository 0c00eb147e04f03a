pub mod DumpLemmas
pub mod UpgradeLemmas
pub mod InitLemmas
