pub mod FormLemmas
pub mod JudgeLemmas
pub mod EndLemmas
pub mod FileLemmas
pub mod SlotLemmas
