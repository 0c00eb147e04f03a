pub mod Told
pub mod Coming
pub mod Names
pub mod Written
pub mod RecordLemmas
pub mod Acts
