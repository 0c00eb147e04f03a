pub mod State
pub mod Meaning
pub mod MeaningLaws
pub mod LittleEndian
pub mod Cell
pub mod Family
