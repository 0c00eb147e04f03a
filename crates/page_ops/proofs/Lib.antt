pub mod LayoutLemmas
pub mod Outcomes
pub mod PartLemmas
pub mod CellLemmas
pub mod SeekLemmas
pub mod SearchLemmas
pub mod Appended
