pub mod WalkLemmas
pub mod PlanLemmas
pub mod TurnLemmas
pub mod ScanLemmas
pub mod PieceLemmas
