pub mod Free
pub mod FreeLaws
pub mod Plan
pub mod Laws
pub mod PlanLaws
