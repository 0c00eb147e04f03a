pub mod ShippingLemmas
pub mod ComparingLemmas
pub mod FollowingLemmas
