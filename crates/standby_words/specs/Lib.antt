pub mod Shipping
pub mod Following
pub mod FollowingLaws
pub mod Comparing
