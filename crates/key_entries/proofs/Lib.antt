pub mod Copied
pub mod OneByOne
pub mod PlaceLemmas
pub mod NoValues
pub mod SpotLemmas
