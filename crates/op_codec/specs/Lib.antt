pub mod Sum
pub mod SumLaws
pub mod AllOps
pub mod Tags
