pub mod FlipLemmas
pub mod PlaceLemmas
pub mod NameLemmas
pub mod DistinctLemmas
