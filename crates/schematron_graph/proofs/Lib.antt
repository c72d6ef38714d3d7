pub mod RankedLemmas
pub mod WalkLemmas
pub mod DepthLemmas
pub mod BuiltLemmas
pub mod BackLemmas
mod Tried
mod OnceLemmas
