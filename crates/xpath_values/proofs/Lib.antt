pub mod CharacterLemmas
pub mod DistinctLemmas
pub mod JoinLemmas
pub mod PieceLemmas
pub mod PlaceLemmas
pub mod TotalLemmas
pub mod PatternLemmas
pub mod SpaceLemmas
