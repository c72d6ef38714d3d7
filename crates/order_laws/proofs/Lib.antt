pub mod ListLemmas
pub mod PlaceLemmas
pub mod NumberLemmas
pub mod ChildLemmas
pub mod OrderLemmas
pub mod TableLemmas
pub mod JoinLemmas
pub mod JoinedLemmas
