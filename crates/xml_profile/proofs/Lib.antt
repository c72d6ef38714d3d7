mod Rows
pub mod ReadCutLemmas
pub mod ReadInTwoLemmas
pub mod GrowthLemmas
pub mod EndedLemmas
pub mod TokenLemmas
pub mod TurnLemmas
pub mod EventLemmas
pub mod RunLemmas
pub mod BlankLemmas
pub mod CourseLemmas
pub mod FeedLemmas
pub mod InsideLemmas
pub mod KeptLemmas
pub mod ReaderLemmas
pub mod FinishLemmas
pub mod MemoryLemmas
