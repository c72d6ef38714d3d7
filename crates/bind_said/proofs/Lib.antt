pub mod ListLemmas
pub mod MarkLemmas
pub mod LoopLemmas
pub mod WordLemmas
pub mod SayLemmas
pub mod PickLemmas
pub mod WholeLemmas
