pub mod BuiltLemmas
pub mod NodeLemmas
pub mod TreeLemmas
mod KeptLemmas
mod GrowingLemmas
mod BuilderLemmas
mod ChainLemmas
mod MoveLemmas
pub mod FoundLemmas
pub mod StepLemmas
pub mod WalkLemmas
pub mod IntervalLemmas
mod StringLemmas
pub mod ExpandedLemmas
