pub mod TextLemmas
pub mod FunctionLemmas
pub mod ScopeLemmas
pub mod HeightLemmas
pub mod VariableLemmas
pub mod RefusalLemmas
pub mod LeafLemmas
pub mod PlaceLemmas
pub mod PatternLemmas
pub mod WalkLemmas
pub mod KindLaws
pub mod FreeLaws
pub mod WalkLaws
pub mod TypingLaws
pub mod OrderLaws
mod Rows
mod WiderLemmas
