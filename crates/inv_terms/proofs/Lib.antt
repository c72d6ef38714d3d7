pub mod TrimLemmas
pub mod ListingLemmas
pub mod PushLemmas
pub mod InvoiceLemmas
pub mod AttachmentLemmas
mod Rows
pub mod OrderLemmas
pub mod SpellLemmas
pub mod GapLemmas
pub mod MapLemmas
pub mod PresenceLemmas
pub mod CountLemmas
pub mod LineRowLemmas
mod LeftOutLemmas
pub mod WalkLemmas
mod LackRows
pub mod ContextLemmas
pub mod FirstLemmas
pub mod ValidLemmas
pub mod AllLemmas
