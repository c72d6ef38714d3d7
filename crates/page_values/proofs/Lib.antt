pub mod EscapeLemmas
pub mod LoopLemmas
mod PartLemmas
mod PlaceLemmas
mod SizeLemmas
