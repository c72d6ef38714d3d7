pub mod EncodingLemmas
pub mod CallsLemmas
mod Tried
pub mod LengthLemmas
pub mod SizeLemmas
pub mod WriterLemmas
