pub mod SumLemmas
pub mod PartLemmas
pub mod KeyLemmas
pub mod TallyLemmas
pub mod CompareLemmas
mod Rows
