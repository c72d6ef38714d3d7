pub mod CodeLemmas
pub mod KeyLemmas
pub mod OffenceLemmas
pub mod FileLemmas
pub mod ListLemmas
