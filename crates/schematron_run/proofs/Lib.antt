pub mod ListLemmas
pub mod LetLemmas
pub mod MessageLemmas
pub mod MarkLemmas
pub mod FirstLemmas
pub mod CompiledLemmas
