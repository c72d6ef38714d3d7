pub mod NameLemmas
pub mod DistinctLemmas
pub mod FlatLemmas
