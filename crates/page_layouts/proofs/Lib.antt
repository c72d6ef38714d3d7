mod HeadLemmas
pub mod ShowLemmas
