mod FrontLemmas
pub mod AsciiLemmas
