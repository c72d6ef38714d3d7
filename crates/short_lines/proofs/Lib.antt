pub mod ComposingLemmas
mod PlainLemmas
