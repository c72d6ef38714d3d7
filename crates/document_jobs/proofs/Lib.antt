pub mod OutlineLemmas
mod QueryLemmas
mod CheckLemmas
