pub mod NoteLemmas
mod Rows
