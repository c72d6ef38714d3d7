pub mod ListLemmas
pub mod OrderLemmas
pub mod TextLemmas
mod OwnTextLemmas
mod CharacterLemmas
mod Rows
