mod Tried
pub mod CharacterLemmas
pub mod ParameterLemmas
pub mod WalkLemmas
pub mod MessageLemmas
