pub mod ToldLemmas
pub mod EnteredLemmas
pub mod KeptLemmas
