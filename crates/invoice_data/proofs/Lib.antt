pub mod DataLemmas
pub mod EntryLemmas
pub mod FindLemmas
pub mod FitLemmas
pub mod GuessLemmas
pub mod MemberLemmas
pub mod PartLemmas
pub mod ReadingLemmas
mod Rows
pub mod TextLemmas
pub mod ToldLemmas
