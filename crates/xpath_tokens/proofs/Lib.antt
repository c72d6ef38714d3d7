pub mod LongestLaws
pub mod ScanningLaws
pub mod ClosingLaws
pub mod CommentLaws
pub mod Walks
pub mod WordsLaws
pub mod NumberLaws
pub mod TextLemmas
pub mod JudgingLaws
pub mod AnswerLaws
pub mod TableLaws
mod Rows
