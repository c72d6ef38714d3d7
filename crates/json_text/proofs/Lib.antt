mod Rows
pub mod StringLemmas
pub mod LayoutLemmas
pub mod CallsLemmas
pub mod MadeLemmas
pub mod MakingLemmas
pub mod WordLemmas
