pub mod FoundLemmas
pub mod JoinLemmas
pub mod EachLemmas
pub mod CoverLemmas
pub mod ScopeLemmas
pub mod CopyLemmas
pub mod PutLemmas
pub mod ThereLemmas
pub mod LastLemmas
pub mod StandLemmas
pub mod SkipLemmas
pub mod SearchLemmas
pub mod RuleLemmas
pub mod AcceptLemmas
pub mod FaultLemmas
pub mod NodeLemmas
pub mod JudgeLemmas
pub mod LoopLemmas
pub mod StayLemmas
pub mod AgainLemmas
pub mod TextLemmas
pub mod SeenLemmas
pub mod GoneLemmas
mod ListLemmas
mod CycleLemmas
mod CountLemmas
