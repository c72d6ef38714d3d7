pub mod Continuing
pub mod Costs
pub mod StrictLemmas
pub mod TurnLaws
pub mod LoopLemmas
pub mod TurnSteps
