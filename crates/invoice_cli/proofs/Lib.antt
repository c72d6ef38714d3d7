pub mod AnswersLemmas
pub mod HandingLemmas
pub mod OptionLemmas
mod TrialLemmas
mod ConversionLemmas
