pub mod PlainLemmas
pub mod WriterSteps
pub mod SvrlLemmas
