pub mod Job
pub mod Commands
pub mod Answer
pub mod Answers
pub mod Endings
pub mod Conversions
pub mod Adapters
pub mod Trials
