pub mod Seen
pub mod Said
pub mod Answers
pub mod PlanAnswers
pub mod Parsed
