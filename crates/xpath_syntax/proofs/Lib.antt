pub mod Cut
pub mod Closing
pub mod Ending
pub mod Running
pub mod Answering
pub mod AnswerLaws
