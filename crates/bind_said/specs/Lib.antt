pub mod Marks
pub mod Saying
pub mod Judged
pub mod Whole
