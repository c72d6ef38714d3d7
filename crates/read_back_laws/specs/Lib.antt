pub mod Items
pub mod Saying
