pub mod Values
pub mod Stacks
pub mod Spelled
pub mod Answers
