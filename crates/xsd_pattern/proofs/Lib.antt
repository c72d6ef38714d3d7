mod Rows
pub mod Trees
pub mod Complete
pub mod Sound
pub mod Folded
pub mod Language
pub mod Repeats
pub mod Membership
pub mod Passing
pub mod Characters
pub mod Lexed
pub mod Spelled
pub mod Standing
pub mod Sizes
pub mod PlacedLaws
pub mod Readings
pub mod Answering
