pub mod Bodied
pub mod Sizes
pub mod Counted
pub mod Linked
pub mod Sorts
pub mod Seen
pub mod Found
