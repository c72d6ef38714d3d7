pub mod Document
pub mod Moves
pub mod Walks
pub mod Links
pub mod Slots
pub mod Keys
pub mod Linked
pub mod Strings
