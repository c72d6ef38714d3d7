pub mod Events
pub mod Names
pub mod NameTables
pub mod Places
pub mod Documents
