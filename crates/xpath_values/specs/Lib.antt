pub mod Alike
pub mod Distinct
pub mod Domains
pub mod Pieces
pub mod Places
pub mod Spacing
pub mod Translations
