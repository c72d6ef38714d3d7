pub mod Words
pub mod PathTexts
pub mod TermTables
pub mod ExtensionFiles
pub mod Extensions
