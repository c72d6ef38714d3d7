pub mod PathLemmas
pub mod TableLemmas
pub mod FileLemmas
pub mod ExtensionLemmas
pub mod Worked
