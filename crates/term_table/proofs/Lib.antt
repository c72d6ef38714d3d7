pub mod TermLemmas
pub mod GroupLemmas
pub mod DataTypeLemmas
pub mod SeatLemmas
pub mod RunLemmas
pub mod ExtensionLemmas
mod Computed
