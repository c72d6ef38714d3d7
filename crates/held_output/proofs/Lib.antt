pub mod HoldingLemmas
pub mod Protocols
