pub mod Lines
pub mod Protocol
pub mod Outside
pub mod Runs
pub mod Libraries
pub mod Views
pub mod Documents
pub mod Numbers
