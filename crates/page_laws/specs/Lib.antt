pub mod Tags
pub mod Visits
