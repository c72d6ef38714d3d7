pub mod Loading
pub mod Whole
pub mod Walking
