pub mod Shapes
pub mod Found
pub mod Marking
pub mod FirstSteps
