pub mod Names
pub mod Plans
pub mod Kinds
pub mod Shapes
pub mod Claims
pub mod Walking
