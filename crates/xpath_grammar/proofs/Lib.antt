pub mod Facts
pub mod Closing
pub mod Leading
pub mod Complete
pub mod Holding
pub mod Sound
pub mod Algebras
pub mod Derivations
pub mod PatternLaws
pub mod ViewLaws
pub mod PlaceLaws
mod Rows
