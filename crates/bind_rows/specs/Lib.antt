pub mod Same
pub mod Namespaces
pub mod Contents
pub mod Added
