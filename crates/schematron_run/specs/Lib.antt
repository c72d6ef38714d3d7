pub mod Judging
pub mod Contexts
pub mod Inputs
pub mod Ready
pub mod Telling
pub mod Firsts
