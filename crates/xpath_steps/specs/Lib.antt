pub mod Numbers
pub mod Steps
pub mod Sets
pub mod Variables
pub mod Insides
pub mod Lending
