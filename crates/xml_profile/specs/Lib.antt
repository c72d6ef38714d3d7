pub mod TokenByToken
pub mod Profile
pub mod Keeping
pub mod Readers
pub mod Courses
pub mod Fields
