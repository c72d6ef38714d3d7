pub mod Layouts
pub mod Tables
pub mod Sections
pub mod Streaming
