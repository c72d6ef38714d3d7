pub mod Strings
pub mod Numbers
pub mod Grammar
pub mod Items
