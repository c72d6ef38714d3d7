pub mod Told
pub mod Validating
pub mod OwnTexts
pub mod Held
