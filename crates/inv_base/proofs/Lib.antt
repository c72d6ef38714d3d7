pub mod WritingLemmas
pub mod FilesLemmas
pub mod EscapeLemmas
pub mod TextLemmas
pub mod PrintingLemmas
pub mod BufferingLemmas
pub mod CharacterLemmas
pub mod FrontLemmas
