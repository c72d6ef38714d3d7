pub mod OwnLemmas
pub mod WayLemmas
pub mod ElementLemmas
pub mod WalkLemmas
pub mod FullLemmas
pub mod StayLemmas
pub mod TextLemmas
pub mod Tables
