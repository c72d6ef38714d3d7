mod ReadingLemmas
mod LengthLemmas
mod LoadLemmas
mod WholeLemmas
mod WalkingLemmas
