mod OrderLemmas
mod PlaceLemmas
mod ScopeLemmas
mod BuiltLemmas
mod NodeLemmas
