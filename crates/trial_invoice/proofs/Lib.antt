pub mod NumberLemmas
mod DigitLemmas
pub mod SumLemmas
mod ValueLemmas
mod WordLemmas
mod PlaceLemmas
mod ListingLemmas
mod HeadLemmas
pub mod LineLemmas
mod PutLemmas
