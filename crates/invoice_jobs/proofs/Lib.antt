pub mod SourceLemmas
pub mod InvoiceLemmas
pub mod ConversionLemmas
pub mod DoneLemmas
pub mod EndLemmas
