pub mod Sources
pub mod Invoices
pub mod Conversions
pub mod Totals
pub mod Pages
