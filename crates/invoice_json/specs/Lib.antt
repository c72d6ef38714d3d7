pub mod InvoiceJson
pub mod Streaming
