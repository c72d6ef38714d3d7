pub mod FindingsJson
