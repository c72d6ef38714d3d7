pub mod TotalsJson
