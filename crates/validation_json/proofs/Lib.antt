mod Rows
mod NameLemmas
