mod Rows
mod KindLemmas
mod FileLemmas
