mod TextLemmas
mod PutLemmas
mod CountingLemmas
mod LocationLemmas
mod Rows
