mod Rows
mod NameLemmas
mod CallLemmas
mod RunLemmas
mod LevelLemmas
mod StreamLemmas
