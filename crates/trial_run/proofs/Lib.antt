mod MemoryLemmas
mod TrialLemmas
