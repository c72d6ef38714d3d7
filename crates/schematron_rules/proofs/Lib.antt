mod WordLemmas
mod PhaseLemmas
mod ParsedLemmas
