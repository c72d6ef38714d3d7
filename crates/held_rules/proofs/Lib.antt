mod HeldLemmas
mod RuleLemmas
