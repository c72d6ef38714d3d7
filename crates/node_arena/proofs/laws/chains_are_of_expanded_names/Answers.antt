use Rattle.node_arena.proofs.ExpandedLemmas.{expanded_chain, expanded_first, expanded_next}
use Rattle.node_arena.proofs.laws.chains_are_of_expanded_names.Goals as goal

pub returns-clause-chain : goal.returns-clause-chain
returns-clause-chain c = expanded_chain

pub returns-clause-first : goal.returns-clause-first
returns-clause-first c = expanded_first

pub returns-clause-next : goal.returns-clause-next
returns-clause-next c = expanded_next
