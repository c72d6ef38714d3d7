use Rattle.node_arena.proofs.ExpandedLemmas.{found_by_number}
use Rattle.node_arena.proofs.laws.names_are_found_by_number.Goals as goal

pub returns : goal.returns
returns c = found_by_number
