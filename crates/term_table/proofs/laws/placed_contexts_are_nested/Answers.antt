use Rattle.term_table.proofs.RunLemmas.{nested}
use Rattle.term_table.proofs.laws.placed_contexts_are_nested.Goals as goal

pub returns : goal.returns
returns c = nested
