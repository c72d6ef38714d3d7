use Rattle.schematron_entries.proofs.NumberLemmas.{entries_below}
use Rattle.schematron_entries.proofs.laws.numbers_are_of_nodes.Goals as goal

pub returns : goal.returns
returns c = entries_below
