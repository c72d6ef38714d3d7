use Rattle.term_table.proofs.RunLemmas.{law}
use Rattle.term_table.proofs.laws.entries_of_a_context_are_a_run.Goals as goal

pub returns : goal.returns
returns c = law
