use Rattle.inv_terms.proofs.ContextLemmas.{contexts_are}
use Rattle.inv_terms.proofs.violation_laws.contexts_are_those_of_the_entries.Goals as goal

pub returns : goal.returns
returns c = contexts_are
