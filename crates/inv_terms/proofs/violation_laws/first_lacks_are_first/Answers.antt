use Rattle.inv_terms.proofs.FirstLemmas.{told, first}
use Rattle.inv_terms.proofs.violation_laws.first_lacks_are_first.Goals as goal

pub returns-clause-told : goal.returns-clause-told
returns-clause-told c = told

pub returns-clause-first : goal.returns-clause-first
returns-clause-first c = first
