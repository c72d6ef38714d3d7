use Rattle.inv_terms.proofs.AllLemmas.{first-is, in-order}
use Rattle.inv_terms.proofs.violation_laws.first_missing_is_first_of_all.Goals as goal

pub returns-clause-first : goal.returns-clause-first
returns-clause-first c = first-is

pub returns-clause-order : goal.returns-clause-order
returns-clause-order c = in-order
