use Rattle.bind_terms.proofs.FirstFault.{first-of-all, none-of-all}
use Rattle.bind_terms.proofs.laws.first_faults_are_first_of_all.Goals as goal

pub returns-clause-first : goal.returns-clause-first
returns-clause-first c = first-of-all

pub returns-clause-none : goal.returns-clause-none
returns-clause-none c = none-of-all
