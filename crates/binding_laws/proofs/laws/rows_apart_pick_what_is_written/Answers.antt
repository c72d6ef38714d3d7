use Rattle.binding_laws.proofs.RowLemmas.{elements-law, attributes-law}
use Rattle.binding_laws.proofs.InsideLemmas.{inside-law}
use Rattle.binding_laws.proofs.laws.rows_apart_pick_what_is_written.Goals as goal

pub returns-clause-elements : goal.returns-clause-elements
returns-clause-elements c = elements-law

pub returns-clause-attributes : goal.returns-clause-attributes
returns-clause-attributes c = attributes-law

pub returns-clause-inside : goal.returns-clause-inside
returns-clause-inside c = inside-law
