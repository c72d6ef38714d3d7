use Rattle.binding_laws.proofs.RowLemmas.{elements-without, attributes-without}
use Rattle.binding_laws.proofs.InsideLemmas.{inside-without}
use Rattle.binding_laws.proofs.Leaves.{totals-apart}
use Rattle.binding_laws.proofs.laws.rows_apart_without_terms_pick_what_is_written.Goals as goal

pub returns-clause-elements : goal.returns-clause-elements
returns-clause-elements c = elements-without

pub returns-clause-attributes : goal.returns-clause-attributes
returns-clause-attributes c = attributes-without

pub returns-clause-inside : goal.returns-clause-inside
returns-clause-inside c = inside-without

pub returns-clause-totals : goal.returns-clause-totals
returns-clause-totals c = totals-apart
