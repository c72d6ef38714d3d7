use Rattle.carrying_laws.proofs.TableLemmas.{tables-hold}
use Rattle.carrying_laws.proofs.laws.carried_invoices_are_read_exactly.Goals as goal

pub returns : goal.returns
returns c = λ table es lists invoice valid keeps. c.valid_invoices_are_read_exactly.ensures table es lists invoice valid
    (tables-hold table es lists invoice valid keeps)
