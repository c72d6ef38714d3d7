use Rattle.carrying_laws.proofs.TableLemmas.{tables-hold}
use Rattle.carrying_laws.proofs.laws.carried_invoices_are_converted_back.Goals as goal

pub returns : goal.returns
returns c = λ first second es lists invoice valid keeps other_keeps.
    c.valid_invoices_are_converted_back.ensures first second es lists invoice valid (tables-hold first es lists invoice valid keeps)
    (tables-hold second es lists invoice valid other_keeps)
