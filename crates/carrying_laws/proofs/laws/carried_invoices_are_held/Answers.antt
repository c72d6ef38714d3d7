use Rattle.carrying_laws.proofs.TableLemmas.{tables-hold}
use Rattle.carrying_laws.proofs.laws.carried_invoices_are_held.Goals as goal

pub returns : goal.returns
returns c = tables-hold
