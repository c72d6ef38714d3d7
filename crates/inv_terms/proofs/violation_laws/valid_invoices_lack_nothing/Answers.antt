use Rattle.inv_terms.proofs.ValidLemmas.{valid}
use Rattle.inv_terms.proofs.violation_laws.valid_invoices_lack_nothing.Goals as goal

pub returns : goal.returns
returns c = valid
