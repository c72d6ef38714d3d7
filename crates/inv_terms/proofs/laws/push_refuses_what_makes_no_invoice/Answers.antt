use Rattle.inv_terms.proofs.GapLemmas.{law}
use Rattle.inv_terms.proofs.laws.push_refuses_what_makes_no_invoice.Goals as goal

pub returns : goal.returns
returns c = law
