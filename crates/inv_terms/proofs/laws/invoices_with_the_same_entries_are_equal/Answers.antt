use Rattle.inv_terms.proofs.OrderLemmas.{same_members}
use Rattle.inv_terms.proofs.laws.invoices_with_the_same_entries_are_equal.Goals as goal

pub returns : goal.returns
returns c = same_members
