use Rattle.inv_terms.proofs.OrderLemmas.{invoice-order}
use Rattle.inv_terms.proofs.laws.invoices_are_in_listing_order.Goals as goal

pub returns : goal.returns
returns c = invoice-order
