use Rattle.order_laws.proofs.TableLemmas.{tables-in-order}
use Rattle.order_laws.proofs.tables_are_in_order.Goals as goal

pub returns : goal.returns
returns c = tables-in-order
