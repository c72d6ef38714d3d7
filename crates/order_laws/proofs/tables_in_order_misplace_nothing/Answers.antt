use Rattle.order_laws.proofs.OrderLemmas.{nothing-misplaced}
use Rattle.order_laws.proofs.tables_in_order_misplace_nothing.Goals as goal

pub returns : goal.returns
returns c = nothing-misplaced
