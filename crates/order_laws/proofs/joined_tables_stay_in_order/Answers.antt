use Rattle.order_laws.proofs.JoinedLemmas.{order-more, order-extended}
use Rattle.order_laws.proofs.joined_tables_stay_in_order.Goals as goal

pub returns-clause-in_order : goal.returns-clause-in_order
returns-clause-in_order c = order-more

pub returns-clause-extended_table : goal.returns-clause-extended_table
returns-clause-extended_table c = order-extended
