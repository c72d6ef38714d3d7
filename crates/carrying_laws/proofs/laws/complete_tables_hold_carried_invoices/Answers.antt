use Rattle.carrying_laws.proofs.HeldLemmas.{held}
use Rattle.carrying_laws.proofs.laws.complete_tables_hold_carried_invoices.Goals as goal

pub returns : goal.returns
returns c = λ rows es lists invoice valid complete keeps none. held rows complete es lists invoice valid keeps none
