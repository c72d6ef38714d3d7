use Rattle.whole_laws.proofs.TextLemmas.{open-whole}
use Rattle.whole_laws.proofs.open_tables_lose_nothing.Goals as goal

pub returns : goal.returns
returns c =
    open-whole c.held_invoices_are_whole.ensures c.complete_tables_hold_carried_invoices.ensures
    c.carried_invoices_meet_each_condition.ensures.entries
