use Rattle.extension_laws.proofs.TextLemmas.{open-read}
use Rattle.extension_laws.proofs.open_tables_read_exactly.Goals as goal

pub returns : goal.returns
returns c =
    open-read c.invoices_of_covered_rows_are_read_back.ensures.exactly c.complete_tables_hold_carried_invoices.ensures
    c.carried_invoices_meet_each_condition.ensures.entries
