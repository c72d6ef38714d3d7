use Rattle.bind_carrying.specs.Tables.{target}
use Rattle.extension_laws.proofs.TextLemmas.{round}
use Rattle.extension_laws.proofs.round_trip.Goals as goal

pub returns-clause-table : goal.returns-clause-table
returns-clause-table c = λ tables table es lists are.
    round c.invoices_of_covered_rows_are_read_back.ensures.exactly c.complete_tables_hold_carried_invoices.ensures
    c.carried_invoices_meet_each_condition.ensures.entries c.small_documents_are_read_back.ensures
    c.shown_terms_make_a_document.ensures.valid c.carried_documents_are_small.ensures
    c.roots_tell_their_tables.ensures.document tables are table es lists

pub returns-clause-syntax : goal.returns-clause-syntax
returns-clause-syntax c = λ tables syntax es lists are.
    round c.invoices_of_covered_rows_are_read_back.ensures.exactly c.complete_tables_hold_carried_invoices.ensures
    c.carried_invoices_meet_each_condition.ensures.entries c.small_documents_are_read_back.ensures
    c.shown_terms_make_a_document.ensures.valid c.carried_documents_are_small.ensures
    c.roots_tell_their_tables.ensures.document tables are (target es syntax) es lists
