use Rattle.bind_carrying.specs.Tables.{target}
use Rattle.whole_laws.proofs.TextLemmas.{text-whole}
use Rattle.whole_laws.proofs.written_texts_are_whole.Goals as goal

pub returns-clause-table : goal.returns-clause-table
returns-clause-table c = λ tables table es lists are whole.
    text-whole c.open_tables_lose_nothing.ensures c.small_documents_are_read_back.ensures c.shown_terms_make_a_document.ensures.valid
    c.carried_documents_are_small.ensures c.roots_tell_their_tables.ensures.document tables are whole table es lists

pub returns-clause-syntax : goal.returns-clause-syntax
returns-clause-syntax c = λ tables syntax es lists are whole.
    text-whole c.open_tables_lose_nothing.ensures c.small_documents_are_read_back.ensures c.shown_terms_make_a_document.ensures.valid
    c.carried_documents_are_small.ensures c.roots_tell_their_tables.ensures.document tables are whole (target es syntax) es lists
