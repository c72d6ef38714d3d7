use Rattle.written_laws.proofs.TextLemmas.{table-xml, valid-xml, syntax-xml}
use Rattle.written_laws.proofs.texts.carried_texts_are_documents.Goals as goal

pub returns-clause-held : goal.returns-clause-held
returns-clause-held c = table-xml c.spelled_values_are_read_back.ensures c.canonical_text_is_read.ensures

pub returns-clause-valid : goal.returns-clause-valid
returns-clause-valid c = valid-xml c.spelled_values_are_read_back.ensures c.canonical_text_is_read.ensures

pub returns-clause-syntax : goal.returns-clause-syntax
returns-clause-syntax c = syntax-xml c.spelled_values_are_read_back.ensures c.canonical_text_is_read.ensures
