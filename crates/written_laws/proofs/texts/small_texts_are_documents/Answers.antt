use Rattle.written_laws.proofs.ReadLemmas.{written-xml}
use Rattle.written_laws.proofs.texts.small_texts_are_documents.Goals as goal

pub returns : goal.returns
returns c = written-xml c.spelled_values_are_read_back.ensures c.canonical_text_is_read.ensures
