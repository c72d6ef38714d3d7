use Rattle.bind_carrying.specs.Tables.{target}
use Rattle.written_laws.specs.Readable.{reading_limits}
use Rattle.extension_laws.proofs.texts_are_documents.Goals as goal

pub returns : goal.returns
returns c = λ tables syntax es lists are invoice valid carried.
    let rows = tables (target es syntax) in
    let was = are.open_each (target es syntax) in
    let any = c.shown_terms_make_a_document.ensures.valid rows es lists was.shows valid in
    c.small_texts_are_documents.ensures reading_limits rows es invoice was.readable any (c.carried_documents_are_small.ensures rows es carried)
