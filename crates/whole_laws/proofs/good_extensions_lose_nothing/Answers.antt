use Rattle.bind_carrying.specs.Tables.{target}
use Rattle.bind_run.specs.Extensions.{rows_for, AreGood}
use Rattle.whole_laws.proofs.good_extensions_lose_nothing.Goals as goal

pub returns-clause-document : goal.returns-clause-document
returns-clause-document c = λ bytes terms syntax es lists read formed.
    let good : AreGood terms = record { fine = c.file_terms_are_extensions.ensures bytes terms read; formed = formed } in
    c.open_tables_lose_nothing.ensures (target es syntax) (rows_for terms (target es syntax)) es lists
    ((c.good_extensions_are_open.ensures terms good).open_each (target es syntax)) (c.good_extensions_are_whole.ensures terms good (target es syntax))
    (formed (target es syntax))

pub returns-clause-text : goal.returns-clause-text
returns-clause-text c = λ bytes terms syntax es lists read formed.
    let good : AreGood terms = record { fine = c.file_terms_are_extensions.ensures bytes terms read; formed = formed } in
    c.written_texts_are_whole.ensures.syntax (rows_for terms) syntax es lists (c.good_extensions_are_open.ensures terms good)
    (c.good_extensions_are_whole.ensures terms good)
