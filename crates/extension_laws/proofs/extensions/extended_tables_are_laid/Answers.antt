use Rattle.extension_laws.proofs.extensions.extended_tables_are_laid.Goals as goal

pub returns-clause-laid : goal.returns-clause-laid
returns-clause-laid c = λ terms table good. ((c.good_extensions_are_open.ensures terms good).open_each table).laid

pub returns-clause-notes : goal.returns-clause-notes
returns-clause-notes c = λ terms table good. ((c.good_extensions_are_open.ensures terms good).open_each table).notes
