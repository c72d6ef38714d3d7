use Rattle.validation_report.proofs.values.own_text.Given as goal

-- The moves' ledger is the blank one.
abbrev pub ghosts-inner_texts_by : goal.ghosts-inner_texts_by
ghosts-inner_texts_by a = record { name = a.ledger.name; parts = a.ledger.parts }
