use Rattle.xpath_operators.proofs.strings.string_at.Given as goal

abbrev pub ghosts-string_by : goal.ghosts-string_by
ghosts-string_by a = record { name = a.ledger.name; parts = a.ledger.parts }
