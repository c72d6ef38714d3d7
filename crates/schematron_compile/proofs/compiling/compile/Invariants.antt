use Rattle.schematron_compile.proofs.compiling.compile.Given as goal

-- The ledger is the blank one.
abbrev pub ghosts-compile_by : goal.ghosts-compile_by
ghosts-compile_by a = record { name = a.ledger.name; parts = a.ledger.parts }
