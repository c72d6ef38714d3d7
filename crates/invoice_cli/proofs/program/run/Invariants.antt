use Rattle.invoice_cli.proofs.program.run.Given as goal

-- The origin is the output as it was handed in.
abbrev pub ghosts-answer_held : goal.ghosts-answer_held
ghosts-answer_held g a = record { start = g.O.Sink.view a.lent.sink.now; name = a.lent.sink.ghost_name }
