use Rattle.schematron_compile.proofs.compiling.of_file.Goals as goal

pub returns-in-Ok : goal.returns-in-Ok
returns-in-Ok c = λ nodes ordered of. c.unless_refused.ensures nodes ordered of (c.in-Ok.ensures nodes ordered of)
