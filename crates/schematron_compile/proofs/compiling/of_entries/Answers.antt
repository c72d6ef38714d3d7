use Rattle.std.proofs.Common.{◌∙◌, ap}
use Rattle.schematron_meaning.specs.Expansion.{file_of}
use Rattle.schematron_compile.proofs.compiling.of_entries.Goals as goal

pub returns-in-Ok : goal.returns-in-Ok
returns-in-Ok c = λ nodes ordered is. c.of_file.ensures nodes ordered (c.in-Ok.ensures ∙ ap file_of is)
