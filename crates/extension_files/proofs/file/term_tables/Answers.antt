use Rattle.std.proofs.Common.{◌∙◌, ap}
use Rattle.std.specs.Option.{option_and_then}
use Rattle.extension_files.specs.ExtensionFiles as spec
use Rattle.extension_files.proofs.file.term_tables.Goals as goal

pub returns-in-Some : goal.returns-in-Some
returns-in-Some c = c.tables_in.ensures ∙ ap (option_and_then spec.tables_in) c.in-Some.ensures

pub returns-in-None : goal.returns-in-None
returns-in-None c = ap (option_and_then spec.tables_in) c.in-None.ensures
