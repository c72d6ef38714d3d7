use Rattle.std.proofs.Common.{◌∙◌, ap}
use Rattle.std.specs.Option.{option_and_then}
use Rattle.extension_files.specs.Words as spec
use Rattle.extension_files.proofs.tables.data_type_of.Goals as goal

pub returns-in-Some : goal.returns-in-Some
returns-in-Some c = c.data_type_named.ensures ∙ ap (option_and_then spec.data_type_named) c.in-Some.ensures

pub returns-in-None : goal.returns-in-None
returns-in-None c = ap (option_and_then spec.data_type_named) c.in-None.ensures
