use Rattle.std.proofs.Common.{◌∙◌, ap}
use Rattle.std.specs.Option.{option_and_then}
use Rattle.toml.specs.Data.{as_integer}
use Rattle.extension_files.proofs.tables.integer_at.Goals as goal

pub returns-in-Some : goal.returns-in-Some
returns-in-Some c = c.as_integer.ensures ∙ ap (option_and_then as_integer) c.in-Some.ensures

pub returns-in-None : goal.returns-in-None
returns-in-None c = ap (option_and_then as_integer) c.in-None.ensures
