use Rattle.std.proofs.Common.{sym, ◌∙◌}
use Rattle.std.specs.Str.{chars}
use Rattle.laid_tables.proofs.NameLemmas.{ncname-goes_on}
use Rattle.laid_tables.proofs.names.is_ncname.Goals as goal

pub returns-then-begins_as_name : goal.returns-then-begins_as_name
returns-then-begins_as_name c = c.goes_on_as_name.ensures ∙ ncname-goes_on (chars c.args.name.now) (sym c.begins_as_name.ensures ∙ c.if-begins_as_name.true)
