use Rattle.std.proofs.Common.{ap, ◌∙◌}
use Rattle.std.specs.Str.{bytes_eq, chars}
use Rattle.bind_walk.proofs.NameLemmas.{schema-chars}
use Rattle.bind_walk.proofs.losses.is_schema.Goals as goal

pub returns : goal.returns
returns c = c.is_same_text.ensures ∙ ap (bytes_eq (chars c.args.uri.now)) schema-chars
