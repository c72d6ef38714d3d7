use Rattle.std.proofs.Common.{ap, ◌∙◌, chars}
use Rattle.std.proofs.lemmas.Str.{chars-IsAscii, IsUtf8-from_ascii}
use Rattle.inv_base.proofs.ascii.ascii_text.Goals as goal

pub unreachable-requires : goal.unreachable-requires
unreachable-requires c = c.in-Err.ensures.cases.0 (IsUtf8-from_ascii _ c.requires)

pub returns-clause-characters : goal.returns-clause-characters
returns-clause-characters c = ap chars c.in-Ok.ensures.cases.0 ∙ chars-IsAscii _ c.requires
