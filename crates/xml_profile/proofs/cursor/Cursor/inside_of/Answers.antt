use Rattle.std.proofs.Common.{subst}
use Rattle.xml_tokens.specs.declared.beginning.Position.{Position}
use Rattle.xml_profile.specs.Courses.{InsideOf}
use Rattle.xml_profile.proofs.cursor.Cursor.inside_of.Goals as goal

pub returns : goal.returns
returns c = let P : Position → Type 0 = λ p. InsideOf p c.inside_at.result c.args.bytes.now in subst P c.position.ensures c.inside_at.ensures
