use Rattle.std.proofs.Common.{sym, subst}
use Rattle.xml_tokens.specs.Beginnings.{extent}
use Rattle.xml_tokens.specs.Tags.{tag}
use Rattle.xml_tokens.specs.Seen.{Shows}
use Rattle.xml_tokens.specs.Told.{shows_tag}
use Rattle.xml_tokens.proofs.ExtentLemmas.{extent-right, extent-wrong}
use Rattle.xml_tokens.proofs.extents.ended_tag.Goals as goal

pub returns-in-Ok-tag : goal.returns-in-Ok-tag
returns-in-Ok-tag c = shows_tag c.beginning_of.result c.args.length c.args.inside.now
    (subst (λ b. Shows b (extent c.args.length c.args.inside.now tag)) (sym c.beginning_of.ensures)
    (extent-right c.args.length c.args.inside.now c.in-Ok.text.now tag c.in-Ok-tag.read c.in-Ok.ensures c.in-Ok-tag.ensures))

pub returns-in-Err : goal.returns-in-Err
returns-in-Err c = shows_tag _ c.args.length c.args.inside.now (extent-wrong c.args.length c.args.inside.now tag c.in-Err.kind c.in-Err.ensures)
