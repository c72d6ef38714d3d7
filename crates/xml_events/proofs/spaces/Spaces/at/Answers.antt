use Rattle.std.proofs.Common.{◌<◌, length, chars, sym, ap, subst, ◌∙◌}
use Rattle.xml_events.specs.NameTables.{space_at}
use Rattle.xml_events.proofs.NameLemmas.{space-kept}
use Rattle.xml_events.proofs.spaces.Spaces.at.Goals as goal

pub returns : goal.returns
returns c =
    let within = subst (λ x. c.args.number < length x) (sym c.self.view_is) c.requires in
    ap chars c.as_str.ensures.value
    ∙ (space-kept c.self.inside.texts.items c.args.number c.index.result.now within c.index.ensures ∙ ap (λ x. space_at x c.args.number) c.self.view_is)
