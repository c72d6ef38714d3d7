use Rattle.std.proofs.Common.{ap, option_map, ◌∙◌}
use Rattle.xml_events.specs.Events.{name_at}
use Rattle.rule_library.specs.Walk.{same_names, element_name}
use Rattle.rule_library.proofs.parts.has_root.Goals as goal

pub returns : goal.returns
returns c =
    let part = c.args.part.now in
    let root = (λ i. option_map (name_at (c.names.ensures i)) (c.name.ensures.value i)) ∙ ap (element_name part) c.root.ensures.number in
    let parent = (λ i. option_map (name_at (c.names-2.ensures i)) c.parent_name.result) ∙ c.parent_name.ensures.name in
    c.are_same.ensures ∙ (λ i. same_names (root i) (parent i))
