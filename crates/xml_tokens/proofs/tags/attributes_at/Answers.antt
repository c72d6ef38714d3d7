use Rattle.std.proofs.Common.{sym, ap, rules, refl, option_map, ◌∙◌}
use Rattle.xml_tokens.specs.Told.{seen_found}
use Rattle.xml_tokens.specs.Seen.{seen_value}
use Rattle.xml_tokens.proofs.AttributeLemmas.{attributing-step, attributing-wrong, attributing-smaller, attributing-same}
use Rattle.xml_tokens.proofs.tags.attributes_at.Goals as goal
use Rattle.xml_tokens.proofs.tags.attributes_at.Goals.{in-Some-2+in_ok-push-in-Some-2, in-None}

pub attributes-smaller : goal.attributes-smaller
attributes-smaller c = attributing-smaller c.attributes.rest.now (seen_found c.in-Some.attribute) (sym c.in-Some.ensures)

pub attributes-preserved : goal.attributes-preserved
attributes-preserved c = record {
  known = elim c.match-branch-2.branch [
    | in-Some-2+in_ok-push-in-Some-2 w ↦ attributing-same _ _ _ _ _ _ w.found-is w.are_right-is
        (attributing-step c.args.text.now c.attributes.rest.now c.attributes.found.items _ c.attributes.are_right (seen_found c.in-Some.attribute) _
        (sym c.in-Some.ensures) (sym (ap (option_map seen_value) w.in-Some-2.is) ∙ c.in_ok-value.ensures) refl w.in_ok-push-in-Some-2.ensures.items
        c.attributes.invariant.known)
    | in-None w ↦ attributing-same _ _ _ _ _ _ w.found-is w.are_right-is
        (attributing-wrong c.args.text.now c.attributes.rest.now c.attributes.found.items c.attributes.are_right (seen_found c.in-Some.attribute)
        (sym c.in-Some.ensures) (sym (ap (option_map seen_value) w.in-None.is) ∙ c.in_ok-value.ensures) c.attributes.invariant.known)
  ];
  utf8 = search rules;
}
