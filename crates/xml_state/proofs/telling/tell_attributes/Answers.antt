use Rattle.std.proofs.Common.{◌∙◌, sym}
use Rattle.xml_state.proofs.TellingLemmas.{attribute_told, attributes_told}
use Rattle.xml_state.proofs.telling.tell_attributes.Goals as goal

pub loop-attribute-preserved : goal.loop-attribute-preserved
loop-attribute-preserved g c =
    let a = c.attribute-item.result in
    attribute_told _ c.loop-attribute.rest.now c.in-Some.others.now c.in-Some.number.now c.args.attributes.now c.loop-attribute.attribute-index a _ _ _ _
    c.loop-attribute-test.true c.attribute-item.is
    c.in-Some.ensures.cases.0 (sym c.is_plain.ensures ∙ c.if-not-is_plain.false) c.text_of.ensures c.loop-attribute.invariant c.in_ok-attribute.ensures

pub returns : goal.returns
returns g c = attributes_told _ c.loop-attribute.rest.now c.args.attributes.now c.loop-attribute.attribute-index _ _ c.loop-attribute-test.false
    c.loop-attribute.invariant
