use Rattle.std.proofs.Common.{arith}
use Rattle.json_text.proofs.MakingLemmas.{Leads-next, Leads-all}
use Rattle.validation_json.specs.ValidationJson.{located_object}
use Rattle.validation_json.proofs.elements.put_all_elements.Goals as goal

pub elements-preserved : goal.elements-preserved
elements-preserved g c =
    Leads-next located_object c.args.elements.now c.elements.element-index c.element-item.result _ _ _ _ _ _ _ c.elements-test.true c.element-item.is c.elements.invariant
    c.put_element.ensures

pub returns : goal.returns
returns g c = Leads-all located_object c.args.elements.now c.elements.element-index _ _ _ _ _ (omega (arith, c.elements-test.false)) c.elements.invariant
