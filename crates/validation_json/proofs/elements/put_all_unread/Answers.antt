use Rattle.std.proofs.Common.{arith}
use Rattle.json_text.proofs.MakingLemmas.{Leads-next, Leads-all}
use Rattle.validation_json.specs.ValidationJson.{unread_object}
use Rattle.validation_json.proofs.elements.put_all_unread.Goals as goal

pub nodes-preserved : goal.nodes-preserved
nodes-preserved g c =
    Leads-next unread_object c.args.nodes.now c.nodes.node-index c.node-item.result _ _ _ _ _ _ _ c.nodes-test.true c.node-item.is c.nodes.invariant
    c.put_node.ensures

pub returns : goal.returns
returns g c = Leads-all unread_object c.args.nodes.now c.nodes.node-index _ _ _ _ _ (omega (arith, c.nodes-test.false)) c.nodes.invariant
