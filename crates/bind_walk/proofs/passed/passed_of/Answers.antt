use Rattle.std.proofs.Common.{ap, ◌∙◌}
use Rattle.std.specs.Prelude.{◌&&◌}
use Rattle.bind_meaning.specs.Elements.{is_element_kind}
use Rattle.bind_walk.specs.Passing.{is_left, roots_of}
use Rattle.bind_walk.proofs.PassLemmas.{noting_begin, noting_before, noting_more, noting_end}
use Rattle.bind_walk.proofs.passed.passed_of.Goals as goal

pub nodes-init : goal.nodes-init
nodes-init g c =
    noting_begin _ _ c.names_lead_through.ensures _ _ _ _ _ c.requires c.in_ok-reached.ensures c.document-n.ensures.number c.new-passed.ensures.items

pub reach-requires-clause-reached : goal.reach-requires-clause-reached
reach-requires-clause-reached g c = record {
  roots = roots_of c.args.rows.now;
  before = noting_before _ _ _ _ _ _ _ _ c.nodes.invariant c.in-Some.ensures.node.1;
}

pub nodes-preserved : goal.nodes-preserved
nodes-preserved g c =
    noting_more _ _ c.names_lead_through.ensures _ _ _ _ _ _ _ _ c.in_ok-arrived.arrived _ _ c.nodes.invariant c.in-Some.ensures.node.0 c.in-Some.ensures.node.1
    (c.in_ok-arrived.ensures (roots_of c.args.rows.now) (noting_before _ _ _ _ _ _ _ _ c.nodes.invariant c.in-Some.ensures.node.1))
    (c.is_left_at.ensures ∙ ap (λ k. is_element_kind k && is_left c.in_ok-arrived.arrived.around c.in_ok-arrived.arrived.inside) c.kind.ensures)
    c.in_ok-note.ensures

pub returns-clause-passed : goal.returns-clause-passed
returns-clause-passed g c = noting_end _ _ c.names_lead_through.ensures _ _ _ _ _ c.nodes.invariant c.in_default.ensures.node
