use Rattle.std.proofs.Common.{◌≡◌, ◌-◌, ◌≤◌, length, ap, sym, ◌∙◌, subst, drop, refl, rules}
use Rattle.node_arena.specs.Document.{node_at}
use Rattle.bind_meaning.specs.Elements.{is_element_kind}
use Rattle.bind_walk.specs.Passing.{roots_of, gate}
use Rattle.bind_walk.specs.Losing.{least_before}
use Rattle.bind_walk.proofs.LossLemmas.{losing_begin, losing_before, losing_more, losing_room, losing_unread, losing_misplaced, losing_said, reached_part}
use Rattle.bind_walk.proofs.losses.losses_by.Goals as goal

pub nodes-init : goal.nodes-init
nodes-init g c =
    losing_begin _ _ c.names_lead_through.ensures _ _ _ _ _ _ _ c.requires.lines c.in_ok-reached.ensures c.document-n.ensures.number
    c.in_ok-highest.ensures c.new-unread.ensures.items c.new-misplaced.ensures.items

pub reach-requires-clause-reached : goal.reach-requires-clause-reached
reach-requires-clause-reached g c = record {
  roots = roots_of c.args.rows.now;
  before = losing_before _ _ _ _ _ _ _ _ _ _ c.nodes.invariant c.in-Some.ensures.node.1;
}

pub place_at-place-requires-clause-part : goal.place_at-place-requires-clause-part
place_at-place-requires-clause-part g c =
    subst (λ xs. c.in_ok-arrived.arrived.inside.from ≤ length xs) (sym c.as_slice.ensures.value)
    (reached_part _ _ (roots_of c.args.rows.now) _ _ _ c.in_ok-arrived.arrived
    (c.in_ok-arrived.ensures (roots_of c.args.rows.now) (losing_before _ _ _ _ _ _ _ _ _ _ c.nodes.invariant c.in-Some.ensures.node.1)))

pub come_to-requires : goal.come_to-requires
come_to-requires g c =
    let long : c.len.result ≡ length c.reach.new.reached.way.items = search rules in
    losing_room _ _ c.names_lead_through.ensures _ _ _ _ _ _ _ _ _ _ _ c.in_ok-arrived.arrived c.nodes.invariant c.in-Some.ensures.node.0 c.in-Some.ensures.node.1
    (c.in_ok-arrived.ensures (roots_of c.args.rows.now) (losing_before _ _ _ _ _ _ _ _ _ _ c.nodes.invariant c.in-Some.ensures.node.1))
    (c.saturating_sub-above.ensures ∙ ap (λ k. k - 2) long)

pub is_said-requires : goal.is_said-requires
is_said-requires g c = losing_said c.args.doc.now c.args.lines.now _ _ _ _ c.requires.said c.in-Some.ensures.node.0 c.in-Some.ensures.node.1

pub nodes-preserved : goal.nodes-preserved
nodes-preserved g c =
    let long : c.len.result ≡ length c.reach.new.reached.way.items = search rules in
    losing_more _ _ c.names_lead_through.ensures _ _ _ _ _ _ _ _ _ _ _ c.in_ok-arrived.arrived _ _ _ _ _ _ _ _
    c.nodes.invariant c.in-Some.ensures.node.0 c.in-Some.ensures.node.1
    (c.in_ok-arrived.ensures (roots_of c.args.rows.now) (losing_before _ _ _ _ _ _ _ _ _ _ c.nodes.invariant c.in-Some.ensures.node.1))
    (c.saturating_sub-above.ensures ∙ ap (λ k. k - 2) long)
    (c.place_at-place.ensures
    ∙ ap (λ xs. gate (is_element_kind (node_at c.args.doc.now.nodes c.in-Some.m).kind) (least_before c.args.lines.now (drop c.in_ok-arrived.arrived.inside.from xs)))
    c.as_slice.ensures.value)
    refl c.in_ok-come_to.ensures.heights c.requires.said c.is_said.ensures c.is_unread-is_lost.ensures c.in_ok-come_to.ensures.unread
    c.in_ok-come_to.ensures.misplaced

pub returns-clause-unread : goal.returns-clause-unread
returns-clause-unread g c = losing_unread _ _ _ _ _ _ _ _ _ c.nodes.invariant c.in_default.ensures.node

pub returns-clause-misplaced : goal.returns-clause-misplaced
returns-clause-misplaced g c = losing_misplaced _ _ _ _ _ _ _ _ _ c.nodes.invariant c.in_default.ensures.node

pub returns-clause-unread_within : goal.returns-clause-unread_within
returns-clause-unread_within g c = c.nodes.invariant.unread.inside

pub returns-clause-misplaced_within : goal.returns-clause-misplaced_within
returns-clause-misplaced_within g c = c.nodes.invariant.misplaced.inside
