use Rattle.std.proofs.Common.{◌≡◌, ℕ, Option, Some, None, sym, ◌∙◌}
use Rattle.bind_walk.proofs.PassLemmas.{near_before, some_near, stands_fit, stands_spans, reached_more}
use Rattle.bind_walk.proofs.passed.reach.Goals as goal

none_some : (o : Option ℕ) (p : ℕ) → o ≡ None → o ≡ Some p → ⊥
none_some o p e f = cc

pub unreachable-requires : goal.unreachable-requires
unreachable-requires g c =
    let w = c.names_lead_through.ensures.has_parent c.args.m c.requires.behind c.requires.within in
    none_some c.parent.result w.0 c.in-None.is (c.parent.ensures.node ∙ w.1)

pub come_out-around-requires : goal.come_out-around-requires
come_out-around-requires g c =
    some_near _ _ c.names_lead_through.ensures _ _ c.args.m c.in-Some.p c.requires.within (sym c.in-Some.ensures.node) c.requires.reached

pub reach_inside-requires-clause-part : goal.reach_inside-requires-clause-part
reach_inside-requires-clause-part g c =
    stands_fit _ _ c.requires.reached.roots _ _ _ _ (c.come_out-around.ensures c.requires.reached.roots
    (near_before _ _ c.names_lead_through.ensures _ _ _ c.args.m c.in-Some.p c.requires.within (sym c.in-Some.ensures.node) c.requires.reached.before))

pub reach_inside-requires-clause-spans : goal.reach_inside-requires-clause-spans
reach_inside-requires-clause-spans g c =
    stands_spans _ _ c.requires.reached.roots _ _ _ _ (c.come_out-around.ensures c.requires.reached.roots
    (near_before _ _ c.names_lead_through.ensures _ _ _ c.args.m c.in-Some.p c.requires.within (sym c.in-Some.ensures.node) c.requires.reached.before))

pub returns : goal.returns
returns g c roots before =
    reached_more _ _ c.names_lead_through.ensures roots _ c.in-Some.p _ _ c.come_out-around.result c.in_ok-inside-in-Some.inside _ _ c.requires.within
    (c.come_out-around.ensures roots
    (near_before _ _ c.names_lead_through.ensures _ _ _ c.args.m c.in-Some.p c.requires.within (sym c.in-Some.ensures.node) before))
    (sym c.in-Some.ensures.node) c.in_ok-inside-in-Some.ensures.place.0 c.in_ok-inside-in-Some.ensures.place.1 c.in_ok-inside-in-Some.ensures.spans
    c.in_ok-push-in-Some.ensures.items
