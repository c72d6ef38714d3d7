use Rattle.std.proofs.Common.{◌≡◌, true, length, ap, ◌∙◌}
use Rattle.std.specs.List.{list_all}
use Rattle.schematron_graph.specs.Rules.{bodies_of}
use Rattle.schematron_graph.specs.Ranked.{is_below}
use Rattle.schematron_graph.proofs.RankedLemmas.{Sized-push}
use Rattle.schematron_graph.proofs.ranked.Ranked.push.Goals as goal

pub invariant_of-self : goal.invariant_of-self
invariant_of-self c =
    let below : list_all (is_below (length (bodies_of c.self.inside.bodies.items))) c.args.body.items ≡ true =
    ap (λ b. list_all (is_below (length b)) c.args.body.items) c.self.view_is ∙ c.requires in
    Sized-push _ _ _ _ _ _ c.self.invariant below c.push_rule.ensures.bodies c.push_rule.ensures.sizes c.push_rule.ensures.err
