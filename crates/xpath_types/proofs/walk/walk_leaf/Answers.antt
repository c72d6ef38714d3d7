use Rattle.std.proofs.Common.{◌≡◌, ◌∷◌, ◌++◌, [], length, ap, ◌∙◌, rules}
use Rattle.xpath_types.specs.Walking as spec
use Rattle.xpath_types.proofs.walk.walk_leaf.Goals as goal

pub returns-clause-seen : goal.returns-clause-seen
returns-clause-seen c =
    let high : c.len.result ≡ length c.args.state.now.variables = search rules in
    let parts = c.in_ok-push.ensures.items ∙ ap (λ part. c.args.state.now.parts.items ++ part ∷ [])
    (c.part.ensures ∙ (λ j. spec.part_of (c.in_ok-facts.ensures.facts j) c.args.focus (high j))) in
    λ j. record { parts = parts j; first = c.in_ok-facts.ensures.first j }
