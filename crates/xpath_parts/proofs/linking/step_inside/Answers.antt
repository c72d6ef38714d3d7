use Rattle.std.proofs.Common.{sym, ap, ◌∙◌}
use Rattle.node_arena.specs.Moves.{tree_nodes}
use Rattle.xpath_meaning.specs.Values.{value}
use Rattle.xpath_plan.specs.Plans.{test_seen}
use Rattle.xpath_parts.specs.Links.{inside_value}
use Rattle.xpath_steps.specs.Steps.{inside_seen}
use Rattle.xpath_parts.proofs.GivesLemmas.{gives-along, outcome-within}
use Rattle.xpath_parts.proofs.linking.step_inside.Goals as goal

pub returns-in-Value-clause-value : goal.returns-in-Value-clause-value
returns-in-Value-clause-value g c =
    let nodes = tree_nodes c.args.dynamic.now.doc.now in
    let test = test_seen c.args.dynamic.now.names.now c.args.test.now in
    c.outcome.ensures (inside_value nodes test (value c.args.before))
    (gives-along c.inside_over.result _ _
    (ap (inside_seen nodes test) c.as_slice.ensures ∙ ap (λ before. inside_value nodes test (value before)) (sym c.in-Value.is))
    (c.inside_over.ensures.value c.args.dynamic.now.names.now c.requires.numbered))

pub returns-in-Value-clause-within : goal.returns-in-Value-clause-within
returns-in-Value-clause-within g c =
    outcome-within _ c.inside_over.result c.outcome.result c.outcome.ensures (c.inside_over.ensures.within c.args.dynamic.now.names.now c.requires.numbered)
