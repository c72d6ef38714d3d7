use Rattle.xpath_plan.specs.Plans.{test_seen}
use Rattle.xpath_marks.proofs.TurnLemmas.{added_within}
use Rattle.xpath_marks.proofs.steps.simple_turn.Goals as goal

pub returns-in-Step-clause-within : goal.returns-in-Step-clause-within
returns-in-Step-clause-within g c =
    let names = c.args.dynamic.now.names.now in
    added_within c.args.dynamic.now c.documents_are_walkable.ensures c.in-Step.axis
    (test_seen names c.in-Step.test) c.args.n c.axis_nodes.result c.args.out.now.items c.axis_nodes.new.out.items
    c.requires.out (c.axis_nodes.ensures names c.requires.ready.numbered)
