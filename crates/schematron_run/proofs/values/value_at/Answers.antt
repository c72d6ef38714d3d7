use Rattle.std.proofs.Common.{◌≡◌, ◌<◌, IfOk, length, sym, subst}
use Rattle.node_arena.specs.Document.{Document}
use Rattle.node_arena.specs.Moves.{tree_nodes}
use Rattle.xpath_meaning.specs.Meaning.{mean, at_top}
use Rattle.xpath_meaning.specs.Values.{value}
use Rattle.xpath_plan.specs.Plans.{expression}
use Rattle.xpath_steps.specs.Variables.{ValueWithin, ValuesWithin}
use Rattle.schematron_run.proofs.values.value_at.Goals as goal

pub run_plan-requires-clause-focus : goal.run_plan-requires-clause-focus
run_plan-requires-clause-focus g c = subst (λ (document : Document). c.args.n < length document.nodes) (sym c.requires.ready) c.requires.within

pub run_plan-requires-clause-env : goal.run_plan-requires-clause-env
run_plan-requires-clause-env g c = subst (λ (document : Document). ValuesWithin (length document.nodes) c.args.env.now)
    (sym c.requires.ready) c.requires.variables

pub returns-clause-value : goal.returns-clause-value
returns-clause-value g c =
    subst (λ (document : Document). IfOk c.run_plan.result
    (λ outcome. value outcome ≡ mean (tree_nodes document) (expression c.args.run.now.plan) (at_top c.args.n c.args.env.now)))
    c.requires.ready c.run_plan.ensures.value

pub returns-clause-within : goal.returns-clause-within
returns-clause-within g c =
    subst (λ (document : Document). IfOk c.run_plan.result (λ outcome. ValueWithin (length document.nodes) (value outcome))) c.requires.ready
    c.run_plan.ensures.within

pub returns-clause-plan : goal.returns-clause-plan
returns-clause-plan g c = c.run_plan.ensures.slots.plan

pub returns-clause-document : goal.returns-clause-document
returns-clause-document g c = c.run_plan.ensures.slots.document
