use Rattle.std.proofs.Common.{◌≡◌, ◌==◌, ◌++◌, ◌∙◌, ap, sym, subst}
use Rattle.std.proofs.lemmas.Result.{err_from_is_err_and}
use Rattle.xpath_grammar.specs.declared.step.Axis.TheVariants as a
use Rattle.xpath_plan.specs.declared.plan_node.StepTest.TheVariants as t
use Rattle.xpath_plan.specs.Plans.{test_seen}
use Rattle.xpath_walks.specs.Walks.{axis_numbers}
use Rattle.xpath_marks.specs.FirstSteps.{elements_of}
use Rattle.xpath_marks.specs.Marking.{AreNodes, nodes_of}
use Rattle.xpath_marks.proofs.TurnLemmas.{axis_nodes_within}
use Rattle.xpath_marks.proofs.first_steps.all_of_name.Goals as goal

pub returns-clause-found : goal.returns-clause-found
returns-clause-found g c =
    let base = c.args.dynamic.now in
    let test = test_seen base.names.now (t.Named c.args.k) in
    c.in_ok-named_nodes.ensures.found base.names.now c.requires.numbered
    ∙ (ap (λ ns. ns ++ axis_numbers (nodes_of base) a.Descendant c.document-document.result test) c.new-found.ensures.items
    ∙ ap (λ n. axis_numbers (nodes_of base) a.Descendant n test) c.document-document.ensures.number)

pub returns-clause-within : goal.returns-clause-within
returns-clause-within g c =
    let base = c.args.dynamic.now in
    let test = test_seen base.names.now (t.Named c.args.k) in
    let found : c.named_nodes.new.out.items ≡ elements_of base c.args.k =
    c.in_ok-named_nodes.ensures.found base.names.now c.requires.numbered
    ∙ (ap (λ ns. ns ++ axis_numbers (nodes_of base) a.Descendant c.document-document.result test) c.new-found.ensures.items
    ∙ ap (λ n. axis_numbers (nodes_of base) a.Descendant n test) c.document-document.ensures.number) in
    subst (AreNodes base) (sym found) (axis_nodes_within base c.documents_are_walkable.ensures a.Descendant test 0)

pub returns-clause-cost : goal.returns-clause-cost
returns-clause-cost g c =
    let bounds = c.in_ok-named_nodes.ensures.cost c.args.dynamic.now.names.now c.requires.numbered in
    record { most = bounds.most; least = λ leading. bounds.least (ap (λ n. n == 0) c.document-document.ensures.number) }

pub returns-in_err-named_nodes-clause-cost : goal.returns-in_err-named_nodes-clause-cost
returns-in_err-named_nodes-clause-cost g c =
    let bounds = c.in_err-named_nodes.ensures.cost c.args.dynamic.now.names.now c.requires.numbered in
    rw (err_from_is_err_and c.from_residual.result c.from_residual.ensures.1).1 (record { most = bounds.most; least = λ leading. tt })
