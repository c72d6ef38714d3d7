use Rattle.std.proofs.Common.{◌≡◌, ◌++◌, ◌∙◌, OnOk, arith, ap, subst}
use Rattle.node_arena.specs.Moves.{tree_nodes}
use Rattle.xpath_grammar.specs.declared.step.Axis.TheVariants as a
use Rattle.xpath_plan.specs.declared.plan_node.StepTest.TheVariants as t
use Rattle.xpath_plan.specs.Plans.{test_seen}
use Rattle.xpath_walks.specs.Walks.{found}
use Rattle.xpath_walks.proofs.ForwardLemmas.{found_is}
use Rattle.xpath_walks.proofs.axes.named_nodes.Goals as goal

pub returns-then-number-eq0-clause-found : goal.returns-then-number-eq0-clause-found
returns-then-number-eq0-clause-found g c = λ names is.
    let nodes = tree_nodes c.args.doc.now in
    let test = test_seen names (t.Named c.args.k) in
    let zero : 0 ≡ c.args.from = omega arith in
    subst (λ ns. OnOk c.all_named.result (c.all_named.new.out.items ≡ c.args.out.now.items ++ ns))
    (ap (λ n. found a.Descendant nodes n test) zero ∙ found_is nodes a.Descendant c.args.from test) (c.all_named.ensures.found names is)

pub returns-clause-found : goal.returns-clause-found
returns-clause-found g c = λ names is.
    subst (λ ns. OnOk c.named_inside.result (c.named_inside.new.out.items ≡ c.args.out.now.items ++ ns))
    (found_is (tree_nodes c.args.doc.now) a.Descendant c.args.from (test_seen names (t.Named c.args.k))) (c.named_inside.ensures.found names is)
