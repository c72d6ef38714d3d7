use Rattle.std.proofs.Common.{◌≡◌, ◌∙◌, sym, subst, false, rules}
use Rattle.std.specs.List.{list_all}
use Rattle.node_arena.specs.Moves.{tree_nodes}
use Rattle.xpath_grammar.specs.declared.step.Axis.TheVariants as a
use Rattle.xpath_meaning.specs.Steps.{is_node}
use Rattle.xpath_operators.specs.Nodes.{AreWithin}
use Rattle.xpath_plan.specs.Plans.{test_seen}
use Rattle.xpath_steps.proofs.InsideLemmas.{off_path, one_step}
use Rattle.xpath_steps.proofs.stepping.inside_over.Goals as goal

pub returns-then-not-all_nodes-clause-value : goal.returns-then-not-all_nodes-clause-value
returns-then-not-all_nodes-clause-value g c = λ names is.
    let items = c.args.items.now in
    let walked = c.documents_are_walkable.ensures in
    let within = subst (λ count. AreWithin count items) (sym walked.long) c.requires in
    let some : list_all is_node items ≡ false = search rules in
    sym (one_step (tree_nodes c.args.doc.now) walked.walkable (test_seen names c.args.test.now) items within)
    ∙ off_path (tree_nodes c.args.doc.now) walked.walkable a.Descendant (test_seen names c.args.test.now) items some
