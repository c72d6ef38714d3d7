use Rattle.std.proofs.Common.{◌≡◌, ◌∙◌, ◌++◌, ◌∷◌, [], Ok, Err, Result, IfOk, ap, sym, subst, refl, length}
use Rattle.std.proofs.lemmas.List.{append-nil}
use Rattle.node_arena.specs.Moves.{tree_nodes}
use Rattle.xpath_grammar.specs.declared.step.Axis.TheVariants as a
use Rattle.xpath_items.specs.declared.item.Item.TheVariants as i
use Rattle.xpath_meaning.specs.Steps.{in_document_order}
use Rattle.xpath_operators.specs.Nodes.{AreWithin}
use Rattle.xpath_plan.specs.declared.plan_node.StepTest.TheVariants as t
use Rattle.xpath_plan.specs.Plans.{test_seen}
use Rattle.xpath_walks.specs.Order.{node_items}
use Rattle.xpath_walks.specs.Walks.{axis_numbers}
use Rattle.xpath_steps.proofs.InsideLemmas.{one_step}
use Rattle.xpath_steps.proofs.NodeLemmas.{document_below, order_within}
use Rattle.xpath_steps.proofs.PathLemmas.{path_of_stepped, axis_within}
use Rattle.xpath_steps.proofs.stepping.inside_named.Goals as goal

if_ok : {X E : Type 0} {P Q : X → Type 0} (r : Result X E) → IfOk r P → ((x : X) → P x → Q x) → IfOk r Q
if_ok (Ok x) p f = f x p
if_ok (Err e) p f = tt

pub returns-clause-value : goal.returns-clause-value
returns-clause-value g c = λ names is.
    let nodes = tree_nodes c.args.doc.now in
    let count = length c.args.doc.now.nodes in
    let test = test_seen names (t.Named c.args.k) in
    let walked = c.documents_are_walkable.ensures in
    let found = axis_numbers nodes a.Descendant c.args.from test in
    let numbers : c.named_nodes.new.out.items ≡ found = c.in_ok-named_nodes.ensures.found names is ∙ ap (λ xs. xs ++ found) c.new-nodes.ensures.items in
    let within = subst (λ ns. AreWithin count (node_items ns)) (sym numbers)
    (axis_within count nodes a.Descendant test c.args.from (document_below c.args.doc.now walked)) in
    let here : AreWithin (length nodes) (i.Node c.args.from ∷ []) = subst (λ n. AreWithin n (i.Node c.args.from ∷ [])) (sym walked.long) (c.requires, tt) in
    if_ok c.ordered.result (c.ordered.ensures within) (λ items e.
    sym (one_step nodes walked.walkable test (i.Node c.args.from ∷ []) here)
    ∙ (path_of_stepped nodes a.Descendant test (i.Node c.args.from ∷ []) refl
    ∙ ap Ok (ap (λ ns. in_document_order nodes (node_items ns)) (append-nil found ∙ sym numbers) ∙ sym e)))

pub returns-clause-within : goal.returns-clause-within
returns-clause-within g c = λ names is.
    let nodes = tree_nodes c.args.doc.now in
    let count = length c.args.doc.now.nodes in
    let test = test_seen names (t.Named c.args.k) in
    let walked = c.documents_are_walkable.ensures in
    let found = axis_numbers nodes a.Descendant c.args.from test in
    let numbers : c.named_nodes.new.out.items ≡ found = c.in_ok-named_nodes.ensures.found names is ∙ ap (λ xs. xs ++ found) c.new-nodes.ensures.items in
    let within = subst (λ ns. AreWithin count (node_items ns)) (sym numbers)
    (axis_within count nodes a.Descendant test c.args.from (document_below c.args.doc.now walked)) in
    if_ok c.ordered.result (c.ordered.ensures within) (λ items e. order_within c.args.doc.now (node_items c.named_nodes.new.out.items) items walked e)
