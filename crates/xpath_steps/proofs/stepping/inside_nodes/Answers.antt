use Rattle.std.proofs.Common.{◌∙◌, Ok, Err, Result, IfOk, sym, subst, length}
use Rattle.std.specs.List.{flat_map}
use Rattle.node_arena.specs.Moves.{tree_nodes}
use Rattle.xpath_operators.specs.Nodes.{AreWithin}
use Rattle.xpath_plan.specs.Plans.{test_seen}
use Rattle.xpath_walks.specs.Order.{node_items}
use Rattle.xpath_steps.specs.Insides.{HasSame, numbers_inside}
use Rattle.xpath_steps.proofs.CoverLemmas.{inside_is, same_within}
use Rattle.xpath_steps.proofs.NodeLemmas.{among_within, order_within}
use Rattle.xpath_steps.proofs.stepping.inside_nodes.Goals as goal

if_ok : {X E : Type 0} {P Q : X → Type 0} (r : Result X E) → IfOk r P → ((x : X) → P x → Q x) → IfOk r Q
if_ok (Ok x) p f = f x p
if_ok (Err e) p f = tt

pub nodes_inside-requires : goal.nodes_inside-requires
nodes_inside-requires g c = among_within (length c.args.doc.now.nodes) c.args.items.now c.as_slice.result.now
    (c.as_slice.ensures.value ∙ c.in_ok-from.ensures) c.requires.within

pub returns-clause-value : goal.returns-clause-value
returns-clause-value g c = λ names is.
    let doc = c.args.doc.now in
    let test = test_seen names c.args.test.now in
    let walked = c.documents_are_walkable.ensures in
    let from = c.as_slice.result.now in
    let found = c.in_ok-found.found.items in
    let same : HasSame found (flat_map (numbers_inside (tree_nodes doc) test) from) = c.in_ok-found.ensures names is in
    let here : AreWithin (length (tree_nodes doc)) c.args.items.now = subst (λ n. AreWithin n c.args.items.now) (sym walked.long) c.requires.within in
    if_ok c.ordered.result (c.ordered.ensures (same_within doc walked test from found same)) (λ value e.
    inside_is doc walked test c.args.items.now from found value here c.requires.nodes (c.as_slice.ensures.value ∙ c.in_ok-from.ensures) same e)

pub returns-clause-within : goal.returns-clause-within
returns-clause-within g c = λ names is.
    let doc = c.args.doc.now in
    let test = test_seen names c.args.test.now in
    let walked = c.documents_are_walkable.ensures in
    let from = c.as_slice.result.now in
    let found = c.in_ok-found.found.items in
    let same : HasSame found (flat_map (numbers_inside (tree_nodes doc) test) from) = c.in_ok-found.ensures names is in
    if_ok c.ordered.result (c.ordered.ensures (same_within doc walked test from found same)) (λ value e. order_within doc (node_items found) value walked e)
