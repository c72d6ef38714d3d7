use Rattle.std.proofs.Common.{◌∙◌, ◌∷◌, List, ap, sym}
use Rattle.std.specs.Prelude.{chars, string_bytes}
use Rattle.inv_base.specs.Tree.{Node}
use Rattle.node_arena.specs.Moves.{tree_nodes, tree_node}
use Rattle.node_arena.proofs.IntervalLemmas.{walk_of}
use Rattle.node_locations.specs.Locations.{path, step}
use Rattle.node_locations.proofs.CountingLemmas.{no_parent}
use Rattle.node_locations.proofs.LocationLemmas.{path_more, path_begin}
use Rattle.node_locations.proofs.PutLemmas.{HasFront-more, Puts-as, Puts-append, Puts-at_err}
use Rattle.node_locations.proofs.locations.+push_path.Goals as goal

pub returns-in_err-push_path-in-Some : goal.returns-in_err-push_path-in-Some
returns-in_err-push_path-in-Some g t c =
    let doc = c.args.doc.now in
    let tree = c.is_of_a_tree.ensures.tree in
    let leads = c.moves_lead_on.ensures doc tree.tree tree.has_nodes c.args.n c.requires.within in
    Puts-as _ _ _ _ _ (path_more (tree_nodes doc) c.args.n c.in-Some.around (leads.around c.in-Some.around (sym c.parent.ensures.node ∙ c.in-Some.is)))
    (Puts-at_err _ _ _ _ c.from_residual.ensures.0
    (HasFront-more (path (tree_nodes doc) (c.in-Some.around ∷ (tree_node (tree_nodes doc) c.in-Some.around).above)) (step (tree_nodes doc) c.args.n) _ _
    c.in_err-push_path-in-Some.ensures))

pub returns-in_ok-push_path-in-Some : goal.returns-in_ok-push_path-in-Some
returns-in_ok-push_path-in-Some g t c =
    let doc = c.args.doc.now in
    let tree = c.is_of_a_tree.ensures.tree in
    let leads = c.moves_lead_on.ensures doc tree.tree tree.has_nodes c.args.n c.requires.within in
    Puts-as _ _ _ _ _ (path_more (tree_nodes doc) c.args.n c.in-Some.around (leads.around c.in-Some.around (sym c.parent.ensures.node ∙ c.in-Some.is)))
    (Puts-append _ (path (tree_nodes doc) (c.in-Some.around ∷ (tree_node (tree_nodes doc) c.in-Some.around).above)) (step (tree_nodes doc) c.args.n) _ _ _
    c.in_ok-push_path-in-Some.ensures c.push_step.ensures)

pub returns-in-None : goal.returns-in-None
returns-in-None g t c =
    let doc = c.args.doc.now in
    let tree = c.is_of_a_tree.ensures.tree in
    let leads = walk_of doc tree.tree tree.has_nodes in
    let first = no_parent doc c.is_of_a_tree.ensures.distinct c.is_of_a_tree.ensures.named leads c.args.n c.requires.within
    (sym c.parent.ensures.node ∙ c.in-None.is) in
    path_begin (tree_nodes doc) c.args.n (chars (string_bytes c.args.out.now)) first leads.begins
    (ap (λ (nodes : List Node). (tree_node nodes 0).kind) tree.has_nodes)
