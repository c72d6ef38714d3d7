use Rattle.std.proofs.Common.{◌≡◌, ◌∙◌, List, length, ap}
use Rattle.std.proofs.lemmas.List.{with_items_is}
use Rattle.inv_base.specs.Tree.{Node}
use Rattle.node_arena.specs.Moves.{tree_node}
use Rattle.node_arena.proofs.IntervalLemmas.{walk_of}
use Rattle.node_locations.proofs.CountingLemmas.{ordinals_are}
use Rattle.node_locations.proofs.ordinals.ordinals_by.Goals as goal

pub returns : goal.returns
returns g c =
    let all = with_items_is c.in_ok-counts.counts c.count_all.new.counts (c.count_all.ensures.long ∙ c.deref_mut-2.ensures.len) in
    let doc = c.args.doc.now in
    let t = c.is_of_a_tree.ensures in
    let long : length c.count_all.new.counts ≡ length doc.nodes =
    c.count_all.ensures.long ∙ (c.deref_mut-2.ensures.len ∙ (c.in_ok-counts.ensures.len ∙ c.node_count.ensures)) in
    rw all (ordinals_are doc t.distinct t.named (walk_of doc t.tree.tree t.tree.has_nodes)
    (ap (λ (nodes : List Node). (tree_node nodes 0).kind) t.tree.has_nodes) c.count_all.new.counts long
    c.count_all.ensures.counted)
