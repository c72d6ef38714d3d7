use Rattle.std.proofs.Common.{◌∙◌, refl, subst}
use Rattle.std.proofs.lemmas.List.{length-set}
use Rattle.node_arena.proofs.IntervalLemmas.{walk_of}
use Rattle.node_locations.proofs.CountingLemmas.{IsCounting, counting-begin, counting-room, counting-step}
use Rattle.node_locations.proofs.ordinals.count_children.Goals as goal

pub children-init : goal.children-init
children-init g c =
    let doc = c.args.doc.now in
    let t = c.is_of_a_tree.ensures in
    record {
      counting = counting-begin doc t.distinct t.named (walk_of doc t.tree.tree t.tree.has_nodes) c.args.parent c.args.table.now c.args.counts.now
          c.first_child-next.result
          c.first_child-next.ensures.node c.requires.fresh c.requires.counted;
      table = refl;
      long = refl;
    }

pub count_one-requires-clause-room : goal.count_one-requires-clause-room
count_one-requires-clause-room g c =
    let doc = c.args.doc.now in
    let t = c.is_of_a_tree.ensures in
    let now = subst (IsCounting doc c.args.parent c.children.table c.children.counts) c.in-Some.is c.children.invariant.counting in
    let room = counting-room doc t.distinct t.named (walk_of doc t.tree.tree t.tree.has_nodes) c.args.parent c.key_of.result c.in-Some.n c.children.table
    c.children.counts t.few now in
    rw c.number.ensures room

pub children-preserved : goal.children-preserved
children-preserved g c =
    let doc = c.args.doc.now in
    let t = c.is_of_a_tree.ensures in
    let now = subst (IsCounting doc c.args.parent c.children.table c.children.counts) c.in-Some.is c.children.invariant.counting in
    let step = counting-step doc t.distinct t.named (walk_of doc t.tree.tree t.tree.has_nodes) c.args.parent c.in-Some.n c.count_one.result c.children.table
    c.count_one.new.table
    c.children.counts c.next_sibling-next.result now (c.children.invariant.long ∙ c.requires.long) c.next_sibling-next.ensures.node
    (rw (c.number.ensures, c.key_of.ensures.key) at c.count_one.ensures.count)
    (rw (c.number.ensures, c.key_of.ensures.key) at c.count_one.ensures.here)
    (rw c.number.ensures at c.count_one.ensures.elsewhere) in
    record {
      counting = rw c.number-in-Some.ensures step;
      table = c.count_one.ensures.long ∙ c.children.invariant.table;
      long = length-set c.children.counts c.number-in-Some.result c.count_one.result ∙ c.children.invariant.long;
    }
