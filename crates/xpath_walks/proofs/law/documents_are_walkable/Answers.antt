use Rattle.std.proofs.Common.{arith}
use Rattle.std.proofs.lemmas.List.{length-map}
use Rattle.node_arena.specs.Moves.{node_of}
use Rattle.xpath_walks.proofs.WalkLemmas.{counted-document}
use Rattle.xpath_walks.proofs.law.documents_are_walkable.Goals as goal

pub returns : goal.returns
returns c =
    let of = c.is_of_a_tree.ensures in
    let d = c.args.doc.now in
    let long = length-map d.nodes (node_of d.names) in
    record {
      long = long;
      walkable = record {
        few = omega (arith, of.few, long);
        counted = counted-document d of.numbers;
        leads = λ n h. c.moves_lead_on.ensures d of.tree.tree of.tree.has_nodes n (omega (arith, h, long));
        inside = λ n k h l. c.insides_are_intervals.ensures d of.tree.tree of.tree.has_nodes n k (omega (arith, h, long)) (omega (arith, l, long));
      };
    }
