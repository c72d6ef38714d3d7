use Rattle.xml_document.proofs.WalkingLemmas.{outermost}
use Rattle.xml_document.proofs.walk.is_walkable.Goals as goal

pub returns : goal.returns
returns c =
    let of = c.is_of_a_tree.ensures in
    record {
      few = of.few;
      rooted = of.rooted;
      numbered = of.numbers;
      outermost = outermost c.args.doc.now of.tree;
      leads = c.moves_lead_on.ensures c.args.doc.now of.tree.tree of.tree.has_nodes;
    }
