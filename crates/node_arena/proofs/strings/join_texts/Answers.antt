use Rattle.std.proofs.Common.{chars, ◌∙◌, arith}
use Rattle.node_arena.proofs.StringLemmas.{texts_more, with_that, without_that, all_joined}
use Rattle.node_arena.proofs.strings.join_texts.Goals as goal
use Rattle.node_arena.proofs.strings.join_texts.Goals.{in-Text+in_ok-string-in-Text, in-Document}

pub nodes-preserved : goal.nodes-preserved
nodes-preserved g c = record {
  joined = texts_more c.args.nodes.now c.nodes.node-index c.node-item.result c.nodes.string c.match-node.string _ c.nodes-test.true c.node-item.is
      (elim c.match-node.branch [
        | in-Text+in_ok-string-in-Text w ↦ with_that _ _ _ _ w.in-Text.is (w.string-is ∙ w.in_ok-string-in-Text.ensures)
        | in-Document w ↦ without_that _ _ (chars c.node-item.result.text.now) _ w.in-Document.is w.string-is
      ]) c.nodes.invariant.joined;
  counted = omega (arith, c.tick.ensures, c.nodes.invariant.counted);
}

pub returns-clause-string : goal.returns-clause-string
returns-clause-string g c = all_joined c.args.nodes.now c.nodes.node-index _ _ c.nodes-test.false c.nodes.invariant.joined
