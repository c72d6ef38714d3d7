use Rattle.std.proofs.Common.{length}
use Rattle.node_arena.specs.Moves.{tree_nodes}
use Rattle.xpath_meaning.specs.Texts.{finds}
use Rattle.xpath_parts.proofs.CallWithin.{found-within}
use Rattle.xpath_parts.proofs.GivesLemmas.{gives-within}
use Rattle.xpath_parts.proofs.finishing.found_first.Goals as goal

pub returns-clause-within : goal.returns-clause-within
returns-clause-within c = gives-within (length c.args.doc.now.nodes) c.found-value.result _ c.found-value.ensures
    (found-within (length c.args.doc.now.nodes) (tree_nodes c.args.doc.now) (finds c.args.pattern.now) c.as_slice.result.now)
