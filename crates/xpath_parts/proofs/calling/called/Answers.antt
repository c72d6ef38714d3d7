use Rattle.std.proofs.Common.{length}
use Rattle.node_arena.specs.Moves.{tree_nodes}
use Rattle.xpath_parts.proofs.CallWithin.{call-within}
use Rattle.xpath_parts.proofs.WithinLemmas.{all_within-along}
use Rattle.xpath_parts.proofs.GivesLemmas.{gives-within, value-within}
use Rattle.xpath_parts.proofs.calling.called.Goals as goal

pub returns-then-takes-clause-within : goal.returns-then-takes-clause-within
returns-then-takes-clause-within c =
    gives-within (length c.args.doc.now.nodes) c.value_of.result _ c.value_of.ensures (value-within (length c.args.doc.now.nodes) _ _ c.in_ok-call.ensures
    (call-within (length c.args.doc.now.nodes) (tree_nodes c.args.doc.now) c.args.function c.args.focus.now _
    (all_within-along (length c.args.doc.now.nodes) _ _ c.as_slice.ensures c.requires.arguments)))

pub returns-clause-within : goal.returns-clause-within
returns-clause-within c =
    gives-within (length c.args.doc.now.nodes) c.called_otherwise.result _ c.called_otherwise.ensures
    (call-within (length c.args.doc.now.nodes) (tree_nodes c.args.doc.now) c.args.function c.args.focus.now c.args.arguments c.requires.arguments)
