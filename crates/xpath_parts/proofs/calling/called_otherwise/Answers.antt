use Rattle.std.proofs.Common.{length, refl, sym, ap, ◌∙◌}
use Rattle.node_arena.specs.Moves.{tree_nodes}
use Rattle.xpath_meaning.specs.Functions.{call}
use Rattle.xpath_parts.proofs.CallLemmas.{call-padded}
use Rattle.xpath_parts.proofs.GivesLemmas.{gives-along}
use Rattle.xpath_parts.proofs.WithinLemmas.{all_within-along, all_within-append}
use Rattle.xpath_parts.proofs.calling.called_otherwise.Goals as goal

pub call-requires-clause-within : goal.call-requires-clause-within
call-requires-clause-within c =
    let n = length c.args.doc.now.nodes in
    all_within-along n _ _ c.as_slice.ensures (all_within-along n _ _ c.in_ok-all.ensures
    (all_within-append n _ _ (all_within-append n _ _ c.requires.arguments (tt, tt)) (tt, tt)))

pub returns-then-is_concat : goal.returns-then-is_concat
returns-then-is_concat c =
    let nodes = tree_nodes c.args.doc.now in
    gives-along c.value_of.result _ _
    (c.in_ok-call.ensures ∙ (ap (call nodes c.args.function c.args.focus.now) (c.as_slice.ensures ∙ c.in_ok-all.ensures)
    ∙ call-padded nodes c.args.function c.args.focus.now c.args.arguments _ _ (sym c.is_concat.ensures ∙ c.if-is_concat.true) refl refl)) c.value_of.ensures
