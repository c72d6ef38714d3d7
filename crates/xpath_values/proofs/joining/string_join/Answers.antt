use Rattle.std.proofs.Common.{sym, ap, ◌∙◌}
use Rattle.std.specs.List.{list_all}
use Rattle.node_arena.specs.Moves.{tree_nodes}
use Rattle.xpath_values.specs.Alike.{is_text}
use Rattle.xpath_values.proofs.JoinLemmas.{join_refused, join_goes}
use Rattle.xpath_values.proofs.joining.string_join.Goals as goal

pub returns-then-not-are_texts : goal.returns-then-not-are_texts
returns-then-not-are_texts c =
    join_refused (tree_nodes c.args.doc.now) c.args.x.now c.args.y.now c.deref.result.now c.are_texts.result
    (c.deref.ensures.value ∙ c.in_ok-texts.ensures.atoms) c.are_texts.ensures c.if-not-are_texts.true

pub returns : goal.returns
returns c =
    join_goes (tree_nodes c.args.doc.now) c.args.x.now c.args.y.now c.deref-2.result.now c.are_texts.result c.joined_by.result
    (c.deref-2.ensures.value ∙ c.in_ok-texts.ensures.atoms)
    (c.are_texts.ensures ∙ ap (list_all is_text) (c.deref.ensures.value ∙ sym c.deref-2.ensures.value)) c.if-not-are_texts.false c.joined_by.ensures
