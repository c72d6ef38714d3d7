use Rattle.std.proofs.Common.{◌++◌, length, sym, ap, ◌∙◌, subst, chars, string_bytes}
use Rattle.node_arena.specs.Moves.{tree_nodes}
use Rattle.xpath_meaning.specs.Functions.{concatenated}
use Rattle.xpath_operators.specs.Nodes.{AreWithin}
use Rattle.xpath_values.specs.Alike.{one_text}
use Rattle.xpath_values.proofs.JoinLemmas.{concat_start, concat_more, value_within}
use Rattle.xpath_values.proofs.joining.concatenated.Goals as goal

pub arguments-init : goal.arguments-init
arguments-init c = concat_start _ (concatenated (tree_nodes c.args.doc.now) c.args.arguments.now) c.empty_string-out.ensures

pub one_text-requires : goal.one_text-requires
one_text-requires c =
    subst (AreWithin (length c.args.doc.now.nodes)) (sym c.as_slice.ensures)
    (value_within _ c.args.arguments.now c.arguments.argument-index c.argument-item.result c.requires c.arguments-test.true c.argument-item.is)

pub arguments-preserved : goal.arguments-preserved
arguments-preserved c =
    concat_more (tree_nodes c.args.doc.now) c.args.arguments.now c.arguments.argument-index c.argument-item.result _ c.in-Ok.piece _ c.arguments-test.true
    c.argument-item.is c.arguments.invariant
    (ap (one_text (tree_nodes c.args.doc.now)) (sym c.as_slice.ensures) ∙ c.in-Ok.ensures)
    (c.in_ok-push-in-Ok.ensures ∙ ap (λ t. chars (string_bytes c.arguments.out) ++ t) c.as_str.ensures)
