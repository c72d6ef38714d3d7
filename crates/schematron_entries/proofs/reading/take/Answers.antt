use Rattle.std.proofs.Common.{◌∙◌, ap, sym, map}
use Rattle.node_arena.specs.Moves.{tree_nodes, tree_node}
use Rattle.inv_base.specs.Tree.{Node}
use Rattle.schematron_meaning.specs.Entries as spec
use Rattle.schematron_entries.specs.Seen.{seen_given}
use Rattle.schematron_entries.proofs.ReadLemmas.{tree_node_is, taken, put_entry, put_nothing}
use Rattle.schematron_entries.proofs.reading.take.Goals as goal

pub returns-in_ok-push-2 : goal.returns-in_ok-push-2
returns-in_ok-push-2 g c =
    put_entry _ _ c.role_of-role.result _ (c.in_ok-push-2.ensures.items) (sym c.is_listed.ensures ∙ c.if-is_listed.true)
    (c.text.ensures ∙ sym (ap (λ (node : Node). node.text) (tree_node_is c.args.doc.now c.args.n c.requires.within)))
    (taken c.args.doc.now c.args.seen.now.items c.args.n c.is_of_a_tree.ensures.numbers c.requires.within
    (c.around_node-parent.ensures ∙ ap (λ seen. spec.nearest_of seen (tree_node (tree_nodes c.args.doc.now) c.args.n).above) c.as_slice.ensures.value)
    (c.in_ok-given.ensures) (c.role_of-role.ensures ∙
    ap (λ given. spec.role_of c.around_node-parent.result.role (tree_node (tree_nodes c.args.doc.now) c.args.n) (map seen_given given))
    c.as_slice-2.ensures.value) (c.around_by.ensures ∙ ap (λ n. spec.around_by c.role_of-role.result n c.around_node-parent.result.number) c.number.ensures)
    (c.in_ok-push.ensures.items))

pub returns-else-is_listed : goal.returns-else-is_listed
returns-else-is_listed g c =
    put_nothing _ _ c.role_of-role.result _ (sym c.is_listed.ensures ∙ c.if-is_listed.false)
    (taken c.args.doc.now c.args.seen.now.items c.args.n c.is_of_a_tree.ensures.numbers c.requires.within
    (c.around_node-parent.ensures ∙ ap (λ seen. spec.nearest_of seen (tree_node (tree_nodes c.args.doc.now) c.args.n).above) c.as_slice.ensures.value)
    (c.in_ok-given.ensures) (c.role_of-role.ensures ∙
    ap (λ given. spec.role_of c.around_node-parent.result.role (tree_node (tree_nodes c.args.doc.now) c.args.n) (map seen_given given))
    c.as_slice-2.ensures.value) (c.around_by.ensures ∙ ap (λ n. spec.around_by c.role_of-role.result n c.around_node-parent.result.number) c.number.ensures)
    (c.in_ok-push.ensures.items))
