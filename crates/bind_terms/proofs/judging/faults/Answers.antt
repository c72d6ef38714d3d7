use Rattle.std.proofs.Common.{◌<◌, length, All, sym, ◌∙◌, subst, arith}
use Rattle.std.proofs.lemmas.Result.{IfOk-weaker}
use Rattle.node_arena.specs.Document.{Document}
use Rattle.node_arena.specs.Moves.{tree_nodes}
use Rattle.bind_meaning.specs.declared.fault.BindFault.{BindFault}
use Rattle.bind_terms.proofs.NodeLists.{ordered, long}
use Rattle.bind_terms.proofs.Final.{kept-faults}
use Rattle.bind_terms.proofs.Within.{document-faults}
use Rattle.bind_terms.proofs.judging.faults.Goals as goal

some-nodes : (document : Document) → 1 < length document.nodes → 0 < length (tree_nodes document)
some-nodes document h = omega (arith, h, long document)

pub returns-clause-faults : goal.returns-clause-faults
returns-clause-faults g c =
    IfOk-weaker c.into_faults.result _ _
    (λ faults is. is ∙ kept-faults (tree_nodes c.args.input.now.doc.now) (ordered c.args.input.now.doc.now c.is_of_a_tree.ensures.numbers)
    (some-nodes c.args.input.now.doc.now c.is_of_a_tree.ensures.rooted) c.args.input.now.lists.now c.args.input.now.table.now
    c.find_faults.new.keeper.kept.entries c.in_ok-firsts.ensures.is_given)
    c.into_faults.ensures

pub returns-clause-within : goal.returns-clause-within
returns-clause-within g c =
    IfOk-weaker c.into_faults.result _ _
    (λ faults is. subst (All (λ (fault : BindFault). fault.node < length c.args.input.now.doc.now.nodes))
    (sym (is ∙ kept-faults (tree_nodes c.args.input.now.doc.now) (ordered c.args.input.now.doc.now c.is_of_a_tree.ensures.numbers)
    (some-nodes c.args.input.now.doc.now c.is_of_a_tree.ensures.rooted) c.args.input.now.lists.now c.args.input.now.table.now
    c.find_faults.new.keeper.kept.entries c.in_ok-firsts.ensures.is_given))
    (document-faults c.args.input.now.doc.now c.is_of_a_tree.ensures.numbers c.is_of_a_tree.ensures.rooted c.args.input.now.lists.now
    c.args.input.now.table.now))
    c.into_faults.ensures
