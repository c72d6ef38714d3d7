use Rattle.std.proofs.Common.{◌<◌, length, option_map, arith}
use Rattle.std.proofs.lemmas.Result.{IfOk-weaker}
use Rattle.node_arena.specs.Document.{Document}
use Rattle.node_arena.specs.Moves.{tree_nodes}
use Rattle.bind_terms.proofs.NodeLists.{ordered, long}
use Rattle.bind_terms.specs.Faults.{found_of}
use Rattle.bind_terms.proofs.Final.{told-entries, told-verdict}
use Rattle.bind_terms.specs.Inputs.{nodes_of}
use Rattle.bind_terms.proofs.judging.judged.Goals as goal

some-nodes : (document : Document) → 1 < length document.nodes → 0 < length (tree_nodes document)
some-nodes document h = omega (arith, h, long document)

pub verdict_of-requires : goal.verdict_of-requires
verdict_of-requires g c = λ none.
    (c.read_invoices_are_valid.ensures.rows (nodes_of c.args.input.now) c.args.input.now.table.now c.args.input.now.lists.now _
    (c.numbers_of_nodes_rise.ensures.document c.args.input.now.doc.now c.is_of_a_tree.ensures.tree) c.requires.set.formed
    (told-entries (nodes_of c.args.input.now) (ordered c.args.input.now.doc.now c.is_of_a_tree.ensures.numbers)
    (some-nodes c.args.input.now.doc.now c.is_of_a_tree.ensures.rooted) c.args.input.now.lists.now c.args.input.now.table.now
    c.in_ok-firsts.firsts.items (option_map found_of c.find_faults.new.keeper.found) c.in_ok-firsts.ensures none)).0

pub returns : goal.returns
returns g c =
    IfOk-weaker c.verdict_of.result _ _
    (λ v is. told-verdict (nodes_of c.args.input.now) (ordered c.args.input.now.doc.now c.is_of_a_tree.ensures.numbers)
    (some-nodes c.args.input.now.doc.now c.is_of_a_tree.ensures.rooted) c.args.input.now.lists.now c.args.input.now.table.now
    c.in_ok-firsts.firsts.items (option_map found_of c.find_faults.new.keeper.found) c.in_ok-firsts.ensures v is)
    c.verdict_of.ensures
