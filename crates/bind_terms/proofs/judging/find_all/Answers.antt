use Rattle.std.proofs.Common.{◌<◌, length, ◌∙◌, subst, arith}
use Rattle.node_arena.specs.Document.{Document}
use Rattle.node_arena.specs.Moves.{tree_nodes}
use Rattle.bind_terms.specs.Passes.{HasFound}
use Rattle.bind_terms.proofs.NodeLists.{ordered, long}
use Rattle.bind_terms.proofs.Final.{picks-within, in-order, has-found}
use Rattle.bind_terms.specs.Inputs.{nodes_of}
use Rattle.bind_terms.proofs.judging.find_all.Goals as goal

some-nodes : (document : Document) → 1 < length document.nodes → 0 < length (tree_nodes document)
some-nodes document h = omega (arith, h, long document)

pub put_violations-requires-clause-order : goal.put_violations-requires-clause-order
put_violations-requires-clause-order g c =
    in-order c.find_at_nodes.new.told.entries c.deref.result.now (c.deref.ensures.value
    ∙ c.in_ok-firsts.ensures.items) c.in_ok-find_at_nodes.ensures.at_places c.in_ok-firsts.ensures.order

pub put_violations-requires-clause-within : goal.put_violations-requires-clause-within
put_violations-requires-clause-within g c =
    picks-within (nodes_of c.args.input.now) (ordered c.args.input.now.doc.now c.is_of_a_tree.ensures.numbers)
    (some-nodes c.args.input.now.doc.now c.is_of_a_tree.ensures.rooted) c.args.input.now.lists.now c.args.input.now.table.now
    _ c.args.picks.now (long c.args.input.now.doc.now) c.requires.picks

pub returns : goal.returns
returns g c =
    subst (λ firsts. HasFound (nodes_of c.args.input.now) c.args.input.now.lists.now c.args.input.now.table.now firsts
    (g.K.Keeper.given c.put_violations.new.keeper)) c.deref.ensures.value
    (has-found (nodes_of c.args.input.now) (ordered c.args.input.now.doc.now c.is_of_a_tree.ensures.numbers)
    (some-nodes c.args.input.now.doc.now c.is_of_a_tree.ensures.rooted) c.args.input.now.lists.now c.args.input.now.table.now
    c.args.picks.now c.find_at_nodes.new.told.entries (g.K.Keeper.given c.find_at_nodes.new.keeper)
    (g.K.Keeper.given c.put_violations.new.keeper) c.deref.result.now c.in_ok-find_at_nodes.ensures
    c.requires.picks (c.deref.ensures.value ∙ c.in_ok-firsts.ensures.items) c.in_ok-put_violations.ensures)
