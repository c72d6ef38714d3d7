use Rattle.std.proofs.Common.{◌<◌, length, arith}
use Rattle.std.proofs.lemmas.Result.{on_ok_weaker}
use Rattle.node_arena.specs.Document.{Document}
use Rattle.node_arena.specs.Moves.{tree_nodes}
use Rattle.bind_terms.proofs.NodeLists.{ordered, long}
use Rattle.bind_terms.proofs.Final.{told-words, picks-within, indicators-within, picks-rowed, picks-placed, indicators-rowed}
use Rattle.bind_terms.specs.Inputs.{currency_of, nodes_of}
use Rattle.bind_terms.proofs.judging.find_at_nodes.Goals as goal

some-nodes : (document : Document) → 1 < length document.nodes → 0 < length (tree_nodes document)
some-nodes document h = omega (arith, h, long document)

pub tell_picks-requires-clause-within : goal.tell_picks-requires-clause-within
tell_picks-requires-clause-within g c =
    picks-within (nodes_of c.args.input.now) (ordered c.args.input.now.doc.now c.is_of_a_tree.ensures.numbers)
    (some-nodes c.args.input.now.doc.now c.is_of_a_tree.ensures.rooted) c.args.input.now.lists.now c.args.input.now.table.now
    _ c.args.picks.now (long c.args.input.now.doc.now) c.requires.picks

pub tell_picks-requires-clause-rows : goal.tell_picks-requires-clause-rows
tell_picks-requires-clause-rows g c =
    picks-rowed (nodes_of c.args.input.now) (ordered c.args.input.now.doc.now c.is_of_a_tree.ensures.numbers)
    (some-nodes c.args.input.now.doc.now c.is_of_a_tree.ensures.rooted) c.args.input.now.lists.now c.args.input.now.table.now
    c.args.picks.now c.requires.picks

pub tell_picks-requires-clause-placed : goal.tell_picks-requires-clause-placed
tell_picks-requires-clause-placed g c =
    picks-placed (nodes_of c.args.input.now) (ordered c.args.input.now.doc.now c.is_of_a_tree.ensures.numbers)
    (some-nodes c.args.input.now.doc.now c.is_of_a_tree.ensures.rooted) c.args.input.now.lists.now c.args.input.now.table.now
    c.args.picks.now c.requires.picks (c.nothing_read_is_refused.ensures.places (nodes_of c.args.input.now) c.args.input.now.table.now c.requires.set.formed)

pub put_wrong_words-requires-clause-rows : goal.put_wrong_words-requires-clause-rows
put_wrong_words-requires-clause-rows g c =
    indicators-rowed (nodes_of c.args.input.now) (ordered c.args.input.now.doc.now c.is_of_a_tree.ensures.numbers)
    (some-nodes c.args.input.now.doc.now c.is_of_a_tree.ensures.rooted) c.args.input.now.lists.now c.args.input.now.table.now
    c.args.indicators.now c.requires.indicators

pub put_wrong_words-requires-clause-within : goal.put_wrong_words-requires-clause-within
put_wrong_words-requires-clause-within g c =
    indicators-within (nodes_of c.args.input.now) (ordered c.args.input.now.doc.now c.is_of_a_tree.ensures.numbers)
    (some-nodes c.args.input.now.doc.now c.is_of_a_tree.ensures.rooted) c.args.input.now.lists.now c.args.input.now.table.now
    _ c.args.indicators.now (long c.args.input.now.doc.now) c.requires.indicators

pub returns : goal.returns
returns g c =
    on_ok_weaker c.put_wrong_words.result
    (λ words. told-words (nodes_of c.args.input.now) (ordered c.args.input.now.doc.now c.is_of_a_tree.ensures.numbers)
    (some-nodes c.args.input.now.doc.now c.is_of_a_tree.ensures.rooted) c.args.input.now.lists.now c.args.input.now.table.now
    (currency_of c.args.input.now) c.args.picks.now c.args.indicators.now c.tell_picks.new.firsts.entries
    (g.K.Keeper.given c.tell_picks.new.keeper)
    (g.K.Keeper.given c.put_wrong_words.new.keeper) c.requires.set.currency c.requires.picks c.requires.indicators c.in_ok-tell_picks.ensures words)
    c.put_wrong_words.ensures
