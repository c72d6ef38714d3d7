use Rattle.std.proofs.Common.{sym}
use Rattle.rule_library.specs.Turns.{rest_of, node_rest}
use Rattle.rule_library.proofs.LeadsLemmas.{fails_full, fails_same, reaches_from}
use Rattle.rule_library.proofs.walk.take_node.Goals as goal

pub returns-in-Err-clause-fails : goal.returns-in-Err-clause-fails
returns-in-Err-clause-fails g c = fails_full (rest_of c.args.walk.now) c.want_of_memory.result (g.S.Shelf.view c.args.shelf.now) c.want_of_memory.ensures

pub returns-in-Ok-put_node-clause-turns : goal.returns-in-Ok-put_node-clause-turns
returns-in-Ok-put_node-clause-turns g c =
    reaches_from (rest_of c.args.walk.now) (node_rest c.close.new.walk c.args.n) (rest_of c.put_node.new.walk) (g.S.Shelf.view c.args.shelf.now)
    (g.S.Shelf.view c.put_node.new.shelf)
    (sym c.in-Ok.ensures.closed) c.in-Ok-put_node.ensures.goes

pub returns-in-Err-put_node-clause-fails : goal.returns-in-Err-put_node-clause-fails
returns-in-Err-put_node-clause-fails g c =
    fails_same (rest_of c.args.walk.now) (node_rest c.close.new.walk c.args.n) c.in-Err-put_node.fault (g.S.Shelf.view c.args.shelf.now)
    (g.S.Shelf.view c.put_node.new.shelf)
    (sym c.in-Ok.ensures.closed) c.in-Err-put_node.ensures.fails
