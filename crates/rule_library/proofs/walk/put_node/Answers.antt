use Rattle.std.proofs.Common.{sym, ◌∙◌}
use Rattle.rule_library.specs.Turns.{rest_of, node_rest}
use Rattle.rule_library.proofs.LeadsLemmas.{reaches_same, goes_same, fails_pure}
use Rattle.rule_library.proofs.TurnLemmas.{at_other}
use Rattle.rule_library.proofs.walk.put_node.Goals as goal

pub returns-in-Text : goal.returns-in-Text
returns-in-Text g c =
    let w = c.args.walk.now in
    record {
      goes = goes_same c.put_text.result (node_rest w c.args.n) (rest_of c.put_text.new.walk) (g.S.Shelf.view c.args.shelf.now) c.put_text.ensures.goes;
      stands = c.put_text.ensures.stands;
      fails = fails_pure c.put_text.result (node_rest w c.args.n) (g.S.Shelf.view c.args.shelf.now) c.put_text.ensures.fails;
    }

pub returns-in-Document-clause-goes : goal.returns-in-Document-clause-goes
returns-in-Document-clause-goes g c =
    let w = c.args.walk.now in
    reaches_same (node_rest w c.args.n) (rest_of c.pass.new.walk) (g.S.Shelf.view c.args.shelf.now)
    (at_other w c.args.n c.kind_in.result c.kind_in.ensures c.in-Document.is ∙ sym c.pass.ensures.passed)
