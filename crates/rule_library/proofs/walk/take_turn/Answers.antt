use Rattle.rule_library.specs.Turns.{rest_of}
use Rattle.rule_library.proofs.LeadsLemmas.{fails_pure}
use Rattle.rule_library.proofs.TurnLemmas.{stands_at, turns_quiet}
use Rattle.rule_library.proofs.walk.take_turn.Goals as goal

pub take_node-requires : goal.take_node-requires
take_node-requires g c = stands_at c.args.walk.now c.in-Some.n c.requires c.in-Some.is

pub returns-in-None : goal.returns-in-None
returns-in-None g c = record {
  turns = turns_quiet c.end_file.result (rest_of c.args.walk.now) c.end_file.new.walk (g.S.Shelf.view c.args.shelf.now) c.end_file.ensures.turns;
  stands = c.end_file.ensures.stands;
  fails = fails_pure c.end_file.result (rest_of c.args.walk.now) (g.S.Shelf.view c.args.shelf.now) c.end_file.ensures.fails;
}
