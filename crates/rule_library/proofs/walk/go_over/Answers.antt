use Rattle.std.proofs.Common.{refl}
use Rattle.rule_library.specs.Faults.{full_between}
use Rattle.rule_library.specs.Turns.{rest_of, state_of}
use Rattle.rule_library.specs.Readings.{gives}
use Rattle.std.specs.Prelude.{Ok}
use Rattle.rule_library.proofs.LeadsLemmas.{reaches_same, reaches_join, fails_behind}
use Rattle.rule_library.proofs.TurnLemmas.{turned, turned_last}
use Rattle.rule_library.proofs.walk.go_over.Goals as goal

pub turns-init : goal.turns-init
turns-init g c = record {
  stands = c.requires;
  reaches = reaches_same (rest_of c.args.walk.now) (rest_of c.args.walk.now) (g.S.Shelf.view c.args.shelf.now) refl;
}

pub turns-preserved : goal.turns-preserved
turns-preserved g c = record {
  stands = c.in-Ok.ensures.stands;
  reaches = reaches_join (rest_of c.args.walk.now) (rest_of c.turns.walk) (rest_of c.take_turn.new.walk) (g.S.Shelf.view c.args.shelf.now)
      (g.S.Shelf.view c.turns.shelf) (g.S.Shelf.view c.take_turn.new.shelf)
      c.turns.invariant.reaches (turned c.in-Ok.turn (rest_of c.turns.walk) c.take_turn.new.walk _ _ c.in-Goes.is c.in-Ok.ensures.turns);
}

pub returns-in-Done-clause-done : goal.returns-in-Done-clause-done
returns-in-Done-clause-done g c =
    reaches_join (rest_of c.args.walk.now) (rest_of c.turns.walk) (gives (Ok (state_of c.take_turn.new.walk))) (g.S.Shelf.view c.args.shelf.now)
    (g.S.Shelf.view c.turns.shelf) (g.S.Shelf.view c.take_turn.new.shelf)
    c.turns.invariant.reaches (turned_last c.in-Ok.turn (rest_of c.turns.walk) c.take_turn.new.walk _ _ c.in-Done.is c.in-Ok.ensures.turns)

pub returns-in-Err-clause-fails : goal.returns-in-Err-clause-fails
returns-in-Err-clause-fails g c =
    fails_behind (rest_of c.args.walk.now) (rest_of c.turns.walk) c.in-Err.fault (g.S.Shelf.view c.args.shelf.now) (g.S.Shelf.view c.turns.shelf)
    (g.S.Shelf.view c.take_turn.new.shelf)
    c.turns.invariant.reaches c.in-Err.ensures.fails

pub returns-clause-fails : goal.returns-clause-fails
returns-clause-fails g c = full_between (rest_of c.turns.walk) c.want_of_memory.ensures c.turns.invariant.reaches
