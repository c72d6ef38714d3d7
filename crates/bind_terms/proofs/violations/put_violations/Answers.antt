use Rattle.std.proofs.Common.{map, subst, arith}
use Rattle.term_table.specs.Contexts.{root_context}
use Rattle.bind_meaning.specs.Faults.{violations_in}
use Rattle.bind_terms.specs.Faults.{Puts}
use Rattle.bind_terms.specs.Telling.{seat_of_first}
use Rattle.bind_terms.specs.Rooms.{room_at}
use Rattle.bind_terms.proofs.LastPick.{up-to-none, up-to-more}
use Rattle.bind_terms.proofs.Rooms.{seen-all}
use Rattle.bind_terms.specs.Inputs.{nodes_of}
use Rattle.bind_terms.proofs.violations.put_violations.Goals as goal

pub picks-init : goal.picks-init
picks-init g c =
    up-to-none (nodes_of c.args.input.now) (map seat_of_first c.args.firsts.now)
    (g.K.Keeper.given c.put_violations_in.new.keeper) c.args.picks.now c.new.result.keys c.new.ensures.empty

pub picks-preserved : goal.picks-preserved
picks-preserved g c =
    up-to-more (nodes_of c.args.input.now) (map seat_of_first c.args.firsts.now)
    (g.K.Keeper.given c.put_violations_in.new.keeper) c.args.picks.now c.picks.pick-index c.pick-item.result c.picks.last c.context_of-last.result
    c.picks.seen.places.keys c.put_violations_of.new.seen.places.keys
    (g.K.Keeper.given c.picks.keeper) (g.K.Keeper.given c.put_violations_of.new.keeper)
    (omega arith) c.pick-item.is c.context_of-last.ensures
    c.in_ok-put_violations_of.ensures c.picks.invariant

pub returns : goal.returns
returns g c =
    seen-all (nodes_of c.args.input.now) (map seat_of_first c.args.firsts.now) (g.K.Keeper.given c.args.keeper.now)
    (g.K.Keeper.given c.put_violations_in.new.keeper) c.args.picks.now c.picks.pick-index
    c.picks.seen.places.keys (g.K.Keeper.given c.picks.keeper) (omega arith)
    (subst (λ n. Puts (g.K.Keeper.given c.args.keeper.now) (g.K.Keeper.given c.put_violations_in.new.keeper)
    (violations_in (nodes_of c.args.input.now) (map seat_of_first c.args.firsts.now) (room_at root_context n)))
    c.root.ensures.number c.in_ok-put_violations_in.ensures) c.picks.invariant.seen
