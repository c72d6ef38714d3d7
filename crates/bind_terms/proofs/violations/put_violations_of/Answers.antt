use Rattle.std.proofs.Common.{map, sym, ◌∙◌}
use Rattle.std.proofs.lemmas.Result.{on_ok_weaker}
use Rattle.bind_terms.specs.Inputs.{nodes_of}
use Rattle.bind_terms.specs.Telling.{seat_of_first}
use Rattle.bind_terms.proofs.LastPick.{sees-passed, sees-inner, sees-both}
use Rattle.bind_terms.proofs.violations.put_violations_of.Goals as goal

pub returns-then-is_same : goal.returns-then-is_same
returns-then-is_same g c =
    sees-passed (nodes_of c.args.told.now.input.now) (map seat_of_first c.args.told.now.firsts.now) c.args.pick.now c.args.last
    c.context_of-context.result c.context_of-context.ensures c.args.seen.now.places.keys (g.K.Keeper.given c.args.keeper.now)
    (sym c.is_same.ensures ∙ c.if-is_same.true)

pub returns-then-has_same_outer : goal.returns-then-has_same_outer
returns-then-has_same_outer g c =
    on_ok_weaker c.put_violations_at.result
    (sees-inner (nodes_of c.args.told.now.input.now) (map seat_of_first c.args.told.now.firsts.now) c.args.pick.now c.args.last
    c.context_of-context.result c.context_of-context.ensures c.args.seen.now.places.keys c.put_violations_at.new.seen.places.keys
    (g.K.Keeper.given c.args.keeper.now) (g.K.Keeper.given c.put_violations_at.new.keeper)
    (sym c.has_same_outer.ensures ∙ c.if-has_same_outer.true)) c.put_violations_at.ensures

pub returns : goal.returns
returns g c =
    on_ok_weaker c.put_violations_at-3.result
    (sees-both (nodes_of c.args.told.now.input.now) (map seat_of_first c.args.told.now.firsts.now) c.args.pick.now c.args.last
    c.context_of-context.result c.context_of-context.ensures c.args.seen.now.places.keys c.put_violations_at-2.new.seen.places.keys
    c.put_violations_at-3.new.seen.places.keys
    (g.K.Keeper.given c.args.keeper.now) (g.K.Keeper.given c.put_violations_at-2.new.keeper) (g.K.Keeper.given c.put_violations_at-3.new.keeper)
    c.without_inner-around.result c.without_inner-around.ensures c.in_ok-put_violations_at.ensures) c.put_violations_at-3.ensures
