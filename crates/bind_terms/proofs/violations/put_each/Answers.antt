use Rattle.std.proofs.Common.{arith}
use Rattle.bind_terms.proofs.Rooms.{lacked-none, lacked-more, lacked-all}
use Rattle.bind_terms.proofs.violations.put_each.Goals as goal

pub violations-init : goal.violations-init
violations-init g c = lacked-none c.args.context c.args.element c.args.last c.args.violations.now (g.K.Keeper.given c.args.keeper.now)

pub violations-preserved : goal.violations-preserved
violations-preserved g c =
    lacked-more c.args.context c.args.element c.args.last c.args.violations.now (g.K.Keeper.given c.args.keeper.now) c.violations.violation-index
    (g.K.Keeper.given c.violations.keeper) (g.K.Keeper.given c.put.new.self)
    c.violation-item.result _ (omega arith) c.violation-item.is c.found_at.ensures c.violations.invariant c.in_ok-put.ensures

pub returns : goal.returns
returns g c =
    lacked-all c.args.context c.args.element c.args.last c.args.violations.now (g.K.Keeper.given c.args.keeper.now) c.violations.violation-index
    (g.K.Keeper.given c.violations.keeper) (omega arith)
    c.violations.invariant
