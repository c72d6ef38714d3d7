use Rattle.std.proofs.Common.{sym, ◌∙◌}
use Rattle.std.proofs.lemmas.Result.{on_ok_weaker}
use Rattle.bind_terms.proofs.Rooms.{none-left, violation-none, violation-some}
use Rattle.bind_terms.proofs.violations.put_violations_in.Goals as goal

pub returns-then-is_empty : goal.returns-then-is_empty
returns-then-is_empty g c =
    violation-none _ _ c.run_near-run.result.seats.now c.args.context c.args.element _ c.run_near-run.ensures.run c.in_ok-violations.ensures (g.K.Keeper.given
    c.args.keeper.now)
    (sym c.as_slice-found.ensures.value ∙ none-left c.as_slice-found.result.now (sym c.is_empty.ensures ∙ c.if-is_empty.true))

pub returns : goal.returns
returns g c =
    on_ok_weaker c.put_each-put.result
    (λ put. violation-some _ _ c.run_near-run.result.seats.now c.args.context c.args.element _ c.run_near-run.ensures.run (c.as_slice-found.ensures.value
    ∙ c.in_ok-violations.ensures)
    (g.K.Keeper.given c.args.keeper.now) (g.K.Keeper.given c.put_each-put.new.keeper) c.last_inside-last.result c.last_inside-last.ensures.node put)
    c.put_each-put.ensures
