use Rattle.std.proofs.Common.{sym, ◌∙◌}
use Rattle.std.proofs.lemmas.Result.{on_ok_weaker}
use Rattle.bind_terms.proofs.Pass.{tells-first, tells-again}
use Rattle.bind_terms.proofs.telling.tell.Goals as goal

pub returns-in-None : goal.returns-in-None
returns-in-None g c =
    on_ok_weaker c.put_cause.result
    (tells-first _ _ _ _ _ c.args.parsed c.context_of-context.result c.row_in-listed.result _ _ _ _ _ c.context_of-context.ensures c.row_in-listed.ensures
    (sym c.in-None.is ∙ c.in_ok-insert.ensures.back) c.in_ok-kind.ensures c.in_ok-insert.ensures.ok c.in_ok-insert.ensures.values)
    c.put_cause.ensures

pub returns-in-Some : goal.returns-in-Some
returns-in-Some g c =
    on_ok_weaker c.tell_again.result
    (tells-again _ _ _ _ _ c.args.parsed c.context_of-context.result c.row_in-listed.result c.in-Some.again _ _ _ _ c.context_of-context.ensures
    c.row_in-listed.ensures (sym c.in-Some.is ∙ c.in_ok-insert.ensures.back) c.in_ok-insert.ensures.ok c.in_ok-insert.ensures.values)
    c.tell_again.ensures
