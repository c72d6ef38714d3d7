use Rattle.std.proofs.Common.{sym, ◌∙◌}
use Rattle.inv_terms.proofs.LeftOutLemmas.{left-out}
use Rattle.inv_terms.proofs.missing.missing_at.Goals as goal

pub returns-then-may_be_left_out : goal.returns-then-may_be_left_out
returns-then-may_be_left_out g c = left-out c.args.standing.now c.args.context c.args.k c.args.row.now (sym c.may_be_left_out.ensures
    ∙ c.if-may_be_left_out.true)
