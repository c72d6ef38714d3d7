use Rattle.std.proofs.Common.{sym, ◌∙◌}
use Rattle.inv_terms.proofs.OrderLemmas.{looked-some, looked-other, looked-none, looked-nowhere}
use Rattle.inv_terms.proofs.looking.value_in.Goals as goal

pub returns-in-None : goal.returns-in-None
returns-in-None c = looked-nowhere c.args.run.now c.args.term c.args.context c.requires (sym c.place_of.ensures ∙ c.in-None.is)

pub returns-then-is_at : goal.returns-then-is_at
returns-then-is_at c =
    looked-some c.args.run.now c.in-Some.place c.requires c.args.term c.args.context
    (sym c.place_of.ensures ∙ c.in-Some.is) c.count_ahead.result c.count_ahead.ensures
    c.in-Some-entry_at.e.now (sym c.in-Some-entry_at.ensures) (sym c.is_at.ensures ∙ c.if-is_at.true)

pub returns-else-is_at : goal.returns-else-is_at
returns-else-is_at c =
    looked-other c.args.run.now c.in-Some.place c.requires c.args.term c.args.context
    (sym c.place_of.ensures ∙ c.in-Some.is) c.count_ahead.result c.count_ahead.ensures
    c.in-Some-entry_at.e.now (sym c.in-Some-entry_at.ensures) (sym c.is_at.ensures ∙ c.if-is_at.false)

pub returns-in-None-entry_at : goal.returns-in-None-entry_at
returns-in-None-entry_at c =
    looked-none c.args.run.now c.in-Some.place c.requires c.args.term c.args.context
    (sym c.place_of.ensures ∙ c.in-Some.is) c.count_ahead.result c.count_ahead.ensures
    (sym c.in-None-entry_at.ensures)
