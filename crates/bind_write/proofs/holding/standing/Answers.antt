use Rattle.std.proofs.Common.{sym, ◌∙◌}
use Rattle.bind_write.proofs.HoldLemmas.{standing-due, standing-none}
use Rattle.bind_write.proofs.holding.standing.Goals as goal

pub returns-then-is_due : goal.returns-then-is_due
returns-then-is_due c cells plan h =
    standing-due c.args.source.now.entries.now c.args.source.now.rows.now c.args.line.now c.args.inside.now cells plan c.args.held c.args.source.now.context h
    (sym (c.is_held.ensures cells plan h) ∙ c.if-is_held.false) _ _ c.is_held_constant-constant.ensures c.is_due.ensures c.if-is_due.true

pub returns-else-is_due : goal.returns-else-is_due
returns-else-is_due c cells plan h =
    standing-none c.args.source.now.entries.now c.args.source.now.rows.now c.args.line.now c.args.inside.now cells plan c.args.held c.args.source.now.context h
    (sym (c.is_held.ensures cells plan h) ∙ c.if-is_held.false) _ _ c.is_held_constant-constant.ensures c.is_due.ensures c.if-is_due.false
