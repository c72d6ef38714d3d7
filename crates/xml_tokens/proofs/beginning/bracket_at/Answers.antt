use Rattle.std.proofs.Common.{sym, ◌∙◌}
use Rattle.xml_tokens.proofs.TokenLemmas.{bracket-bad, bracket-later, bracket-good}
use Rattle.xml_tokens.proofs.beginning.bracket_at.Goals as goal

pub returns-then-begins_with : goal.returns-then-begins_with
returns-then-begins_with c = bracket-bad c.args.ended c.args.bytes.now (sym c.begins_with.ensures.exact ∙ c.if-begins_with.true)

pub returns-then-may_end : goal.returns-then-may_end
returns-then-may_end c = bracket-later c.args.ended c.args.bytes.now (sym c.begins_with.ensures.exact ∙ c.if-begins_with.false)
    (sym c.may_end.ensures ∙ c.if-may_end.true)

pub returns-else-may_end : goal.returns-else-may_end
returns-else-may_end c = bracket-good c.args.ended c.args.bytes.now (sym c.begins_with.ensures.exact ∙ c.if-begins_with.false)
    (sym c.may_end.ensures ∙ c.if-may_end.false)
