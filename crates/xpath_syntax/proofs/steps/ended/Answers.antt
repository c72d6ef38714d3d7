use Rattle.std.proofs.Common.{sym, ◌∙◌}
use Rattle.xpath_syntax.proofs.Ending.{ended-alone, ended-beside}
use Rattle.xpath_syntax.proofs.steps.ended.Goals as goal

pub returns-then-is_empty : goal.returns-then-is_empty
returns-then-is_empty c = ended-alone c.args.mode c.args.stack.now c.close.new.stack c.in_ok-last.last c.in_ok-value.value c.in_ok-last.ensures
    c.in_ok-value.ensures (sym c.is_empty.ensures ∙ c.if-is_empty.true)

pub returns-else-is_empty : goal.returns-else-is_empty
returns-else-is_empty c = ended-beside c.args.mode c.args.stack.now c.close.new.stack c.in_ok-last.last c.in_ok-value.value c.in_ok-last.ensures
    c.in_ok-value.ensures (sym c.is_empty.ensures ∙ c.if-is_empty.false)
