use Rattle.std.proofs.Common.{sym, ◌∙◌}
use Rattle.xpath_types.proofs.FunctionLemmas.{in_types, not_in_types}
use Rattle.xpath_types.proofs.functions.type_in.Goals as goal

pub returns-then-is_text : goal.returns-then-is_text
returns-then-is_text c = c.named.ensures ∙ sym (in_types _ _ _ c.is_text.ensures c.if-is_text.true)

pub returns-else-is_text : goal.returns-else-is_text
returns-else-is_text c = sym (not_in_types _ _ _ c.is_text.ensures c.if-is_text.false)
