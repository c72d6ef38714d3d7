use Rattle.std.proofs.Common.{sym, ◌∙◌}
use Rattle.xpath_types.proofs.FunctionLemmas.{in_functions, not_in_functions}
use Rattle.xpath_types.proofs.functions.function_in.Goals as goal

pub returns-then-is_text : goal.returns-then-is_text
returns-then-is_text c = c.named.ensures ∙ sym (in_functions _ _ _ c.is_text.ensures c.if-is_text.true)

pub returns-else-is_text : goal.returns-else-is_text
returns-else-is_text c = c.type_in.ensures ∙ sym (not_in_functions _ _ _ c.is_text.ensures c.if-is_text.false)
