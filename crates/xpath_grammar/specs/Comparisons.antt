-- The operators that compare (XPath 2.0, section 3.5).
use Rattle.std.specs.Prelude.{Option, Some, None}
use Rattle.xpath_tokens.specs.declared.token.Operator.{Operator}
use Rattle.xpath_tokens.specs.declared.token.Operator.TheVariants as o
use Rattle.xpath_grammar.specs.declared.operators.Op.{Op}
use Rattle.xpath_grammar.specs.declared.operators.Op.TheVariants as c

abbrev pub comparison_of : Operator → Option Op
comparison_of o.Equal = Some c.Equal
comparison_of o.NotEqual = Some c.NotEqual
comparison_of o.Less = Some c.Less
comparison_of o.LessOrEqual = Some c.LessOrEqual
comparison_of o.Greater = Some c.Greater
comparison_of o.GreaterOrEqual = Some c.GreaterOrEqual
comparison_of o.Eq = Some c.Eq
comparison_of o.Ne = Some c.Ne
comparison_of o.Lt = Some c.Lt
comparison_of o.Le = Some c.Le
comparison_of o.Gt = Some c.Gt
comparison_of o.Ge = Some c.Ge
comparison_of _ = None
