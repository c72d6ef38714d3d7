-- What an expression is answered by what was kept of it.
use Rattle.std.specs.Prelude.{true, false, Option, Some, None, Result, Ok, Err, ◌≡◌}
use Rattle.xpath_tokens.specs.declared.token.SyntaxFault.{SyntaxFault}
use Rattle.xpath_tokens.specs.declared.token.SyntaxFault.TheVariants as f
use Rattle.xpath_grammar.specs.declared.expr.Expr.{Expr}
use Rattle.xpath_grammar.specs.declared.pattern.Pattern.{Pattern}
use Rattle.xpath_grammar.specs.Patterns.{is_pattern, is_pattern_kind}
use Rattle.xpath_grammar.specs.View.{view}
use Rattle.xpath_syntax.specs.declared.value.Kept.{Kept}
use Rattle.xpath_syntax.specs.declared.value.Value.{Value}

abbrev pub kept_expression : Option Kept → Result Expr SyntaxFault
kept_expression None = Err f.TooDeep
kept_expression (Some kept) = Ok kept.expression

abbrev pub expression_of : Value → Result Expr SyntaxFault
expression_of value = kept_expression value.kept

-- an expression that is a pattern is all that a pattern is
abbrev pub pattern_of : Value → Result Pattern SyntaxFault
pattern_of value = elim (is_pattern_kind value.kind) [ true ↦ expression_of value | false ↦ Err f.Syntax ]

-- The kind is that of the expression, where that is kept.
abbrev pub IsOfItsKind : Value → Type 0
IsOfItsKind value = (x : Expr) → kept_expression value.kept ≡ Ok x → is_pattern (view x) ≡ is_pattern_kind value.kind
