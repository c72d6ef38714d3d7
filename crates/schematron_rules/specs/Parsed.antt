-- What private functions answer.
use Rattle.std.specs.Prelude.{◌≡◌, [], Result, Ok, Err}
use Rattle.xpath_tokens.specs.declared.token.SyntaxFault.{SyntaxFault}
use Rattle.xpath_tokens.specs.declared.token.SyntaxFault.TheVariants as y
use Rattle.xpath_grammar.specs.Grammar.{Grammatical}
use Rattle.xpath_grammar.specs.View.{view}
use Rattle.xpath_types.specs.declared.fault.TypeFault.{TypeFault}
use Rattle.xpath_types.specs.declared.fault.TypeFault.TheVariants as f
use Rattle.xpath_types.specs.Typing.{TypedExpression}
use Rattle.xpath_meaning.specs.Resolving.{resolved}
use Rattle.xpath_plan.specs.Plans.{Planned, expression}
use Rattle.schematron_meaning.specs.declared.fault.ExpressionFault.{ExpressionFault}
use Rattle.schematron_meaning.specs.declared.fault.ExpressionFault.TheVariants as x

abbrev pub IsSyntax : SyntaxFault → ExpressionFault → Type 0
IsSyntax fault found = elim fault as (λ _. Type 0) [ y.Memory ↦ ⊥ | _ ↦ found ≡ x.Syntax fault ]

abbrev pub IsMisspelled : SyntaxFault → Result Planned ExpressionFault → Type 0
IsMisspelled fault (Ok plan) = ⊥
IsMisspelled fault (Err found) = IsSyntax fault found

abbrev pub IsRefused : TypeFault → ExpressionFault → Type 0
IsRefused (f.Refused kind token) found = found ≡ x.Type kind token
IsRefused f.Memory found = ⊥

abbrev pub IsPlanned : Result TypedExpression TypeFault → Result Planned ExpressionFault → Type 0
IsPlanned (Ok typed) (Ok plan) = expression plan ≡ resolved typed.declared [] (view typed.expression)
IsPlanned (Ok typed) (Err found) = ⊥
IsPlanned (Err fault) (Ok plan) = ⊥
IsPlanned (Err fault) (Err found) = IsRefused fault found

-- What was typed is grammatical.
abbrev pub IsGrammatical : Result TypedExpression TypeFault → Type 0
IsGrammatical (Ok typed) = Grammatical (view typed.expression)
IsGrammatical (Err fault) = Unit {0}
