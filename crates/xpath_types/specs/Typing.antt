-- The typing of an expression.
use Rattle.std.specs.Prelude.{List, Option, Some, None, Result, Ok, Err, map, ◌≡◌}
use Rattle.xpath_grammar.specs.Grammar.{Tree}
use Rattle.xpath_grammar.specs.View.{view}
use Rattle.xpath_grammar.specs.declared.expr.Expr.{Expr}
use Rattle.xpath_types.specs.declared.part.Part.{Part}
use Rattle.xpath_types.specs.declared.fault.TypeFault.{TypeFault}
use Rattle.xpath_types.specs.declared.fault.TypeFault.TheVariants as f
use Rattle.xpath_types.specs.Kinds.{nodes, all_kinds}
use Rattle.xpath_types.specs.Scopes.{Declared}
use Rattle.xpath_types.specs.declared.refusals.Refusal.{Refusal}
use Rattle.xpath_types.specs.Refusals.{first_of}
use Rattle.xpath_types.specs.Judging.{Environment, judged}
use Rattle.xpath_types.specs.Parts.{placed, facts}

-- an expression, what it was judged in, and what is stated of its parts
pub record Typing : Type 0 where
  pub expression : Tree
  pub declared : Declared
  pub parts : List Part

-- At the top the focus is a node, and a declared variable may have any value.
abbrev pub outermost : Declared → Environment
outermost declared = record { focus = nodes; variables = map (λ name. (name, all_kinds)) declared.variables; declared = declared }

abbrev pub answer : Option Refusal → Typing → Result Typing Refusal
answer None typing = Ok typing
answer (Some refusal) typing = Err refusal

unfoldable pub typing_of : Declared → Tree → Result Typing Refusal
typing_of declared x = answer (first_of None (judged (outermost declared) 0 x).refusals)
    (record { expression = x; declared = declared; parts = map facts (placed (outermost declared) 0 x) })

-- The parts are those of the expression, and nothing is refused in it.
pub record AreStated (declared : Declared) (x : Tree) (parts : List Part) : Type 0 where
  pub parts_are : parts ≡ map facts (placed (outermost declared) 0 x)
  pub unrefused : first_of None (judged (outermost declared) 0 x).refusals ≡ None

-- The call refused the expression so, unless memory ran out.
abbrev pub Refuses : TypeFault → Result Typing Refusal → Type 0
Refuses fault answer = elim fault as (λ _. Type 0) [ f.Memory ↦ Unit {0} | (f.Refused kind token) ↦ answer ≡ Err (record { token = token; kind = kind }) ]

-- an expression of the program that is typed in a scope
pub record TypedExpression : Type 0 where
  pub expression : Expr
  pub declared : Declared
  pub parts : List Part

-- what it says of the expression's tree
abbrev pub typing : TypedExpression → Typing
typing typed = record { expression = view typed.expression; declared = typed.declared; parts = typed.parts }

-- The call answered so, unless memory ran out.
abbrev pub Answers : Result TypedExpression TypeFault → Result Typing Refusal → Type 0
Answers (Ok typed) answer = answer ≡ Ok (typing typed)
Answers (Err fault) answer = Refuses fault answer
