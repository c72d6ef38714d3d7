-- The answer of parsing: the expression or pattern that the text's tokens spell, or the first refusal.
use Rattle.std.specs.Prelude.{ℕ, true, false, List, Option, Some, None, Result, Ok, Err, nat_lt, ◌≡◌}
use Rattle.xpath_tokens.specs.declared.token.SyntaxFault.{SyntaxFault}
use Rattle.xpath_tokens.specs.declared.token.SyntaxFault.TheVariants as f
use Rattle.xpath_tokens.specs.Tokens.{tokens_of}
use Rattle.xpath_grammar.specs.declared.expr.Expr.{Expr}
use Rattle.xpath_grammar.specs.declared.pattern.Pattern.{Pattern}
use Rattle.xpath_grammar.specs.Grammar.{Tree, level}
use Rattle.xpath_grammar.specs.Machine.{tree_of}
use Rattle.xpath_grammar.specs.Patterns.{is_pattern}
use Rattle.xpath_grammar.specs.View.{view}
use Rattle.xpath_syntax.specs.Values.{most_levels}

-- an expression, unless it has too many levels
abbrev pub within_levels : Tree → Result Tree SyntaxFault
within_levels x = elim (nat_lt most_levels (level x)) [ true ↦ Err f.TooDeep | false ↦ Ok x ]

-- of the expression that the tokens spell, if they spell one
abbrev pub answer_of_tree : Option Tree → Result Tree SyntaxFault
answer_of_tree None = Err f.Syntax
answer_of_tree (Some x) = within_levels x

-- the same for a pattern
abbrev pub answer_of_pattern_tree : Option Tree → Result Tree SyntaxFault
answer_of_pattern_tree None = Err f.Syntax
answer_of_pattern_tree (Some x) = elim (is_pattern x) [ true ↦ within_levels x | false ↦ Err f.Syntax ]

-- of a text of these bytes
abbrev pub answer_of : List ℕ → Result Tree SyntaxFault
answer_of text = elim (tokens_of text) [ Err fault ↦ Err fault | Ok tokens ↦ answer_of_tree (tree_of tokens) ]

abbrev pub pattern_answer_of : List ℕ → Result Tree SyntaxFault
pattern_answer_of text = elim (tokens_of text) [ Err fault ↦ Err fault | Ok tokens ↦ answer_of_pattern_tree (tree_of tokens) ]

-- The call refuses the text for this fault, as the answer says, or memory ran out.
abbrev pub Refused : SyntaxFault → Result Tree SyntaxFault → Type 0
Refused fault answer = elim fault as (λ _. Type 0) [ f.Memory ↦ Unit {0} | _ ↦ answer ≡ Err fault ]

-- The call answers so, unless memory ran out.
abbrev pub Answers : Result Expr SyntaxFault → Result Tree SyntaxFault → Type 0
Answers (Ok found) answer = answer ≡ Ok (view found)
Answers (Err fault) answer = Refused fault answer

abbrev pub PatternAnswers : Result Pattern SyntaxFault → Result Tree SyntaxFault → Type 0
PatternAnswers (Ok found) answer = answer ≡ Ok (view found)
PatternAnswers (Err fault) answer = Refused fault answer
