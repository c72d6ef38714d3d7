-- From what is kept of an expression to the answer for a text.
use Rattle.std.proofs.Common.{◌≡◌, ℕ, Bool, true, false, List, Option, Some, None, option_map, Result, Ok, Err, nat_le, nat_lt, refl, sym, ap, ◌∙◌, subst}
use Rattle.std.proofs.Common.{leb-true, leb-false, le-ltb, lt-ltb}
use Rattle.xpath_tokens.specs.declared.token.Token.{Token}
use Rattle.xpath_tokens.specs.declared.token.SyntaxFault.{SyntaxFault}
use Rattle.xpath_tokens.specs.declared.token.SyntaxFault.TheVariants as f
use Rattle.xpath_tokens.specs.Tokens as t
use Rattle.xpath_grammar.specs.declared.expr.Expr.{Expr}
use Rattle.xpath_grammar.specs.declared.pattern.Pattern.{Pattern}
use Rattle.xpath_grammar.specs.Grammar as g
use Rattle.xpath_grammar.specs.Machine as m
use Rattle.xpath_grammar.specs.Patterns as pa
use Rattle.xpath_grammar.specs.View.{view, expressions}
use Rattle.xpath_syntax.specs.declared.value.Value.{Value}
use Rattle.xpath_syntax.specs.Answers.{Answers, PatternAnswers, Refused, within_levels, answer_of_tree, answer_of_pattern_tree, answer_of, pattern_answer_of}
use Rattle.xpath_syntax.specs.Spelled.{kept_expression, expression_of, pattern_of, IsOfItsKind}
use Rattle.xpath_syntax.specs.Stacks.{MayMake}
use Rattle.xpath_syntax.specs.Values.{values}
use Rattle.xpath_syntax.proofs.Cut.{kept_if, kept_of, whole-is}

-- each tree is that of the expression that is made of it
abbrev AreExpressions : Type 0
AreExpressions = (x : g.Tree) → view (m.value_of expressions x) ≡ x

value : g.Tree → Value
value x = m.value_of values x

answer_if : g.Tree → Bool → Result g.Tree SyntaxFault
answer_if x b = elim b [ true ↦ Err f.TooDeep | false ↦ Ok x ]

-- an expression with at most 256 levels is kept, and no other
levels : (x : g.Tree) → AreExpressions → Answers (kept_expression (kept_of x)) (within_levels x)
unfolding answer_if
levels x law = by (nat_le (g.level x) 256) refl where
  by : (b : Bool) → nat_le (g.level x) 256 ≡ b → Answers (kept_expression (kept_if b (record { expression = m.value_of expressions x; level = g.level x })))
      (answer_if x (nat_lt 256 (g.level x)))
  by true e = ap (answer_if x) (le-ltb 256 (g.level x) (leb-true (g.level x) 256 e)) ∙ ap Ok (sym (law x))
  by false e = ap (answer_if x) (lt-ltb 256 (g.level x) (leb-false (g.level x) 256 e))

same_answer : (x : g.Tree) (v : Value) (r : Result Expr SyntaxFault) → AreExpressions → value x ≡ v → r ≡ expression_of v → Answers r (within_levels x)
unfolding value
same_answer x v r law e q = subst (λ (s : Result Expr SyntaxFault). Answers s (within_levels x)) (ap expression_of (sym (whole-is x) ∙ e) ∙ sym q)
    (levels x law)

pub expression-found : (found : Option g.Tree) (v : Value) (r : Result Expr SyntaxFault) → AreExpressions → option_map (m.value_of values) found ≡ Some v
    → r ≡ expression_of v → Answers r (answer_of_tree found)
unfolding value
expression-found None v r law e q = absurd (cc)
expression-found (Some x) v r law e q = same_answer x v r law (cc) q

pub expression-refused : (found : Option g.Tree) (fault : SyntaxFault) → MayMake {X = Value} (Err fault) (option_map (m.value_of values) found) →
    Refused fault (answer_of_tree found)
expression-refused None f.Syntax h = refl
expression-refused (Some x) f.Syntax h = absurd (cc)
expression-refused found f.Memory h = tt
expression-refused found f.TooLong h = absurd h
expression-refused found (f.Lexical i) h = absurd h
expression-refused found f.NumberTooWide h = absurd h
expression-refused found (f.Unsupported i) h = absurd h
expression-refused found f.TooDeep h = absurd h

-- the same for patterns

as_answered : (r : Result Expr SyntaxFault) (answer : Result g.Tree SyntaxFault) → Answers r answer → PatternAnswers r answer
as_answered (Ok x) answer h = h
as_answered (Err fault) answer h = h

pattern_if : g.Tree → Bool → Result g.Tree SyntaxFault
pattern_if x b = elim b [ true ↦ within_levels x | false ↦ Err f.Syntax ]

made_if : Value → Bool → Result Pattern SyntaxFault
made_if v b = elim b [ true ↦ expression_of v | false ↦ Err f.Syntax ]

same_pattern : (x : g.Tree) (v : Value) (b : Bool) → AreExpressions → value x ≡ v → PatternAnswers (made_if v b) (pattern_if x b)
unfolding pattern_if made_if
same_pattern x v true law e = as_answered (expression_of v) (within_levels x) (same_answer x v (expression_of v) law e refl)
same_pattern x v false law e = refl

kind_same : (x : g.Tree) (v : Value) → value x ≡ v → pa.is_pattern_kind v.kind ≡ pa.is_pattern x
unfolding value
kind_same x v e = ap (λ (w : Value). pa.is_pattern_kind w.kind) (sym e ∙ whole-is x)

pub pattern-found : (found : Option g.Tree) (v : Value) (r : Result Pattern SyntaxFault) → AreExpressions → option_map (m.value_of values) found ≡ Some v
    → r ≡ pattern_of v → PatternAnswers r (answer_of_pattern_tree found)
unfolding value pattern_if made_if
pattern-found None v r law e q = absurd (cc)
pattern-found (Some x) v r law e q = let same : value x ≡ v = cc in
    subst (λ (s : Result Pattern SyntaxFault). PatternAnswers s (pattern_if x (pa.is_pattern x))) (ap (made_if v) (sym (kind_same x v same)) ∙ sym q)
    (same_pattern x v (pa.is_pattern x) law same)

-- the expression that is kept is the one of that kind
kept-is : (x : g.Tree) (y : Expr) (b : Bool) → AreExpressions →
    kept_expression (kept_if b (record { expression = m.value_of expressions x; level = g.level x })) ≡ Ok y → view y ≡ x
kept-is x y true law e = let same : m.value_of expressions x ≡ y = cc in ap view (sym same) ∙ law x
kept-is x y false law e = absurd (cc)

pub of_its_kind : (found : Option g.Tree) (v : Value) → AreExpressions → option_map (m.value_of values) found ≡ Some v → IsOfItsKind v
unfolding value
of_its_kind None v law e = absurd (cc)
of_its_kind (Some x) v law e = λ y kept. let same : value x ≡ v = cc in
    ap pa.is_pattern (kept-is x y (nat_le (g.level x) 256) law (ap (λ (w : Value). kept_expression w.kept) (sym (whole-is x) ∙ same) ∙ kept)) ∙
    sym (kind_same x v same)

pub pattern-refused : (found : Option g.Tree) (fault : SyntaxFault) → MayMake {X = Value} (Err fault) (option_map (m.value_of values) found) →
    Refused fault (answer_of_pattern_tree found)
pattern-refused None f.Syntax h = refl
pattern-refused (Some x) f.Syntax h = absurd (cc)
pattern-refused found f.Memory h = tt
pattern-refused found f.TooLong h = absurd h
pattern-refused found (f.Lexical i) h = absurd h
pattern-refused found f.NumberTooWide h = absurd h
pattern-refused found (f.Unsupported i) h = absurd h
pattern-refused found f.TooDeep h = absurd h

-- and for the text

read : (List Token → Result g.Tree SyntaxFault) → Result (List Token) SyntaxFault → Result g.Tree SyntaxFault
read answer_of_tokens tokens = elim tokens [ Err fault ↦ Err fault | Ok spelled ↦ answer_of_tokens spelled ]

text_refused : (answer_of_tokens : List Token → Result g.Tree SyntaxFault) (tokens : Result (List Token) SyntaxFault) (fault : SyntaxFault) →
    t.Refuses fault tokens → Refused fault (read answer_of_tokens tokens)
unfolding read
text_refused answer tokens f.TooLong h = ap (read answer) h
text_refused answer tokens (f.Lexical i) h = ap (read answer) h
text_refused answer tokens f.NumberTooWide h = ap (read answer) h
text_refused answer tokens (f.Unsupported i) h = ap (read answer) h
text_refused answer tokens f.Syntax h = absurd h
text_refused answer tokens f.TooDeep h = absurd h
text_refused answer tokens f.Memory h = tt

pub text-refused : (text : List ℕ) (fault : SyntaxFault) → t.Refuses fault (t.tokens_of text) → Refused fault (answer_of text)
unfolding read
text-refused text fault h = text_refused (λ tokens. answer_of_tree (m.tree_of tokens)) (t.tokens_of text) fault h

pub text-found : (text : List ℕ) (tokens : List Token) (r : Result Expr SyntaxFault) → t.tokens_of text ≡ Ok tokens →
    Answers r (answer_of_tree (m.tree_of tokens)) → Answers r (answer_of text)
unfolding read
text-found text tokens r e h = subst (Answers r) (sym (ap (read (λ tokens. answer_of_tree (m.tree_of tokens))) e)) h

pub pattern_text-refused : (text : List ℕ) (fault : SyntaxFault) → t.Refuses fault (t.tokens_of text) → Refused fault (pattern_answer_of text)
unfolding read
pattern_text-refused text fault h = text_refused (λ tokens. answer_of_pattern_tree (m.tree_of tokens)) (t.tokens_of text) fault h

pub pattern_text-found : (text : List ℕ) (tokens : List Token) (r : Result Pattern SyntaxFault) → t.tokens_of text ≡ Ok tokens →
    PatternAnswers r (answer_of_pattern_tree (m.tree_of tokens)) → PatternAnswers r (pattern_answer_of text)
unfolding read
pattern_text-found text tokens r e h = subst (PatternAnswers r) (sym (ap (read (λ tokens. answer_of_pattern_tree (m.tree_of tokens))) e)) h
