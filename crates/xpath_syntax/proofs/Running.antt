-- The machine over the tokens, one after another.
use Rattle.std.proofs.Common.{◌≡◌, ℕ, ◌+◌, List, [], ◌∷◌, length, Option, Some, None, Result, Err, sym, ap, ◌∙◌, subst, arith}
use Rattle.std.proofs.lemmas.List.{nil_from_length}
use Rattle.xpath_tokens.specs.declared.token.Token.{Token}
use Rattle.xpath_tokens.specs.declared.token.SyntaxFault.{SyntaxFault}
use Rattle.xpath_tokens.specs.declared.token.SyntaxFault.TheVariants as f
use Rattle.xpath_grammar.specs.declared.machine.Mode.{Mode}
use Rattle.xpath_grammar.specs.declared.machine.Mode.TheVariants.{Want as want}
use Rattle.xpath_grammar.specs.Machine as m
use Rattle.xpath_syntax.specs.declared.value.Value.{Value}
use Rattle.xpath_syntax.specs.declared.value.Parts.{Parts}
use Rattle.xpath_syntax.specs.Stacks.{Stack, Refuses, MayMake}
use Rattle.xpath_syntax.specs.Values.{values}

behind : List Token → Option (m.State Value Parts) → Option Value
behind rest next = elim next [ None ↦ None | Some state ↦ m.run values rest state ]

run-token : (items rest : List Token) (token : Token) (mode : Mode Value Parts) (stack : Stack) (next : Option (m.State Value Parts))
    → items ≡ token ∷ rest → m.step_in values token mode stack ≡ next → m.run values items (m.at mode stack) ≡ behind rest next
unfolding m.run behind
run-token items rest token mode stack next e s = ap (λ ts. m.run values ts (m.at mode stack)) e ∙ ap (behind rest) s

pub run-more : (items rest : List Token) (token : Token) (mode next : Mode Value Parts) (stack left : Stack) (whole : Option Value)
    → items ≡ token ∷ rest → m.step_in values token mode stack ≡ Some (m.at next left) → m.run values items (m.at mode stack) ≡ whole
    → m.run values rest (m.at next left) ≡ whole
unfolding behind
run-more items rest token mode next stack left whole e s h = sym (run-token items rest token mode stack (Some (m.at next left)) e s) ∙ h

pub run-refused : (items rest : List Token) (token : Token) (mode : Mode Value Parts) (stack : Stack) (whole : Option Value) (fault : SyntaxFault)
    → items ≡ token ∷ rest → Refuses fault (m.step_in values token mode stack) → m.run values items (m.at mode stack) ≡ whole →
    MayMake {X = Value} (Err fault) whole
unfolding behind
run-refused items rest token mode stack whole f.TooLong e s h = s
run-refused items rest token mode stack whole (f.Lexical i) e s h = s
run-refused items rest token mode stack whole f.NumberTooWide e s h = s
run-refused items rest token mode stack whole (f.Unsupported i) e s h = s
run-refused items rest token mode stack whole f.Syntax e s h = sym h ∙ run-token items rest token mode stack None e s
run-refused items rest token mode stack whole f.TooDeep e s h = s
run-refused items rest token mode stack whole f.Memory e s h = tt

pub run-ended : (items : List Token) (mode : Mode Value Parts) (stack : Stack) (whole : Option Value) (found : Result Value SyntaxFault)
    → length items ≡ 0 → MayMake found (m.ended_in values mode stack) → m.run values items (m.at mode stack) ≡ whole → MayMake found whole
unfolding m.run
run-ended items mode stack whole found e s h = subst (λ (o : Option Value). MayMake found o)
    (sym (ap (λ ts. m.run values ts (m.at mode stack)) (nil_from_length items e)) ∙ h) s

pub run-from : (items tokens : List Token) (stack : Stack) → items ≡ tokens → stack ≡ [] → m.run values items (m.at want stack) ≡ m.parsed values tokens
run-from items tokens stack e s = ap (λ ts. m.run values ts (m.at want stack)) e ∙ ap (λ st. m.run values tokens (m.at want st)) s

pub one-less : (items rest : List Token) (token : Token) (len less : ℕ) → items ≡ token ∷ rest → less + 1 ≡ len → len ≡ length items → less ≡ length rest
one-less items rest token len less e l h = omega (arith, ap length e)
