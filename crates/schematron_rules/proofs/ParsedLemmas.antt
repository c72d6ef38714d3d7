-- What a text spells, by its bytes and by its characters.
use Rattle.std.proofs.Common.{◌≡◌, Bool, true, false, true≢false, List, [], ℕ, length, IfOk, subst, Option, Some, None, Result, Ok, Err, refl, ap, sym, ◌∙◌}
use Rattle.std.proofs.Common.{chars, encode_utf8_all}
use Rattle.std.specs.Prelude.{nat_lt}
use Rattle.xpath_tokens.specs.declared.token.SyntaxFault.{SyntaxFault}
use Rattle.xpath_tokens.specs.declared.token.SyntaxFault.TheVariants as y
use Rattle.xpath_tokens.specs.Tokens.{tokens_of, most_bytes, answer_of_characters}
use Rattle.xpath_grammar.specs.Grammar as g
use Rattle.xpath_grammar.specs.Grammar.{Tree, Grammatical}
use Rattle.xpath_grammar.specs.View.{view}
use Rattle.xpath_grammar.specs.declared.expr.Expr.TheVariants as u
use Rattle.xpath_grammar.proofs.ViewLaws.{view-leaf}
use Rattle.xpath_grammar.specs.declared.expr.Leaf.TheVariants as l
use Rattle.xpath_grammar.specs.Machine.{tree_of}
use Rattle.xpath_syntax.specs.Answers as answers
use Rattle.xpath_tokens.specs.declared.token.Token.{Token}
use Rattle.xpath_meaning.specs.Expressions as e
use Rattle.xpath_meaning.specs.Resolving.{resolved}
use Rattle.xpath_types.specs.declared.fault.TypeKind.{TypeKind}
use Rattle.xpath_types.specs.declared.fault.TypeFault.{TypeFault}
use Rattle.xpath_types.specs.declared.fault.TypeFault.TheVariants as f
use Rattle.xpath_types.specs.Scopes.{Declared}
use Rattle.xpath_types.specs.Judging.{judged}
use Rattle.xpath_types.specs.Typing.{Typing, TypedExpression, typing_of, typing}
use Rattle.xpath_types.specs.Typing as typings
use Rattle.xpath_plan.specs.Plans.{Planned, expression}
use Rattle.schematron_meaning.specs.declared.fault.ExpressionFault.{ExpressionFault}
use Rattle.schematron_meaning.specs.declared.fault.ExpressionFault.TheVariants as x
use Rattle.schematron_meaning.specs.Faults.{spelled, tree_spelled, tree_fault, expression_fault}
use Rattle.schematron_meaning.specs.Rules.{expression_spelled, unless_refused, expression_in}
use Rattle.schematron_rules.specs.PlanAnswers.{Judges}
use Rattle.schematron_rules.specs.Parsed as spec

abbrev answered : Bool → List ℕ → Result Tree SyntaxFault
answered true text = answers.pattern_answer_of text
answered false text = answers.answer_of text

after : Bool → Result (List Token) SyntaxFault → Result Tree SyntaxFault
after true read = elim read as (λ _. Result Tree SyntaxFault) [ Err fault ↦ Err fault | Ok tokens ↦ answers.answer_of_pattern_tree (tree_of tokens) ]
after false read = elim read as (λ _. Result Tree SyntaxFault) [ Err fault ↦ Err fault | Ok tokens ↦ answers.answer_of_tree (tree_of tokens) ]

joined : (is_pattern is_long : Bool) (read : Result (List Token) SyntaxFault)
    → (elim is_long as (λ _. Result Tree SyntaxFault) [
      | true ↦ Err y.TooLong
      | false ↦ elim read as (λ _. Result Tree SyntaxFault)
          [ Err fault ↦ Err fault | Ok tokens ↦ tree_spelled is_pattern (tree_of tokens) ]
    ])
    ≡ after is_pattern (elim is_long as (λ _. Result (List Token) SyntaxFault) [ true ↦ Err y.TooLong | false ↦ read ])
unfolding after
joined true true read = refl
joined false true read = refl
joined true false (Ok tokens) = refl
joined true false (Err fault) = refl
joined false false (Ok tokens) = refl
joined false false (Err fault) = refl

-- the text spells what the parser answers
pub spelled_same : (is_pattern : Bool) (text : List ℕ) → encode_utf8_all (chars text) ≡ text → spelled is_pattern (chars text) ≡ answered is_pattern text
unfolding tokens_of after
spelled_same true text whole = ap (λ (w : List ℕ). elim (nat_lt most_bytes (length w)) as (λ _. Result Tree SyntaxFault) [
  | true ↦ Err y.TooLong
  | false ↦ elim (answer_of_characters (chars text)) as (λ _. Result Tree SyntaxFault)
      [ Err fault ↦ Err fault | Ok tokens ↦ tree_spelled true (tree_of tokens) ]
]) whole
    ∙ joined true (nat_lt most_bytes (length text)) (answer_of_characters (chars text))
spelled_same false text whole = ap (λ (w : List ℕ). elim (nat_lt most_bytes (length w)) as (λ _. Result Tree SyntaxFault) [
  | true ↦ Err y.TooLong
  | false ↦ elim (answer_of_characters (chars text)) as (λ _. Result Tree SyntaxFault)
      [ Err fault ↦ Err fault | Ok tokens ↦ tree_spelled false (tree_of tokens) ]
]) whole
    ∙ joined false (nat_lt most_bytes (length text)) (answer_of_characters (chars text))

misspelt : (is_pattern : Bool) (text : List ℕ) (scope : Declared) (fault : SyntaxFault) (found : ExpressionFault) → encode_utf8_all (chars text) ≡ text
    → answered is_pattern text ≡ Err fault → found ≡ x.Syntax fault → expression_fault is_pattern (chars text) scope ≡ Some found
unfolding expression_fault
misspelt is_pattern text scope fault found whole r m = ap (tree_fault scope) (spelled_same is_pattern text whole ∙ r) ∙ ap Some (sym m)

judges_misspelled : (is_pattern : Bool) (text : List ℕ) (scope : Declared) (fault : SyntaxFault) (answer : Result Planned ExpressionFault)
    → encode_utf8_all (chars text) ≡ text
    → answers.Refused fault (answered is_pattern text) → spec.IsMisspelled fault answer → Judges is_pattern (chars text) scope answer
judges_misspelled is_pattern text scope fault (Ok plan) whole r m = absurd m
judges_misspelled is_pattern text scope y.TooLong (Err found) whole r m = misspelt is_pattern text scope y.TooLong found whole r m
judges_misspelled is_pattern text scope (y.Lexical n) (Err found) whole r m = misspelt is_pattern text scope (y.Lexical n) found whole r m
judges_misspelled is_pattern text scope y.NumberTooWide (Err found) whole r m = misspelt is_pattern text scope y.NumberTooWide found whole r m
judges_misspelled is_pattern text scope (y.Unsupported n) (Err found) whole r m = misspelt is_pattern text scope (y.Unsupported n) found whole r m
judges_misspelled is_pattern text scope y.Syntax (Err found) whole r m = misspelt is_pattern text scope y.Syntax found whole r m
judges_misspelled is_pattern text scope y.TooDeep (Err found) whole r m = misspelt is_pattern text scope y.TooDeep found whole r m
judges_misspelled is_pattern text scope y.Memory (Err found) whole r m = absurd m

-- ---- what was typed

-- the typing is of the tree in the scope
abbrev Keeps : {R : Type 0} → Declared → Tree → Result Typing R → Type 0
Keeps scope tree (Ok t) = (t.expression ≡ tree) × (t.declared ≡ scope)
Keeps scope tree (Err fault) = Unit {0}

keeps_answer : (scope : Declared) (tree : Tree) (t : Typing) (refusal : Option _) → t.expression ≡ tree → t.declared ≡ scope
    → Keeps scope tree (typings.answer refusal t)
keeps_answer scope tree t None e d = (e, d)
keeps_answer scope tree t (Some refusal) e d = tt

keeps : (scope : Declared) (tree : Tree) → Keeps scope tree (typing_of scope tree)
unfolding typing_of
keeps scope tree = keeps_answer scope tree _ _ refl refl

kept_typing : (scope : Declared) (tree : Tree) (t : Typing) → typing_of scope tree ≡ Ok t → (t.expression ≡ tree) × (t.declared ≡ scope)
kept_typing scope tree t h = subst (Keeps scope tree) h (keeps scope tree)

right : (is_pattern : Bool) (text : List ℕ) (scope : Declared) (tree : Tree) (t : Typing) → encode_utf8_all (chars text) ≡ text
    → answered is_pattern text ≡ Ok tree → typing_of scope tree ≡ Ok t
    → expression_fault is_pattern (chars text) scope ≡ None
unfolding expression_fault
right is_pattern text scope tree t whole r h = ap (tree_fault scope) (spelled_same is_pattern text whole ∙ r)
    ∙ ap (λ a. elim a as (λ _. Option ExpressionFault) [ Ok typing ↦ None | Err refusal ↦ Some (x.Type refusal.kind refusal.token) ]) h

refused_so : (is_pattern : Bool) (text : List ℕ) (scope : Declared) (tree : Tree) (kind : TypeKind) (token : ℕ) (found : ExpressionFault)
    → encode_utf8_all (chars text) ≡ text → answered is_pattern text ≡ Ok tree
    → typing_of scope tree ≡ Err (record { token = token; kind = kind }) → found ≡ x.Type kind token
    → expression_fault is_pattern (chars text) scope ≡ Some found
unfolding expression_fault
refused_so is_pattern text scope tree kind token found whole r h m = ap (tree_fault scope) (spelled_same is_pattern text whole ∙ r)
    ∙ (ap (λ a. elim a as (λ _. Option ExpressionFault) [ Ok typing ↦ None | Err refusal ↦ Some (x.Type refusal.kind refusal.token) ]) h ∙ ap Some (sym m))

judges_planned : (is_pattern : Bool) (text : List ℕ) (scope : Declared) (tree : Tree) (typed : Result TypedExpression TypeFault)
    (answer : Result Planned ExpressionFault) → encode_utf8_all (chars text) ≡ text
    → answered is_pattern text ≡ Ok tree → typings.Answers typed (typing_of scope tree) → spec.IsPlanned typed answer
    → Judges is_pattern (chars text) scope answer
judges_planned is_pattern text scope tree (Ok t) (Ok plan) whole r h p =
    let same = kept_typing scope tree (typing t) h in (
      right is_pattern text scope tree (typing t) whole r h,
      p ∙ ((λ i. resolved (same.1 i) [] (same.0 i)) ∙ (sym (ap (expression_spelled scope) (spelled_same is_pattern text whole ∙ r))
          ∙ sym (ap (λ o. unless_refused o (expression_spelled scope (spelled is_pattern (chars text))))
          (right is_pattern text scope tree (typing t) whole r h)))),
    )
judges_planned is_pattern text scope tree (Ok t) (Err found) whole r h p = absurd p
judges_planned is_pattern text scope tree (Err fault) (Ok plan) whole r h p = absurd p
judges_planned is_pattern text scope tree (Err (f.Refused kind token)) (Err found) whole r h p =
    refused_so is_pattern text scope tree kind token found whole r h p
judges_planned is_pattern text scope tree (Err f.Memory) (Err found) whole r h p = absurd p

-- what was typed of a grammatical tree is grammatical
pub typed_grammatical : (scope : Declared) (tree : Tree) (typed : Result TypedExpression TypeFault) → Grammatical tree
    → typings.Answers typed (typing_of scope tree) → spec.IsGrammatical typed
typed_grammatical scope tree (Ok t) grammatical h = subst Grammatical (sym (kept_typing scope tree (typing t) h).0) grammatical
typed_grammatical scope tree (Err fault) grammatical h = tt

-- ---- calls

ok_then : {A E : Type 0} (P Q : A → Type 0) (r : Result A E) → ((a : A) → P a → Q a) → IfOk r P → IfOk r Q
ok_then P Q (Ok a) f h = f a h
ok_then P Q (Err e) f h = h

pub misspelled_judged : {E : Type 0} (is_pattern wanted : Bool) (text : List ℕ) (scope : Declared) (fault : SyntaxFault)
    (result : Result (Result Planned ExpressionFault) E) → encode_utf8_all (chars text) ≡ text → is_pattern ≡ wanted
    → answers.Refused fault (answered wanted text) → IfOk result (spec.IsMisspelled fault) → IfOk result (Judges is_pattern (chars text) scope)
misspelled_judged is_pattern wanted text scope fault result whole w r h = ok_then (spec.IsMisspelled fault) (Judges is_pattern (chars text) scope) result
    (λ answer m. subst (λ b. Judges b (chars text) scope answer) (sym w) (judges_misspelled wanted text scope fault answer whole r m)) h

pub planned_judged : {E : Type 0} (is_pattern wanted : Bool) (text : List ℕ) (scope : Declared) (tree : Tree) (typed : Result TypedExpression TypeFault)
    (result : Result (Result Planned ExpressionFault) E) → encode_utf8_all (chars text) ≡ text → is_pattern ≡ wanted
    → answered wanted text ≡ Ok tree → typings.Answers typed (typing_of scope tree) → IfOk result (spec.IsPlanned typed)
    → IfOk result (Judges is_pattern (chars text) scope)
planned_judged is_pattern wanted text scope tree typed result whole w r h k = ok_then (spec.IsPlanned typed) (Judges is_pattern (chars text) scope) result
    (λ answer p. subst (λ b. Judges b (chars text) scope answer) (sym w) (judges_planned wanted text scope tree typed answer whole r h p)) k

-- ---- `()`

abbrev the_empty : Tree
the_empty = view (u.Leaf l.Empty)

abbrev is_right : {A E : Type 0} → Result A E → Bool
is_right (Ok value) = true
is_right (Err fault) = false

leaf_typed : (scope : Declared) → is_right (typing_of scope (g.leaf l.Empty)) ≡ true
unfolding typing_of judged
leaf_typed scope = refl

-- it is right in every scope
empty_typed : (scope : Declared) → is_right (typing_of scope the_empty) ≡ true
empty_typed scope = ap (λ tree. is_right (typing_of scope tree)) (view-leaf l.Empty) ∙ leaf_typed scope

pub empty_unrefused : {Y : Type 0} (scope : Declared) (fault : TypeFault) (kind : TypeKind) (token : ℕ) → fault ≡ f.Refused kind token
    → typings.Refuses fault (typing_of scope the_empty) → Y
empty_unrefused scope fault kind token e h =
    absurd (true≢false (sym (empty_typed scope) ∙ ap is_right (subst (λ of. typings.Refuses of (typing_of scope the_empty)) e h)))

empty_fits : Grammatical the_empty
unfolding Grammatical
empty_fits = subst Grammatical (sym (view-leaf l.Empty)) refl

pub empty_grammatical : (scope : Declared) (t : TypedExpression) → typing_of scope the_empty ≡ Ok (typing t) → Grammatical (view t.expression)
empty_grammatical scope t h = subst Grammatical (sym (kept_typing scope the_empty (typing t) h).0) empty_fits

leaf_resolved : (scope : Declared) → resolved scope [] (g.leaf l.Empty) ≡ e.nothing
unfolding resolved
leaf_resolved scope = refl

-- it says nothing
pub empty_planned : {E : Type 0} (scope : Declared) (t : TypedExpression) (result : Result Planned E) → typing_of scope the_empty ≡ Ok (typing t)
    → IfOk result (λ plan. expression plan ≡ resolved t.declared [] (view t.expression)) → IfOk result (λ plan. expression plan ≡ e.nothing)
empty_planned scope t result h k = ok_then (λ plan. expression plan ≡ resolved t.declared [] (view t.expression)) (λ plan. expression plan ≡ e.nothing) result
    (λ plan p. p ∙ (ap (resolved t.declared []) ((kept_typing scope the_empty (typing t) h).0 ∙ view-leaf l.Empty) ∙ leaf_resolved t.declared)) k

-- what is refused says nothing either
pub refused_planned : {E : Type 0} (is_pattern : Bool) (text : List ℕ) (scope : Declared) (fault : ExpressionFault) (result : Result Planned E)
    → expression_fault is_pattern text scope ≡ Some fault
    → IfOk result (λ plan. expression plan ≡ e.nothing) → IfOk result (λ plan. expression plan ≡ expression_in scope is_pattern text)
refused_planned is_pattern text scope fault result f k =
    ok_then (λ plan. expression plan ≡ e.nothing) (λ plan. expression plan ≡ expression_in scope is_pattern text) result
    (λ plan p. p ∙ sym (ap (λ o. unless_refused o (expression_spelled scope (spelled is_pattern text))) f)) k
