-- The contexts of a compiled rule file have the shape of patterns.
use Rattle.std.proofs.Common.{◌≡◌, ℕ, zero, suc, Bool, true, false, List, [], ◌∷◌, length, map, Option, Some, None, Result, Ok, Err, refl, ap, subst, arith}
use Rattle.std.specs.Prelude.{◌↔◌, nat_lt, encode_utf8_all}
use Rattle.std.specs.List.{All}
use Rattle.std.proofs.lemmas.Bool.{true≢false}
use Rattle.inv_base.specs.Tree.{Node}
use Rattle.xpath_tokens.specs.declared.token.Token.{Token}
use Rattle.xpath_tokens.specs.declared.token.SyntaxFault.{SyntaxFault}
use Rattle.xpath_tokens.specs.declared.token.SyntaxFault.TheVariants as f
use Rattle.xpath_tokens.specs.Tokens.{most_bytes, answer_of_characters}
use Rattle.xpath_grammar.specs.Grammar.{Tree, Spells, level}
use Rattle.xpath_grammar.specs.Machine.{tree_of}
use Rattle.xpath_grammar.specs.Patterns.{IsPattern}
use Rattle.xpath_grammar.specs.Patterns as trees
use Rattle.xpath_syntax.specs.Answers.{answer_of_pattern_tree, within_levels}
use Rattle.xpath_syntax.specs.Values.{most_levels}
use Rattle.xpath_types.specs.Scopes.{Declared}
use Rattle.xpath_meaning.specs.Expressions.{Exp}
use Rattle.xpath_meaning.specs.Resolving.{resolved}
use Rattle.xpath_marks.specs.Shapes.{is_pattern}
use Rattle.schematron_meaning.specs.Entries.{Entry, entries}
use Rattle.schematron_meaning.specs.Expansion.{File, file_of, Instance}
use Rattle.schematron_meaning.specs.Faults.{spelled, tree_spelled, expression_fault, first_fault}
use Rattle.schematron_meaning.specs.declared.fault.Fault.{Fault}
use Rattle.schematron_meaning.specs.declared.fault.ExpressionFault.{ExpressionFault}
use Rattle.schematron_meaning.specs.Rules.{Rules, expression_spelled, unless_refused, expression_in, rule_of, pattern_of, compiled, rules_unless, rules_of}
use Rattle.schematron_run.specs.Contexts.{HasContext, HaveContexts, HasPatterns}

all_map : {X Y : Type 0} (P : Y → Type 0) (g : X → Y) (xs : List X) → ((x : X) → P (g x)) → All P (map g xs)
all_map P g [] h k d l = absurd (omega (arith, l))
all_map P g (x ∷ xs) h zero d l = h x
all_map P g (x ∷ xs) h (suc k) d l = all_map P g xs h k d (omega (arith, l))

module _
    (reads : (tokens : List Token) (x : Tree) → ((tree_of tokens ≡ Some x) ↔ Spells tokens x))
    (patterns : (tokens : List Token) (x : Tree) → (IsPattern tokens x ↔ Spells tokens x × (trees.is_pattern x ≡ true)))
    (shapes : (declared : Declared) (names : List (List ℕ)) (tokens : List Token) (pattern : Tree) → IsPattern tokens pattern →
    is_pattern (resolved declared names pattern) ≡ true) where
  by_tree : (scope : Declared) (tokens : List Token) (o : Option Tree) → tree_of tokens ≡ o →
      is_pattern (expression_spelled scope (answer_of_pattern_tree o)) ≡ true
  by_tree scope tokens None e = refl
  by_tree scope tokens (Some x) e = by_test (trees.is_pattern x) refl
    where
      by_level : (b : Bool) → trees.is_pattern x ≡ true → is_pattern (expression_spelled scope (elim b [ true ↦ Err f.TooDeep | false ↦ Ok x ])) ≡ true
      by_level true p = refl
      by_level false p = shapes scope [] tokens x ((patterns tokens x).1 ((reads tokens x).0 e, p))

      by_test : (b : Bool) → trees.is_pattern x ≡ b → is_pattern (expression_spelled scope (elim b [ true ↦ within_levels x | false ↦ Err f.Syntax ])) ≡ true
      by_test true p = by_level (nat_lt most_levels (level x)) p
      by_test false p = refl

  spelled_in_scope : (scope : Declared) (text : List ℕ) → is_pattern (expression_spelled scope (spelled true text)) ≡ true
  spelled_in_scope scope text = by_length (nat_lt most_bytes (length (encode_utf8_all text)))
    where
      by_tokens : (answer : Result (List Token) SyntaxFault)
          → is_pattern (expression_spelled scope (elim answer [ Err fault ↦ Err fault | Ok tokens ↦ tree_spelled true (tree_of tokens) ])) ≡ true
      by_tokens (Err fault) = refl
      by_tokens (Ok tokens) = by_tree scope tokens (tree_of tokens) refl

      by_length : (b : Bool) → is_pattern (expression_spelled scope (elim b [
        | true ↦ Err f.TooLong
        | false ↦ elim (answer_of_characters text) [ Err fault ↦ Err fault | Ok tokens ↦ tree_spelled true (tree_of tokens) ]
      ])) ≡ true
      by_length true = refl
      by_length false = by_tokens (answer_of_characters text)

  unrefused : (o : Option ExpressionFault) (x : Exp) → is_pattern x ≡ true → is_pattern (unless_refused o x) ≡ true
  unrefused None x h = h
  unrefused (Some fault) x h = refl

  in_scope : (scope : Declared) (text : List ℕ) → is_pattern (expression_in scope true text) ≡ true
  in_scope scope text = unrefused (expression_fault true text scope) _ (spelled_in_scope scope text)

  of_rule : (file : File) (instance : Instance) (outer : Declared) (rule : Entry) → HasContext (rule_of file instance outer rule)
  of_rule file instance outer rule = in_scope outer _

  of_pattern : (file : File) (outer : Declared) (instance : Instance) → HaveContexts (pattern_of file outer instance)
  of_pattern file outer instance = all_map HasContext (rule_of file instance _) _ (λ rule. of_rule file instance _ rule)

  of_file : (file : File) → HasPatterns (compiled file)
  of_file file = all_map HaveContexts (pattern_of file _) _ (λ instance. of_pattern file _ instance)

  unless : (o : Option Fault) (file : File) (rules : Rules) → rules_unless o file ≡ Ok rules → HasPatterns rules
  unless None file rules e = subst HasPatterns (ap (λ r. elim r [ Ok found ↦ found | Err fault ↦ compiled file ]) e) (of_file file)
  unless (Some fault) file rules e = absurd (true≢false (ap (λ r. elim r [ Ok found ↦ false | Err fault ↦ true ]) e))

  pub compiled_have : (nodes : List Node) (rules : Rules) → rules_of nodes ≡ Ok rules → HasPatterns rules
  unfolding rules_of
  compiled_have nodes rules e = unless (first_fault nodes) (file_of (entries nodes)) rules e
