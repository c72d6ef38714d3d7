-- What is right in a scope is right with one variable more, by the law of typing.
use Rattle.std.proofs.Common.{◌≡◌, ℕ, List, Option, Some, None, Result, Ok, Err, refl, ap}
use Rattle.xpath_tokens.specs.declared.token.SyntaxFault.{SyntaxFault}
use Rattle.xpath_grammar.specs.Grammar.{Tree}
use Rattle.xpath_types.specs.Scopes.{Declared, with_variable}
use Rattle.xpath_types.specs.Typing.{Typing, typing_of}
use Rattle.schematron_meaning.specs.declared.fault.ExpressionFault.{ExpressionFault}
use Rattle.schematron_meaning.specs.declared.fault.ExpressionFault.TheVariants as x
use Rattle.schematron_meaning.specs.Faults.{spelled, tree_fault, expression_fault}
use Rattle.schematron_faults.proofs.CopyLemmas.{Keeps}

abbrev pub Accepts : Type 0
Accepts = (scope : Declared) (name : List ℕ) (x : Tree) (typing : Typing) → typing_of scope x ≡ Ok typing → (wider : Typing) ×
    (typing_of (with_variable scope name) x ≡ Ok wider)

none_left : (fault : ExpressionFault) → Some fault ≡ None → ⊥
none_left fault h = cc

spelled_right : Accepts → (scope : Declared) (name : List ℕ) (tree : Tree) → tree_fault scope (Ok tree) ≡ None →
    tree_fault (with_variable scope name) (Ok tree) ≡ None
spelled_right accepts scope name tree h = by (typing_of scope tree) refl h
  where
    by : (t : Result Typing _) → typing_of scope tree ≡ t →
        (elim t as (λ _. Option ExpressionFault) [ Ok typing ↦ None | Err refusal ↦ Some (x.Type refusal.kind refusal.token) ]) ≡ None
        → tree_fault (with_variable scope name) (Ok tree) ≡ None
    by (Ok typing) e h = ap (λ a. elim a as (λ _. Option ExpressionFault) [ Ok typing ↦ None | Err refusal ↦ Some (x.Type refusal.kind refusal.token) ])
        (accepts scope name tree typing e).1
    by (Err refusal) e h = absurd (none_left _ h)

tree_right : Accepts → (scope : Declared) (name : List ℕ) (read : Result Tree SyntaxFault) → tree_fault scope read ≡ None →
    tree_fault (with_variable scope name) read ≡ None
tree_right accepts scope name (Err fault) h = absurd (none_left _ h)
tree_right accepts scope name (Ok tree) h = spelled_right accepts scope name tree h

pub keeps : Accepts → Keeps
unfolding expression_fault
keeps accepts is_pattern text scope name h = tree_right accepts scope name (spelled is_pattern text) h
