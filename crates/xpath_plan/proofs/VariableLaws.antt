-- Variables by their heights, and what is bound along the parts of an expression.
use Rattle.std.proofs.Common.{◌≡◌, ℕ, ◌-◌, ◌≤◌, Bool, true, false, List, [], ◌∷◌, Option, Some, None, length, drop, refl, sym, ap, subst, ◌∙◌, arith}
use Rattle.std.specs.Str.{bytes_eq}
use Rattle.xpath_grammar.specs.declared.expr.Label.{Label}
use Rattle.xpath_grammar.specs.declared.expr.Label.TheVariants as k
use Rattle.xpath_types.specs.Scopes.{written_name}
use Rattle.xpath_types.specs.Heights.{height_in}
use Rattle.xpath_types.proofs.HeightLemmas.{one-more}
use Rattle.xpath_meaning.specs.Expressions as e
use Rattle.xpath_meaning.specs.Expressions.{Exp}
use Rattle.xpath_meaning.specs.Resolving.{variable_in, names_behind}

-- a variable that stands so high, or one outside
abbrev pub variable_at : List ℕ → Option ℕ → Exp
variable_at name None = e.outer name
variable_at name (Some height) = e.variable height

pub variable-is : (name : List ℕ) (names : List (List ℕ)) → variable_in name names ≡ variable_at name (height_in name names)
variable-is name [] = refl
variable-is name (inner ∷ outer) = by (bytes_eq name inner) (variable-is name outer) where
  by : (b : Bool) → variable_in name outer ≡ variable_at name (height_in name outer)
      → elim b as (λ _. Exp) [ true ↦ e.variable (length outer) | false ↦ variable_in name outer ] ≡ variable_at name
      (elim b as (λ _. Option ℕ) [ true ↦ Some (length outer) | false ↦ height_in name outer ])
  by true rest = refl
  by false rest = rest

pub variable-found : (text name : List ℕ) (bound : List (List ℕ)) (found : Option ℕ) → text ≡ name → found ≡ height_in text bound →
    variable_at name found ≡ variable_in name bound
variable-found text name bound found is e = ap (variable_at name) (e ∙ ap (λ t. height_in t bound) is) ∙ sym (variable-is name bound)

module _ (height : ℕ) (bound : List (List ℕ)) (high : height ≤ length bound) where
  behind-high : (label : Label) → height ≤ length (names_behind label bound)
  behind-high k.First = high
  behind-high (k.Link operator) = high
  behind-high k.Comma = high
  behind-high (k.Binding lead name) = omega (arith, high)
  behind-high k.Condition = high
  behind-high k.Then = high
  behind-high (k.Signed operators) = high
  behind-high k.Predicate = high
  behind-high k.Again = high
  behind-high k.Opened = high
  behind-high (k.Calling name) = high

  behind-dropped : (label : Label) → drop (length (names_behind label bound) - height) (names_behind label bound) ≡ drop (length bound - height) bound
  behind-dropped k.First = refl
  behind-dropped (k.Link operator) = refl
  behind-dropped k.Comma = refl
  behind-dropped (k.Binding lead name) = one-more height (written_name name) bound high
  behind-dropped k.Condition = refl
  behind-dropped k.Then = refl
  behind-dropped (k.Signed operators) = refl
  behind-dropped k.Predicate = refl
  behind-dropped k.Again = refl
  behind-dropped k.Opened = refl
  behind-dropped (k.Calling name) = refl

  module _ (label : Label) (bound' : List (List ℕ)) (is : bound' ≡ names_behind label bound) where
    pub still-high : height ≤ length bound'
    still-high = subst (λ (b : List (List ℕ)). height ≤ length b) (sym is) (behind-high label)

    pub still : {outer : List (List ℕ)} → drop (length bound - height) bound ≡ outer → drop (length bound' - height) bound' ≡ outer
    still e = ap (λ (b : List (List ℕ)). drop (length b - height) b) is ∙ (behind-dropped label ∙ e)
