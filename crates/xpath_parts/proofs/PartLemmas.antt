-- Parts that are works themselves.
use Rattle.std.proofs.Common.{◌≡◌, true, false, List, [], ◌∷◌, Option, Some, None, IfSome, IfNone, Bor, refl, sym}
use Rattle.std.proofs.lemmas.Bool.{false≢true}
use Rattle.inv_base.specs.Tree.{Name}
use Rattle.xpath_grammar.specs.declared.operators.Binder.{Binder}
use Rattle.xpath_grammar.specs.declared.expr.Label.{Label}
use Rattle.xpath_grammar.specs.declared.expr.Label.TheVariants as k
use Rattle.xpath_tokens.specs.declared.token.Operator.{Operator}
use Rattle.xpath_tokens.specs.declared.token.Operator.TheVariants as o
use Rattle.xpath_meaning.specs.Expressions as e
use Rattle.xpath_meaning.specs.Expressions.{Exp}
use Rattle.xpath_meaning.specs.Resolving.{Operand, in_axis_order, linked, linked_by, chained, chained_on, bound_all, filtered_of, kept_of}
use Rattle.xpath_plan.specs.declared.plan_node.Separator.{Separator}
use Rattle.xpath_plan.specs.declared.plan_node.PlanNode.{PlanNode}
use Rattle.xpath_plan.specs.Plans.{seen}
use Rattle.xpath_parts.specs.Contexts.{operands_of}
use Rattle.xpath_parts.specs.Parts.{is_one, IsOnly, is_plain_one}

pub bound-only : (binder : Binder) (parts : List Operand) (x : Exp) → IsOnly parts x → bound_all binder parts ≡ x
bound-only binder [] x h = absurd h
bound-only binder (part ∷ []) x h = h
bound-only binder (part ∷ (next ∷ parts)) x h = absurd h

pub bound-plain : (binder : Binder) (parts : List Operand) → is_one parts ≡ false → in_axis_order (bound_all binder parts) ≡ bound_all binder parts
bound-plain binder [] h = refl
bound-plain binder (part ∷ []) h = absurd (false≢true (sym h))
bound-plain binder (part ∷ (next ∷ parts)) h = refl

pub filtered-only : (parts : List Operand) (x : Exp) → IsOnly parts x → filtered_of false parts ≡ x
filtered-only [] x h = absurd h
filtered-only (part ∷ []) x h = h
filtered-only (part ∷ (next ∷ parts)) x h = absurd h

kept-plain : (x y : Exp) (parts : List Operand) → in_axis_order (kept_of (e.filtered x y) parts) ≡ kept_of (e.filtered x y) parts
kept-plain x y [] = refl
kept-plain x y (part ∷ parts) = kept-plain (e.filtered x y) part.1 parts

pub filtered-plain : (parts : List Operand) → is_one parts ≡ false → in_axis_order (filtered_of false parts) ≡ filtered_of false parts
filtered-plain [] h = refl
filtered-plain (part ∷ []) h = absurd (false≢true (sym h))
filtered-plain (part ∷ (next ∷ parts)) h = kept-plain part.1 next.1 parts

by-operator-plain : (operator : Operator) (x y : Exp) → in_axis_order (linked_by operator x y) ≡ linked_by operator x y
by-operator-plain o.Slash x y = refl
by-operator-plain o.DoubleSlash x y = refl
by-operator-plain o.And x y = refl
by-operator-plain o.Or x y = refl
by-operator-plain _ x y = refl

linked-plain : (x : Exp) (label : Label) (y : Exp) → in_axis_order (linked x label y) ≡ linked x label y
linked-plain x (k.Link operator) y = by-operator-plain operator x y
linked-plain x k.Comma y = refl
linked-plain x _ y = refl

chained-plain : (x : Exp) (parts : List Operand) → in_axis_order x ≡ x → in_axis_order (chained_on x parts) ≡ chained_on x parts
chained-plain x [] h = h
chained-plain x (part ∷ parts) h = chained-plain (linked x part.0 part.1) parts (linked-plain x part.0 part.1)

pub chain-plain : (parts : List Operand) → is_plain_one parts ≡ false → in_axis_order (chained parts) ≡ chained parts
chain-plain [] h = refl
chain-plain ((k.Link operator, x) ∷ parts) h = chained-plain (linked_by operator e.the_root x) parts (by-operator-plain operator e.the_root x)
chain-plain ((k.Comma, x) ∷ []) h = absurd (false≢true (sym h))
chain-plain ((k.Comma, x) ∷ (next ∷ parts)) h = chained-plain (linked x next.0 next.1) parts (linked-plain x next.0 next.1)
chain-plain ((label, x) ∷ []) h = absurd (false≢true (sym h))
chain-plain ((label, x) ∷ (next ∷ parts)) h = chained-plain (linked x next.0 next.1) parts (linked-plain x next.0 next.1)

pub chain-only : (parts : List Operand) (x : Exp) → is_plain_one parts ≡ true → IsOnly parts x → chained parts ≡ x
chain-only [] x plain h = absurd h
chain-only ((k.Link operator, y) ∷ []) x plain h = absurd (false≢true plain)
chain-only ((k.Comma, y) ∷ []) x plain h = h
chain-only ((label, y) ∷ []) x plain h = h
chain-only (part ∷ (next ∷ parts)) x plain h = absurd h

-- one plain part is one part
pub plain-one : (parts : List Operand) → is_plain_one parts ≡ true → is_one parts ≡ false → ⊥
plain-one [] plain none = false≢true plain
plain-one (part ∷ []) plain none = false≢true (sym none)
plain-one (part ∷ (next ∷ parts)) plain none = false≢true plain

-- The same of a part that was looked for.

module _ (names : List Name) (parts : List (Separator × PlanNode)) where
  abbrev IsFound : Option (Bor PlanNode) → Type 0
  IsFound found = IfSome found (λ work. IsOnly (operands_of names parts) (seen names work.now))

  pub chain-only-part : (found : Option (Bor PlanNode)) → is_plain_one (operands_of names parts) ≡ true → IsFound found →
      IfSome found (λ work. chained (operands_of names parts) ≡ seen names work.now)
  chain-only-part None plain h = tt
  chain-only-part (Some work) plain h = chain-only (operands_of names parts) (seen names work.now) plain h

  pub no-plain-one : (found : Option (Bor PlanNode)) → is_plain_one (operands_of names parts) ≡ true → IfNone found (is_one (operands_of names parts) ≡ false)
      → IfNone found (in_axis_order (chained (operands_of names parts)) ≡ chained (operands_of names parts))
  no-plain-one None plain h = absurd (plain-one (operands_of names parts) plain h)
  no-plain-one (Some work) plain h = tt

  pub bound-only-part : (binder : Binder) (found : Option (Bor PlanNode)) → IsFound found →
      IfSome found (λ work. bound_all binder (operands_of names parts) ≡ seen names work.now)
  bound-only-part binder None h = tt
  bound-only-part binder (Some work) h = bound-only binder (operands_of names parts) (seen names work.now) h

  pub bound-plain-part : (binder : Binder) (found : Option (Bor PlanNode)) → IfNone found (is_one (operands_of names parts) ≡ false)
      → IfNone found (in_axis_order (bound_all binder (operands_of names parts)) ≡ bound_all binder (operands_of names parts))
  bound-plain-part binder None h = bound-plain binder (operands_of names parts) h
  bound-plain-part binder (Some work) h = tt

  pub filtered-only-part : (found : Option (Bor PlanNode)) → IsFound found →
      IfSome found (λ work. filtered_of false (operands_of names parts) ≡ seen names work.now)
  filtered-only-part None h = tt
  filtered-only-part (Some work) h = filtered-only (operands_of names parts) (seen names work.now) h

  pub filtered-plain-part : (found : Option (Bor PlanNode)) → IfNone found (is_one (operands_of names parts) ≡ false)
      → IfNone found (in_axis_order (filtered_of false (operands_of names parts)) ≡ filtered_of false (operands_of names parts))
  filtered-plain-part None h = filtered-plain (operands_of names parts) h
  filtered-plain-part (Some work) h = tt
