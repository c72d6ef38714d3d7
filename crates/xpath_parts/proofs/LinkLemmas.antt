-- Chains of operands.
use Rattle.std.proofs.Common.{◌≡◌, Bool, true, false, List, [], ◌∷◌, map, filter, Option, Some, None, IfSome, Bor, Ok, Err, refl, ap, ◌∙◌}
use Rattle.inv_base.specs.Tree.{Node, Name}
use Rattle.xpath_tokens.specs.declared.token.Operator.{Operator}
use Rattle.xpath_tokens.specs.declared.token.Operator.TheVariants as o
use Rattle.xpath_grammar.specs.declared.step.Axis.TheVariants as a
use Rattle.xpath_items.specs.declared.item.Item.{Item}
use Rattle.xpath_meaning.specs.Values.{Value, then_}
use Rattle.xpath_meaning.specs.Items.{truth}
use Rattle.xpath_meaning.specs.Comparing.{boolean}
use Rattle.xpath_meaning.specs.Steps.{path, filtered_by, has_node, node_item}
use Rattle.xpath_meaning.specs.Expressions as e
use Rattle.xpath_meaning.specs.Expressions.{Exp, NodeTest}
use Rattle.xpath_meaning.specs.Resolving.{Operand, all_inside, linked, linked_by, chained_on, kept_of, step_of}
use Rattle.xpath_meaning.specs.Meaning.{Context, mean, truth_of}
use Rattle.xpath_plan.specs.declared.plan_node.Separator.{Separator}
use Rattle.xpath_plan.specs.declared.plan_node.Separator.TheVariants as l
use Rattle.xpath_plan.specs.declared.plan_node.StepTest.{StepTest}
use Rattle.xpath_plan.specs.declared.plan_node.PlanNode.{PlanNode}
use Rattle.xpath_plan.specs.Plans.{label_of, seen, test_seen}
use Rattle.xpath_parts.specs.Contexts.{operands_of}
use Rattle.xpath_parts.specs.Links.{turn, behind, linked_value, inside_value, IsInside, chain_value, kept_by_all, linked_parts}

-- a truth that is asked of a value
both-then : (v : Value) (f : Bool → Value) → then_ (truth_of v) f ≡ then_ v (λ xs. then_ (truth xs) f)
both-then (Ok xs) f = refl
both-then (Err error) f = refl

slash-then : (v : Value) (f g : List Item → Value) → then_ (then_ v f) g ≡ then_ v (λ xs. then_ (f xs) g)
slash-then (Ok xs) f g = refl
slash-then (Err error) f g = refl

by-operator : (nodes : List Node) (operator : Operator) (x y : Exp) (c : Context) →
    mean nodes (linked_by operator x y) c ≡ then_ (mean nodes x c) (λ xs. behind nodes operator xs y c)
by-operator nodes o.Slash x y c = refl
by-operator nodes o.DoubleSlash x y c = slash-then (mean nodes x c) (path nodes (turn nodes all_inside c)) (path nodes (turn nodes y c))
by-operator nodes o.And x y c = both-then (mean nodes x c) (λ holds. elim holds [ true ↦ boolean (truth_of (mean nodes y c)) | false ↦ boolean (Ok false) ])
by-operator nodes o.Or x y c = both-then (mean nodes x c) (λ holds. elim holds [ true ↦ boolean (Ok true) | false ↦ boolean (truth_of (mean nodes y c)) ])
by-operator nodes operator x y c = refl

by-link : (nodes : List Node) (link : Separator) (x y : Exp) (c : Context) → mean nodes (linked x (label_of link) y) c
    ≡ linked_value nodes link (mean nodes x c) y c
by-link nodes (l.Operator operator) x y c = by-operator nodes operator x y c
by-link nodes l.Comma x y c = refl
by-link nodes l.Other x y c = refl

-- a chain behind an expression
pub by-chain : (nodes : List Node) (names : List Name) (parts : List (Separator × PlanNode)) (x : Exp) (c : Context)
    → mean nodes (chained_on x (operands_of names parts)) c ≡ chain_value nodes (linked_parts names parts) (mean nodes x c) c
by-chain nodes names [] x c = refl
by-chain nodes names (part ∷ parts) x c = by-chain nodes names parts (linked x (label_of part.0) (seen names part.1)) c
    ∙ ap (λ before. chain_value nodes (linked_parts names parts) before c) (by-link nodes part.0 x (seen names part.1) c)

same-then : (v : Value) → v ≡ then_ v (λ items. Ok items)
same-then (Ok items) = refl
same-then (Err error) = refl

-- predicates behind an expression
pub by-predicates : (nodes : List Node) (parts : List Operand) (x : Exp) (c : Context) →
    mean nodes (kept_of x parts) c ≡ then_ (mean nodes x c) (λ items. kept_by_all (λ e. turn nodes e c) parts items)
by-predicates nodes [] x c = same-then (mean nodes x c)
by-predicates nodes (part ∷ parts) x c = by-predicates nodes parts (e.filtered x part.1) c
    ∙ slash-then (mean nodes x c) (filtered_by (turn nodes part.1 c)) (λ items. kept_by_all (λ e. turn nodes e c) parts items)

-- of nothing, nothing is in document order
pub ordered-none : (nodes all : List Node) → map node_item (filter (λ node. has_node [] node.number) all) ≡ []
ordered-none nodes [] = refl
ordered-none nodes (node ∷ all) = ordered-none nodes all

-- `//` and a step on the child axis
step-inside : (nodes : List Node) (test : Option NodeTest) (before : Value) (c : Context) →
    linked_value nodes (l.Operator o.DoubleSlash) before (step_of a.Child test) c ≡ inside_value nodes test before
step-inside nodes None before c = refl
step-inside nodes (Some test) before c = refl

inside-is : (link : Separator) (operator : Operator) (y : Exp) (test : Option NodeTest) → link ≡ l.Operator operator → operator ≡ o.DoubleSlash →
    y ≡ step_of a.Child test → IsInside link y test
inside-is link operator y test is double same = λ nodes before c.
    ap (λ link. linked_value nodes link before y c) (is ∙ ap l.Operator double)
    ∙ (ap (λ y. linked_value nodes (l.Operator o.DoubleSlash) before y c) same ∙ step-inside nodes test before c)

pub inside-found : (names : List Name) (link : Separator) (operator : Operator) (y : Exp) (found : Option (Bor StepTest)) → link ≡ l.Operator operator →
    operator ≡ o.DoubleSlash
    → IfSome found (λ test. y ≡ step_of a.Child (test_seen names test.now)) → IfSome found (λ test. IsInside link y (test_seen names test.now))
inside-found names link operator y None is double h = tt
inside-found names link operator y (Some test) is double h = inside-is link operator y (test_seen names test.now) is double h
