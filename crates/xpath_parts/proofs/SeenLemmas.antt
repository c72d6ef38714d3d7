-- The expression of a work, by its kind and its parts.
use Rattle.std.proofs.Common.{◌≡◌, ◌<◌, Bool, true, false, List, [], ◌∷◌, length, map, Option, Some, None, Result, Ok, Err, refl, sym, ap, ◌∙◌, subst, arith}
use Rattle.std.proofs.lemmas.Bool.{false≢true}
use Rattle.inv_base.specs.Tree.{Node, Name}
use Rattle.node_arena.specs.Moves.{tree_nodes}
use Rattle.xpath_grammar.specs.declared.operators.Binder.{Binder}
use Rattle.xpath_grammar.specs.declared.step.Axis.{Axis}
use Rattle.xpath_items.specs.declared.fault.Fault.{Fault}
use Rattle.xpath_items.specs.declared.fault.Fault.TheVariants as f
use Rattle.xpath_items.specs.declared.item.Item.{Item}
use Rattle.xpath_items.specs.declared.item.Item.TheVariants as i
use Rattle.xpath_items.specs.declared.outcome.Focus.{Focus}
use Rattle.xpath_items.specs.Faults.{Gives}
use Rattle.xpath_meaning.specs.Values.{Value, then_}
use Rattle.xpath_meaning.specs.Steps.{path, root_of, in_document_order}
use Rattle.xpath_meaning.specs.Expressions as e
use Rattle.xpath_meaning.specs.Expressions.{Exp, NodeTest}
use Rattle.xpath_meaning.specs.Resolving.{Operand, step_of, in_axis_order, chained, bound_all, filtered_of, kept_of}
use Rattle.xpath_meaning.specs.Meaning.{Context, mean, inside, bound_by}
use Rattle.xpath_plan.specs.declared.plan_node.Separator.{Separator}
use Rattle.xpath_plan.specs.declared.plan_node.Separator.TheVariants as l
use Rattle.xpath_plan.specs.declared.plan_node.StepTest.{StepTest}
use Rattle.xpath_plan.specs.declared.plan_node.Simple.{Simple}
use Rattle.xpath_plan.specs.declared.plan_node.Operation.{Operation}
use Rattle.xpath_plan.specs.declared.plan_node.Operation.TheVariants as m
use Rattle.xpath_plan.specs.declared.plan_node.PlanNode.{PlanNode, PlanNode-F, fold-roll-PlanNode}
use Rattle.xpath_plan.specs.declared.plan_node.PlanNode.TheVariants as w
use Rattle.xpath_plan.specs.Plans.{label_of, simple_seen, test_seen, made, seen_step, seen}
use Rattle.xpath_steps.specs.Steps.{stepped_path_seen}
use Rattle.xpath_parts.specs.declared.dynamic.DynamicContext.{DynamicContext}
use Rattle.xpath_parts.specs.Contexts.{IsReady, context, operands_of, turn_in, value_in}
use Rattle.xpath_parts.specs.Links.{turn, chain_value, linked_parts, kept_by_all, filtered_so, bound_value}
use Rattle.xpath_parts.specs.Parts.{is_operator, is_filtered_step}
use Rattle.xpath_parts.proofs.LinkLemmas.{by-chain, by-predicates, ordered-none}

pub seen-simple : (names : List Name) (x : Simple) → seen names (w.Simple x) ≡ simple_seen names x
seen-simple names x = ap (seen names) (sym (w.rolls-Simple x)) ∙ fold-roll-PlanNode Exp (seen_step names) (PlanNode-F.Simple x)

labelled-operands : (names : List Name) (parts : List (Separator × PlanNode)) →
    map (λ (part : Separator × Exp). (label_of part.0, part.1)) (map (λ (part : Separator × PlanNode). (part.0, seen names part.1)) parts)
    ≡ operands_of names parts
labelled-operands names [] = refl
labelled-operands names (part ∷ parts) = ap (λ operands. (label_of part.0, seen names part.1) ∷ operands) (labelled-operands names parts)

pub seen-node : (names : List Name) (kind : Operation) (parts : List (Separator × PlanNode)) → seen names (w.Node kind parts)
    ≡ made kind (operands_of names parts)
seen-node names kind parts = ap (seen names) (sym (w.rolls-Node kind parts)) ∙
    (fold-roll-PlanNode Exp (seen_step names) (PlanNode-F.Node kind parts) ∙ ap (made kind) (labelled-operands names parts))

pub seen-at : (names : List Name) (work : PlanNode) (kind : Operation) (parts parts' : List (Separator × PlanNode)) → work ≡ w.Node kind parts → parts'
    ≡ parts →
    seen names work ≡ made kind (operands_of names parts')
seen-at names work kind parts parts' is same = ap (seen names) is ∙ (seen-node names kind parts ∙ ap (λ parts. made kind (operands_of names parts)) (sym same))

-- a value, of another expression that is the same
pub value-along : (r : Result (List Item) Fault) (dynamic : DynamicContext) (focus : Focus) (bound : List Item) (x y : Exp) → x ≡ y →
    Gives r (value_in dynamic x focus bound) → Gives r (value_in dynamic y focus bound)
value-along r dynamic focus bound x y e h = subst (λ x. Gives r (value_in dynamic x focus bound)) e h

pub ready-along : (dynamic : DynamicContext) (focus : Focus) (bound bound' : List Item) → bound' ≡ bound → IsReady dynamic focus bound
    → IsReady dynamic focus bound'
ready-along dynamic focus bound bound' e h = subst (IsReady dynamic focus) (sym e) h

-- a step behind `/`
path-of_step : (nodes : List Node) (axis : Axis) (test : Option NodeTest) (items : List Item) (c : Context) →
    path nodes (turn nodes (step_of axis test) c) items ≡ stepped_path_seen nodes axis test items
path-of_step nodes axis None items c = refl
path-of_step nodes axis (Some test) items c = refl

pub path-step : (dynamic : DynamicContext) (bound : List Item) (work : PlanNode) (axis : Axis) (test : StepTest) (items items' : List Item) →
    seen dynamic.names.now work ≡ step_of axis (test_seen dynamic.names.now test) → items' ≡ items
    → stepped_path_seen (tree_nodes dynamic.doc.now) axis (test_seen dynamic.names.now test) items' ≡ path (tree_nodes dynamic.doc.now)
    (turn_in dynamic (seen dynamic.names.now work) bound) items
path-step dynamic bound work axis test items items' is same =
    let focus : Focus = record { item = i.Boolean true; position = 1; last = 1 } in
    ap (stepped_path_seen (tree_nodes dynamic.doc.now) axis (test_seen dynamic.names.now test)) same
    ∙ sym (ap (λ x. path (tree_nodes dynamic.doc.now) (turn_in dynamic x bound) items) is ∙
    path-of_step (tree_nodes dynamic.doc.now) axis (test_seen dynamic.names.now test) items (context dynamic focus bound))

-- what a path that begins with an operator is, and another chain
pub chain-at_root : (nodes : List Node) (names : List Name) (parts : List (Separator × PlanNode)) (first : Separator × PlanNode) (others : List (Separator
    × PlanNode)) (c : Context) →
    parts ≡ first ∷ others → is_operator (label_of first.0) ≡ true
    → chain_value nodes (linked_parts names parts) (root_of c.focus.item) c ≡ mean nodes (chained (operands_of names parts)) c
chain-at_root nodes names parts (l.Operator operator, work) others c is h =
    ap (λ parts. chain_value nodes (linked_parts names parts) (root_of c.focus.item) c) is
    ∙ (sym (by-chain nodes names ((l.Operator operator, work) ∷ others) e.the_root c) ∙ ap (λ parts. mean nodes (chained (operands_of names parts)) c) (sym is))
chain-at_root nodes names parts (l.Comma, work) others c is h = absurd (false≢true h)
chain-at_root nodes names parts (l.Other, work) others c is h = absurd (false≢true h)

pub chain-at_first : (nodes : List Node) (names : List Name) (parts : List (Separator × PlanNode)) (first : Separator × PlanNode) (others : List (Separator
    × PlanNode)) (c : Context) →
    parts ≡ first ∷ others → is_operator (label_of first.0) ≡ false
    → chain_value nodes (linked_parts names others) (mean nodes (seen names first.1) c) c ≡ mean nodes (chained (operands_of names parts)) c
chain-at_first nodes names parts (l.Operator operator, work) others c is h = absurd (false≢true (sym h))
chain-at_first nodes names parts (l.Comma, work) others c is h =
    sym (by-chain nodes names others (seen names work) c) ∙ ap (λ parts. mean nodes (chained (operands_of names parts)) c) (sym is)
chain-at_first nodes names parts (l.Other, work) others c is h =
    sym (by-chain nodes names others (seen names work) c) ∙ ap (λ parts. mean nodes (chained (operands_of names parts)) c) (sym is)

-- predicates behind a first part
module _ (dynamic : DynamicContext) (focus : Focus) (bound : List Item) (parts predicates : List (Separator × PlanNode)) (first : Separator × PlanNode)
    (parts_are : parts ≡ first ∷ predicates) where
  abbrev first_so : Bool → Exp → Exp
  first_so true x = in_axis_order x
  first_so false x = x

  abbrev kept_behind : List Item → Value
  kept_behind items = kept_by_all (λ x. turn_in dynamic x bound) (operands_of dynamic.names.now predicates) items

  so : (is_step : Bool) → filtered_so is_step (operands_of dynamic.names.now (first ∷ predicates)) ≡ kept_of (first_so is_step (seen dynamic.names.now first.1))
      (operands_of dynamic.names.now predicates)
  so true = refl
  so false = refl

  filter-opened : (is_step : Bool) → value_in dynamic (filtered_so is_step (operands_of dynamic.names.now parts)) focus bound
      ≡ then_ (value_in dynamic (first_so is_step (seen dynamic.names.now first.1)) focus bound) kept_behind
  filter-opened is_step = ap (λ parts. value_in dynamic (filtered_so is_step (operands_of dynamic.names.now parts)) focus bound) parts_are
      ∙ (ap (λ x. value_in dynamic x focus bound) (so is_step) ∙ by-predicates (tree_nodes dynamic.doc.now) (operands_of dynamic.names.now predicates)
      (first_so is_step (seen dynamic.names.now first.1)) (context dynamic focus bound))

  -- where the first part's value is there
  pub filter-ok : (is_step b : Bool) (items : List Item) → is_step ≡ b → value_in dynamic (first_so b (seen dynamic.names.now first.1)) focus bound ≡ Ok items
      → kept_behind items ≡ value_in dynamic (filtered_so is_step (operands_of dynamic.names.now parts)) focus bound
  filter-ok is_step b items is found = sym (ap (λ is_step. value_in dynamic (filtered_so is_step (operands_of dynamic.names.now parts)) focus bound) is ∙
      (filter-opened b ∙ ap (λ v. then_ v kept_behind) found))

  pub filter-err : (is_step b : Bool) (fault : Fault) → is_step ≡ b →
      Gives (Err fault) (value_in dynamic (first_so b (seen dynamic.names.now first.1)) focus bound)
      → Gives (Err fault) (value_in dynamic (filtered_so is_step (operands_of dynamic.names.now parts)) focus bound)
  filter-err is_step b f.Memory is found = tt
  filter-err is_step b (f.Error error) is found = ap (λ is_step. value_in dynamic (filtered_so is_step (operands_of dynamic.names.now parts)) focus bound) is ∙
      (filter-opened b ∙ ap (λ v. then_ v kept_behind) found)

-- a step with predicates
pub filtered_step-made : (kind : Operation) (parts : List Operand) → is_filtered_step kind ≡ true → filtered_so true parts ≡ in_axis_order (made kind parts)
filtered_step-made m.FilteredStep [] h = refl
filtered_step-made m.FilteredStep (part ∷ parts) h = refl
filtered_step-made m.FreeStep [] h = refl
filtered_step-made m.FreeStep (part ∷ parts) h = refl
filtered_step-made m.Chain parts h = absurd (false≢true h)
filtered_step-made (m.Bound binder) parts h = absurd (false≢true h)
filtered_step-made m.Conditional parts h = absurd (false≢true h)
filtered_step-made (m.Cast word function optional) parts h = absurd (false≢true h)
filtered_step-made (m.Signs signs) parts h = absurd (false≢true h)
filtered_step-made m.Filtered parts h = absurd (false≢true h)
filtered_step-made m.Only parts h = absurd (false≢true h)
filtered_step-made (m.Once slot height) parts h = absurd (false≢true h)
filtered_step-made (m.Call function) parts h = absurd (false≢true h)
filtered_step-made (m.Matches pattern) parts h = absurd (false≢true h)
filtered_step-made m.Nothing parts h = absurd (false≢true h)

pub filtered_step-ordered : (nodes : List Node) (parts : List Operand) (c : Context) (items : List Item) → mean nodes (filtered_so true parts) c ≡ Ok items
    → mean nodes (filtered_of true parts) c ≡ Ok (in_document_order nodes items)
filtered_step-ordered nodes [] c items is = ap Ok (sym (ordered-none nodes nodes)) ∙ ap (λ v. then_ v (λ items. Ok (in_document_order nodes items))) is
filtered_step-ordered nodes (part ∷ parts) c items is = ap (λ v. then_ v (λ items. Ok (in_document_order nodes items))) is

-- `for`, `some` and `every` behind the items of the first variable
pub bind-value : (nodes : List Node) (names : List Name) (binder : Binder) (parts : List (Separator × PlanNode)) (first : Separator
    × PlanNode) (inner : List (Separator × PlanNode))
    (c c' : Context) (items : List Item)
    → parts ≡ first ∷ inner → 0 < length inner → c' ≡ c → mean nodes (seen names first.1) c ≡ Ok items →
    bound_value binder nodes (operands_of names inner) items c' ≡ mean nodes (bound_all binder (operands_of names parts)) c
bind-value nodes names binder parts first [] c c' items is some same found = absurd (omega (arith, some))
bind-value nodes names binder parts first (next ∷ inner) c c' items is some same found =
    ap (bound_value binder nodes (operands_of names (next ∷ inner)) items) same
    ∙ sym (ap (λ parts. mean nodes (bound_all binder (operands_of names parts)) c) is
    ∙ ap (λ v. then_ v (bound_by binder (λ item. mean nodes (bound_all binder (operands_of names (next ∷ inner))) (inside c item)))) found)
