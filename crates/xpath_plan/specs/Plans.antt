-- The expression that a plan is.
use Rattle.std.specs.Prelude.{ℕ, true, false, List, Option, Some, None, map, pos, slice_get}
use Rattle.inv_base.specs.Tree.{Name}
use Rattle.xpath_grammar.specs.declared.functions.Function.TheVariants as f
use Rattle.xpath_grammar.specs.declared.expr.Label.{Label}
use Rattle.xpath_grammar.specs.declared.expr.Label.TheVariants as k
use Rattle.xpath_meaning.specs.Expressions as e
use Rattle.xpath_meaning.specs.Expressions.{Exp, NodeTest}
use Rattle.xpath_meaning.specs.Resolving.{Operand, units, step_of, chained, bound_all, chosen_of, first_part, filtered_of, arguments_of}
use Rattle.xpath_plan.specs.declared.plan_node.StepTest.{StepTest}
use Rattle.xpath_plan.specs.declared.plan_node.StepTest.TheVariants as t
use Rattle.xpath_plan.specs.declared.plan_node.Simple.{Simple}
use Rattle.xpath_plan.specs.declared.plan_node.Simple.TheVariants as s
use Rattle.xpath_plan.specs.declared.plan_node.Separator.{Separator}
use Rattle.xpath_plan.specs.declared.plan_node.Separator.TheVariants as l
use Rattle.xpath_plan.specs.declared.plan_node.Operation.{Operation}
use Rattle.xpath_plan.specs.declared.plan_node.Operation.TheVariants as m
use Rattle.xpath_plan.specs.declared.plan_node.PlanNode.{PlanNode, fold-PlanNode}
use Rattle.xpath_plan.specs.declared.plan_node.PlanNode.TheOpen.{PlanNode-F}

-- a test, where its name is in the table
abbrev pub test_seen : List Name → StepTest → Option NodeTest
test_seen names (t.Named n) = elim (slice_get names n) [ None ↦ None | Some name ↦ Some (e.named name) ]
test_seen names (t.InNamespace uri) = Some (e.in_namespace uri)
test_seen names (t.WithLocal local) = Some (e.with_local local)
test_seen names t.AnyName = Some e.any_name
test_seen names (t.Kind kind) = Some (e.of_kind kind)

abbrev pub test_in : List Name → Option StepTest → Option NodeTest
test_in names None = None
test_in names (Some test) = test_seen names test

abbrev pub simple_seen : List Name → Simple → Exp
simple_seen names (s.Text text) = e.text text
simple_seen names (s.Number x) = e.number (pos (units x))
simple_seen names s.Nothing = e.nothing
simple_seen names s.Item = e.the_item
simple_seen names s.Root = e.the_root
simple_seen names (s.Variable height) = e.variable height
simple_seen names (s.Outer name) = e.outer name
simple_seen names (s.Step axis test) = step_of axis (test_seen names test)
simple_seen names (s.Called function) = e.called function e.no_more

-- what stands before a part, as the grammar has it
abbrev pub label_of : Separator → Label
label_of (l.Operator operator) = k.Link operator
label_of l.Comma = k.Comma
label_of l.Other = k.First

-- what a kind makes of its parts
abbrev pub made : Operation → List Operand → Exp
made m.Chain parts = chained parts
made (m.Bound binder) parts = bound_all binder parts
made m.Conditional parts = chosen_of parts
made (m.Cast word function optional) parts = e.cast word function optional (first_part parts)
made (m.Signs signs) parts = e.signed signs (first_part parts)
made m.FilteredStep parts = filtered_of true parts
made m.FreeStep parts = filtered_of true parts
made m.Filtered parts = filtered_of false parts
made m.Only parts = first_part parts
made (m.Once slot height) parts = first_part parts
made (m.Call function) parts = e.called function (arguments_of parts)
made (m.Matches pattern) parts = e.called f.Matches (e.argument (first_part parts) (e.argument (e.text pattern) e.no_more))
made m.Nothing parts = e.nothing

-- one level, with each part already seen as its expression
abbrev pub seen_step : List Name → PlanNode-F Exp → Exp
seen_step names (PlanNode-F.Simple x) = simple_seen names x
seen_step names (PlanNode-F.Node kind parts) = made kind (map (λ part. (label_of part.0, part.1)) parts)

-- the expression of a work, by the names of its plan
abbrev pub seen : List Name → PlanNode → Exp
seen names = fold-PlanNode Exp (seen_step names)

-- what contracts see of a plan
pub record Planned : Type 0 where
  pub names : List Name
  pub work : PlanNode
  pub slots : ℕ

abbrev pub expression : Planned → Exp
expression planned = seen planned.names planned.work
