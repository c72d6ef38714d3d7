-- While an expression is evaluated in a context, which of its parts are evaluated in which contexts (XPath 2.0, sections 2.1.2
-- and 3). A part that is evaluated only under a condition is here all the same: a branch of `if`, an operand of `and` behind one
-- that decides, what stands behind an error.
use Rattle.std.specs.Prelude.{ℕ, suc, ◌+◌, true, false, List, [], ◌∷◌, ◌++◌, length, map, Ok, Err}
use Rattle.std.specs.List.{flat_map, list_all}
use Rattle.inv_base.specs.Tree.{Node}
use Rattle.xpath_tokens.specs.declared.token.Operator.{Operator}
use Rattle.xpath_tokens.specs.declared.token.Operator.TheVariants as o
use Rattle.xpath_grammar.specs.declared.operators.Production.TheVariants as p
use Rattle.xpath_grammar.specs.declared.expr.Form.{Form}
use Rattle.xpath_grammar.specs.declared.expr.Form.TheVariants as m
use Rattle.xpath_grammar.specs.declared.expr.Label.{Label}
use Rattle.xpath_grammar.specs.declared.expr.Label.TheVariants as k
use Rattle.xpath_grammar.specs.Grammar as g
use Rattle.xpath_grammar.specs.Grammar.{Tree, Parts}
use Rattle.xpath_types.specs.declared.kinds.Kinds.{Kinds}
use Rattle.xpath_types.specs.Judging.{Environment, judged, inside, behind, variables_behind}
use Rattle.xpath_types.specs.Parts.{Placed}
use Rattle.xpath_items.specs.declared.item.Item.{Item}
use Rattle.xpath_meaning.specs.Values.{Value}
use Rattle.xpath_meaning.specs.Steps.{is_node}
use Rattle.xpath_meaning.specs.Expressions as x
use Rattle.xpath_meaning.specs.Expressions.{Exp}
use Rattle.xpath_meaning.specs.Resolving.{resolved, all_inside, linked_by, in_axis_order, is_step}
use Rattle.xpath_meaning.specs.Meaning as c
use Rattle.xpath_meaning.specs.Meaning.{Context, mean}
use Rattle.xpath_meaning.specs.PartKinds.{Bound, names}

-- Contexts at items

-- the items of a value, and none of an error
abbrev pub items_of : Value → List Item
items_of (Ok items) = items
items_of (Err error) = []

-- these items where all are nodes, and none where one isn't: a step is taken at none then
abbrev pub if_all_nodes : List Item → List Item
if_all_nodes items = elim (list_all is_node items) [ true ↦ items | false ↦ [] ]

-- the context at each item, of which the first has the position
abbrev pub at_each_from : Context → ℕ → ℕ → List Item → List Context
at_each_from context last position [] = []
at_each_from context last position (item ∷ items) =
    c.at context item position last ∷ at_each_from context last (suc position) items

abbrev pub at_each : List Item → Context → List Context
at_each items context = at_each_from context (length items) 1 items

-- What stands before a part: the path up to a step, or the list that a predicate is tried on

-- the nodes that a step behind the operator is taken at
abbrev pub step_source : Operator → Exp → Exp
step_source o.DoubleSlash before = x.slash before all_inside
step_source operator before = before

-- the list that the first predicate behind an expression is tried on: that of a step is in the order of its axis
abbrev pub first_source : Tree → Exp → Exp
first_source tree e = elim (is_step tree) [ true ↦ in_axis_order e | false ↦ e ]

-- what stands before the next part, by what stands before this one
abbrev pub source_behind : Form → Label → Tree → Exp → Exp → Exp
source_behind (m.Chain p.Path) (k.Link operator) tree e before = linked_by operator before e
source_behind (m.Chain p.Path) label tree e before = e
source_behind m.Filter k.First tree e before = first_source tree e
source_behind m.Filter label tree e before = x.filtered before e
source_behind form label tree e before = before

-- The contexts of a part

-- where it is evaluated, by what stands before it: a step at each node, a predicate at each item, all else where the whole is
abbrev pub contexts_inside : List Node → Form → Label → Exp → Context → List Context
contexts_inside nodes (m.Chain p.Path) (k.Link operator) before context =
    at_each (if_all_nodes (items_of (mean nodes (step_source operator before) context))) context
contexts_inside nodes m.Filter k.First before context = context ∷ []
contexts_inside nodes m.Filter label before context = at_each (items_of (mean nodes before context)) context
contexts_inside nodes form label before context = context ∷ []

-- what stands behind it goes on in these: behind the expression of a variable the variable is each of its items
abbrev pub contexts_behind : List Node → Label → Exp → Context → List Context
contexts_behind nodes (k.Binding lead name) e context = map (c.inside context) (items_of (mean nodes e context))
contexts_behind nodes label e context = context ∷ []

-- a part where it is evaluated: its place, the variables that are bound around it, and the context
pub record Evaluation : Type 0 where
  pub place : Placed
  pub bound : Bound
  pub context : Context

abbrev pub place_of : Environment → ℕ → Tree → Placed
place_of env at tree = record { environment = env; token = at; part = tree }

abbrev pub here : Environment → Bound → ℕ → Tree → Context → Evaluation
here env bound at tree context = record { place = place_of env at tree; bound = bound; context = context }

unfoldable mutual
  -- each part of an expression in each context in which it is evaluated while the whole is evaluated in the context
  pub arising : List Node → Environment → Bound → ℕ → Tree → Context → List Evaluation
  arising nodes env bound at (g.leaf x) context = here env bound at (g.leaf x) context ∷ []
  arising nodes env bound at (g.node form parts) context =
      here env bound at (g.node form parts) context ∷ arising_inside nodes form env bound at x.the_root parts context

  -- the same of parts that are left, behind an expression; a path that begins with its operator begins at the root
  pub arising_inside : List Node → Form → Environment → Bound → ℕ → Exp → Parts → Context → List Evaluation
  arising_inside nodes form env bound at before g.none context = []
  arising_inside nodes form env bound at before (g.more label tree parts) context =
      let token : ℕ = at + length (g.label_tokens label) in
      let kinds : Kinds = (judged (inside form label env) token tree).kinds in
      let e : Exp = resolved env.declared (names bound) tree in
      flat_map (λ context. arising nodes (inside form label env) bound token tree context)
      (contexts_inside nodes form label before context)
      ++ flat_map (λ context. arising_inside nodes form (behind form label kinds env) (variables_behind label kinds bound)
      (token + length (g.written tree)) (source_behind form label tree e before) parts context)
      (contexts_behind nodes label e context)
