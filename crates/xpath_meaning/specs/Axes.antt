-- The axes (XPath 2.0, section 3.2.1.1) as relations between nodes, and what a step wants of a node (section 3.2.1.2).
-- Node numbers are places in document order.
use Rattle.std.specs.Prelude.{ℕ, Bool, true, false, not, ◌&&◌, ◌||◌, ◌==◌, nat_lt, List, [], ◌∷◌, filter, reverse, Some, None}
use Rattle.std.specs.Str.{bytes_eq}
use Rattle.inv_base.specs.declared.tree.Kind.{Kind}
use Rattle.inv_base.specs.declared.tree.Kind.TheVariants as kinds
use Rattle.inv_base.specs.Tree.{Node, Name}
use Rattle.node_arena.specs.Moves.{tree_node, is_attribute, is_nearest, is_child, is_attribute_of, is_inside, has_name}
use Rattle.xpath_grammar.specs.declared.step.Axis.{Axis}
use Rattle.xpath_grammar.specs.declared.step.Axis.TheVariants as a
use Rattle.xpath_grammar.specs.declared.step.KindTest.{KindTest}
use Rattle.xpath_grammar.specs.declared.step.KindTest.TheVariants as q
use Rattle.xpath_meaning.specs.Expressions.{NodeTest, named, in_namespace, with_local, any_name, of_kind}

abbrev pub is_the : Node → Node → Bool
is_the from node = node.number == from.number

-- a child of the node that is the nearest around
abbrev pub is_child_of_nearest : List ℕ → Node → Bool
is_child_of_nearest [] node = false
is_child_of_nearest (n ∷ above) node = is_child n node

-- An attribute has no siblings.
abbrev pub are_siblings : Node → Node → Bool
are_siblings from node = not (is_attribute from) && is_child_of_nearest from.above node

abbrev pub is_earlier : Node → Node → Bool
is_earlier x y = nat_lt x.number y.number

-- the second node is on the axis of the first
abbrev pub is_on : Axis → Node → Node → Bool
is_on a.Child from node = is_child from.number node
is_on a.Attribute from node = is_attribute_of from.number node
is_on a.Descendant from node = is_inside from.number node && not (is_attribute node)
is_on a.DescendantOrSelf from node = is_the from node || (is_inside from.number node && not (is_attribute node))
is_on a.Itself from node = is_the from node
is_on a.Parent from node = is_nearest node.number from.above
is_on a.Ancestor from node = is_inside node.number from
is_on a.AncestorOrSelf from node = is_the from node || is_inside node.number from
is_on a.FollowingSibling from node = are_siblings from node && is_earlier from node
is_on a.PrecedingSibling from node = are_siblings from node && is_earlier node from
is_on a.Following from node = is_earlier from node && (not (is_attribute node) && not (is_inside from.number node))
is_on a.Preceding from node = is_earlier node from && (not (is_attribute node) && not (is_inside node.number from))

-- Positions on these axes count backwards.
abbrev pub is_reverse : Axis → Bool
is_reverse a.Parent = true
is_reverse a.Ancestor = true
is_reverse a.AncestorOrSelf = true
is_reverse a.PrecedingSibling = true
is_reverse a.Preceding = true
is_reverse _ = false

-- the kind of node that a name means on the axis (the principal node kind)
abbrev pub is_principal : Axis → Kind → Bool
is_principal a.Attribute kinds.Attribute = true
is_principal a.Attribute _ = false
is_principal _ kinds.Element = true
is_principal _ _ = false

abbrev pub has_kind : KindTest → Kind → Bool
has_kind q.Node kind = true
has_kind q.Text kinds.Text = true
has_kind q.Element kinds.Element = true
has_kind q.Attribute kinds.Attribute = true
has_kind q.DocumentNode kinds.Document = true
has_kind _ _ = false

abbrev pub has_name_that : (Name → Bool) → Node → Bool
has_name_that test node = elim node.name [ None ↦ false | Some name ↦ test name ]

abbrev pub passes : Axis → NodeTest → Node → Bool
passes axis (named name) node = is_principal axis node.kind && has_name name node
passes axis (in_namespace uri) node = is_principal axis node.kind && has_name_that (λ name. bytes_eq name.uri uri) node
passes axis (with_local local) node = is_principal axis node.kind && has_name_that (λ name. bytes_eq name.local local) node
passes axis any_name node = is_principal axis node.kind
passes axis (of_kind kind) node = has_kind kind node.kind

abbrev pub in_order_of : Axis → List Node → List Node
in_order_of axis nodes = elim (is_reverse axis) [ true ↦ reverse nodes | false ↦ nodes ]

-- the nodes on the axis of a node that pass the test, in the order of the axis: all nodes are tried
abbrev pub on_axis : List Node → Axis → NodeTest → ℕ → List Node
on_axis nodes axis test n = in_order_of axis (filter (λ node. is_on axis (tree_node nodes n) node && passes axis test node) nodes)
