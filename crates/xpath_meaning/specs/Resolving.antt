-- The expression that a tree of the grammar is, once its names are looked up: prefixes by what they are bound to,
-- variables by how many others stand around them, functions and types by their expanded names. What no accepted text
-- spells becomes nothing.
use Rattle.std.specs.Prelude.{ℕ, ◌+◌, ◌*◌, Bool, true, false, List, [], ◌∷◌, length, Option, Some, None, pos}
use Rattle.std.specs.Str.{bytes_eq}
use Rattle.inv_decimal.specs.Number.{unit}
use Rattle.xpath_tokens.specs.declared.token.Name.{Name}
use Rattle.xpath_tokens.specs.declared.token.Name.TheVariants as n
use Rattle.xpath_tokens.specs.declared.token.Number.{Number}
use Rattle.xpath_tokens.specs.declared.token.Operator.{Operator}
use Rattle.xpath_tokens.specs.declared.token.Operator.TheVariants as o
use Rattle.xpath_grammar.specs.declared.step.Axis.{Axis}
use Rattle.xpath_grammar.specs.declared.step.Axis.TheVariants as a
use Rattle.xpath_grammar.specs.declared.step.AxisForm.{AxisForm}
use Rattle.xpath_grammar.specs.declared.step.AxisForm.TheVariants as w
use Rattle.xpath_grammar.specs.declared.step.KindTest.TheVariants as q
use Rattle.xpath_grammar.specs.declared.step.Test.{Test}
use Rattle.xpath_grammar.specs.declared.step.Test.TheVariants as t
use Rattle.xpath_grammar.specs.declared.operators.Binder.{Binder}
use Rattle.xpath_grammar.specs.declared.operators.CastWord.{CastWord}
use Rattle.xpath_grammar.specs.declared.expr.Leaf.{Leaf}
use Rattle.xpath_grammar.specs.declared.expr.Leaf.TheVariants as l
use Rattle.xpath_grammar.specs.declared.expr.Form.{Form}
use Rattle.xpath_grammar.specs.declared.expr.Form.TheVariants as m
use Rattle.xpath_grammar.specs.declared.expr.Label.{Label}
use Rattle.xpath_grammar.specs.declared.expr.Label.TheVariants as k
use Rattle.xpath_grammar.specs.Grammar as g
use Rattle.xpath_grammar.specs.Grammar.{Tree, Parts}
use Rattle.xpath_types.specs.declared.functions.Resolved.{Resolved}
use Rattle.xpath_types.specs.declared.functions.Resolved.TheVariants as r
use Rattle.xpath_types.specs.Scopes.{Declared, uri_of, written_name}
use Rattle.xpath_types.specs.Functions.{function_called, type_named}
use Rattle.xpath_meaning.specs.Expressions as e
use Rattle.xpath_meaning.specs.Expressions.{Exp, Exps, NodeTest}

-- Variables

-- the innermost of these variables that has the name, by how many stand around it; else one that is declared outside
abbrev pub variable_in : List ℕ → List (List ℕ) → Exp
variable_in name [] = e.outer name
variable_in name (inner ∷ around) = elim (bytes_eq name inner) [ true ↦ e.variable (length around) | false ↦ variable_in name around ]

-- the variables behind a label, the innermost first
abbrev pub names_behind : Label → List (List ℕ) → List (List ℕ)
names_behind (k.Binding lead name) names = written_name name ∷ names
names_behind label names = names

-- Steps

-- A step without an axis goes to children (section 3.2.4), and to attributes where it tests for them.
abbrev pub is_attribute_test : Test → Bool
is_attribute_test (t.Kind q.Attribute) = true
is_attribute_test _ = false

abbrev pub default_axis : Bool → Axis
default_axis true = a.Attribute
default_axis false = a.Child

abbrev pub axis_of : AxisForm → Test → Axis
axis_of w.Unwritten test = default_axis (is_attribute_test test)
axis_of w.At test = a.Attribute
axis_of (w.Written axis) test = axis

-- a test, where its namespace is known
abbrev pub in_uri : (List ℕ → NodeTest) → Option (List ℕ) → Option NodeTest
in_uri test None = None
in_uri test (Some uri) = Some (test uri)

-- A name without prefix is in no namespace.
abbrev pub name_test : Declared → Name → Option NodeTest
name_test d (n.Plain local) = Some (e.named (record { uri = []; local = local }))
name_test d (n.Prefixed prefix local) = in_uri (λ uri. e.named (record { uri = uri; local = local })) (uri_of prefix d)
name_test d (n.AnyLocal prefix) = in_uri e.in_namespace (uri_of prefix d)
name_test d (n.AnyPrefix local) = Some (e.with_local local)

abbrev pub test_of : Declared → Test → Option NodeTest
test_of d (t.Name name) = name_test d name
test_of d t.Star = Some e.any_name
test_of d (t.Kind kind) = Some (e.of_kind kind)

-- a step without predicates
abbrev pub step_of : Axis → Option NodeTest → Exp
step_of axis None = e.nothing
step_of axis (Some test) = e.stepped (e.axis_step axis test)

-- `..` is `parent::node()`, and `//` is `/descendant-or-self::node()/` (section 3.2.4)
abbrev pub the_parent : Exp
the_parent = step_of a.Parent (Some (e.of_kind q.Node))

abbrev pub all_inside : Exp
all_inside = step_of a.DescendantOrSelf (Some (e.of_kind q.Node))

-- Calls and casts

abbrev pub call_of : Resolved → Exps → Exp
call_of (r.Known function) arguments = e.called function arguments
call_of _ arguments = e.nothing

abbrev pub cast_of : CastWord → Resolved → Bool → Exp → Exp
cast_of word (r.Known function) optional x = e.cast word function optional x
cast_of word _ optional x = e.nothing

-- Expressions without parts

abbrev pub units : Number → ℕ
units number = number.whole * unit + number.fraction

abbrev pub leaf_of : Declared → List (List ℕ) → Leaf → Exp
leaf_of d names (l.Literal s) = e.text s
leaf_of d names (l.Number x) = e.number (pos (units x))
leaf_of d names (l.Variable name) = variable_in (written_name name) names
leaf_of d names l.Context = e.the_item
leaf_of d names l.Parent = the_parent
leaf_of d names l.Empty = e.nothing
leaf_of d names l.Root = e.the_root
leaf_of d names (l.Called name) = call_of (function_called d name) e.no_more
leaf_of d names (l.Step form test) = step_of (axis_of form test) (test_of d test)

-- Expressions with parts, each part with what leads to it

abbrev pub Operand : Type 0
Operand = Label × Exp

-- the operator is the one between them
abbrev pub linked_by : Operator → Exp → Exp → Exp
linked_by o.Slash x y = e.slash x y
linked_by o.DoubleSlash x y = e.slash (e.slash x all_inside) y
linked_by o.And x y = e.both x y
linked_by o.Or x y = e.either x y
linked_by operator x y = e.operated operator x y

abbrev pub linked : Exp → Label → Exp → Exp
linked x (k.Link operator) y = linked_by operator x y
linked x k.Comma y = e.comma x y
linked x _ y = e.nothing

-- a chain is taken from the left
abbrev pub chained_on : Exp → List Operand → Exp
chained_on x [] = x
chained_on x (part ∷ parts) = chained_on (linked x part.0 part.1) parts

-- a path that begins with an operator begins at the root
abbrev pub chained : List Operand → Exp
chained [] = e.nothing
chained ((k.Link operator, x) ∷ parts) = chained_on e.the_root ((k.Link operator, x) ∷ parts)
chained ((label, x) ∷ parts) = chained_on x parts

-- the variables one inside the other, around what stands last
abbrev pub bound_all : Binder → List Operand → Exp
bound_all binder [] = e.nothing
bound_all binder (part ∷ []) = part.1
bound_all binder (part ∷ (next ∷ parts)) = e.bound binder part.1 (bound_all binder (next ∷ parts))

abbrev pub chosen_of : List Operand → Exp
chosen_of (x ∷ (y ∷ (z ∷ []))) = e.chosen x.1 y.1 z.1
chosen_of _ = e.nothing

abbrev pub first_part : List Operand → Exp
first_part [] = e.nothing
first_part (part ∷ parts) = part.1

abbrev pub signed_of : List Operand → Exp
signed_of ((k.Signed signs, x) ∷ parts) = e.signed signs x
signed_of _ = e.nothing

-- what each predicate keeps of what the one before it kept
abbrev pub kept_of : Exp → List Operand → Exp
kept_of x [] = x
kept_of x (part ∷ parts) = kept_of (e.filtered x part.1) parts

-- a step's nodes in the order of its axis
abbrev pub in_axis_order : Exp → Exp
in_axis_order (e.stepped x) = x
in_axis_order x = x

-- The predicates of a step count in the order of its axis (section 3.2.2), those of another expression in its own.
abbrev pub filtered_of : Bool → List Operand → Exp
filtered_of is_step [] = e.nothing
filtered_of true (part ∷ parts) = e.stepped (kept_of (in_axis_order part.1) parts)
filtered_of false (part ∷ parts) = kept_of part.1 parts

abbrev pub arguments_of : List Operand → Exps
arguments_of [] = e.no_more
arguments_of (part ∷ parts) = e.argument part.1 (arguments_of parts)

abbrev pub called_of : Declared → List Operand → Exp
called_of d ((k.Calling name, x) ∷ parts) = call_of (function_called d name) (arguments_of ((k.Calling name, x) ∷ parts))
called_of d _ = e.nothing

-- what a form makes of its parts, where it is said whether the first is a step
abbrev pub combined : Declared → Form → Bool → List Operand → Exp
combined d (m.Chain production) is_step parts = chained parts
combined d (m.Bound binder) is_step parts = bound_all binder parts
combined d m.Conditional is_step parts = chosen_of parts
combined d (m.Cast word type optional) is_step parts = cast_of word (type_named d type) optional (first_part parts)
combined d m.Signs is_step parts = signed_of parts
combined d m.Filter is_step parts = filtered_of is_step parts
combined d m.Parentheses is_step parts = first_part parts
combined d m.Call is_step parts = called_of d parts

abbrev pub is_step_leaf : Leaf → Bool
is_step_leaf (l.Step form test) = true
is_step_leaf l.Parent = true
is_step_leaf _ = false

abbrev pub is_step : Tree → Bool
is_step (g.leaf x) = is_step_leaf x
is_step (g.node form parts) = false

abbrev pub begins_with_step : Parts → Bool
begins_with_step g.none = false
begins_with_step (g.more label x parts) = is_step x

unfoldable mutual
  -- the expression of a tree inside variables, the innermost first
  pub resolved : Declared → List (List ℕ) → Tree → Exp
  resolved d names (g.leaf x) = leaf_of d names x
  resolved d names (g.node form parts) = combined d form (begins_with_step parts) (operands d names parts)

  pub operands : Declared → List (List ℕ) → Parts → List Operand
  operands d names g.none = []
  operands d names (g.more label x parts) = (label, resolved d names x) ∷ operands d (names_behind label names) parts
