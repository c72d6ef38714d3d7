-- What the works of a pattern mark, by their parts.
use Rattle.std.specs.Prelude.{◌≡◌, ℕ, Bool, true, false, not, ◌&&◌, List, [], ◌∷◌, ◌++◌, length, filter, Option, None, Some}
use Rattle.inv_base.specs.Tree.{Node, is_among}
use Rattle.node_arena.specs.Moves.{tree_nodes, tree_node, is_inside, is_attribute}
use Rattle.xpath_items.specs.declared.item.Item.TheVariants as i
use Rattle.xpath_meaning.specs.Values.{Value}
use Rattle.xpath_meaning.specs.Expressions.{Exp}
use Rattle.xpath_meaning.specs.Resolving.{Operand, all_inside}
use Rattle.xpath_meaning.specs.Meaning.{mean, at, at_top}
use Rattle.xpath_meaning.specs.Patterns.{found_at, kept_nodes}
use Rattle.xpath_operators.specs.Nodes.{AreWithin}
use Rattle.xpath_walks.specs.Order.{node_items}
use Rattle.xpath_walks.specs.Walks.{node_numbers}
use Rattle.xpath_plan.specs.declared.plan_node.Operation.{Operation}
use Rattle.xpath_plan.specs.declared.plan_node.Operation.TheVariants as k
use Rattle.xpath_plan.specs.declared.plan_node.Separator.{Separator}
use Rattle.xpath_plan.specs.declared.plan_node.Separator.TheVariants as l
use Rattle.xpath_plan.specs.declared.plan_node.Simple.{Simple}
use Rattle.xpath_plan.specs.declared.plan_node.Simple.TheVariants as s
use Rattle.xpath_plan.specs.Plans.{label_of}
use Rattle.xpath_tokens.specs.declared.token.Operator.{Operator}
use Rattle.xpath_tokens.specs.declared.token.Operator.TheVariants as o
use Rattle.xpath_marks.specs.declared.marking.Joining.{Joining}
use Rattle.xpath_marks.specs.declared.marking.Joining.TheVariants as j
use Rattle.xpath_parts.specs.declared.dynamic.DynamicContext.{DynamicContext}
use Rattle.xpath_parts.specs.Contexts.{count}
use Rattle.xpath_parts.specs.Parts.{is_operator}
use Rattle.xpath_marks.specs.Shapes.{is_step, is_pattern}
use Rattle.xpath_marks.specs.Found.{all_found, all_reached}

-- the nodes of the document
abbrev pub nodes_of : DynamicContext → List Node
nodes_of base = tree_nodes base.doc.now

-- the value of a predicate at a node, which is at this position of so many
abbrev pub judged : DynamicContext → Exp → ℕ → ℕ → ℕ → Value
judged base predicate n position last = mean (nodes_of base) predicate (at (at_top n base.env.now) (i.Node n) position last)

-- what a predicate keeps of these nodes, which are gone through in this order
abbrev pub kept_by : DynamicContext → Exp → List ℕ → List ℕ
kept_by base predicate ns = kept_nodes (judged base predicate) (length ns) 1 ns

-- what predicates keep, one after the other
abbrev pub kept_by_all : DynamicContext → List Operand → List ℕ → List ℕ
kept_by_all base [] ns = ns
kept_by_all base (part ∷ parts) ns = kept_by_all base parts (kept_by base part.1 ns)

-- where it is a step, what it finds at a node
abbrev pub Turned : DynamicContext → Exp → ℕ → List ℕ → List ℕ → Type 0
Turned base e n old new = is_step e ≡ true → new ≡ old ++ found_at (nodes_of base) base.env.now e n

-- where it is a step, what it reaches from nodes
abbrev pub Reached : DynamicContext → Exp → List ℕ → List ℕ → Type 0
Reached base e from found = is_step e ≡ true → found ≡ all_reached (nodes_of base) base.env.now e from

-- where it is a pattern, what it finds
abbrev pub Marked : DynamicContext → Exp → List ℕ → Type 0
Marked base e found = is_pattern e ≡ true → found ≡ all_found (nodes_of base) base.env.now e

-- The numbers are those of nodes of the document.
abbrev pub AreNodes : DynamicContext → List ℕ → Type 0
AreNodes base ns = AreWithin (count base) (node_items ns)

-- where it is a step, what it finds alone
abbrev pub FoundByStep : DynamicContext → Exp → List ℕ → Type 0
FoundByStep base e found = is_step e ≡ true → found ≡ all_found (nodes_of base) base.env.now e

-- the nodes of both in document order
abbrev pub united_of : DynamicContext → List ℕ → List ℕ → List ℕ
united_of base before other = node_numbers (filter (λ (node : Node). is_among node.number (before ++ other)) (nodes_of base))

-- what is made of the parts is the first part, where it is said whether it is the only one
abbrev pub is_first_part : Operation → Separator → Bool → Bool
is_first_part k.Only link alone = true
is_first_part (k.Once slot height) link alone = true
is_first_part k.Filtered link alone = alone
is_first_part (k.Bound binder) link alone = alone
is_first_part k.Chain link alone = alone && not (is_operator (label_of link))
is_first_part _ link alone = false

-- the first part is filtered by the others
abbrev pub is_filter : Operation → Bool
is_filter k.FilteredStep = true
is_filter k.FreeStep = true
is_filter k.Filtered = true
is_filter _ = false

-- where the first part is a step, what it finds at a node and the predicates keep
abbrev pub Filtered : DynamicContext → Exp → List Operand → ℕ → List ℕ → List ℕ → Type 0
Filtered base e predicates n old new = is_step e ≡ true → new ≡ old ++ kept_by_all base predicates (found_at (nodes_of base) base.env.now e n)

-- the node is no attribute and inside the other, where there is another
abbrev pub is_covered : List Node → Option ℕ → ℕ → Bool
is_covered nodes None n = false
is_covered nodes (Some around) n = is_inside around (tree_node nodes n) && not (is_attribute (tree_node nodes n))

-- What is out behind a node and which node's inside is out then, by whether it was inside another before.
abbrev pub GoesBy : Bool → DynamicContext → Option ℕ → ℕ → ℕ → List ℕ → List ℕ → Type 0
GoesBy true base around n next old new = (Some next ≡ around) × (new ≡ old)
GoesBy false base around n next old new = (next ≡ n) × (new ≡ old ++ found_at (nodes_of base) base.env.now all_inside n)

abbrev pub GoesIn : DynamicContext → Option ℕ → ℕ → ℕ → List ℕ → List ℕ → Type 0
GoesIn base around n next old new = GoesBy (is_covered (nodes_of base) around n) base around n next old new

abbrev pub is_root : Simple → Bool
is_root s.Root = true
is_root _ = false

-- how what stands before a part of a pattern joins it
abbrev pub joined_by : Operator → Joining
joined_by o.Slash = j.Below
joined_by o.DoubleSlash = j.Inside
joined_by o.Bar = j.Beside
joined_by _ = j.Otherwise

abbrev pub joining_of : Separator → Joining
joining_of (l.Operator operator) = joined_by operator
joining_of _ = j.Otherwise
