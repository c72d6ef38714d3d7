-- Which nodes a pattern matches (XSLT 2.0, section 5.5.3, without `id` and `key`), over the same resolved expressions.
use Rattle.std.specs.Prelude.{ℕ, suc, Bool, true, false, List, [], ◌∷◌, ◌++◌, length, map, filter, Result, Ok, Err}
use Rattle.std.specs.List.{list_any, flat_map}
use Rattle.inv_base.specs.Tree.{Node, is_among}
use Rattle.xpath_tokens.specs.declared.token.Operator.TheVariants as o
use Rattle.xpath_items.specs.declared.item.Item.TheVariants as i
use Rattle.xpath_items.specs.declared.outcome.DynError.{DynError}
use Rattle.xpath_meaning.specs.Values.{Value, then_}
use Rattle.xpath_meaning.specs.Axes.{on_axis}
use Rattle.xpath_meaning.specs.Steps.{keeps}
use Rattle.xpath_meaning.specs.Expressions as x
use Rattle.xpath_meaning.specs.Expressions.{Exp}
use Rattle.xpath_meaning.specs.Meaning.{mean, at_top, at}

-- the predicate keeps the node: an error of it doesn't
abbrev pub is_kept : Result Bool DynError → Bool
is_kept (Ok b) = b
is_kept (Err error) = false

abbrev pub with_number : Bool → ℕ → List ℕ → List ℕ
with_number true n numbers = n ∷ numbers
with_number false n numbers = numbers

-- the nodes that a predicate keeps, given a node, its position, of which the first is given, and how many there are
abbrev pub kept_nodes : (ℕ → ℕ → ℕ → Value) → ℕ → ℕ → List ℕ → List ℕ
kept_nodes predicate last position [] = []
kept_nodes predicate last position (n ∷ numbers) =
    with_number (is_kept (then_ (predicate n position last) (keeps position))) n (kept_nodes predicate last (suc position) numbers)

-- What a pattern is as a path at a node, save that a predicate which ends in an error drops its node. In the predicates
-- the outer variables have these values. What is no pattern has no nodes.
abbrev pub found_at : List Node → List (List ℕ × Value) → Exp → ℕ → List ℕ
found_at nodes outer x.the_root n = 0 ∷ []
found_at nodes outer (x.axis_step axis test) n = map (λ (node : Node). node.number) (on_axis nodes axis test n)
found_at nodes outer (x.filtered e predicate) n =
    let found : List ℕ = found_at nodes outer e n in
    kept_nodes (λ m position last. mean nodes predicate (at (at_top m outer) (i.Node m) position last)) (length found) 1 found
found_at nodes outer (x.stepped e) n = found_at nodes outer e n
found_at nodes outer (x.slash e step) n = flat_map (found_at nodes outer step) (found_at nodes outer e n)
found_at nodes outer (x.operated o.Bar e f) n = found_at nodes outer e n ++ found_at nodes outer f n
found_at nodes outer _ n = []

-- A node matches where it is found from itself or from a node around it.
abbrev pub matches : List Node → List (List ℕ × Value) → Exp → Node → Bool
matches nodes outer pattern node = list_any (λ n. is_among node.number (found_at nodes outer pattern n)) (node.number ∷ node.above)

-- the numbers of the nodes that match, in document order
abbrev pub marks : List Node → List (List ℕ × Value) → Exp → List ℕ
marks nodes outer pattern = map (λ (node : Node). node.number) (filter (matches nodes outer pattern) nodes)
