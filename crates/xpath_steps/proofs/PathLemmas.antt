-- A step that is taken at each item of a path.
use Rattle.std.proofs.Common.{◌≡◌, ℕ, suc, zero, ◌<◌, ◌≤◌, Bool, true, false, cond, List, [], ◌∷◌, ◌++◌, length, drop, map, Option, Some, None, Ok, Err, refl}
use Rattle.std.proofs.Common.{ap, sym, subst, ◌∙◌, arith}
use Rattle.std.specs.Prelude.{filter, ◌==◌, ◌||◌}
use Rattle.std.specs.List.{list_any, list_all, flat_map}
use Rattle.std.proofs.lemmas.Bool.{false≢true, eqb-true, eq-eqb}
use Rattle.inv_base.specs.Tree.{Node}
use Rattle.node_arena.specs.Moves.{tree_node}
use Rattle.xpath_grammar.specs.declared.step.Axis.{Axis}
use Rattle.xpath_items.specs.declared.item.Item.{Item}
use Rattle.xpath_items.specs.declared.item.Item.TheVariants as i
use Rattle.xpath_items.specs.declared.outcome.DynError.TheVariants as e
use Rattle.xpath_meaning.specs.Expressions.{NodeTest}
use Rattle.xpath_meaning.specs.Axes.{on_axis}
use Rattle.xpath_meaning.specs.Steps.{is_node, has_node, node_item, nodes_where, in_document_order, turns, of_turns, path}
use Rattle.xpath_meaning.specs.Values.{Value, then_, joined}
use Rattle.xpath_operators.specs.Nodes.{AreWithin}
use Rattle.xpath_steps.specs.Numbers.{at_number}
use Rattle.xpath_steps.specs.Steps.{step_seen, stepped_seen, path_seen, stepped_path_seen, off_nodes, numbers_over}
use Rattle.xpath_walks.specs.Order.{node_items}
use Rattle.xpath_walks.specs.Walks.{axis_numbers}
use Rattle.xpath_steps.proofs.WithinLemmas.{NumbersBelow, axis_below, below_within, append_within}
use Rattle.xpath_steps.proofs.NodeLemmas.{items_of_numbers, where_alike}

-- ---- one step

pub off_step : (nodes : List Node) (axis : Axis) (o : Option NodeTest) (item : Item) → is_node item ≡ false → off_nodes o ≡ step_seen nodes axis o item
off_step nodes axis None item e = refl
off_step nodes axis (Some test) (i.Node n) e = absurd (false≢true (sym e))
off_step nodes axis (Some test) (i.Boolean b) e = refl
off_step nodes axis (Some test) (i.Number z) e = refl
off_step nodes axis (Some test) (i.String s) e = refl
off_step nodes axis (Some test) (i.Untyped s) e = refl
off_step nodes axis (Some test) (i.Date day) e = refl

pub off_stepped : (nodes : List Node) (axis : Axis) (o : Option NodeTest) (item : Item) → is_node item ≡ false → off_nodes o ≡ stepped_seen nodes axis o item
off_stepped nodes axis None item e = refl
off_stepped nodes axis (Some test) (i.Node n) e = absurd (false≢true (sym e))
off_stepped nodes axis (Some test) (i.Boolean b) e = refl
off_stepped nodes axis (Some test) (i.Number z) e = refl
off_stepped nodes axis (Some test) (i.String s) e = refl
off_stepped nodes axis (Some test) (i.Untyped s) e = refl
off_stepped nodes axis (Some test) (i.Date day) e = refl

pub step_at_node : (nodes : List Node) (axis : Axis) (o : Option NodeTest) (n : ℕ) →
    step_seen nodes axis o (i.Node n) ≡ Ok (node_items (axis_numbers nodes axis n o))
step_at_node nodes axis None n = refl
step_at_node nodes axis (Some test) n = ap Ok (sym (items_of_numbers (on_axis nodes axis test n)))

nothing_where : (nodes : List Node) → nodes_where nodes (λ n. false) ≡ []
nothing_where [] = refl
nothing_where (node ∷ nodes) = nothing_where nodes

pub stepped_at_node : (nodes : List Node) (axis : Axis) (o : Option NodeTest) (n : ℕ)
    → stepped_seen nodes axis o (i.Node n) ≡ Ok (in_document_order nodes (node_items (axis_numbers nodes axis n o)))
stepped_at_node nodes axis None n = ap Ok (sym (nothing_where nodes))
stepped_at_node nodes axis (Some test) n = ap (λ xs. Ok (in_document_order nodes xs)) (sym (items_of_numbers (on_axis nodes axis test n)))

pub axis_within : (count : ℕ) (nodes : List Node) (axis : Axis) (o : Option NodeTest) (n : ℕ) → NumbersBelow count nodes →
    AreWithin count (node_items (axis_numbers nodes axis n o))
axis_within count nodes axis None n h = tt
axis_within count nodes axis (Some test) n h =
    subst (AreWithin count) (sym (items_of_numbers (on_axis nodes axis test n))) (below_within count _ (axis_below count nodes axis test n h))

-- ---- steps over items

pub map_append : {X Y : Type 0} (f : X → Y) (xs ys : List X) → map f (xs ++ ys) ≡ map f xs ++ map f ys
map_append f [] ys = refl
map_append f (x ∷ xs) ys = ap (λ zs. f x ∷ zs) (map_append f xs ys)

pub over_within : (count : ℕ) (nodes : List Node) (axis : Axis) (o : Option NodeTest) (items : List Item) → NumbersBelow count nodes →
    AreWithin count (node_items (numbers_over nodes axis o items))
over_within count nodes axis o [] h = tt
over_within count nodes axis o (i.Node n ∷ items) h =
    subst (AreWithin count) (sym (map_append _ (axis_numbers nodes axis n o) (numbers_over nodes axis o items)))
    (append_within count _ _ (axis_within count nodes axis o n h) (over_within count nodes axis o items h))
over_within count nodes axis o (i.Boolean b ∷ items) h = over_within count nodes axis o items h
over_within count nodes axis o (i.Number z ∷ items) h = over_within count nodes axis o items h
over_within count nodes axis o (i.String s ∷ items) h = over_within count nodes axis o items h
over_within count nodes axis o (i.Untyped s ∷ items) h = over_within count nodes axis o items h
over_within count nodes axis o (i.Date day ∷ items) h = over_within count nodes axis o items h

append_nil : (xs : List ℕ) → xs ++ [] ≡ xs
append_nil [] = refl
append_nil (x ∷ xs) = ap (λ ys. x ∷ ys) (append_nil xs)

drop_all : (k : ℕ) (items : List Item) → length items ≤ k → drop k items ≡ []
drop_all zero [] l = refl
drop_all (suc k) [] l = refl
drop_all zero (x ∷ items) l = absurd (omega (arith, l))
drop_all (suc k) (x ∷ items) l = drop_all k items (omega (arith, l))

-- Behind the last item all numbers are found.
pub over_end : (nodes : List Node) (axis : Axis) (o : Option NodeTest) (items : List Item) (k : ℕ) (found whole : List ℕ) → length items ≤ k
    → found ++ numbers_over nodes axis o (drop k items) ≡ whole → found ≡ whole
over_end nodes axis o items k found whole l h =
    sym (append_nil found) ∙ (sym (ap (λ xs. found ++ numbers_over nodes axis o xs) (drop_all k items l)) ∙ h)

-- The turns at nodes come to what their numbers lead to.
pub turns_are : (step : Item → ℕ → ℕ → Value) (g : ℕ → List Item) → ((n k l : ℕ) → step (i.Node n) k l ≡ Ok (g n)) → (last k : ℕ) (items : List Item) →
    list_all is_node items ≡ true
    → turns step last k items ≡ Ok (flat_map (at_number g) items)
turns_are step g h last k [] e = refl
turns_are step g h last k (i.Node n ∷ items) e =
    ap (λ v. joined v (turns step last (suc k) items)) (h n k last)
    ∙ ap (λ v. joined (Ok (g n)) v) (turns_are step g h last (suc k) items e)
turns_are step g h last k (i.Boolean b ∷ items) e = absurd (false≢true e)
turns_are step g h last k (i.Number z ∷ items) e = absurd (false≢true e)
turns_are step g h last k (i.String s ∷ items) e = absurd (false≢true e)
turns_are step g h last k (i.Untyped s ∷ items) e = absurd (false≢true e)
turns_are step g h last k (i.Date day ∷ items) e = absurd (false≢true e)

all_append : (xs ys : List Item) → list_all is_node xs ≡ true → list_all is_node ys ≡ true → list_all is_node (xs ++ ys) ≡ true
all_append [] ys h k = k
all_append (i.Node n ∷ xs) ys h k = all_append xs ys h k
all_append (i.Boolean b ∷ xs) ys h k = absurd (false≢true h)
all_append (i.Number z ∷ xs) ys h k = absurd (false≢true h)
all_append (i.String s ∷ xs) ys h k = absurd (false≢true h)
all_append (i.Untyped s ∷ xs) ys h k = absurd (false≢true h)
all_append (i.Date day ∷ xs) ys h k = absurd (false≢true h)

all_over : (g : ℕ → List Item) → ((n : ℕ) → list_all is_node (g n) ≡ true) → (items : List Item) → list_all is_node (flat_map (at_number g) items) ≡ true
all_over g h [] = refl
all_over g h (i.Node n ∷ items) = all_append (g n) (flat_map (at_number g) items) (h n) (all_over g h items)
all_over g h (i.Boolean b ∷ items) = all_over g h items
all_over g h (i.Number z ∷ items) = all_over g h items
all_over g h (i.String s ∷ items) = all_over g h items
all_over g h (i.Untyped s ∷ items) = all_over g h items
all_over g h (i.Date day ∷ items) = all_over g h items

all_nodes : (ns : List ℕ) → list_all is_node (node_items ns) ≡ true
all_nodes [] = refl
all_nodes (n ∷ ns) = all_nodes ns

pub all_of_map : (nodes : List Node) → list_all is_node (map node_item nodes) ≡ true
all_of_map [] = refl
all_of_map (node ∷ nodes) = all_of_map nodes

-- the numbers of all turns, as items
pub items_over : (h : ℕ → List ℕ) (items : List Item) → node_items (flat_map (at_number h) items) ≡ flat_map (at_number (λ n. node_items (h n))) items
items_over h [] = refl
items_over h (i.Node n ∷ items) = map_append _ (h n) (flat_map (at_number h) items) ∙ ap (λ xs. node_items (h n) ++ xs) (items_over h items)
items_over h (i.Boolean b ∷ items) = items_over h items
items_over h (i.Number z ∷ items) = items_over h items
items_over h (i.String s ∷ items) = items_over h items
items_over h (i.Untyped s ∷ items) = items_over h items
items_over h (i.Date day ∷ items) = items_over h items

of_nodes : (nodes : List Node) (items : List Item) → list_all is_node items ≡ true → of_turns nodes items ≡ Ok (in_document_order nodes items)
of_nodes nodes items h = ap (λ (b : Bool). elim b [
  | true ↦ Ok (in_document_order nodes items)
  | false ↦ elim (list_any is_node items) [ true ↦ Err e.XPTY0018 | false ↦ Ok items ]
]) h

-- a path whose turns are nodes
path_is : (nodes : List Node) (step : Item → ℕ → ℕ → Value) (g : ℕ → List Item) (items : List Item) → ((n k l : ℕ) → step (i.Node n) k l ≡ Ok (g n)) →
    ((n : ℕ) → list_all is_node (g n) ≡ true)
    → list_all is_node items ≡ true → path nodes step items ≡ Ok (in_document_order nodes (flat_map (at_number g) items))
path_is nodes step g items at all h =
    ap (λ (b : Bool). elim b [ true ↦ then_ (turns step (length items) 1 items) (of_turns nodes) | false ↦ Err e.XPTY0019 ]) h
    ∙ (ap (λ v. then_ v (of_turns nodes)) (turns_are step g at (length items) 1 items h)
    ∙ of_nodes nodes (flat_map (at_number g) items) (all_over g all items))

pub path_of_steps : (nodes : List Node) (axis : Axis) (o : Option NodeTest) (items : List Item) → list_all is_node items ≡ true
    → path_seen nodes axis o items ≡ Ok (in_document_order nodes (node_items (numbers_over nodes axis o items)))
path_of_steps nodes axis o items e =
    path_is nodes (λ item position last. step_seen nodes axis o item) (λ n. node_items (axis_numbers nodes axis n o)) items
    (λ n k l. step_at_node nodes axis o n) (λ n. all_nodes (axis_numbers nodes axis n o)) e
    ∙ ap (λ xs. Ok (in_document_order nodes xs)) (sym (items_over (λ n. axis_numbers nodes axis n o) items))

-- ---- turns that are in document order themselves

or_assoc : (x y z : Bool) → ((x || y) || z) ≡ (x || (y || z))
or_assoc true y z = refl
or_assoc false y z = refl

pub has_append : (n : ℕ) (xs ys : List Item) → has_node (xs ++ ys) n ≡ (has_node xs n || has_node ys n)
has_append n [] ys = refl
has_append n (i.Node m ∷ xs) ys = ap (λ b. m == n || b) (has_append n xs ys) ∙ sym (or_assoc (m == n) (has_node xs n) (has_node ys n))
has_append n (i.Boolean b ∷ xs) ys = has_append n xs ys
has_append n (i.Number z ∷ xs) ys = has_append n xs ys
has_append n (i.String s ∷ xs) ys = has_append n xs ys
has_append n (i.Untyped s ∷ xs) ys = has_append n xs ys
has_append n (i.Date day ∷ xs) ys = has_append n xs ys

unlike : (test : ℕ → Bool) (m n : ℕ) → test n ≡ false → test m ≡ true → (b : Bool) → (m == n) ≡ b → b ≡ false
unlike test m n e t false s = refl
unlike test m n e t true s = absurd (false≢true (sym e ∙ (ap test (sym (eqb-true m n s)) ∙ t)))

absent : (test : ℕ → Bool) (n : ℕ) (node : Node) (nodes : List Node) → test n ≡ false → (b : Bool) → test node.number ≡ b →
    has_node (map node_item nodes) n ≡ false
    → has_node (map node_item (cond b (node ∷ nodes) nodes)) n ≡ false
absent test n node nodes e true t h = ap (λ c. c || has_node (map node_item nodes) n) (unlike test node.number n e t (node.number == n) refl) ∙ h
absent test n node nodes e false t h = h

has_where-false : (test : ℕ → Bool) (n : ℕ) → test n ≡ false → (nodes : List Node) → has_node (nodes_where nodes test) n ≡ false
has_where-false test n e [] = refl
has_where-false test n e (node ∷ nodes) = absent test n node (filter (λ x. test x.number) nodes) e (test node.number) refl (has_where-false test n e nodes)

or_true : (b : Bool) → (b || true) ≡ true
or_true true = refl
or_true false = refl

still_there : (n : ℕ) (node : Node) (nodes : List Node) (b : Bool) → has_node (map node_item nodes) n ≡ true →
    has_node (map node_item (cond b (node ∷ nodes) nodes)) n ≡ true
still_there n node nodes true h = ap (λ b. node.number == n || b) h ∙ or_true (node.number == n)
still_there n node nodes false h = h

has_where-true : (test : ℕ → Bool) (nodes : List Node) (k : ℕ) → k < length nodes → test (tree_node nodes k).number ≡ true →
    has_node (nodes_where nodes test) (tree_node nodes k).number ≡ true
has_where-true test [] k l h = absurd (omega (arith, l))
has_where-true test (node ∷ nodes) zero l h =
    ap (λ b. has_node (map node_item (cond b (node ∷ filter (λ x. test x.number) nodes) (filter (λ x. test x.number) nodes))) node.number) h
    ∙ ap (λ b. b || has_node (nodes_where nodes test) node.number) (eq-eqb node.number node.number refl)
has_where-true test (node ∷ nodes) (suc k) l h =
    still_there (tree_node nodes k).number node (filter (λ x. test x.number) nodes) (test node.number) (has_where-true test nodes k (omega (arith, l)) h)

-- Of the document's nodes those are there that pass.
pub has_where : (test : ℕ → Bool) (nodes : List Node) (k : ℕ) → k < length nodes →
    has_node (nodes_where nodes test) (tree_node nodes k).number ≡ test (tree_node nodes k).number
has_where test nodes k l = go (test (tree_node nodes k).number) refl
  where
    go : (b : Bool) → test (tree_node nodes k).number ≡ b → has_node (nodes_where nodes test) (tree_node nodes k).number ≡ b
    go true h = has_where-true test nodes k l h
    go false h = has_where-false test (tree_node nodes k).number h nodes

ordered_over : (nodes : List Node) (g : ℕ → List Item) (k : ℕ) → k < length nodes → (items : List Item)
    → has_node (flat_map (at_number (λ n. in_document_order nodes (g n))) items) (tree_node nodes k).number ≡ has_node (flat_map (at_number g) items)
    (tree_node nodes k).number
ordered_over nodes g k l [] = refl
ordered_over nodes g k l (i.Node n ∷ items) =
    let m = (tree_node nodes k).number in
    has_append m (in_document_order nodes (g n)) (flat_map (at_number (λ x. in_document_order nodes (g x))) items)
    ∙ (ap (λ b. b || has_node (flat_map (at_number (λ x. in_document_order nodes (g x))) items) m) (has_where (has_node (g n)) nodes k l)
    ∙ (ap (λ b. has_node (g n) m || b) (ordered_over nodes g k l items)
    ∙ sym (has_append m (g n) (flat_map (at_number g) items))))
ordered_over nodes g k l (i.Boolean b ∷ items) = ordered_over nodes g k l items
ordered_over nodes g k l (i.Number z ∷ items) = ordered_over nodes g k l items
ordered_over nodes g k l (i.String s ∷ items) = ordered_over nodes g k l items
ordered_over nodes g k l (i.Untyped s ∷ items) = ordered_over nodes g k l items
ordered_over nodes g k l (i.Date day ∷ items) = ordered_over nodes g k l items

pub path_of_stepped : (nodes : List Node) (axis : Axis) (o : Option NodeTest) (items : List Item) → list_all is_node items ≡ true
    → stepped_path_seen nodes axis o items ≡ Ok (in_document_order nodes (node_items (numbers_over nodes axis o items)))
path_of_stepped nodes axis o items e =
    let g : ℕ → List Item = λ n. node_items (axis_numbers nodes axis n o) in
    path_is nodes (λ item position last. stepped_seen nodes axis o item) (λ n. in_document_order nodes (g n)) items (λ n k l. stepped_at_node nodes axis o n)
    (λ n. all_of_map (filter (λ node. has_node (g n) node.number) nodes)) e
    ∙ ap Ok
    (where_alike (has_node (flat_map (at_number (λ n. in_document_order nodes (g n))) items)) (has_node (flat_map (at_number g) items)) nodes
    (λ k l. ordered_over nodes g k l items)
    ∙ ap (in_document_order nodes) (sym (items_over (λ n. axis_numbers nodes axis n o) items)))
