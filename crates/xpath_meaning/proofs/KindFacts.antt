-- Kinds of items, lists and values.
use Rattle.std.proofs.Common.{◌≡◌, ℕ, suc, Bool, true, false, ◌||◌, List, [], ◌∷◌, ◌++◌, length, map, filter, Result, Ok, Err, refl, sym, subst, reverse, cond}
use Rattle.std.specs.List.{list_any, list_all}
use Rattle.std.proofs.lemmas.Bool.{false≢true}
use Rattle.std.proofs.lemmas.List.{reverse-append}
use Rattle.inv_base.specs.Tree.{Node}
use Rattle.xpath_types.specs.Kinds as k
use Rattle.xpath_types.specs.declared.kinds.Kinds.{Kinds}
use Rattle.xpath_types.specs.Kinds.{no_kinds, all_kinds, united}
use Rattle.xpath_items.specs.declared.item.Item.{Item}
use Rattle.xpath_items.specs.declared.item.Item.TheVariants as i
use Rattle.xpath_items.specs.declared.outcome.DynError.{DynError}
use Rattle.xpath_items.specs.declared.outcome.DynError.TheVariants as e
use Rattle.xpath_meaning.specs.Values.{Value, then_, joined, each}
use Rattle.xpath_meaning.specs.Steps.{is_node, has_node, node_item, nodes_where, in_document_order, keeps, with_kept, kept, turns, of_turns, path}
use Rattle.xpath_meaning.specs.ItemKinds.{IsOf, AreOf, ItemsOf, IsValueOf}

-- Tests

pub or_left : (a b : Bool) → a ≡ true → (a || b) ≡ true
or_left true b h = refl
or_left false b h = absurd (false≢true h)

pub or_right : (a b : Bool) → b ≡ true → (a || b) ≡ true
or_right true b h = refl
or_right false b h = h

-- Kinds within others

abbrev pub Within : Kinds → Kinds → Type 0
Within a b = (item : Item) → IsOf a item → IsOf b item

pub within_left : (a b : Kinds) → Within a (united a b)
within_left a b (i.Node n) h = or_left a.node b.node h
within_left a b (i.Boolean t) h = or_left a.boolean b.boolean h
within_left a b (i.Number z) h = or_left a.number b.number h
within_left a b (i.String s) h = or_left a.string b.string h
within_left a b (i.Untyped s) h = or_left a.untyped b.untyped h
within_left a b (i.Date day) h = or_left a.date b.date h

pub within_right : (a b : Kinds) → Within b (united a b)
within_right a b (i.Node n) h = or_right a.node b.node h
within_right a b (i.Boolean t) h = or_right a.boolean b.boolean h
within_right a b (i.Number z) h = or_right a.number b.number h
within_right a b (i.String s) h = or_right a.string b.string h
within_right a b (i.Untyped s) h = or_right a.untyped b.untyped h
within_right a b (i.Date day) h = or_right a.date b.date h

pub all_have : (item : Item) → IsOf all_kinds item
all_have (i.Node n) = refl
all_have (i.Boolean t) = refl
all_have (i.Number z) = refl
all_have (i.String s) = refl
all_have (i.Untyped s) = refl
all_have (i.Date day) = refl

pub none_has : (item : Item) → IsOf no_kinds item → ⊥
none_has (i.Node n) h = false≢true h
none_has (i.Boolean t) h = false≢true h
none_has (i.Number z) h = false≢true h
none_has (i.String s) h = false≢true h
none_has (i.Untyped s) h = false≢true h
none_has (i.Date day) h = false≢true h

-- Lists

pub are-within : (a b : Kinds) → Within a b → (xs : List Item) → AreOf a xs → AreOf b xs
are-within a b w [] h = tt
are-within a b w (x ∷ xs) h = (w x h.0, are-within a b w xs h.1)

pub are-append : (a : Kinds) (xs ys : List Item) → AreOf a xs → AreOf a ys → AreOf a (xs ++ ys)
are-append a [] ys h g = g
are-append a (x ∷ xs) ys h g = (h.0, are-append a xs ys h.1 g)

pub are-reverse : (a : Kinds) (xs : List Item) → AreOf a xs → AreOf a (reverse xs)
are-reverse a [] h = tt
are-reverse a (x ∷ xs) h = subst (AreOf a) (sym (reverse-append (x ∷ []) xs)) (are-append a (reverse xs) (x ∷ []) (are-reverse a xs h.1) (h.0, tt))

pub are_all : (xs : List Item) → AreOf all_kinds xs
are_all [] = tt
are_all (x ∷ xs) = (all_have x, are_all xs)

pub are-filter : (a : Kinds) (test : Item → Bool) (xs : List Item) → AreOf a xs → AreOf a (filter test xs)
are-filter a test [] h = tt
are-filter a test (x ∷ xs) h = go (test x) (are-filter a test xs h.1)
  where
    go : (b : Bool) → AreOf a (filter test xs) → AreOf a (cond b (x ∷ filter test xs) (filter test xs))
    go true g = (h.0, g)
    go false g = g

-- Values

pub given : {a : Kinds} {v : Value} → ItemsOf a v → IsValueOf a v
given p = record { items = p }

pub value-within : (a b : Kinds) → Within a b → (v : Value) → IsValueOf a v → IsValueOf b v
value-within a b w (Ok xs) h = given (are-within a b w xs h.items)
value-within a b w (Err error) h = given tt

pub value_all : (v : Value) → IsValueOf all_kinds v
value_all (Ok xs) = given (are_all xs)
value_all (Err error) = given tt

pub of_joined : {a : Kinds} (v w : Value) → IsValueOf a v → IsValueOf a w → IsValueOf a (joined v w)
of_joined {a} (Ok xs) (Ok ys) h g = given (are-append a xs ys h.items g.items)
of_joined (Ok xs) (Err error) h g = given tt
of_joined (Err error) w h g = given tt

-- whatever comes first
pub of_then : {X : Type 0} {a : Kinds} (r : Result X DynError) {f : X → Value} → ((x : X) → IsValueOf a (f x)) → IsValueOf a (then_ r f)
of_then (Ok x) h = h x
of_then (Err error) h = given tt

pub of_items : {a b : Kinds} (v : Value) {f : List Item → Value} → IsValueOf b v → ((xs : List Item) → AreOf b xs → IsValueOf a (f xs)) →
    IsValueOf a (then_ v f)
of_items (Ok xs) g h = h xs g.items
of_items (Err error) g h = given tt

pub of_either : {a : Kinds} (b : Bool) {v w : Value} → IsValueOf a v → IsValueOf a w → IsValueOf a (elim b [ true ↦ v | false ↦ w ])
of_either true h g = h
of_either false h g = g

pub of_each : {a : Kinds} (b : Kinds) {f : Item → Value} → ((x : Item) → IsOf b x → IsValueOf a (f x)) → (xs : List Item) → AreOf b xs → IsValueOf a (each f xs)
of_each b h [] g = given tt
of_each b {f} h (x ∷ xs) g = of_joined (f x) (each f xs) (h x g.0) (of_each b h xs g.1)

-- Nodes

pub are_nodes : (ns : List Node) → AreOf k.nodes (map node_item ns)
are_nodes [] = tt
are_nodes (n ∷ ns) = (refl, are_nodes ns)

pub nodes_alone : (xs : List Item) → list_all is_node xs ≡ true → AreOf k.nodes xs
nodes_alone [] h = tt
nodes_alone (i.Node n ∷ xs) h = (refl, nodes_alone xs h)
nodes_alone (i.Boolean t ∷ xs) h = absurd (false≢true h)
nodes_alone (i.Number z ∷ xs) h = absurd (false≢true h)
nodes_alone (i.String s ∷ xs) h = absurd (false≢true h)
nodes_alone (i.Untyped s ∷ xs) h = absurd (false≢true h)
nodes_alone (i.Date day ∷ xs) h = absurd (false≢true h)

-- nodes that are chosen are of a kind, where each that may be chosen is
pub are_chosen : (a : Kinds) (test : ℕ → Bool) → ((n : ℕ) → test n ≡ true → a.node ≡ true) → (ns : List Node) → AreOf a (nodes_where ns test)
are_chosen a test h [] = tt
are_chosen a test h (n ∷ ns) = go (test n.number) (h n.number) (are_chosen a test h ns)
  where
    go : (b : Bool) → (b ≡ true → a.node ≡ true) → AreOf a (nodes_where ns test)
        → AreOf a (map node_item (cond b (n ∷ filter (λ (node : Node). test node.number) ns) (filter (λ (node : Node). test node.number) ns)))
    go true g f = (g refl, f)
    go false g f = f

pub has_one : (a : Kinds) (xs : List Item) → AreOf a xs → (n : ℕ) → has_node xs n ≡ true → a.node ≡ true
has_one a [] h n g = absurd (false≢true g)
has_one a (i.Node m ∷ xs) h n g = h.0
has_one a (i.Boolean t ∷ xs) h n g = has_one a xs h.1 n g
has_one a (i.Number z ∷ xs) h n g = has_one a xs h.1 n g
has_one a (i.String s ∷ xs) h n g = has_one a xs h.1 n g
has_one a (i.Untyped s ∷ xs) h n g = has_one a xs h.1 n g
has_one a (i.Date day ∷ xs) h n g = has_one a xs h.1 n g

pub are_ordered : (a : Kinds) (ns : List Node) (xs : List Item) → AreOf a xs → AreOf a (in_document_order ns xs)
are_ordered a ns xs h = are_chosen a (has_node xs) (has_one a xs h) ns

-- Predicates and paths

pub are-with_kept : (a : Kinds) (b : Bool) (x : Item) (xs : List Item) → IsOf a x → AreOf a xs → AreOf a (with_kept b x xs)
are-with_kept a true x xs h g = (h, g)
are-with_kept a false x xs h g = g

pub of_kept : (a : Kinds) (f : Item → ℕ → ℕ → Value) (last position : ℕ) (xs : List Item) → AreOf a xs → IsValueOf a (kept f last position xs)
of_kept a f last position [] h = given tt
of_kept a f last position (x ∷ xs) h = of_then (f x position last)
    (λ answer. of_then (keeps position answer) (λ b. of_items (kept f last (suc position) xs) (of_kept a f last (suc position) xs h.1)
    (λ others g. given (are-with_kept a b x others h.0 g))))

pub of_turns_taken : (a b : Kinds) (f : Item → ℕ → ℕ → Value) → ((x : Item) (position last : ℕ) → IsOf b x → IsValueOf a (f x position last))
    → (last position : ℕ) (xs : List Item) → AreOf b xs → IsValueOf a (turns f last position xs)
of_turns_taken a b f h last position [] g = given tt
of_turns_taken a b f h last position (x ∷ xs) g = of_joined (f x position last) (turns f last (suc position) xs) (h x position last g.0)
    (of_turns_taken a b f h last (suc position) xs g.1)

pub of_mixture : (a : Kinds) (ns : List Node) (xs : List Item) → AreOf a xs → IsValueOf a (of_turns ns xs)
of_mixture a ns xs h = of_either (list_all is_node xs) (given (are_ordered a ns xs h)) (of_either (list_any is_node xs) (given tt) (given h))

pub of_path : (a : Kinds) (ns : List Node) (f : Item → ℕ → ℕ → Value) → ((x : Item) (position last : ℕ) → IsOf k.nodes x → IsValueOf a (f x position last))
    → (xs : List Item) → IsValueOf a (path ns f xs)
of_path a ns f h xs = go (list_all is_node xs) refl
  where
    go : (b : Bool) → list_all is_node xs ≡ b
        → IsValueOf a (elim b as (λ _. Value) [ true ↦ then_ (turns f (length xs) 1 xs) (of_turns ns) | false ↦ Err e.XPTY0019 ])
    go true is = of_items (turns f (length xs) 1 xs) (of_turns_taken a k.nodes f h (length xs) 1 xs (nodes_alone xs is)) (λ ys g. of_mixture a ns ys g)
    go false is = given tt
