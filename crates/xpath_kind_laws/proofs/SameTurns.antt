-- What is evaluated at each item of a list comes to the same, where the values there are the same.
use Rattle.std.proofs.Common.{◌≡◌, ℕ, suc, Bool, true, false, List, [], ◌∷◌, length, map, Ok, Err, refl, ◌∙◌}
use Rattle.std.specs.List.{All, list_all}
use Rattle.std.proofs.lemmas.List.Elements.{All-head, All-tail}
use Rattle.inv_base.specs.Tree.{Node}
use Rattle.xpath_grammar.specs.declared.operators.Binder.{Binder}
use Rattle.xpath_grammar.specs.declared.operators.Binder.TheVariants as b
use Rattle.xpath_items.specs.declared.item.Item.{Item}
use Rattle.xpath_items.specs.declared.outcome.DynError.TheVariants as d
use Rattle.xpath_meaning.specs.Values.{Value, then_, joined, each}
use Rattle.xpath_meaning.specs.Comparing.{any_of, all_of, boolean}
use Rattle.xpath_meaning.specs.Steps.{is_node, keeps, with_kept, kept, filtered_by, turns, of_turns, path}
use Rattle.xpath_meaning.specs.Expressions as x
use Rattle.xpath_meaning.specs.Expressions.{Exp}
use Rattle.xpath_meaning.specs.Meaning as c
use Rattle.xpath_meaning.specs.Meaning.{Context, mean, truth_of, bound_by}
use Rattle.xpath_kind_laws.specs.Arising.{items_of, if_all_nodes, at_each_from, at_each}

abbrev pub AreSame : List Node → Exp → Exp → Context → Type 0
AreSame nodes e f context = mean nodes e context ≡ mean nodes f context

-- its value at an item
abbrev at_item : List Node → Exp → Context → Item → ℕ → ℕ → Value
at_item nodes e context item position last = mean nodes e (c.at context item position last)

-- Steps

turns_same : (nodes : List Node) (e f : Exp) (context : Context) (last position : ℕ) (items : List Item)
    → All (AreSame nodes e f) (at_each_from context last position items)
    → turns (at_item nodes e context) last position items ≡ turns (at_item nodes f context) last position items
turns_same nodes e f context last position [] h = refl
turns_same nodes e f context last position (item ∷ items) h =
    let here : Context = c.at context item position last in
    let others : List Context = at_each_from context last (suc position) items in
    let first : mean nodes e here ≡ mean nodes f here = All-head (AreSame nodes e f) here others h in
    λ i. joined (first i) (turns_same nodes e f context last (suc position) items (All-tail (AreSame nodes e f) here others h) i)

path_same : (nodes : List Node) (e f : Exp) (context : Context) (items : List Item) → All (AreSame nodes e f) (at_each (if_all_nodes items) context)
    → path nodes (at_item nodes e context) items ≡ path nodes (at_item nodes f context) items
path_same nodes e f context items = go (list_all is_node items)
  where
    go : (all : Bool) → All (AreSame nodes e f) (at_each (elim all as (λ _. List Item) [ true ↦ items | false ↦ [] ]) context)
        → elim all as (λ _. Value) [ true ↦ then_ (turns (at_item nodes e context) (length items) 1 items) (of_turns nodes) | false ↦ Err d.XPTY0019 ]
        ≡ elim all as (λ _. Value) [ true ↦ then_ (turns (at_item nodes f context) (length items) 1 items) (of_turns nodes) | false ↦ Err d.XPTY0019 ]
    go true h = λ i. then_ (turns_same nodes e f context (length items) 1 items h i) (of_turns nodes)
    go false h = refl

steps_same : (nodes : List Node) (e f : Exp) (context : Context) (value : Value)
    → All (AreSame nodes e f) (at_each (if_all_nodes (items_of value)) context)
    → then_ value (path nodes (at_item nodes e context)) ≡ then_ value (path nodes (at_item nodes f context))
steps_same nodes e f context (Ok items) h = path_same nodes e f context items h
steps_same nodes e f context (Err error) h = refl

pub slash_same : (nodes : List Node) (before other e f : Exp) (context : Context) → AreSame nodes before other context
    → All (AreSame nodes e f) (at_each (if_all_nodes (items_of (mean nodes before context))) context)
    → AreSame nodes (x.slash before e) (x.slash other f) context
slash_same nodes before other e f context same h =
    steps_same nodes e f context (mean nodes before context) h ∙ (λ i. then_ (same i) (path nodes (at_item nodes f context)))

-- Predicates

kept_same : (nodes : List Node) (e f : Exp) (context : Context) (last position : ℕ) (items : List Item)
    → All (AreSame nodes e f) (at_each_from context last position items)
    → kept (at_item nodes e context) last position items ≡ kept (at_item nodes f context) last position items
kept_same nodes e f context last position [] h = refl
kept_same nodes e f context last position (item ∷ items) h =
    let here : Context = c.at context item position last in
    let others : List Context = at_each_from context last (suc position) items in
    let first : mean nodes e here ≡ mean nodes f here = All-head (AreSame nodes e f) here others h in
    λ i. then_ (first i) (λ answer. then_ (keeps position answer) (λ is_kept.
    then_ (kept_same nodes e f context last (suc position) items (All-tail (AreSame nodes e f) here others h) i)
    (λ others. Ok (with_kept is_kept item others))))

predicates_same : (nodes : List Node) (e f : Exp) (context : Context) (value : Value) → All (AreSame nodes e f) (at_each (items_of value) context)
    → then_ value (filtered_by (at_item nodes e context)) ≡ then_ value (filtered_by (at_item nodes f context))
predicates_same nodes e f context (Ok items) h = kept_same nodes e f context (length items) 1 items h
predicates_same nodes e f context (Err error) h = refl

pub filtered_same : (nodes : List Node) (before other e f : Exp) (context : Context) → AreSame nodes before other context
    → All (AreSame nodes e f) (at_each (items_of (mean nodes before context)) context) → AreSame nodes (x.filtered before e) (x.filtered other f) context
filtered_same nodes before other e f context same h =
    predicates_same nodes e f context (mean nodes before context) h ∙ (λ i. then_ (same i) (filtered_by (at_item nodes f context)))

-- Variables

abbrev inside : List Node → Exp → Context → Item → Value
inside nodes e context item = mean nodes e (c.inside context item)

each_same : (nodes : List Node) (e f : Exp) (context : Context) (items : List Item) → All (AreSame nodes e f) (map (c.inside context) items)
    → each (inside nodes e context) items ≡ each (inside nodes f context) items
each_same nodes e f context [] h = refl
each_same nodes e f context (item ∷ items) h =
    let first : inside nodes e context item ≡ inside nodes f context item =
    All-head (AreSame nodes e f) (c.inside context item) (map (c.inside context) items) h in
    λ i. joined (first i) (each_same nodes e f context items (All-tail (AreSame nodes e f) (c.inside context item) (map (c.inside context) items) h) i)

any_same : (nodes : List Node) (e f : Exp) (context : Context) (items : List Item) → All (AreSame nodes e f) (map (c.inside context) items)
    → any_of (λ item. truth_of (inside nodes e context item)) items ≡ any_of (λ item. truth_of (inside nodes f context item)) items
any_same nodes e f context [] h = refl
any_same nodes e f context (item ∷ items) h =
    let first : inside nodes e context item ≡ inside nodes f context item =
    All-head (AreSame nodes e f) (c.inside context item) (map (c.inside context) items) h in
    let others : any_of (λ item. truth_of (inside nodes e context item)) items ≡ any_of (λ item. truth_of (inside nodes f context item)) items =
    any_same nodes e f context items (All-tail (AreSame nodes e f) (c.inside context item) (map (c.inside context) items) h) in
    λ i. then_ (truth_of (first i)) (λ found. elim found [ true ↦ Ok true | false ↦ others i ])

all_same : (nodes : List Node) (e f : Exp) (context : Context) (items : List Item) → All (AreSame nodes e f) (map (c.inside context) items)
    → all_of (λ item. truth_of (inside nodes e context item)) items ≡ all_of (λ item. truth_of (inside nodes f context item)) items
all_same nodes e f context [] h = refl
all_same nodes e f context (item ∷ items) h =
    let first : inside nodes e context item ≡ inside nodes f context item =
    All-head (AreSame nodes e f) (c.inside context item) (map (c.inside context) items) h in
    let others : all_of (λ item. truth_of (inside nodes e context item)) items ≡ all_of (λ item. truth_of (inside nodes f context item)) items =
    all_same nodes e f context items (All-tail (AreSame nodes e f) (c.inside context item) (map (c.inside context) items) h) in
    λ i. then_ (truth_of (first i)) (λ found. elim found [ true ↦ others i | false ↦ Ok false ])

bodies_same : (binder : Binder) (nodes : List Node) (e f : Exp) (context : Context) (items : List Item)
    → All (AreSame nodes e f) (map (c.inside context) items)
    → bound_by binder (inside nodes e context) items ≡ bound_by binder (inside nodes f context) items
bodies_same b.For nodes e f context items h = each_same nodes e f context items h
bodies_same b.Some nodes e f context items h = λ i. boolean (any_same nodes e f context items h i)
bodies_same b.Every nodes e f context items h = λ i. boolean (all_same nodes e f context items h i)

values_same : (binder : Binder) (nodes : List Node) (e f : Exp) (context : Context) (value : Value)
    → All (AreSame nodes e f) (map (c.inside context) (items_of value))
    → then_ value (bound_by binder (inside nodes e context)) ≡ then_ value (bound_by binder (inside nodes f context))
values_same binder nodes e f context (Ok items) h = bodies_same binder nodes e f context items h
values_same binder nodes e f context (Err error) h = refl

pub bound_same : (binder : Binder) (nodes : List Node) (a b e f : Exp) (context : Context) → AreSame nodes a b context
    → All (AreSame nodes e f) (map (c.inside context) (items_of (mean nodes a context))) → AreSame nodes (x.bound binder a e) (x.bound binder b f) context
bound_same binder nodes a b e f context same h =
    values_same binder nodes e f context (mean nodes a context) h ∙ (λ i. then_ (same i) (bound_by binder (inside nodes f context)))
