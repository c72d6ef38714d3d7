-- Nothing that a row whose path stands apart picks has an element inside.
use Rattle.std.proofs.Common.{◌≡◌, ℕ, ◌+◌, ◌<◌, ◌≤◌, Bool, true, false, not, ◌&&◌, ◌||◌, List, [], ◌∷◌, ◌++◌, length, map, filter, flat_map, refl, sym, ap, ◌∙◌}
use Rattle.std.proofs.Common.{subst, arith}
use Rattle.std.specs.List.{list_any}
use Rattle.std.proofs.lemmas.List.Elements.{filter-append}
use Rattle.inv_base.specs.Tree.{Forest, no_more, an_element, Name, Attribute, Node, size, nodes_of, nodes_of_attributes, document_nodes, is_among}
use Rattle.term_table.specs.declared.terms.Term.{Term}
use Rattle.inv_terms.specs.declared.entries.Entry.{Entry}
use Rattle.bind_rows.specs.declared.names.Leaf.{Leaf}
use Rattle.bind_rows.specs.declared.names.Leaf.TheVariants as leaves
use Rattle.bind_rows.specs.declared.rows.Row.{Row}
use Rattle.bind_meaning.specs.Names.{has_plain_name}
use Rattle.bind_meaning.specs.Elements.{number, is_element, attributes_named, is_blank_at, has_element_inside}
use Rattle.bind_meaning.specs.Picks.{Pick, last_of, filled, leaves_of, ways, picks_of_way, nodes_picked}
use Rattle.bind_meaning.specs.Trees.{with_text, document_of}
use Rattle.binding_laws.specs.Apart.{holds_none, stands_apart_without, stands_apart}
use Rattle.binding_laws.specs.Written.{Spot}
use Rattle.binding_laws.proofs.TreeLemmas.{Each, each-weaker, each-append, among-older, Lies}
use Rattle.binding_laws.proofs.NodeLemmas.{and-false}
use Rattle.binding_laws.proofs.AttributeLemmas.{named-are, far, later-far}
use Rattle.binding_laws.proofs.ContextLemmas.{each-filter, each-flat_map}
use Rattle.binding_laws.proofs.RowLemmas.{Place, places_at, ArePlaced, placed-without, placed-at, ends-among}
use Rattle.binding_laws.proofs.ListLemmas.{map-flat_map, map-map, flat_map-same}

any-none : (p : Node → Bool) (xs : List Node) → Each (λ x. p x ≡ false) xs → list_any p xs ≡ false
any-none p [] h = refl
any-none p (x ∷ xs) h = ap (λ b. b || list_any p xs) h.0 ∙ any-none p xs h.1

-- an element inside the node of that number
abbrev within_it : ℕ → Node → Bool
within_it m node = is_element node && is_among m node.above

outside : (m : ℕ) (xs : List Node) → Each (λ (x : Node). is_among m x.above ≡ false) xs → Each (λ x. within_it m x ≡ false) xs
outside m xs h = each-weaker (λ (x : Node). is_among m x.above ≡ false) (λ x. within_it m x ≡ false) xs
    (λ x e. ap (λ b. is_element x && b) e ∙ and-false (is_element x)) h

attributes-outside : (m : ℕ) (above : List ℕ) (n : ℕ) (attrs : List Attribute) → Each (λ x. within_it m x ≡ false) (nodes_of_attributes above n attrs)
attributes-outside m above n [] = tt
attributes-outside m above n (a ∷ attrs) = (refl, attributes-outside m above (n + 1) attrs)

text-outside : (m : ℕ) (above : List ℕ) (n : ℕ) (text : List ℕ) → Each (λ x. within_it m x ≡ false) (nodes_of above n (with_text text no_more))
text-outside m above n [] = tt
text-outside m above n (c ∷ text) = (refl, tt)

module _ (nodes : List Node) (above : List ℕ) (n : ℕ) (name : Name) (attrs : List Attribute) (text : List ℕ) (rest : Forest)
    (h : Lies nodes above n (an_element name attrs (with_text text no_more) rest)) where
  abbrev inside : Forest
  inside = with_text text no_more

  none-inside : (m : ℕ) → n ≤ m → m < n + (1 + length attrs) → has_element_inside nodes m ≡ false
  none-inside m l r =
      let ends = far nodes above n name attrs inside rest h m l (omega (arith, r)) in
      ap (list_any (within_it m)) h.is
      ∙ any-none (within_it m) _
      (each-append (λ x. within_it m x ≡ false) h.front _ (outside m h.front ends.0)
      (each-append (λ x. within_it m x ≡ false) (nodes_of above n (an_element name attrs inside rest)) h.back (
        among-older m above (each-weaker (λ k. k < n) (λ k. k < m) above (λ k j. omega (arith, l, j)) h.older),
        each-append (λ x. within_it m x ≡ false) (nodes_of_attributes (n ∷ above) (n + 1) attrs) _ (attributes-outside m (n ∷ above) (n + 1) attrs)
            (each-append (λ x. within_it m x ≡ false) (nodes_of (n ∷ above) (n + (1 + length attrs)) inside) _
            (text-outside m (n ∷ above) (n + (1 + length attrs)) text)
            (outside m (nodes_of above (n + (1 + (length attrs + size inside))) rest)
            (later-far nodes above n name attrs inside rest h m l (omega (arith, r))))),
      )
      (outside m h.back ends.1)))

  own-numbers : (todo : List Attribute) (k : ℕ) → n ≤ k → k + length todo ≤ n + (1 + length attrs) →
      Each (λ (x : Node). has_element_inside nodes x.number ≡ false) (nodes_of_attributes (n ∷ above) k todo)
  own-numbers [] k l r = tt
  own-numbers (a ∷ todo) k l r = (none-inside k l (omega (arith, r)), own-numbers todo (k + 1) (omega (arith, l)) (omega (arith, r)))

  each-number : (xs : List Node) → Each (λ (x : Node). has_element_inside nodes x.number ≡ false) xs →
      Each (λ m. has_element_inside nodes m ≡ false) (map number xs)
  each-number [] k = tt
  each-number (x ∷ xs) k = (k.0, each-number xs k.1)

  attributes-empty : (local : List ℕ) → Each (λ m. has_element_inside nodes m ≡ false) (attributes_named nodes local n)
  attributes-empty local =
      subst (Each (λ m. has_element_inside nodes m ≡ false)) (sym (named-are nodes above n name attrs inside rest h local))
      (each-number (filter (has_plain_name local) (nodes_of_attributes (n ∷ above) (n + 1) attrs))
      (each-filter (λ (x : Node). has_element_inside nodes x.number ≡ false) (has_plain_name local) (nodes_of_attributes (n ∷ above) (n + 1) attrs)
      (own-numbers attrs (n + 1) (omega arith) (omega arith))))

  leaves-empty : (leaf : Leaf) → Each (λ m. has_element_inside nodes m ≡ false) (leaves_of nodes leaf n)
  leaves-empty leaves.Element = each-filter (λ m. has_element_inside nodes m ≡ false) (λ m. not (is_blank_at nodes m)) (n ∷ [])
      (none-inside n (omega arith) (omega arith), tt)
  leaves-empty (leaves.Attribute local) =
      each-flat_map (λ m. has_element_inside nodes m ≡ false) (λ m. filled nodes (attributes_named nodes local m)) (filled nodes (n ∷ []))
      (each-filter (λ m. Each (λ k. has_element_inside nodes k ≡ false) (filled nodes (attributes_named nodes local m))) (λ m. not (is_blank_at nodes m))
      (n ∷ [])
      (each-filter (λ m. has_element_inside nodes m ≡ false) (λ m. not (is_blank_at nodes m)) (attributes_named nodes local n) (attributes-empty local), tt))

filter-none-numbers : (p : ℕ → Bool) (xs : List ℕ) → Each (λ x. p x ≡ false) xs → filter p xs ≡ []
filter-none-numbers p [] h = refl
filter-none-numbers p (x ∷ xs) h = rw h.0 (filter-none-numbers p xs h.1)

filter-flat_map : {X Y : Type 0} (p : Y → Bool) (f : X → List Y) (xs : List X) → filter p (flat_map f xs) ≡ flat_map (λ x. filter p (f x)) xs
filter-flat_map p f [] = refl
filter-flat_map p f (x ∷ xs) = filter-append p (f x) (flat_map f xs) ∙ ap (λ l. filter p (f x) ++ l) (filter-flat_map p f xs)

none-at-all : (them : List Place) → ◌≡◌ {A = List ℕ} (flat_map (λ (place : Place). []) them) []
none-at-all [] = refl
none-at-all (place ∷ them) = none-at-all them

picked-nodes : (nodes : List Node) (k : ℕ) (row : Row) → map (λ (pick : Pick). pick.node) (nodes_picked nodes k row) ≡ flat_map
    (λ way. leaves_of nodes row.leaf (last_of way)) (ways nodes row.path 0)
picked-nodes nodes k row =
    map-flat_map (λ (pick : Pick). pick.node) (picks_of_way nodes k row) (ways nodes row.path 0)
    ∙ flat_map-same (λ way. map (λ (pick : Pick). pick.node) (picks_of_way nodes k row way)) (λ way. leaves_of nodes row.leaf (last_of way))
    (λ way. map-map (λ (pick : Pick). pick.node) (λ n. record { place = k; row = row; elements = way; node = n }) (leaves_of nodes row.leaf (last_of way)) ∙
    same (leaves_of nodes row.leaf (last_of way)))
    (ways nodes row.path 0)
  where
    same : (xs : List ℕ) → map (λ x. x) xs ≡ xs
    same [] = refl
    same (x ∷ xs) = ap (λ l. x ∷ l) (same xs)

pub placed-inside : (rows : List Row) (es : List Entry) (k : ℕ) (row : Row) (them : List Place) →
    ArePlaced (document_nodes (document_of rows es)) es row.path them
    → filter (has_element_inside (document_nodes (document_of rows es)))
    (map (λ (pick : Pick). pick.node) (nodes_picked (document_nodes (document_of rows es)) k row)) ≡ []
placed-inside rows es k row them h =
    let nodes : List Node = document_nodes (document_of rows es) in
    ap (filter (has_element_inside nodes)) (picked-nodes nodes k row)
    ∙ (filter-flat_map (has_element_inside nodes) (λ way. leaves_of nodes row.leaf (last_of way)) (ways nodes row.path 0)
    ∙ (ends-among nodes es (λ n. filter (has_element_inside nodes) (leaves_of nodes row.leaf n)) (λ (spot : Spot). [])
    (λ above n name attrs text rest lies spot a t. filter-none-numbers (has_element_inside nodes) (leaves_of nodes row.leaf n)
    (leaves-empty nodes above n name attrs text rest lies row.leaf)) row.path them h
    ∙ none-at-all them))

pub inside-law : (rows : List Row) (es : List Entry) (k : ℕ) (row : Row) → stands_apart rows row.path ≡ true
    → filter (has_element_inside (document_nodes (document_of rows es)))
    (map (λ (pick : Pick). pick.node) (nodes_picked (document_nodes (document_of rows es)) k row)) ≡ []
inside-law rows es k row h = placed-inside rows es k row (places_at rows es row.path) (placed-at rows es row.path h)

pub inside-without : (gone : List Term) (rows : List Row) (es : List Entry) (k : ℕ) (row : Row) → holds_none gone es ≡ true →
    stands_apart_without gone rows row.path ≡ true
    → filter (has_element_inside (document_nodes (document_of rows es)))
    (map (λ (pick : Pick). pick.node) (nodes_picked (document_nodes (document_of rows es)) k row)) ≡ []
inside-without gone rows es k row unheld h = placed-inside rows es k row (places_at rows es row.path) (placed-without gone rows es row.path unheld h)
