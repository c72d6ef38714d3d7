-- What the walk finds at a line, by the numbers of names, is what the table's step leads to and its rows pick, by the names themselves.
use Rattle.std.proofs.Common.{◌≡◌, ℕ, ◌+◌, ◌<◌, Bool, true, false, cond, ◌&&◌, List, [], ◌∷◌, ◌++◌, length, map, Option, Some, None, refl, ap, sym, ◌∙◌, arith}
use Rattle.std.specs.Prelude.{filter, not, ◌||◌}
use Rattle.std.specs.List.{flat_map, list_any, list_all}
use Rattle.std.specs.Str.{bytes_eq}
use Rattle.std.proofs.lemmas.List.{append-nil, map-append, length-map}
use Rattle.std.proofs.lemmas.List.Concat.{flat_map-append}
use Rattle.std.proofs.lemmas.List.Folds.{list_any-append}
use Rattle.std.proofs.lemmas.Slice.Eq.{bytes_eq-Decides}
use Rattle.std.proofs.lemmas.Bool.Decides.{same_from_decides, Decides-like}
use Rattle.inv_base.specs.declared.tree.Kind.TheVariants as kinds
use Rattle.inv_base.specs.Tree.{Name, Node}
use Rattle.inv_terms.specs.Values.{is_blank, trimmed}
use Rattle.term_table.specs.declared.groups.Group.{Group}
use Rattle.xml_events.specs.Names.{find_name, same_name}
use Rattle.node_arena.specs.Document.{Document, node_at}
use Rattle.node_arena.specs.Moves.{node_of, tree_nodes, tree_node, has_name, has_found, is_child, is_attribute_of}
use Rattle.bind_rows.specs.declared.names.ElementName.{ElementName}
use Rattle.bind_rows.specs.declared.names.Leaf.{Leaf}
use Rattle.bind_rows.specs.declared.names.Leaf.TheVariants as leaves
use Rattle.bind_rows.specs.declared.guards.Test.{Test}
use Rattle.bind_rows.specs.declared.guards.Test.TheVariants as tests
use Rattle.bind_rows.specs.declared.guards.Guard.{Guard}
use Rattle.bind_rows.specs.declared.rows.Row.{Row}
use Rattle.bind_rows.specs.Namespaces.{uri_of}
use Rattle.bind_table.specs.Lines.{Cell, Plan}
use Rattle.bind_table.specs.Picks.{walked, here, entered}
use Rattle.bind_walk.specs.declared.guards.FoundGuard.{FoundGuard}
use Rattle.bind_walk.specs.Chains.{number, numbers_of, children, attributes}
use Rattle.bind_walk.specs.Found as found
use Rattle.bind_walk.specs.Found.{found_element, found_leaf, found_guard, looks_for, is_positive, same_flag, some_below, is_at}
use Rattle.bind_meaning.specs.Names.{is_named, is_spelled, has_element_name, has_plain_name}
use Rattle.bind_meaning.specs.Elements.{both, children_named, attributes_named, string_at, elements_below, leaves_at, passes, is_met, are_met}
use Rattle.bind_meaning.specs.Picks.{filled, leaves_of}
use Rattle.bind_walk.specs.declared.lines.Wanted.{Wanted}
use Rattle.bind_walk.specs.declared.lines.End.TheVariants as ends
use Rattle.bind_walk.specs.declared.lines.FoundRow.{FoundRow}
use Rattle.bind_walk.specs.declared.walk.Carried.{Carried}
use Rattle.bind_walk.specs.declared.finds.Find.{Find}
use Rattle.bind_walk.specs.Lines.{wanted, end_at, attribute_at, row_for, found_cell}
use Rattle.bind_walk.specs.Walks.{sight, told, told_for, find_at, found_attributes, found_in_row, found_in, around_in, is_of, entered_in, line_of, LeadsAlike}
use Rattle.bind_walk.proofs.SortLemmas.{Every, every-at, every-filter, every-map, every-weaker}

-- ---- lists of numbers that are filtered

any-filter : (has u : ℕ → Bool) (ns : List ℕ) → list_any (λ m. has m && u m) ns ≡ list_any u (filter has ns)
any-filter has u [] = refl
any-filter has u (n ∷ ns) = at (has n) (any-filter has u ns)
  where
    at : (b : Bool) → list_any (λ m. has m && u m) ns ≡ list_any u (filter has ns)
        → ((b && u n) || list_any (λ m. has m && u m) ns) ≡ list_any u (cond b (n ∷ filter has ns) (filter has ns))
    at true e = ap (λ b. u n || b) e
    at false e = e

any-agree : (u v : ℕ → Bool) (ns : List ℕ) → Every (λ m. u m ≡ v m) ns → list_any u ns ≡ list_any v ns
any-agree u v [] h = refl
any-agree u v (n ∷ ns) h = ap (λ b. b || list_any u ns) h.0 ∙ ap (λ b. v n || b) (any-agree u v ns h.1)

any-map : {X Y : Type 0} (p : Y → Bool) (f : X → Y) (xs : List X) → list_any p (map f xs) ≡ list_any (λ x. p (f x)) xs
any-map p f [] = refl
any-map p f (x ∷ xs) = ap (λ b. p (f x) || b) (any-map p f xs)

or-false : (b : Bool) → b ≡ (b || false)
or-false true = refl
or-false false = refl

pub map-agree : {X : Type 0} (f g : ℕ → List X) (ns : List ℕ) → Every (λ m. f m ≡ g m) ns → flat_map f ns ≡ flat_map g ns
map-agree f g [] h = refl
map-agree f g (n ∷ ns) h = ap (λ xs. xs ++ flat_map f ns) h.0 ∙ ap (λ xs. g n ++ xs) (map-agree f g ns h.1)

abbrev pub if_both : {X : Type 0} → (ℕ → Bool) → (ℕ → Bool) → (ℕ → List X) → ℕ → List X
if_both has is f m = elim (has m && is m) [ true ↦ f m | false ↦ [] ]

pub flat-filter : {X : Type 0} (has is : ℕ → Bool) (f : ℕ → List X) (ns : List ℕ) → flat_map (if_both has is f) ns ≡ flat_map f (filter is (filter has ns))
flat-filter {X} has is f [] = refl
flat-filter {X} has is f (n ∷ ns) = at (has n) (is n) refl (flat-filter has is f ns)
  where
    at : (a b : Bool) → is n ≡ b → flat_map (if_both has is f) ns ≡ flat_map f (filter is (filter has ns))
        → ((elim (a && b) as (λ _. List X) [ true ↦ f n | false ↦ [] ]) ++ flat_map (if_both has is f) ns)
        ≡ flat_map f (filter is (cond a (n ∷ filter has ns) (filter has ns)))
    at true true s e = ap (λ xs. f n ++ xs) e ∙ ap (λ b. flat_map f (cond b (n ∷ filter is (filter has ns)) (filter is (filter has ns)))) (sym s)
    at true false s e = e ∙ ap (λ b. flat_map f (cond b (n ∷ filter is (filter has ns)) (filter is (filter has ns)))) (sym s)
    at false b s e = e

abbrev if_dark : {X : Type 0} → (ℕ → Bool) → (ℕ → Bool) → (ℕ → X) → ℕ → List X
if_dark has blank f m = elim (has m) [ false ↦ [] | true ↦ elim (blank m) [ true ↦ [] | false ↦ f m ∷ [] ] ]

dark-filter : {X : Type 0} (has blank : ℕ → Bool) (f : ℕ → X) (ns : List ℕ)
    → flat_map (if_dark has blank f) ns ≡ map f (filter (λ m. not (blank m)) (filter has ns))
dark-filter {X} has blank f [] = refl
dark-filter {X} has blank f (n ∷ ns) = at (has n) (blank n) refl (dark-filter has blank f ns)
  where
    at : (a b : Bool) → blank n ≡ b → flat_map (if_dark has blank f) ns ≡ map f (filter (λ m. not (blank m)) (filter has ns))
        → ((elim a as (λ _. List X) [ false ↦ [] | true ↦ elim b as (λ _. List X) [ true ↦ [] | false ↦ f n ∷ [] ] ]) ++ flat_map (if_dark has blank f) ns)
        ≡ map f (filter (λ m. not (blank m)) (cond a (n ∷ filter has ns) (filter has ns)))
    at true true s e = e ∙ ap (λ b. map f (cond (not b) (n ∷ filter (λ m. not (blank m)) (filter has ns)) (filter (λ m. not (blank m)) (filter has ns))))
        (sym s)
    at true false s e = ap (λ xs. f n ∷ xs) e
        ∙ ap (λ b. map f (cond (not b) (n ∷ filter (λ m. not (blank m)) (filter has ns)) (filter (λ m. not (blank m)) (filter has ns)))) (sym s)
    at false b s e = e

-- nodes of a sort that have a name, by their numbers
named-filter : (sort has : Node → Bool) (is_found : ℕ → Bool) (nodes : List Node) → Every (λ (node : Node). is_found node.number ≡ has node) nodes
    → map number (filter (both sort has) nodes) ≡ filter is_found (map number (filter sort nodes))
named-filter sort has is_found [] h = refl
named-filter sort has is_found (node ∷ nodes) h = at (sort node) (has node) h.0 (named-filter sort has is_found nodes h.1)
  where
    at : (a b : Bool) → is_found node.number ≡ b → map number (filter (both sort has) nodes) ≡ filter is_found (map number (filter sort nodes))
        → map number (cond (elim a as (λ _. Bool) [ true ↦ b | false ↦ false ]) (node ∷ filter (both sort has) nodes) (filter (both sort has) nodes))
        ≡ filter is_found (map number (cond a (node ∷ filter sort nodes) (filter sort nodes)))
    at true true s e = ap (λ ns. node.number ∷ ns) e
        ∙ ap (λ b. cond b (node.number ∷ filter is_found (map number (filter sort nodes))) (filter is_found (map number (filter sort nodes)))) (sym s)
    at true false s e = e ∙ ap (λ b. cond b (node.number ∷ filter is_found (map number (filter sort nodes))) (filter is_found (map number (filter sort nodes))))
        (sym s)
    at false b s e = e

-- ---- names

turn : (a b : List ℕ) → bytes_eq a b ≡ bytes_eq b a
turn a b = same_from_decides _ _ (bytes_eq-Decides a b) (Decides-like _ sym sym (bytes_eq-Decides b a))

spelled : (uri local : List ℕ) (name : Name) → is_spelled uri local name ≡ same_name name (record { uri = uri; local = local })
spelled uri local name = at (bytes_eq local name.local) (bytes_eq uri name.uri) (turn local name.local) (turn uri name.uri)
  where
    at : (a b : Bool) → a ≡ bytes_eq name.local local → b ≡ bytes_eq name.uri uri
        → (elim a as (λ _. Bool) [ true ↦ b | false ↦ false ]) ≡ (bytes_eq name.uri uri && bytes_eq name.local local)
    at a b e f = ends a b ∙ (ap (λ x. x && a) f ∙ ap (λ x. bytes_eq name.uri uri && x) e)
      where
        ends : (a b : Bool) → (elim a as (λ _. Bool) [ true ↦ b | false ↦ false ]) ≡ (b && a)
        ends true true = refl
        ends true false = refl
        ends false true = refl
        ends false false = refl

named-is : (uri local : List ℕ) (node : Node) → is_named uri local node.name ≡ has_name (record { uri = uri; local = local }) node
named-is uri local node = at node.name
  where
    at : (o : Option Name) → is_named uri local o ≡ (elim o as (λ _. Bool) [ None ↦ false | Some n ↦ same_name n (record { uri = uri; local = local }) ])
    at None = refl
    at (Some name) = spelled uri local name

-- What holds of a document.
pub record IsRead (d : Document) : Type 0 where
  pub named : (name : Name) (n : ℕ) → n < length d.nodes → has_name name (tree_node (tree_nodes d) n) ≡ has_found (find_name name d.names) (node_at d.nodes n)
  pub numbers : (n : ℕ) → n < length d.nodes → (tree_node (tree_nodes d) n).number ≡ n

abbrev pub none : Node
none = record { number = 0; kind = kinds.Document; name = None; above = []; text = [] }

pub record IsMember (d : Document) (node : Node) : Type 0 where
  pub within : node.number < length d.nodes
  pub itself : tree_node (tree_nodes d) node.number ≡ node

module _ (d : Document) (read : IsRead d) where
  abbrev is_found : Option ℕ → ℕ → Bool
  is_found name m = has_found name (node_at d.nodes m)

  abbrev local_name : List ℕ → Option ℕ
  local_name local = find_name (record { uri = []; local = local }) d.names

  pub members : Every (IsMember d) (tree_nodes d)
  members = every-at (IsMember d) (tree_nodes d) none (λ j l.
      let within : j < length d.nodes = omega (arith, l, length-map d.nodes (node_of d.names)) in
      let n : (tree_node (tree_nodes d) j).number ≡ j = read.numbers j within in
      record { within = omega (arith, n, within); itself = ap (tree_node (tree_nodes d)) n })

  found-is : (uri local : List ℕ) (node : Node) → IsMember d node
      → is_found (find_name (record { uri = uri; local = local }) d.names) node.number ≡ is_named uri local node.name
  found-is uri local node m =
      sym (read.named (record { uri = uri; local = local }) node.number m.within)
      ∙ (ap (has_name (record { uri = uri; local = local })) m.itself ∙ sym (named-is uri local node))

  pub name-is : (name : ElementName) (n : ℕ) → n < length d.nodes
      → has_found (found_element d name) (node_at d.nodes n) ≡ has_element_name name (tree_node (tree_nodes d) n)
  name-is name n within =
      sym (read.named (record { uri = uri_of name.namespace; local = name.local }) n within)
      ∙ sym (named-is (uri_of name.namespace) name.local (tree_node (tree_nodes d) n))

  pub children-are : (name : ElementName) (n : ℕ) → children_named (tree_nodes d) name n ≡ filter (is_found (found_element d name)) (children d n)
  children-are name n = named-filter (is_child n) (has_element_name name) (is_found (found_element d name)) (tree_nodes d)
      (every-weaker (IsMember d) (λ (node : Node). is_found (found_element d name) node.number ≡ has_element_name name node)
      (λ node m. found-is (uri_of name.namespace) name.local node m) (tree_nodes d) members)

  pub attributes-are : (local : List ℕ) (n : ℕ) → attributes_named (tree_nodes d) local n ≡ filter (is_found (local_name local)) (attributes d n)
  attributes-are local n = named-filter (is_attribute_of n) (has_plain_name local) (is_found (local_name local)) (tree_nodes d)
      (every-weaker (IsMember d) (λ (node : Node). is_found (local_name local) node.number ≡ has_plain_name local node) (λ node m. found-is [] local node m)
      (tree_nodes d) members)

  pub all-within : (sort : Node → Bool) → Every (λ m. m < length d.nodes) (numbers_of sort d)
  all-within sort = every-map (λ m. m < length d.nodes) number (filter sort (tree_nodes d))
      (every-weaker (λ node. IsMember d node × (sort node ≡ true)) (λ (node : Node). node.number < length d.nodes) (λ node m. m.0.within)
      (filter sort (tree_nodes d)) (every-filter (IsMember d) sort (tree_nodes d) members))

  -- ---- guards

  abbrev strings : Leaf → List ℕ → List (List ℕ)
  strings leaf ns = map (λ m. trimmed (string_at (tree_nodes d) m)) (flat_map (leaves_at (tree_nodes d) leaf) ns)

  strings-append : (leaf : Leaf) (ns ms : List ℕ) → strings leaf (ns ++ ms) ≡ strings leaf ns ++ strings leaf ms
  strings-append leaf ns ms =
      ap (map (λ m. trimmed (string_at (tree_nodes d) m))) (flat_map-append (leaves_at (tree_nodes d) leaf) ns ms)
      ∙ map-append (λ m. trimmed (string_at (tree_nodes d) m)) (flat_map (leaves_at (tree_nodes d) leaf) ns) (flat_map (leaves_at (tree_nodes d) leaf) ms)

  any-strings : (p : List ℕ → Bool) (leaf : Leaf) (f : ℕ → List ℕ) (ns : List ℕ)
      → list_any p (strings leaf (flat_map f ns)) ≡ list_any (λ m. list_any p (strings leaf (f m))) ns
  any-strings p leaf f [] = refl
  any-strings p leaf f (n ∷ ns) =
      ap (list_any p) (strings-append leaf (f n) (flat_map f ns))
      ∙ (list_any-append p (strings leaf (f n)) (strings leaf (flat_map f ns)) ∙ ap (λ b. list_any p (strings leaf (f n)) || b) (any-strings p leaf f ns))

  leaf-is : (test : Test) (leaf : Leaf) (n : ℕ) → is_at d test (found_leaf d leaf) n ≡ list_any (looks_for test) (strings leaf (n ∷ []))
  leaf-is test leaves.Element n = or-false (looks_for test (trimmed (string_at (tree_nodes d) n)))
  leaf-is test (leaves.Attribute local) n =
      any-filter (is_found (local_name local)) (λ m. looks_for test (trimmed (string_at (tree_nodes d) m))) (attributes d n)
      ∙ (ap (list_any (λ m. looks_for test (trimmed (string_at (tree_nodes d) m))))
      (sym (append-nil (attributes_named (tree_nodes d) local n) ∙ attributes-are local n))
      ∙ sym (any-map (looks_for test) (λ m. trimmed (string_at (tree_nodes d) m)) (attributes_named (tree_nodes d) local n ++ [])))

  abbrev guard_of : List (Option ℕ) → Leaf → Test → FoundGuard
  guard_of path leaf test = record { path = path; leaf = found_leaf d leaf; test = test }

  below-is : (whole : List (Option ℕ)) (leaf : Leaf) (test : Test) (path : List ElementName) (n : ℕ)
      → some_below d (guard_of whole leaf test) (map (found_element d) path) n ≡ list_any (looks_for test) (strings leaf (elements_below (tree_nodes d) path n))
  below-is whole leaf test [] n = leaf-is test leaf n
  below-is whole leaf test (name ∷ path) n =
      let deeper : ℕ → Bool = λ m. some_below d (guard_of whole leaf test) (map (found_element d) path) m in
      let seen : ℕ → Bool = λ m. list_any (looks_for test) (strings leaf (elements_below (tree_nodes d) path m)) in
      any-filter (is_found (found_element d name)) deeper (children d n)
      ∙ (ap (list_any deeper) (sym (children-are name n))
      ∙ (any-agree deeper seen (children_named (tree_nodes d) name n) (each (children_named (tree_nodes d) name n) (below-is whole leaf test path))
      ∙ sym (any-strings (looks_for test) leaf (elements_below (tree_nodes d) path) (children_named (tree_nodes d) name n))))
    where
      each : (ns : List ℕ) → ((m : ℕ) → some_below d (guard_of whole leaf test) (map (found_element d) path) m
          ≡ list_any (looks_for test) (strings leaf (elements_below (tree_nodes d) path m)))
          → Every (λ m. some_below d (guard_of whole leaf test) (map (found_element d) path) m
          ≡ list_any (looks_for test) (strings leaf (elements_below (tree_nodes d) path m))) ns
      each [] h = tt
      each (m ∷ ns) h = (h m, each ns h)

  passes-is : (test : Test) (ss : List (List ℕ)) → same_flag (is_positive test) (list_any (looks_for test) ss) ≡ passes test ss
  passes-is (tests.OneOf texts) ss = refl
  passes-is (tests.NoneOf texts) ss = refl
  passes-is tests.Present ss = refl
  passes-is tests.Absent ss = refl

  guard-is : (guard : Guard) (n : ℕ) → found.is_met d n (found_guard d guard) ≡ is_met (tree_nodes d) n guard
  guard-is guard n =
      ap (same_flag (is_positive guard.test)) (below-is (map (found_element d) guard.place.path) guard.place.leaf guard.test guard.place.path n)
      ∙ passes-is guard.test (strings guard.place.leaf (elements_below (tree_nodes d) guard.place.path n))

  pub guards-are : (guards : List Guard) (n : ℕ) → list_all (found.is_met d n) (map (found_guard d) guards) ≡ are_met (tree_nodes d) guards n
  guards-are [] n = refl
  guards-are (guard ∷ guards) n =
      ap (λ b. b && list_all (found.is_met d n) (map (found_guard d) guards)) (guard-is guard n)
      ∙ (ap (λ b. is_met (tree_nodes d) n guard && b) (guards-are guards n) ∙ at (is_met (tree_nodes d) n guard) (are_met (tree_nodes d) guards n))
    where
      at : (a b : Bool) → (a && b) ≡ (elim a as (λ _. Bool) [ true ↦ b | false ↦ false ])
      at true b = refl
      at false b = refl

  -- ---- rows

  abbrev named_row : ℕ → Wanted → Row → List ℕ → FoundRow
  named_row k w row local = record { number = k + 1; wanted = w; end = ends.Attribute; attribute = local_name local; outer = row.outer; inner = row.inner }

  attributes-found : (around : List Carried) (n k : ℕ) (w : Wanted) (row : Row) (local : List ℕ)
      → found_attributes d around n (named_row k w row local)
      ≡ map (find_at around (k + 1) row w) (filled (tree_nodes d) (attributes_named (tree_nodes d) local n))
  attributes-found around n k w row local =
      dark-filter (is_found (local_name local)) (λ m. is_blank (string_at (tree_nodes d) m)) (find_at around (k + 1) row w) (attributes d n)
      ∙ ap (λ ns. map (find_at around (k + 1) row w) (filled (tree_nodes d) ns)) (sym (attributes-are local n))

  abbrev cut : {X : Type 0} → Bool → List X → List X
  cut b xs = elim b [ true ↦ [] | false ↦ xs ]

  none-cut : (b : Bool) → cut {X = Find} b [] ≡ []
  none-cut true = refl
  none-cut false = refl

  abbrev leaf_nodes : Bool → ℕ → Leaf → List ℕ
  leaf_nodes b n leaves.Element = cond (not b) (n ∷ []) []
  leaf_nodes b n (leaves.Attribute local) = flat_map (λ m. filled (tree_nodes d) (attributes_named (tree_nodes d) local m)) (cond (not b) (n ∷ []) [])

  leaf-nodes : (n : ℕ) (leaf : Leaf) → leaf_nodes (is_blank (string_at (tree_nodes d) n)) n leaf ≡ leaves_of (tree_nodes d) leaf n
  leaf-nodes n leaves.Element = refl
  leaf-nodes n (leaves.Attribute local) = refl

  -- the row with the end that a leaf has
  abbrev leaf_row : ℕ → Wanted → Row → Leaf → FoundRow
  leaf_row k w row leaf = record {
    number = k + 1;
    wanted = w;
    end = end_at (found_leaf d leaf);
    attribute = attribute_at (found_leaf d leaf);
    outer = row.outer;
    inner = row.inner;
  }

  leaf-row : (around : List Carried) (n k : ℕ) (row : Row) (w : Wanted) (leaf : Leaf) (b : Bool)
      → cut b (flat_map (found_in_row d around n) (leaf_row k w row leaf ∷ [])) ≡ map (find_at around (k + 1) row w) (leaf_nodes b n leaf)
  leaf-row around n k row w leaves.Element true = refl
  leaf-row around n k row w leaves.Element false = refl
  leaf-row around n k row w (leaves.Attribute local) true = refl
  leaf-row around n k row w (leaves.Attribute local) false =
      let ns = filled (tree_nodes d) (attributes_named (tree_nodes d) local n) in
      append-nil (found_attributes d around n (named_row k w row local))
      ∙ (attributes-found around n k w row local ∙ ap (map (find_at around (k + 1) row w)) (sym (append-nil ns)))

  row-is : (around : List Carried) (n k : ℕ) (row : Row) (w : Option Wanted)
      → cut (is_blank (string_at (tree_nodes d) n)) (flat_map (found_in_row d around n) (row_for d k row w)) ≡ told_for d around (k + 1) row n w
  row-is around n k row None = none-cut (is_blank (string_at (tree_nodes d) n))
  row-is around n k row (Some w) =
      leaf-row around n k row w row.leaf (is_blank (string_at (tree_nodes d) n)) ∙ ap (map (find_at around (k + 1) row w)) (leaf-nodes n row.leaf)

  cut-append : {X : Type 0} (b : Bool) (xs ys : List X) → cut b (xs ++ ys) ≡ cut b xs ++ cut b ys
  cut-append true xs ys = refl
  cut-append false xs ys = refl

  cells-are : (around : List Carried) (n : ℕ) (cells : List Cell)
      → cut (is_blank (string_at (tree_nodes d) n)) (flat_map (found_in_row d around n) (flat_map (found_cell d) cells))
      ≡ flat_map (λ cell. told d cell around n) cells
  cells-are around n [] = none-cut (is_blank (string_at (tree_nodes d) n))
  cells-are around n (cell ∷ cells) =
      let b = is_blank (string_at (tree_nodes d) n) in
      let f = found_in_row d around n in
      ap (cut b) (flat_map-append f (found_cell d cell) (flat_map (found_cell d) cells))
      ∙ (cut-append b (flat_map f (found_cell d cell)) (flat_map f (flat_map (found_cell d) cells))
      ∙ (ap (λ xs. xs ++ cut b (flat_map f (flat_map (found_cell d) cells))) (row-is around n cell.number cell.row (wanted cell.row))
      ∙ ap (λ xs. told d cell around n ++ xs) (cells-are around n cells)))

  -- ---- a line beside its step

  around-is : (group : Option Group) (n : ℕ) (around : List Carried) → around_in group n around ≡ entered (sight d).enter group n around
  around-is None n around = refl
  around-is (Some group) n around = refl

  abbrev inside_of : List Cell → Plan → List Carried → ℕ → List Find
  inside_of cells inside around n = here (sight d) cells around n ++ walked (sight d) inside around n

  pub leads-alike : LeadsAlike d
  leads-alike s cells inside around n =
      let line = line_of d s cells inside in
      let has : ℕ → Bool = is_found (found_element d s.name) in
      let met_found : ℕ → Bool = λ m. list_all (found.is_met d m) (map (found_guard d) s.guards) in
      let into : ℕ → List Find = λ m. inside_of cells inside (entered (sight d).enter s.group m around) m in
      map-agree (entered_in d line inside around) (if_both has met_found into) (children d n) (each (children d n))
      ∙ (flat-filter has met_found into (children d n)
      ∙ (ap (λ ns. flat_map into (filter met_found ns)) (sym (children-are s.name n))
      ∙ ap (flat_map into) (same-filter met_found (are_met (tree_nodes d) s.guards) (guards-are s.guards) (children_named (tree_nodes d) s.name n))))
    where
      same-filter : (p q : ℕ → Bool) → ((m : ℕ) → p m ≡ q m) → (ns : List ℕ) → filter p ns ≡ filter q ns
      same-filter p q h [] = refl
      same-filter p q h (m ∷ ns) = ap (λ b. cond b (m ∷ filter p ns) (filter p ns)) (h m) ∙ ap (λ ms. cond (q m) (m ∷ ms) ms) (same-filter p q h ns)

      one : (m : ℕ) → entered_in d (line_of d s cells inside) inside around m
          ≡ if_both (is_found (found_element d s.name)) (λ m. list_all (found.is_met d m) (map (found_guard d) s.guards))
          (λ m. inside_of cells inside (entered (sight d).enter s.group m around) m) m
      one m =
          let test = is_of d (line_of d s cells inside) m in
          ap (λ xs. elim test as (λ _. List Find) [ true ↦ xs | false ↦ [] ])
          (ap (λ c. found_in d (line_of d s cells inside) inside c m) (around-is s.group m around)
          ∙ ap (λ xs. xs ++ walked (sight d) inside (entered (sight d).enter s.group m around) m)
          (cells-are (entered (sight d).enter s.group m around) m cells))

      each : (ns : List ℕ) → Every (λ m. entered_in d (line_of d s cells inside) inside around m
          ≡ if_both (is_found (found_element d s.name)) (λ m. list_all (found.is_met d m) (map (found_guard d) s.guards))
          (λ m. inside_of cells inside (entered (sight d).enter s.group m around) m) m) ns
      each [] = tt
      each (m ∷ ns) = (one m, each ns)
