-- What is noted in one pass over the nodes is what is unread, and what is misplaced.
use Rattle.std.proofs.Common.{◌≡◌, ℕ, zero, suc, ◌+◌, ◌-◌, ◌<◌, ◌≤◌, max, Bool, true, false, cond, List, [], ◌∷◌, ◌++◌, length, take, drop, get_or}
use Rattle.std.proofs.Common.{Option, Some, None, refl, ap, sym, ◌∙◌, subst, arith, append_assoc, length-append, inl, inr}
use Rattle.std.specs.Prelude.{filter, map, option_map, not, ◌&&◌, ◌||◌, ◌==◌, nat_lt}
use Rattle.std.specs.List.{flat_map, list_any}
use Rattle.std.proofs.lemmas.List.{append-nil, take_at, take_more, take_all, get_or-map, get_or-take, length-map, length-take}
use Rattle.std.proofs.lemmas.List.Folds.{list_all-append}
use Rattle.std.proofs.lemmas.Bool.{false≢true, lt-ltb, le-ltb, ltb-true, ltb-false, eqb-true, eq-eqb, and_parts, or_cases}
use Rattle.std.proofs.Math.Seq.{get_or-append_seam}
use Rattle.inv_base.specs.declared.tree.Kind.{Kind}
use Rattle.inv_base.specs.declared.tree.Kind.TheVariants as kinds
use Rattle.inv_base.specs.Tree.{Name, Node, is_among, is_text}
use Rattle.inv_terms.specs.Values.{is_blank}
use Rattle.xml_events.specs.Events.{name_at}
use Rattle.node_arena.specs.Document.{Document, document_node, node_at}
use Rattle.node_arena.specs.Moves.{node_of, tree_nodes, tree_node, is_attribute, is_child, is_nearest, nearest, parent}
use Rattle.bind_rows.specs.Added.{built}
use Rattle.bind_rows.specs.declared.rows.Row.{Row}
use Rattle.bind_table.specs.Lines.{plan_of}
use Rattle.bind_meaning.specs.Elements.{both, is_element, is_element_kind}
use Rattle.bind_meaning.specs.Losses.{is_behind_a_greater, is_greater, is_misplaced, is_of_schema, is_unread, least_place, lesser}
use Rattle.bind_meaning.specs.Losses.{misplaced_nodes, own_text, place_of, stands_too_early, unread_nodes}
use Rattle.bind_meaning.specs.Said.{is_said, said_nodes}
use Rattle.bind_meaning.specs.Terms.{is_on_a_way, way_to}
use Rattle.bind_walk.specs.Chains.{number}
use Rattle.bind_walk.specs.declared.lines.FoundLine.{FoundLine}
use Rattle.bind_walk.specs.declared.passed.Arrived.{Arrived}
use Rattle.bind_walk.specs.declared.passed.Opened.{Opened}
use Rattle.bind_walk.specs.declared.passed.Span.{Span}
use Rattle.bind_walk.specs.Lines.{lined}
use Rattle.bind_walk.specs.Passing.{Inside, least_of, path_of, state, roots_of, SpansOf, OnWay, Stands, IsBefore, IsReached, Begins, LeadsThrough}
use Rattle.bind_walk.specs.Passing.{gate, place_before, some_of, one_if}
use Rattle.bind_walk.specs.Losing.{is_full_text, has_full_text, is_full_value, speaks_of_schema, unread_of, unread_by}
use Rattle.bind_walk.specs.Losing.{least_before, greater, is_late, greatest_in, greatest, tops}
use Rattle.bind_walk.proofs.FindLemmas.{from-places}
use Rattle.bind_walk.proofs.OrderLemmas.{From}
use Rattle.bind_walk.proofs.SortLemmas.{Every, every-at}
use Rattle.bind_walk.proofs.PassLemmas.{Noted, noted-first, noted-more, noted-all, spans-long, some-inside, stands-begin}
use Rattle.bind_walk.proofs.PlaceLemmas.{lesser-none, lesser-assoc}

-- ---- tests

or-parts : (a b : Bool) → (a || b) ≡ false → (a ≡ false) × (b ≡ false)
or-parts true b e = absurd (false≢true (sym e))
or-parts false b e = (refl, e)

and-false : (b : Bool) → (b && false) ≡ false
and-false true = refl
and-false false = refl

or-none : (b : Bool) → b ≡ (b || false)
or-none true = refl
or-none false = refl

and-turn : (a b c : Bool) → (a && (b && c)) ≡ (a && (c && b))
and-turn false b c = refl
and-turn true true true = refl
and-turn true true false = refl
and-turn true false true = refl
and-turn true false false = refl

and-mixed : (a s t x : Bool) → (a && (s && (t && x))) ≡ ((a && x) && (t && s))
and-mixed false s t x = refl
and-mixed true true true true = refl
and-mixed true true true false = refl
and-mixed true true false true = refl
and-mixed true true false false = refl
and-mixed true false true true = refl
and-mixed true false true false = refl
and-mixed true false false true = refl
and-mixed true false false false = refl

-- ---- the greater of two places

abbrev pick : Bool → ℕ → ℕ → Option ℕ
pick b x y = elim b [ true ↦ Some x | false ↦ Some y ]

greater-max : (a b : ℕ) → greater (Some a) (Some b) ≡ Some (max a b)
greater-max a b = at (nat_lt a b) refl
  where
    at : (c : Bool) → nat_lt a b ≡ c → pick c b a ≡ Some (max a b)
    at true e = ap Some (let l = ltb-true a b e in let m : b ≡ max a b = omega (arith, l) in m)
    at false e = ap Some (let l = ltb-false a b e in let m : a ≡ max a b = omega (arith, l) in m)

greater-none : (a : Option ℕ) → a ≡ greater a None
greater-none None = refl
greater-none (Some a) = refl

greater-assoc : (a b c : Option ℕ) → greater a (greater b c) ≡ greater (greater a b) c
greater-assoc None b c = refl
greater-assoc (Some a) None c = refl
greater-assoc (Some a) (Some b) None = greater-none (greater (Some a) (Some b))
greater-assoc (Some a) (Some b) (Some c) =
    ap (greater (Some a)) (greater-max b c) ∙ (greater-max a (max b c)
    ∙ (ap Some (let e : max a (max b c) ≡ max (max a b) c = omega arith in e)
    ∙ (sym (greater-max (max a b) c) ∙ ap (λ x. greater x (Some c)) (sym (greater-max a b)))))

lt-max : (a b c : ℕ) → nat_lt a (max b c) ≡ (nat_lt a b || nat_lt a c)
lt-max a b c = at (nat_lt a b) refl
  where
    at : (x : Bool) → nat_lt a b ≡ x → nat_lt a (max b c) ≡ (x || nat_lt a c)
    at true e = lt-ltb a (max b c) (let l = ltb-true a b e in omega (arith, l))
    at false e = let l = ltb-false a b e in below (nat_lt a c) refl l
      where
        below : (y : Bool) → nat_lt a c ≡ y → b ≤ a → nat_lt a (max b c) ≡ nat_lt a c
        below true f l = lt-ltb a (max b c) (let k = ltb-true a c f in omega (arith, k)) ∙ sym f
        below false f l = le-ltb a (max b c) (let k = ltb-false a c f in omega (arith, k, l)) ∙ sym f

is_greater-greater : (a : ℕ) (x y : Option ℕ) → is_greater a (greater x y) ≡ (is_greater a x || is_greater a y)
is_greater-greater a None y = refl
is_greater-greater a (Some b) None = or-none (nat_lt a b)
is_greater-greater a (Some b) (Some c) = ap (is_greater a) (greater-max b c) ∙ lt-max a b c

is_greater-gate : (a : ℕ) (b : Bool) (x : Option ℕ) → is_greater a (gate b x) ≡ (b && is_greater a x)
is_greater-gate a true x = refl
is_greater-gate a false x = refl

gate-elim : (b : Bool) (x : Option ℕ) → gate b x ≡ (elim b as (λ _. Option ℕ) [ true ↦ x | false ↦ None ])
gate-elim true x = refl
gate-elim false x = refl

-- ---- several nodes, the first of this number

module _ (c t : Node → Bool) (m : ℕ) where
  none-before : (n : ℕ) (xs : List Node) → m ≤ n → From n xs → list_any (λ (o : Node). c o && (nat_lt o.number m && t o)) xs ≡ false
  none-before n [] l h = refl
  none-before n (x ∷ xs) l h =
      let late : nat_lt x.number m ≡ false = le-ltb x.number m (let e = h.0 in omega (arith, e, l)) in
      ap (λ b. (c x && (b && t x)) || list_any (λ (o : Node). c o && (nat_lt o.number m && t o)) xs) late
      ∙ (ap (λ b. b || list_any (λ (o : Node). c o && (nat_lt o.number m && t o)) xs) (and-false (c x))
      ∙ none-before (n + 1) xs (omega (arith, l)) h.1)

  any-before : (n k : ℕ) (xs : List Node) → m ≡ n + k → From n xs
      → list_any (λ (o : Node). c o && (nat_lt o.number m && t o)) xs ≡ list_any (λ (o : Node). c o && t o) (take k xs)
  any-before n zero xs e h = none-before n xs (omega (arith, e)) h
  any-before n (suc k) [] e h = refl
  any-before n (suc k) (x ∷ xs) e h =
      let early : nat_lt x.number m ≡ true = lt-ltb x.number m (let f = h.0 in omega (arith, e, f)) in
      ap (λ b. (c x && (b && t x)) || list_any (λ (o : Node). c o && (nat_lt o.number m && t o)) xs) early
      ∙ ap (λ b. (c x && t x) || b) (any-before (n + 1) k xs (omega (arith, e)) h.1)

-- ---- texts

full-append : (a b : List ℕ) → not (is_blank (a ++ b)) ≡ (not (is_blank a) || not (is_blank b))
full-append a b = ap not (list_all-append _ a b) ∙ at (is_blank a) (is_blank b)
  where
    at : (x y : Bool) → not (x && y) ≡ (not x || not y)
    at true y = refl
    at false y = refl

module _ (d : Document) (n : ℕ) where
  texts-full : (xs : List Node) → Every (λ (x : Node). is_full_text d x.number ≡ (is_text x && not (is_blank x.text))) xs
      → list_any (is_full_text d) (map number (filter (is_child n) xs))
      ≡ not (is_blank (flat_map (λ (inner : Node). inner.text) (filter (both is_text (is_child n)) xs)))
  texts-full [] h = refl
  texts-full (x ∷ xs) h = at (is_child n x) (is_text x) h.0 (texts-full xs h.1)
    where
      at : (c t : Bool) → is_full_text d x.number ≡ (t && not (is_blank x.text))
          → list_any (is_full_text d) (map number (filter (is_child n) xs))
          ≡ not (is_blank (flat_map (λ (inner : Node). inner.text) (filter (both is_text (is_child n)) xs)))
          → list_any (is_full_text d) (map number (cond c (x ∷ filter (is_child n) xs) (filter (is_child n) xs)))
          ≡ not (is_blank (flat_map (λ (inner : Node). inner.text)
          (cond (elim t as (λ _. Bool) [ true ↦ c | false ↦ false ]) (x ∷ filter (both is_text (is_child n)) xs) (filter (both is_text (is_child n)) xs))))
      at true true e rest =
          ap (λ b. b || list_any (is_full_text d) (map number (filter (is_child n) xs))) e
          ∙ (ap (λ b. not (is_blank x.text) || b) rest
          ∙ sym (full-append x.text (flat_map (λ (inner : Node). inner.text) (filter (both is_text (is_child n)) xs))))
      at true false e rest = ap (λ b. b || list_any (is_full_text d) (map number (filter (is_child n) xs))) e ∙ rest
      at false true e rest = rest
      at false false e rest = rest

-- ---- a document's nodes

schema-is : (names : List Name) (o : Option ℕ) → speaks_of_schema names o ≡ is_of_schema (option_map (name_at names) o)
schema-is names None = refl
schema-is names (Some name) = refl

abbrev dark : Node
dark = record { number = 0; kind = kinds.Document; name = None; above = []; text = [] }

module _ (d : Document) where
  long : length (tree_nodes d) ≡ length d.nodes
  long = length-map d.nodes (node_of d.names)

  tree-is : (m : ℕ) → m < length d.nodes → tree_node (tree_nodes d) m ≡ node_of d.names (node_at d.nodes m)
  tree-is m within = get_or-map (node_of d.names) d.nodes m document_node _ within

  module _ (through : LeadsThrough d) (rows : List Row) where
    all-full : Every (λ (x : Node). is_full_text d x.number ≡ (is_text x && not (is_blank x.text))) (tree_nodes d)
    all-full = every-at (λ (x : Node). is_full_text d x.number ≡ (is_text x && not (is_blank x.text))) (tree_nodes d) dark
        (λ j l. let within : j < length d.nodes = omega (arith, l, long) in
        ap (is_full_text d) (through.numbers j within) ∙ ap (λ (x : Node). is_text x && not (is_blank x.text)) (sym (tree-is j within)))

    -- ---- unread

    by-kind : (k : Kind) (around inside said schema : Bool) (joined text : List ℕ)
        → unread_of k around inside said (not (is_blank joined)) (not (is_blank text) && not schema)
        ≡ ((elim k as (λ _. Bool) [ kinds.Document ↦ false | kinds.Element ↦ inside | kinds.Attribute ↦ around && not schema | kinds.Text ↦ false ])
        && (not (is_blank (elim k as (λ _. List ℕ) [ kinds.Document ↦ [] | kinds.Element ↦ joined | kinds.Attribute ↦ text | kinds.Text ↦ text ]))
        && not said))
    by-kind kinds.Document around inside said schema joined text = refl
    by-kind kinds.Element around inside said schema joined text = and-turn inside (not said) (not (is_blank joined))
    by-kind kinds.Attribute around inside said schema joined text = and-mixed around (not said) (not (is_blank text)) (not schema)
    by-kind kinds.Text around inside said schema joined text = refl

    unread-is : (m : ℕ) (around inside said : Bool) → m < length d.nodes
        → around ≡ is_on_a_way (tree_nodes d) rows (way_to (tree_node (tree_nodes d) m).above)
        → inside ≡ is_on_a_way (tree_nodes d) rows (way_to ((tree_node (tree_nodes d) m).number ∷ (tree_node (tree_nodes d) m).above))
        → said ≡ is_said (tree_nodes d) rows (tree_node (tree_nodes d) m).number
        → unread_by d around inside said m ≡ is_unread (tree_nodes d) rows (tree_node (tree_nodes d) m)
    unread-is m around inside said within around_is inside_is said_is =
        let nodes : List Node = tree_nodes d in
        let node : Node = tree_node nodes m in
        let whole : List ℕ = flat_map (λ (inner : Node). inner.text) (filter (both is_text (is_child node.number)) nodes) in
        let kind_is : (node_at d.nodes m).kind ≡ node.kind = ap (λ (x : Node). x.kind) (sym (tree-is m within)) in
        let text_is : (node_at d.nodes m).text ≡ node.text = ap (λ (x : Node). x.text) (sym (tree-is m within)) in
        let full_is : has_full_text d m ≡ not (is_blank whole) =
        ap (has_full_text d) (sym (through.numbers m within)) ∙ texts-full d node.number nodes all-full in
        let name_is : speaks_of_schema d.names (node_at d.nodes m).name ≡ is_of_schema node.name =
        schema-is d.names (node_at d.nodes m).name ∙ ap (λ (x : Node). is_of_schema x.name) (sym (tree-is m within)) in
        let value_is : is_full_value d m ≡ (not (is_blank node.text) && not (is_of_schema node.name)) =
        ap (λ t. not (is_blank t) && not (speaks_of_schema d.names (node_at d.nodes m).name)) text_is
        ∙ ap (λ b. not (is_blank node.text) && not b) name_is in
        ap (λ k. unread_of k around inside said (has_full_text d m) (is_full_value d m)) kind_is
        ∙ (ap (λ b. unread_of node.kind b inside said (has_full_text d m) (is_full_value d m)) around_is
        ∙ (ap (λ b. unread_of node.kind (is_on_a_way nodes rows (way_to node.above)) b said (has_full_text d m) (is_full_value d m)) inside_is
        ∙ (ap (λ b. unread_of node.kind (is_on_a_way nodes rows (way_to node.above)) (is_on_a_way nodes rows (way_to (node.number ∷ node.above))) b
        (has_full_text d m) (is_full_value d m)) said_is
        ∙ (ap (λ b. unread_of node.kind (is_on_a_way nodes rows (way_to node.above)) (is_on_a_way nodes rows (way_to (node.number ∷ node.above)))
        (is_said nodes rows node.number) b (is_full_value d m)) full_is
        ∙ (ap (unread_of node.kind (is_on_a_way nodes rows (way_to node.above)) (is_on_a_way nodes rows (way_to (node.number ∷ node.above)))
        (is_said nodes rows node.number) (not (is_blank whole))) value_is
        ∙ by-kind node.kind (is_on_a_way nodes rows (way_to node.above)) (is_on_a_way nodes rows (way_to (node.number ∷ node.above)))
        (is_said nodes rows node.number) (is_of_schema node.name) whole node.text)))))

    -- ---- the greatest place

    any-greatest : (a p : ℕ) (xs : List Node)
        → list_any (λ (o : Node). is_child p o && is_greater a (place_of (tree_nodes d) rows o)) xs ≡ is_greater a (greatest_in (tree_nodes d) rows p xs)
    any-greatest a p [] = refl
    any-greatest a p (x ∷ xs) =
        ap (λ b. (is_child p x && is_greater a (place_of (tree_nodes d) rows x)) || b) (any-greatest a p xs)
        ∙ (ap (λ b. b || is_greater a (greatest_in (tree_nodes d) rows p xs)) (sym (is_greater-gate a (is_child p x) (place_of (tree_nodes d) rows x)))
        ∙ sym (is_greater-greater a (gate (is_child p x) (place_of (tree_nodes d) rows x)) (greatest_in (tree_nodes d) rows p xs)))

    one-greater : (p : ℕ) (xs : List Node) (x : Node) → greatest_in (tree_nodes d) rows p (xs ++ x ∷ [])
        ≡ greater (greatest_in (tree_nodes d) rows p xs) (gate (is_child p x) (place_of (tree_nodes d) rows x))
    one-greater p [] x = sym (greater-none (gate (is_child p x) (place_of (tree_nodes d) rows x)))
    one-greater p (y ∷ xs) x =
        let first = gate (is_child p y) (place_of (tree_nodes d) rows y) in
        ap (greater first) (one-greater p xs x)
        ∙ greater-assoc first (greatest_in (tree_nodes d) rows p xs) (gate (is_child p x) (place_of (tree_nodes d) rows x))

    greatest-more : (m p : ℕ) → m < length d.nodes → greatest d rows (m + 1) p
        ≡ greater (greatest d rows m p) (gate (is_child p (tree_node (tree_nodes d) m)) (place_of (tree_nodes d) rows (tree_node (tree_nodes d) m)))
    greatest-more m p within =
        ap (greatest_in (tree_nodes d) rows p) (take_more (tree_nodes d) m dark (omega (arith, within, long)))
        ∙ one-greater p (take m (tree_nodes d)) (tree_node (tree_nodes d) m)

    own-child : (k : Kind) (x : Option ℕ)
        → gate (not (elim k as (λ _. Bool) [ kinds.Document ↦ false | kinds.Element ↦ false | kinds.Attribute ↦ true | kinds.Text ↦ false ]))
        (elim (is_element_kind k) as (λ _. Option ℕ) [ true ↦ x | false ↦ None ])
        ≡ (elim (is_element_kind k) as (λ _. Option ℕ) [ true ↦ x | false ↦ None ])
    own-child kinds.Document x = refl
    own-child kinds.Element x = refl
    own-child kinds.Attribute x = refl
    own-child kinds.Text x = refl

    -- of the node around, and of those that a node isn't right inside
    greatest-around : (m p : ℕ) (above : List ℕ) → m < length d.nodes → (tree_node (tree_nodes d) m).above ≡ p ∷ above
        → greatest d rows (m + 1) p ≡ greater (greatest d rows m p) (place_of (tree_nodes d) rows (tree_node (tree_nodes d) m))
    greatest-around m p above within up =
        let node : Node = tree_node (tree_nodes d) m in
        let nearest_is : is_nearest p node.above ≡ true = ap (is_nearest p) up ∙ eq-eqb p p refl in
        greatest-more m p within
        ∙ ap (greater (greatest d rows m p)) (ap (λ b. gate (b && not (is_attribute node)) (place_of (tree_nodes d) rows node)) nearest_is
        ∙ own-child node.kind (least_place (tree_nodes d) (built rows) (way_to (node.number ∷ node.above))))

    greatest-apart : (m p k : ℕ) (above : List ℕ) → m < length d.nodes → (tree_node (tree_nodes d) m).above ≡ p ∷ above → (p == k) ≡ false
        → greatest d rows (m + 1) k ≡ greatest d rows m k
    greatest-apart m p k above within up other =
        let node : Node = tree_node (tree_nodes d) m in
        let nearest_is : is_nearest k node.above ≡ false = ap (is_nearest k) up ∙ other in
        greatest-more m k within
        ∙ (ap (λ b. greater (greatest d rows m k) (gate (b && not (is_attribute node)) (place_of (tree_nodes d) rows node))) nearest_is
        ∙ sym (greater-none (greatest d rows m k)))

    -- no child of a node comes before it
    none-greatest : (p : ℕ) (xs : List Node) → Every (λ (x : Node). is_child p x ≡ false) xs → greatest_in (tree_nodes d) rows p xs ≡ None
    none-greatest p [] h = refl
    none-greatest p (x ∷ xs) h =
        ap (λ b. greater (gate b (place_of (tree_nodes d) rows x)) (greatest_in (tree_nodes d) rows p xs)) h.0 ∙ none-greatest p xs h.1

    near-among : (p : ℕ) (above : List ℕ) → is_nearest p above ≡ true → is_among p above ≡ true
    near-among p [] h = h
    near-among p (k ∷ above) h = ap (λ b. b || is_among p above) (eq-eqb p k (sym (eqb-true k p h)))

    no-child : (m j : ℕ) → m < length d.nodes → j < m + 1 → (b : Bool) → is_child m (tree_node (tree_nodes d) j) ≡ b → b ≡ false
    no-child m j within below false e = refl
    no-child m j within below true e =
        let node : Node = tree_node (tree_nodes d) j in
        let near = (and_parts (is_nearest m node.above) (not (is_attribute node)) e).0 in
        let behind = through.inner m j within (omega (arith, within, below)) (near-among m node.above near) in
        absurd (omega (arith, below, behind))

    greatest-new : (m : ℕ) → m < length d.nodes → greatest d rows (m + 1) m ≡ None
    greatest-new m within = none-greatest m (take (m + 1) (tree_nodes d))
        (every-at (λ (x : Node). is_child m x ≡ false) (take (m + 1) (tree_nodes d)) dark (λ j l.
        let short = length-take (m + 1) (tree_nodes d) in
        let below : j < m + 1 = omega (arith, l, short) in
        ap (is_child m) (get_or-take (m + 1) (tree_nodes d) j dark below)
        ∙ no-child m j within below (is_child m (tree_node (tree_nodes d) j)) refl))

    -- ---- the greatest places of the nodes of a path

    tops-long : (count : ℕ) (path : List ℕ) → length (tops d rows count path) ≡ length path
    tops-long count [] = refl
    tops-long count (k ∷ path) =
        let one = length-append (tops d rows count path) (greatest d rows count k ∷ []) in
        let rest = tops-long count path in
        omega (arith, one, rest)

    tops-append : (count : ℕ) (front path : List ℕ) → tops d rows count (front ++ path) ≡ tops d rows count path ++ tops d rows count front
    tops-append count [] path = sym (append-nil (tops d rows count path))
    tops-append count (k ∷ front) path =
        ap (λ xs. xs ++ greatest d rows count k ∷ []) (tops-append count front path)
        ∙ append_assoc (tops d rows count path) (tops d rows count front) (greatest d rows count k ∷ [])

    tops-apart : (m p : ℕ) (above path : List ℕ) → m < length d.nodes → (tree_node (tree_nodes d) m).above ≡ p ∷ above → is_among p path ≡ false
        → tops d rows (m + 1) path ≡ tops d rows m path
    tops-apart m p above [] within up others = refl
    tops-apart m p above (k ∷ path) within up others =
        let parts = or-parts (p == k) (is_among p path) others in
        ap (λ xs. xs ++ greatest d rows (m + 1) k ∷ []) (tops-apart m p above path within up parts.1)
        ∙ ap (λ x. tops d rows m path ++ x ∷ []) (greatest-apart m p k above within up parts.0)

    not-inside : (p : ℕ) → p < length d.nodes → (b : Bool) → is_among p (tree_node (tree_nodes d) p).above ≡ b → b ≡ false
    not-inside p within false e = refl
    not-inside p within true e = let l = through.inner p p within within e in absurd (omega (arith, l))

    -- ---- misplaced

    late-is : (m p : ℕ) (above : List ℕ) → m < length d.nodes → (tree_node (tree_nodes d) m).above ≡ p ∷ above → (place : Option ℕ)
        → is_late place (greatest d rows m p)
        ≡ (elim place as (λ _. Bool) [ None ↦ false | Some a ↦ is_behind_a_greater (tree_nodes d) rows (tree_node (tree_nodes d) m) a ])
    late-is m p above within up None = refl
    late-is m p above within up (Some a) =
        let nodes : List Node = tree_nodes d in
        let node : Node = tree_node nodes m in
        let numbered : From 0 nodes = from-places 0 nodes (λ k l. through.numbers k (omega (arith, l, long)) ∙ (let e : k ≡ 0 + k = omega arith in e)) in
        let test : Node → Bool = λ o. is_greater a (place_of nodes rows o) in
        sym (any-greatest a p (take m nodes))
        ∙ (sym (any-before (is_child p) test m 0 m nodes (let e : m ≡ 0 + m = omega arith in e) numbered)
        ∙ (ap (λ k. list_any (λ (o : Node). is_child p o && (nat_lt o.number k && test o)) nodes) (sym (through.numbers m within))
        ∙ ap (λ ns. elim ns as (λ _. Bool) [ [] ↦ false | (k ∷ others) ↦ list_any (stands_too_early nodes rows node k a) nodes ]) (sym up)))

-- ---- spans and places

module _ (d : Document) (lines : List FoundLine) where
  spans-drop : (spans : List Span) (xs : List Inside) (k : ℕ) → SpansOf d lines spans xs → SpansOf d lines (drop k spans) (drop k xs)
  spans-drop spans xs zero h = h
  spans-drop [] [] (suc k) h = tt
  spans-drop [] (x ∷ xs) (suc k) h = absurd h
  spans-drop (s ∷ spans) [] (suc k) h = absurd h
  spans-drop (s ∷ spans) (x ∷ xs) (suc k) h = spans-drop spans xs k h.1

  places-are : (spans : List Span) (xs : List Inside) → SpansOf d lines spans xs → least_before lines spans ≡ least_of xs
  places-are [] [] h = refl
  places-are [] (x ∷ xs) h = absurd h
  places-are (s ∷ spans) [] h = absurd h
  places-are (s ∷ spans) (x ∷ xs) h = ap (λ p. lesser p (least_before lines spans)) h.0.placed ∙ ap (lesser x.place) (places-are spans xs h.1)

  pub reached_part : (roots : List Inside) (spans : List Span) (way : List Opened) (m : ℕ) (arrived : Arrived) → IsReached d lines roots spans way m arrived
      → arrived.inside.from ≤ length spans
  reached_part roots spans way m arrived r = let a = r.inside_is.ordered in let b = r.ends in omega (arith, a, b)

  place-is : LeadsThrough d → (rows : List Row) (spans : List Span) (way : List Opened) (m : ℕ) (arrived : Arrived) → m < length d.nodes
      → IsReached d lines (roots_of rows) spans way m arrived
      → gate (is_element_kind (node_at d.nodes m).kind) (least_before lines (drop arrived.inside.from spans))
      ≡ place_of (tree_nodes d) rows (tree_node (tree_nodes d) m)
  place-is through rows spans way m arrived within r =
      let node : Node = tree_node (tree_nodes d) m in
      let plans : List Inside = r.stands.plans in
      let from = arrived.inside.from in
      let same : length spans ≡ length plans = spans-long d lines spans plans r.stands.are in
      let own : drop from plans ≡ state d (roots_of rows) m =
      ap (drop from) (sym (take_all arrived.inside.to plans (let e = r.ends in omega (arith, e, same)))) ∙ r.inside_is.is in
      let least : least_before lines (drop from spans) ≡ least_place (tree_nodes d) (built rows) (way_to (node.number ∷ node.above)) =
      places-are (drop from spans) (drop from plans) (spans-drop spans plans from r.stands.are)
      ∙ (ap least_of own ∙ (through.least rows (way_to (m ∷ node.above))
      ∙ ap (λ k. least_place (tree_nodes d) (built rows) (way_to (k ∷ node.above))) (sym (through.numbers m within)))) in
      ap (λ b. gate b (least_before lines (drop from spans))) (sym (through.kinds_are m within))
      ∙ (ap (gate (is_element node)) least ∙ gate-elim (is_element node) (least_place (tree_nodes d) (built rows) (way_to (node.number ∷ node.above))))

  -- ---- ways

  way-long : (roots : List Inside) (way : List Opened) (plans : List Inside) (path : List ℕ) → OnWay d roots way plans path → length way ≡ length path
  way-long roots way plans [] on = ap length on
  way-long roots way plans (k ∷ path) on =
      let is = ap length on.2 ∙ length-append on.0 (record { node = k; from = length on.1 } ∷ []) in
      let rest = way-long roots on.0 on.1 path on.5 in
      omega (arith, is, rest)

  -- the path begins with nodes that were left, and goes on with the path of this one
  abbrev EndsWith : List ℕ → ℕ → Type 0
  EndsWith path p = (front : List ℕ) × (path ≡ front ++ path_of d p) × (p < length d.nodes)

  deeper : LeadsThrough d → (path : List ℕ) (q p : ℕ) → path ≡ (tree_node (tree_nodes d) q).above → q < length d.nodes → is_among p path ≡ true
      → ((j : ℕ) → path ≡ path_of d j → EndsWith path p) → EndsWith path p
  deeper through [] q p e within h next = absurd (false≢true h)
  deeper through (j ∷ path) q p e within h next = next j (e ∙ through.inside_one q j within (ap nearest (sym e)))

  suffix : LeadsThrough d → (roots : List Inside) (way : List Opened) (plans : List Inside) (path : List ℕ) (q p : ℕ) → path ≡ path_of d q
      → OnWay d roots way plans path → is_among p path ≡ true → EndsWith path p
  suffix through roots way plans [] q p e on h = absurd (false≢true h)
  suffix through roots way plans (k ∷ path) q p e on h =
      let head : k ≡ q = ap (λ xs. get_or xs 0 0) e in
      let tail : path ≡ (tree_node (tree_nodes d) q).above = ap (drop 1) e in
      let more : is_among p path ≡ true → EndsWith (k ∷ path) p = λ later.
      let w = deeper through path q p tail (subst (λ z. z < length d.nodes) head on.4) later
      (λ j e_j. suffix through roots on.0 on.1 path j p e_j on.5 later) in
      (k ∷ w.0, ap (λ xs. k ∷ xs) w.1, w.2) in
      elim (or_cases (p == k) (is_among p path) h) [
        | inl same ↦ (
          [],
          e ∙ ap (path_of d) (sym (eqb-true p k same ∙ head)),
          subst (λ z. z < length d.nodes) (sym (eqb-true p k same)) on.4,
        )
        | inr later ↦ more later
      ]

  -- ---- the pass

  pub record Losing (rows : List Row) (spans : List Span) (way : List Opened) (highest : List (Option ℕ)) (n : ℕ) (lost late : List ℕ) : Type 0 where
    pub within : n < length d.nodes
    pub stands : Stands d lines (roots_of rows) spans way n
    pub heights : highest ≡ tops d rows (n + 1) (path_of d n)
    pub unread : Noted d lines (is_unread (tree_nodes d) rows) n lost
    pub misplaced : Noted d lines (is_misplaced (tree_nodes d) rows) n late

  pub losing_begin : LeadsThrough d → (rows : List Row) (spans : List Span) (way : List Opened) (highest : List (Option ℕ)) (n : ℕ) (unread misplaced : List ℕ)
      → lines ≡ lined d (plan_of rows) → Begins n rows lines spans way → n ≡ 0 → highest ≡ None ∷ [] → unread ≡ [] → misplaced ≡ []
      → Losing rows spans way highest n unread misplaced
  losing_begin through rows spans way highest n unread misplaced is begins zero_is highest_is unread_is misplaced_is =
      let some : 0 < length d.nodes = let r = through.rooted in omega (arith, r) in
      let node : Node = tree_node (tree_nodes d) 0 in
      let none_unread : is_unread (tree_nodes d) rows node ≡ false = ap (λ k.
      (elim k as (λ _. Bool) [
        | kinds.Document ↦ false
        | kinds.Element ↦ is_on_a_way (tree_nodes d) rows (way_to (node.number ∷ node.above))
        | kinds.Attribute ↦ is_on_a_way (tree_nodes d) rows (way_to node.above) && not (is_of_schema node.name)
        | kinds.Text ↦ false
      ]) && (not (is_blank (own_text (tree_nodes d) node)) && not (is_said (tree_nodes d) rows node.number))) through.first in
      let none_misplaced : is_misplaced (tree_nodes d) rows node ≡ false = ap (λ b.
      elim (elim b as (λ _. Option ℕ) [ true ↦ least_place (tree_nodes d) (built rows) (way_to (node.number ∷ node.above)) | false ↦ None ])
      as (λ _. Bool) [ None ↦ false | Some place ↦ is_behind_a_greater (tree_nodes d) rows node place ]) through.no_element in
      let at_zero : Losing rows spans way (None ∷ []) 0 [] [] = record {
        within = some;
        stands = stands-begin d lines through rows spans way is (subst (λ k. Begins k rows lines spans way) zero_is begins);
        heights = ap (λ x. x ∷ []) (sym (greatest-new d through rows 0 some)) ∙ ap (λ above. tops d rows 1 (0 ∷ above)) (sym through.outermost);
        unread = noted-first d lines (is_unread (tree_nodes d) rows) some none_unread;
        misplaced = noted-first d lines (is_misplaced (tree_nodes d) rows) some none_misplaced;
      } in
      subst (λ us. Losing rows spans way highest n us misplaced) (sym unread_is)
      (subst (λ ms. Losing rows spans way highest n [] ms) (sym misplaced_is)
      (subst (λ hs. Losing rows spans way hs n [] []) (sym highest_is)
      (subst (λ k. Losing rows spans way (None ∷ []) k [] []) (sym zero_is) at_zero)))

  pub losing_before : (rows : List Row) (spans : List Span) (way : List Opened) (highest : List (Option ℕ)) (n : ℕ) (unread misplaced : List ℕ) (m : ℕ)
      → Losing rows spans way highest n unread misplaced → m ≡ n + 1 → IsBefore d lines (roots_of rows) spans way m
  losing_before rows spans way highest n unread misplaced m c m_is = record { last = n; is = m_is; stands = c.stands }

  -- the node around the next one, among the heights
  record Around (rows : List Row) (highest : List (Option ℕ)) (m above : ℕ) : Type 0 where
    pub p : ℕ
    pub front : List ℕ
    pub up : (tree_node (tree_nodes d) m).above ≡ path_of d p
    pub within : p < length d.nodes
    pub place : above ≡ length (tree_node (tree_nodes d) p).above
    pub heights : highest ≡ tops d rows m (tree_node (tree_nodes d) p).above ++ (greatest d rows m p ∷ tops d rows m front)

  around-next : LeadsThrough d → (rows : List Row) (spans : List Span) (way : List Opened) (highest : List (Option ℕ)) (n : ℕ) (unread misplaced : List ℕ)
      (m above : ℕ) (more_spans : List Span) (more_way : List Opened) (arrived : Arrived)
      → Losing rows spans way highest n unread misplaced → n + 1 < length d.nodes → m ≡ n + 1
      → IsReached d lines (roots_of rows) more_spans more_way m arrived → above ≡ length more_way - 2 → Around rows highest m above
  around-next through rows spans way highest n unread misplaced m above more_spans more_way arrived c below m_is r above_is =
      let here : m < length d.nodes = omega (arith, below, m_is) in
      let w = through.has_parent m (omega (arith, m_is)) here in
      let up : (tree_node (tree_nodes d) m).above ≡ path_of d w.0 = through.inside_one m w.0 here w.1 in
      let next = through.next n w.0 below (subst (λ k. parent (tree_nodes d) k ≡ Some w.0) m_is w.1) in
      let among : is_among w.0 (path_of d n) ≡ true = elim next [
        | inl same ↦ ap (λ b. b || is_among w.0 (tree_node (tree_nodes d) n).above) (eq-eqb w.0 n same)
        | inr inside ↦ ap (λ b. (w.0 == n) || b) inside ∙ or-true (w.0 == n)
      ] in
      let s = suffix through (roots_of rows) way c.stands.plans (path_of d n) n w.0 refl c.stands.on among in
      let own : List ℕ = (tree_node (tree_nodes d) w.0).above in
      let long_way = way-long (roots_of rows) more_way r.stands.plans (path_of d m) r.stands.on in
      let long_up = ap length up in
      record {
        p = w.0;
        front = s.0;
        up = up;
        within = s.2;
        place = omega (arith, above_is, long_way, long_up);
        heights = c.heights ∙ (ap (λ k. tops d rows k (path_of d n)) (sym m_is)
            ∙ (ap (tops d rows m) s.1
            ∙ (tops-append d through rows m s.0 (path_of d w.0)
            ∙ append_assoc (tops d rows m own) (greatest d rows m w.0 ∷ []) (tops d rows m s.0))));
      }
    where
      or-true : (b : Bool) → (b || true) ≡ true
      or-true true = refl
      or-true false = refl

  pub losing_room : LeadsThrough d → (rows : List Row) (spans : List Span) (way : List Opened) (highest : List (Option ℕ)) (n : ℕ) (unread misplaced : List ℕ)
      (m above : ℕ) (more_spans : List Span) (more_way : List Opened) (arrived : Arrived)
      → Losing rows spans way highest n unread misplaced → n + 1 < length d.nodes → m ≡ n + 1
      → IsReached d lines (roots_of rows) more_spans more_way m arrived → above ≡ length more_way - 2 → above < length highest
  losing_room through rows spans way highest n unread misplaced m above more_spans more_way arrived c below m_is r above_is =
      let a = around-next through rows spans way highest n unread misplaced m above more_spans more_way arrived c below m_is r above_is in
      let own : List ℕ = (tree_node (tree_nodes d) a.p).above in
      let whole = ap length a.heights ∙ length-append (tops d rows m own) (greatest d rows m a.p ∷ tops d rows m a.front) in
      let long_own = tops-long d through rows m own in
      let place = a.place in
      omega (arith, whole, long_own, place)

  pub losing_more : LeadsThrough d → (rows : List Row) (spans : List Span) (way : List Opened) (highest : List (Option ℕ)) (n : ℕ) (unread misplaced : List ℕ)
      (m above : ℕ) (more_spans : List Span) (more_way : List Opened) (arrived : Arrived) (place : Option ℕ) (late : Bool) (more_highest : List (Option ℕ))
      (said : List Bool) (said_here unread_here : Bool) (more_unread more_misplaced : List ℕ)
      → Losing rows spans way highest n unread misplaced → n + 1 < length d.nodes → m ≡ n + 1
      → IsReached d lines (roots_of rows) more_spans more_way m arrived → above ≡ length more_way - 2
      → place ≡ gate (is_element_kind (node_at d.nodes m).kind) (least_before lines (drop arrived.inside.from more_spans))
      → late ≡ is_late place (get_or highest above None)
      → more_highest ≡ (take above highest ++ greater (get_or highest above None) place ∷ []) ++ None ∷ []
      → said ≡ said_nodes (tree_nodes d) rows → said_here ≡ get_or said m false
      → unread_here ≡ unread_by d (some_of arrived.around) (some_of arrived.inside) said_here m
      → more_unread ≡ unread ++ one_if unread_here m → more_misplaced ≡ misplaced ++ one_if late m
      → Losing rows more_spans more_way more_highest m more_unread more_misplaced
  losing_more through rows spans way highest n unread misplaced m above more_spans more_way arrived place late more_highest said said_here unread_here
      more_unread more_misplaced c below m_is r above_is place_is late_is highest_is said_is said_here_is unread_here_is unread_is misplaced_is =
      let here : m < length d.nodes = omega (arith, below, m_is) in
      let nodes : List Node = tree_nodes d in
      let node : Node = tree_node nodes m in
      let a = around-next through rows spans way highest n unread misplaced m above more_spans more_way arrived c below m_is r above_is in
      let own : List ℕ = (tree_node nodes a.p).above in
      let before : List (Option ℕ) = tops d rows m own in
      let behind : List (Option ℕ) = greatest d rows m a.p ∷ tops d rows m a.front in
      let long_own : length before ≡ above = tops-long d through rows m own ∙ sym a.place in
      let placed : place ≡ place_of nodes rows node = place_is ∙ place-is through rows more_spans more_way m arrived here r in
      let top_is : get_or highest above None ≡ greatest d rows m a.p =
      ap (λ hs. get_or hs above None) a.heights
      ∙ (ap (λ k. get_or (before ++ behind) k None) (sym long_own)
      ∙ get_or-append_seam before (greatest d rows m a.p) (tops d rows m a.front) None) in
      let taken : take above highest ≡ before = ap (take above) a.heights ∙ take_at before behind above long_own in
      let apart : is_among a.p own ≡ false = not-inside d through rows a.p a.within (is_among a.p own) refl in
      let below_is : before ≡ tops d rows (m + 1) own = sym (tops-apart d through rows m a.p own own here a.up apart) in
      let grown : greater (greatest d rows m a.p) place ≡ greatest d rows (m + 1) a.p =
      ap (greater (greatest d rows m a.p)) placed ∙ sym (greatest-around d through rows m a.p own here a.up) in
      let stacked : more_highest ≡ tops d rows (m + 1) (path_of d m) =
      highest_is
      ∙ (ap (λ xs. (xs ++ greater (get_or highest above None) place ∷ []) ++ None ∷ []) (taken ∙ below_is)
      ∙ (ap (λ x. (tops d rows (m + 1) own ++ greater x place ∷ []) ++ None ∷ []) top_is
      ∙ (ap (λ x. (tops d rows (m + 1) own ++ x ∷ []) ++ None ∷ []) grown
      ∙ (ap (λ x. (tops d rows (m + 1) own ++ greatest d rows (m + 1) a.p ∷ []) ++ x ∷ []) (sym (greatest-new d through rows m here))
      ∙ ap (λ path. tops d rows (m + 1) path ++ greatest d rows (m + 1) m ∷ []) (sym a.up))))) in
      let late_here : late ≡ is_misplaced nodes rows node =
      late_is
      ∙ (ap (is_late place) top_is
      ∙ (ap (λ x. is_late x (greatest d rows m a.p)) placed
      ∙ late-is d through rows m a.p own here a.up (place_of nodes rows node))) in
      let said_of : said_here ≡ is_said nodes rows node.number =
      said_here_is ∙ (ap (λ xs. get_or xs m false) said_is
      ∙ get_or-map (λ (x : Node). is_said nodes rows x.number) nodes m dark false (let l = long d in omega (arith, here, l))) in
      let unread_of_it : unread_here ≡ is_unread nodes rows node =
      unread_here_is
      ∙ unread-is d through rows m (some_of arrived.around) (some_of arrived.inside) said_here here
      (r.around_is ∙ through.on_a_way rows (way_to node.above))
      (some-inside d lines through (roots_of rows) more_spans more_way m arrived here r ∙ through.on_a_way rows (way_to (node.number ∷ node.above))) said_of in
      record {
        within = here;
        stands = r.stands;
        heights = stacked;
        unread = noted-more d lines (is_unread nodes rows) through n m unread more_unread unread_here here m_is c.unread unread_of_it unread_is;
        misplaced = noted-more d lines (is_misplaced nodes rows) through n m misplaced more_misplaced late here m_is c.misplaced late_here misplaced_is;
      }

  pub losing_said : (rows : List Row) (said : List Bool) (n m : ℕ) → said ≡ said_nodes (tree_nodes d) rows → n + 1 < length d.nodes → m ≡ n + 1 → m < length said
  losing_said rows said n m said_is below m_is =
      let all = ap length said_is ∙ (length-map (tree_nodes d) (λ (x : Node). is_said (tree_nodes d) rows x.number) ∙ long d) in
      omega (arith, all, below, m_is)

  pub losing_unread : (rows : List Row) (spans : List Span) (way : List Opened) (highest : List (Option ℕ)) (n : ℕ) (unread misplaced : List ℕ)
      → Losing rows spans way highest n unread misplaced → (n + 1 < length d.nodes → ⊥) → unread ≡ unread_nodes (tree_nodes d) rows
  unfolding unread_nodes
  losing_unread rows spans way highest n unread misplaced c end = noted-all d lines (is_unread (tree_nodes d) rows) n unread c.unread end

  pub losing_misplaced : (rows : List Row) (spans : List Span) (way : List Opened) (highest : List (Option ℕ)) (n : ℕ) (unread misplaced : List ℕ)
      → Losing rows spans way highest n unread misplaced → (n + 1 < length d.nodes → ⊥) → misplaced ≡ misplaced_nodes (tree_nodes d) rows
  unfolding misplaced_nodes
  losing_misplaced rows spans way highest n unread misplaced c end = noted-all d lines (is_misplaced (tree_nodes d) rows) n misplaced c.misplaced end

-- ---- the least place, line by line

pub least_more : (lines : List FoundLine) (left behind : List Span) (span : Span) (least place next whole : Option ℕ)
    → lesser least (least_before lines left) ≡ whole → left ≡ span ∷ behind → place ≡ place_before lines span.from → next ≡ lesser least place
    → lesser next (least_before lines behind) ≡ whole
least_more lines left behind span least place next whole c left_is place_is next_is =
    ap (λ x. lesser x (least_before lines behind)) (next_is ∙ ap (lesser least) place_is)
    ∙ (sym (lesser-assoc least (place_before lines span.from) (least_before lines behind))
    ∙ (ap (λ xs. lesser least (least_before lines xs)) (sym left_is) ∙ c))

pub least_end : (lines : List FoundLine) (left : List Span) (least whole : Option ℕ) → lesser least (least_before lines left) ≡ whole → left ≡ [] → least ≡ whole
least_end lines left least whole c left_is = lesser-none least ∙ (ap (λ xs. lesser least (least_before lines xs)) (sym left_is) ∙ c)
