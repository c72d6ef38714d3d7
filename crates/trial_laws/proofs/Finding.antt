-- What expressions of paths find in a document of a tree, and which nodes a pattern of one name matches.
use Rattle.std.proofs.Common.{◌≡◌, ℕ, zero, suc, ◌<◌, Bool, true, false, not, ◌&&◌, ◌||◌, List, [], ◌∷◌, ◌++◌, length, get_or, map, filter, flat_map, Result}
use Rattle.std.proofs.Common.{Ok, Err, refl, sym, ap, ◌∙◌, arith, append-nil}
use Rattle.std.specs.Prelude.{◌==◌, if◌then◌else◌}
use Rattle.std.specs.List.{list_any, list_all}
use Rattle.std.proofs.lemmas.Bool.{false≢true}
use Rattle.std.proofs.lemmas.Bool.Decides.{nat_tests}
use Rattle.inv_base.specs.declared.tree.Kind.{Kind}
use Rattle.inv_base.specs.declared.tree.Kind.TheVariants as kinds
use Rattle.inv_base.specs.Tree.{Name, Node, is_among}
use Rattle.node_arena.specs.Moves.{tree_node, is_nearest, is_attribute, is_child, has_name}
use Rattle.xpath_grammar.specs.declared.step.Axis.TheVariants as a
use Rattle.xpath_grammar.specs.declared.step.KindTest.TheVariants as q
use Rattle.xpath_items.specs.declared.item.Item.{Item}
use Rattle.xpath_items.specs.declared.item.Item.TheVariants as i
use Rattle.xpath_items.specs.declared.outcome.DynError.{DynError}
use Rattle.xpath_items.specs.declared.outcome.DynError.TheVariants as e
use Rattle.xpath_meaning.specs.Values.{Value, then_, joined}
use Rattle.xpath_meaning.specs.Axes.{is_principal, is_on, has_kind}
use Rattle.xpath_meaning.specs.Steps.{is_node, is_node_of, has_node, node_item, in_document_order, turns, of_turns, path}
use Rattle.xpath_meaning.specs.Patterns.{matches}
use Rattle.xpath_meaning.specs.Meaning.{Context, mean, at}
use Rattle.xpath_meaning.specs.Expressions as x
use Rattle.xpath_meaning.specs.Expressions.{Exp}
use Rattle.binding_laws.proofs.TreeLemmas.{Each, each-weaker, filter-same, same-is}
use Rattle.trial_laws.proofs.Numbered.{AreNumbered, number, among-each}

abbrev pub children : Name → Exp
children name = x.stepped (x.axis_step a.Child (x.named name))

-- an element of the name
abbrev pub is_called : Name → Node → Bool
is_called name node = is_principal a.Child node.kind && has_name name node

-- the same, as a child of the node of that number
abbrev pub child_called : List Node → Name → ℕ → Node → Bool
child_called nodes name n node = is_child (tree_node nodes n).number node && is_called name node

-- ---- nodes in document order

has-among : (k : ℕ) (ys : List Node) → has_node (map node_item ys) k ≡ is_among k (map number ys)
has-among k [] = refl
has-among k (y ∷ ys) = λ i. swapped y.number i || has-among k ys i
  where
    swapped : (m : ℕ) → (m == k) ≡ (k == m)
    swapped m = grind (arith, nat_tests)

pub has-each : (p : Node → Bool) (m : ℕ) (nodes : List Node) → AreNumbered 0 m nodes →
    Each (λ x. has_node (map node_item (filter p nodes)) x.number ≡ p x) nodes
has-each p m nodes h = each-weaker (λ x. is_among x.number (map number (filter p nodes)) ≡ p x)
    (λ x. has_node (map node_item (filter p nodes)) x.number ≡ p x) nodes
    (λ x e. has-among x.number (filter p nodes) ∙ e) (among-each p m nodes h)

-- Those that pass a test are in document order.
pub ordered : (p : Node → Bool) (m : ℕ) (nodes : List Node) → AreNumbered 0 m nodes →
    in_document_order nodes (map node_item (filter p nodes)) ≡ map node_item (filter p nodes)
ordered p m nodes h = ap (map node_item) (filter-same (λ x. has_node (map node_item (filter p nodes)) x.number) p nodes (has-each p m nodes h))

pub then-is : {X Y : Type 0} (v : Result X DynError) (r : X) (next : X → Result Y DynError) → v ≡ Ok r → then_ v next ≡ next r
then-is v r next h = ap (λ w. then_ w next) h

-- the children of a name
pub children-value : (m : ℕ) (nodes : List Node) → AreNumbered 0 m nodes → (name : Name) (n : ℕ) (context : Context) (position last : ℕ)
    → mean nodes (children name) (at context (i.Node n) position last) ≡ Ok (map node_item (filter (child_called nodes name n) nodes))
children-value m nodes h name n context position last = ap Ok (ordered (child_called nodes name n) m nodes h)

-- ---- all of a name

any-append : (k : ℕ) (xs ys : List Item) → has_node (xs ++ ys) k ≡ (has_node xs k || has_node ys k)
any-append k [] ys = refl
any-append k (x ∷ xs) ys = ap (λ b. is_node_of k x || b) (any-append k xs ys) ∙ sym (or-again (is_node_of k x) (has_node xs k) (has_node ys k))
  where
    or-again : (b d e : Bool) → ((b || d) || e) ≡ (b || (d || e))
    or-again true d e = refl
    or-again false d e = refl

has-flat : (f : Node → List Item) (k : ℕ) (ys : List Node) → has_node (flat_map f ys) k ≡ list_any (λ y. has_node (f y) k) ys
has-flat f k [] = refl
has-flat f k (y ∷ ys) = any-append k (f y) (flat_map f ys) ∙ ap (λ b. has_node (f y) k || b) (has-flat f k ys)

any-same : (p r : Node → Bool) (ys : List Node) → ((y : Node) → p y ≡ r y) → list_any p ys ≡ list_any r ys
any-same p r [] h = refl
any-same p r (y ∷ ys) h = λ i. h y i || any-same p r ys h i

any-never : {X : Type 0} (p : X → Bool) (ys : List X) → ((y : X) → p y ≡ false) → list_any p ys ≡ false
any-never p [] h = refl
any-never p (y ∷ ys) h = ap (λ b. b || list_any p ys) (h y) ∙ any-never p ys h

-- one of them passes
any-got : (d p : Node → Bool) (y : Node) (k : ℕ) (ys : List Node) → k < length ys → d (get_or ys k y) ≡ true → p (get_or ys k y) ≡ true →
    list_any p (filter d ys) ≡ true
any-got d p y k [] l h e = absurd (omega (arith, l))
any-got d p y zero (z ∷ ys) l h e = ap (λ b. list_any p (if b then z ∷ filter d ys else filter d ys)) h ∙ ap (λ b. b || list_any p (filter d ys)) e
any-got d p y (suc k) (z ∷ ys) l h e = go (d z) (any-got d p y k ys (omega (arith, l)) h e)
  where
    go : (b : Bool) → list_any p (filter d ys) ≡ true → list_any p (if b then z ∷ filter d ys else filter d ys) ≡ true
    go true later = ap (λ b. p z || b) later ∙ or-true (p z)
      where
        or-true : (b : Bool) → (b || true) ≡ true
        or-true true = refl
        or-true false = refl
    go false later = later

each-for-all : (P : ℕ → Node → Type 0) (xs : List Node) → ((n : ℕ) → Each (P n) xs) → Each (λ x. (n : ℕ) → P n x) xs
each-for-all P [] h = tt
each-for-all P (x ∷ xs) h = ((λ n. (h n).0), each-for-all P xs (λ n. (h n).1))

each-both : (P Q : Node → Type 0) (xs : List Node) → Each P xs → Each Q xs → Each (λ x. P x × Q x) xs
each-both P Q [] h k = tt
each-both P Q (x ∷ xs) h k = ((h.0, k.0), each-both P Q xs h.1 k.1)

-- ---- the node around a node

-- the document's own node and all nodes inside it, but no attributes
abbrev pub is_reached : List Node → Node → Bool
is_reached nodes node = is_on a.DescendantOrSelf (tree_node nodes 0) node && has_kind q.Node node.kind

pub record IsPlace (nodes : List Node) (m : ℕ) : Type 0 where
  pub below : m < length nodes
  pub number_is : (tree_node nodes m).number ≡ m
  pub reached : is_reached nodes (tree_node nodes m) ≡ true

-- the nearest of these numbers is that of a node in which others stand
abbrev pub FineAbove : List Node → List ℕ → Type 0
FineAbove nodes [] = ⊥
FineAbove nodes (m ∷ above) = IsPlace nodes m

abbrev pub StandsWell : List Node → Name → Node → Type 0
StandsWell nodes name node = is_called name node ≡ true → FineAbove nodes node.above

and-false : (b : Bool) → (b && false) ≡ false
and-false true = refl
and-false false = refl

element-only : (kind : Kind) (b : Bool) → (is_principal a.Child kind && b) ≡ true →
    not (elim kind [ kinds.Document ↦ false | kinds.Element ↦ false | kinds.Attribute ↦ true | kinds.Text ↦ false ]) ≡ true
element-only kinds.Document b h = refl
element-only kinds.Element b h = refl
element-only kinds.Attribute b h = absurd (false≢true h)
element-only kinds.Text b h = refl

-- a child of the nearest node around
called-child : (name : Name) (m : ℕ) (above : List ℕ) (node : Node) → node.above ≡ m ∷ above → is_called name node ≡ true →
    (is_child m node && is_called name node) ≡ true
called-child name m above node e h =
    let near : is_nearest m node.above ≡ true = ap (is_nearest m) e ∙ same-is m in
    let no : not (is_attribute node) ≡ true = element-only node.kind (has_name name node) h in
    λ i. (near i && no i) && h i

some-parent : (nodes : List Node) (name : Name) (node : Node) → (b : Bool) → is_called name node ≡ b → StandsWell nodes name node
    → list_any (λ (y : Node). child_called nodes name y.number node) (filter (is_reached nodes) nodes) ≡ b
some-parent nodes name node false h stands =
    any-never (λ (y : Node). child_called nodes name y.number node) (filter (is_reached nodes) nodes)
    (λ (y : Node). ap (λ b. is_child (tree_node nodes y.number).number node && b) h ∙ and-false (is_child (tree_node nodes y.number).number node))
some-parent nodes name node true h stands = go node.above refl (stands h)
  where
    go : (above : List ℕ) → node.above ≡ above → FineAbove nodes above →
        list_any (λ (y : Node). child_called nodes name y.number node) (filter (is_reached nodes) nodes) ≡ true
    go [] e w = absurd w
    go (m ∷ above) e w =
        any-got (is_reached nodes) (λ (y : Node). child_called nodes name y.number node) _ m nodes w.below w.reached
        (ap (λ k. is_child (tree_node nodes k).number node && is_called name node) w.number_is
        ∙ (ap (λ k. is_child k node && is_called name node) w.number_is ∙ called-child name m above node e h))

-- ---- all of a name

all-nodes : (ys : List Node) → list_all is_node (map node_item ys) ≡ true
all-nodes [] = refl
all-nodes (y ∷ ys) = all-nodes ys

all-append : (xs ys : List Item) → list_all is_node xs ≡ true → list_all is_node ys ≡ true → list_all is_node (xs ++ ys) ≡ true
all-append [] ys h k = k
all-append (x ∷ xs) ys h k = go (is_node x) (λ e. all-append xs ys e k) h
  where
    go : (b : Bool) → (list_all is_node xs ≡ true → list_all is_node (xs ++ ys) ≡ true) → (b && list_all is_node xs) ≡ true →
        (b && list_all is_node (xs ++ ys)) ≡ true
    go true later e = later e
    go false later e = absurd (false≢true e)

all-flat : (f : Node → List Node) (ys : List Node) → list_all is_node (flat_map (λ y. map node_item (f y)) ys) ≡ true
all-flat f [] = refl
all-flat f (y ∷ ys) = all-append (map node_item (f y)) (flat_map (λ z. map node_item (f z)) ys) (all-nodes (f y)) (all-flat f ys)

of-nodes : (nodes : List Node) (items : List Item) → list_all is_node items ≡ true → of_turns nodes items ≡ Ok (in_document_order nodes items)
of-nodes nodes items h = ap (λ b. elim b [
  | true ↦ Ok (in_document_order nodes items)
  | false ↦ elim (list_any is_node items) [ true ↦ Err e.XPTY0018 | false ↦ Ok items ]
]) h

module _ (m : ℕ) (nodes : List Node) (h : AreNumbered 0 m nodes) (name : Name) (stands : Each (StandsWell nodes name) nodes) where
  abbrev reached : List Node
  reached = filter (is_reached nodes) nodes

  abbrev inside_all : Exp
  inside_all = x.stepped (x.axis_step a.DescendantOrSelf (x.of_kind q.Node))

  inside-value : (context : Context) (position last : ℕ) → mean nodes inside_all (at context (i.Node 0) position last) ≡ Ok (map node_item reached)
  inside-value context position last = ap Ok (ordered (is_reached nodes) m nodes h)

  rooted-value : (context : Context) (n position last : ℕ) → mean nodes (x.slash x.the_root inside_all) (at context (i.Node n) position last) ≡ Ok
      (map node_item reached)
  rooted-value context n position last =
      ap (λ v. then_ (joined v (Ok [])) (of_turns nodes)) (inside-value (at context (i.Node n) position last) 1 1)
      ∙ (ap (of_turns nodes) (append-nil (map node_item reached)) ∙
      (of-nodes nodes (map node_item reached) (all-nodes reached) ∙ ap Ok (ordered (is_reached nodes) m nodes h)))

  abbrev of_parent : Node → List Item
  of_parent y = map node_item (filter (child_called nodes name y.number) nodes)

  turns-are : (context : Context) (last position : ℕ) (ys : List Node)
      → turns (λ item p l. mean nodes (children name) (at context item p l)) last position (map node_item ys) ≡ Ok (flat_map of_parent ys)
  turns-are context last position [] = refl
  turns-are context last position (y ∷ ys) = λ i. joined (children-value m nodes h name y.number context position last i)
      (turns-are context last (suc position) ys i)

  -- Each node of the name stands right inside one that is reached.
  found-each : Each (λ x. has_node (flat_map of_parent reached) x.number ≡ is_called name x) nodes
  found-each =
      let Told : Node → Type 0 = λ x. (n : ℕ) → has_node (map node_item (filter (child_called nodes name n) nodes)) x.number ≡ child_called nodes name n x in
      let told : Each Told nodes = each-for-all
      (λ n x. has_node (map node_item (filter (child_called nodes name n) nodes)) x.number ≡ child_called nodes name n x) nodes
      (λ n. has-each (child_called nodes name n) m nodes h) in
      each-weaker (λ x. Told x × StandsWell nodes name x) (λ x. has_node (flat_map of_parent reached) x.number ≡ is_called name x) nodes
      (λ x w. has-flat of_parent x.number reached
      ∙ (any-same (λ y. has_node (of_parent y) x.number) (λ y. child_called nodes name y.number x) reached (λ y. w.0 y.number) ∙
      some-parent nodes name x (is_called name x) refl w.1))
      (each-both Told (StandsWell nodes name) nodes told stands)

  pub all-value : (context : Context) (n position last : ℕ)
      → mean nodes (x.slash (x.slash x.the_root inside_all) (children name)) (at context (i.Node n) position last) ≡ Ok
      (map node_item (filter (is_called name) nodes))
  all-value context n position last =
      let here : Context = at context (i.Node n) position last in
      let step : Item → ℕ → ℕ → Value = λ item p l. mean nodes (children name) (at here item p l) in
      then-is (mean nodes (x.slash x.the_root inside_all) here) (map node_item reached) (path nodes step) (rooted-value context n position last)
      ∙ (ap (λ b. elim b [ true ↦ then_ (turns step (length (map node_item reached)) 1 (map node_item reached)) (of_turns nodes) | false ↦ Err e.XPTY0019 ])
      (all-nodes reached)
      ∙ (ap (λ v. then_ v (of_turns nodes)) (turns-are here (length (map node_item reached)) 1 reached)
      ∙ (of-nodes nodes (flat_map of_parent reached) (all-flat (λ y. filter (child_called nodes name y.number) nodes) reached)
      ∙ ap (λ l. Ok (map node_item l)) (filter-same (λ x. has_node (flat_map of_parent reached) x.number) (is_called name) nodes found-each))))

  -- ---- a pattern of one name

  matched : (node : Node) → ((n : ℕ) → is_among node.number (map number (filter (child_called nodes name n) nodes)) ≡ child_called nodes name n node) →
      (b : Bool) → is_called name node ≡ b
      → StandsWell nodes name node → list_any (λ n. child_called nodes name n node) (node.number ∷ node.above) ≡ b
  matched node told false e stand =
      any-never (λ n. child_called nodes name n node) (node.number ∷ node.above)
      (λ n. ap (λ b. is_child (tree_node nodes n).number node && b) e ∙ and-false (is_child (tree_node nodes n).number node))
  matched node told true e stand = go node.above refl (stand e)
    where
      go : (above : List ℕ) → node.above ≡ above → FineAbove nodes above → list_any (λ n. child_called nodes name n node) (node.number ∷ node.above) ≡ true
      go [] k w = absurd w
      go (p ∷ above) k w =
          let near : child_called nodes name p node ≡ true = ap (λ j. is_child j node && is_called name node) w.number_is ∙
          called-child name p above node k e in
          ap (λ l. child_called nodes name node.number node || list_any (λ n. child_called nodes name n node) l) k
          ∙ (ap (λ b. child_called nodes name node.number node || (b || list_any (λ n. child_called nodes name n node) above)) near ∙
          or-true (child_called nodes name node.number node))
        where
          or-true : (b : Bool) → (b || true) ≡ true
          or-true true = refl
          or-true false = refl

  -- A pattern of one name matches the elements of that name.
  pub matches-each : (outer : List (List ℕ × Value)) → Each (λ x. matches nodes outer (children name) x ≡ is_called name x) nodes
  matches-each outer =
      let Told : Node → Type 0 = λ x. (n : ℕ) → is_among x.number (map number (filter (child_called nodes name n) nodes)) ≡ child_called nodes name n x in
      let told : Each Told nodes = each-for-all (λ n x. is_among x.number (map number (filter (child_called nodes name n) nodes)) ≡ child_called nodes name n x)
      nodes
      (λ n. among-each (child_called nodes name n) m nodes h) in
      each-weaker (λ x. Told x × StandsWell nodes name x) (λ x. matches nodes outer (children name) x ≡ is_called name x) nodes
      (λ x w. same-any (λ n. is_among x.number (map number (filter (child_called nodes name n) nodes))) (λ n. child_called nodes name n x)
      (x.number ∷ x.above) w.0
      ∙ matched x w.0 (is_called name x) refl w.1)
      (each-both Told (StandsWell nodes name) nodes told stands)
    where
      same-any : (p r : ℕ → Bool) (ns : List ℕ) → ((n : ℕ) → p n ≡ r n) → list_any p ns ≡ list_any r ns
      same-any p r [] e = refl
      same-any p r (n ∷ ns) e = λ i. e n i || same-any p r ns e i
