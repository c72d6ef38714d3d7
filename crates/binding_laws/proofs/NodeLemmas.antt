-- Children, attributes and strings of an element of a document are those of its forest.
use Rattle.std.proofs.Common.{◌≡◌, ℕ, zero, suc, ◌+◌, ◌<◌, ◌≤◌, Bool, true, false, not, ◌&&◌, ◌||◌, List, [], ◌∷◌, ◌++◌, length, get_or, map, filter, flat_map}
use Rattle.std.proofs.Common.{inl, inr, refl, sym, ap, ◌∙◌, append_assoc, arith}
use Rattle.std.specs.Prelude.{◌==◌, if◌then◌else◌, Some, None}
use Rattle.std.proofs.lemmas.List.Elements.{filter-append}
use Rattle.std.proofs.lemmas.List.Concat.{flat_map-append}
use Rattle.inv_base.specs.declared.tree.Kind.TheVariants as kinds
use Rattle.inv_base.specs.Tree.{Forest, no_more, a_text, an_element, Name, Attribute, Node, size, nodes_of, nodes_of_attributes, document_nodes, is_among}
use Rattle.inv_base.specs.Tree.{is_text, string_of}
use Rattle.node_arena.specs.Moves.{tree_node, is_nearest, is_attribute, is_child, is_attribute_of}
use Rattle.bind_rows.specs.declared.names.ElementName.{ElementName}
use Rattle.bind_rows.specs.Namespaces.{uri_of}
use Rattle.bind_meaning.specs.Names.{is_spelled, has_element_name}
use Rattle.bind_meaning.specs.Elements.{number, both, children_named, string_at}
use Rattle.binding_laws.proofs.TreeLemmas.{Each, each-weaker, each-append, filter-none, same-is, other-is, Free, FreeAbove, nearest-free, forest-free}
use Rattle.binding_laws.proofs.TreeLemmas.{among-older, older-free, element_node, Lies, document-lies, inside-lies}

pub and-false : (a : Bool) → (a && false) ≡ false
and-false true = refl
and-false false = refl

-- ---- nodes that a test passes over

pub unboth : (p q : Node → Bool) (x : Node) → p x ≡ false → both p q x ≡ false
unboth p q x h = ap (λ b. elim b [ true ↦ q x | false ↦ false ]) h

pub no-child : (n : ℕ) (x : Node) → is_nearest n x.above ≡ false → is_child n x ≡ false
no-child n x h = ap (λ b. b && not (is_attribute x)) h

pub no-attribute : (n : ℕ) (x : Node) → is_nearest n x.above ≡ false → is_attribute_of n x ≡ false
no-attribute n x h = ap (λ b. b && is_attribute x) h

far-free : (n low high : ℕ) → low ≤ n → n < high → (x : Node) → Free low high x → is_nearest n x.above ≡ false
far-free n low high l r x h = nearest-free n x.above (h n l r)

pub part : (t : Node → Bool) (nodes front middle back : List Node) → nodes ≡ front ++ (middle ++ back) → Each (λ x. t x ≡ false) front →
    Each (λ x. t x ≡ false) back → filter t nodes ≡ filter t middle
part t nodes front middle back e h k =
    ap (filter t) e ∙ (filter-append t front (middle ++ back) ∙ (ap (λ l. l ++ filter t (middle ++ back)) (filter-none t front h)
    ∙ (filter-append t middle back ∙ (ap (λ l. filter t middle ++ l) (filter-none t back k) ∙ nothing-behind (filter t middle)))))
  where
    nothing-behind : (xs : List Node) → xs ++ [] ≡ xs
    nothing-behind [] = refl
    nothing-behind (x ∷ xs) = ap (λ l. x ∷ l) (nothing-behind xs)

-- attributes are no children
attributes-no-children : (p n : ℕ) (above : List ℕ) (q : Node → Bool) (attributes : List Attribute) →
    Each (λ x. both (is_child p) q x ≡ false) (nodes_of_attributes above n attributes)
attributes-no-children p n above q [] = tt
attributes-no-children p n above q (a ∷ attributes) = (
  unboth (is_child p) q (record { number = n; kind = kinds.Attribute; name = Some a.name; above = above; text = a.value }) (and-false (is_nearest p above)),
  attributes-no-children p (n + 1) above q attributes,
)

far-attributes : (p n : ℕ) (above : List ℕ) (attributes : List Attribute) → is_nearest p above ≡ false →
    Each (λ (x : Node). is_nearest p x.above ≡ false) (nodes_of_attributes above n attributes)
far-attributes p n above [] h = tt
far-attributes p n above (a ∷ attributes) h = (h, far-attributes p (n + 1) above attributes h)

-- no node is right inside one that comes before the forest and isn't the nearest around it
pub far-forest : (p n : ℕ) (above : List ℕ) (f : Forest) → is_nearest p above ≡ false → p < n →
    Each (λ (x : Node). is_nearest p x.above ≡ false) (nodes_of above n f)
far-forest p n above no_more h l = tt
far-forest p n above (a_text characters rest) h l = (h, far-forest p (n + 1) above rest h (omega arith))
far-forest p n above (an_element name attributes inside rest) h l =
    let further : is_nearest p (n ∷ above) ≡ false = other-is n p (inr l) in (
      h,
      each-append (λ (x : Node). is_nearest p x.above ≡ false) (nodes_of_attributes (n ∷ above) (n + 1) attributes) _
          (far-attributes p (n + 1) (n ∷ above) attributes further)
          (each-append (λ (x : Node). is_nearest p x.above ≡ false) (nodes_of (n ∷ above) (n + (1 + length attributes)) inside) _
          (far-forest p (n + (1 + length attributes)) (n ∷ above) inside further (omega arith))
          (far-forest p (n + (1 + (length attributes + size inside))) above rest h (omega arith))),
    )

-- ---- the elements at the top of a forest

pub record Top : Type 0 where
  pub number : ℕ
  pub name : Name
  pub attributes : List Attribute
  pub inside : Forest

abbrev pub tops : ℕ → Forest → List Top
tops n no_more = []
tops n (a_text characters rest) = tops (n + 1) rest
tops n (an_element name attributes inside rest) = record { number = n; name = name; attributes = attributes; inside = inside } ∷ tops
    (n + (1 + (length attributes + size inside))) rest

abbrev pub is_called : ElementName → Top → Bool
is_called name t = is_spelled (uri_of name.namespace) name.local t.name

-- The forest is all that is inside the node.
pub record Holds (nodes : List Node) (p : ℕ) (above : List ℕ) (n : ℕ) (f : Forest) : Type 0 where
  pub lies : Lies nodes (p ∷ above) n f
  pub alone : (q : Node → Bool) → filter (both (is_child p) q) nodes ≡ filter (both (is_child p) q) (nodes_of (p ∷ above) n f)

pub document-holds : (f : Forest) → Holds (document_nodes f) 0 [] 1 f
document-holds f = record {
  lies = document-lies f;
  alone = λ q. refl;
}

child-here : (p : ℕ) (above : List ℕ) → is_nearest p (p ∷ above) ≡ true
child-here p above = same-is p

children-in : (p n : ℕ) (above : List ℕ) (name : ElementName) (f : Forest) → p < n
    → map number (filter (both (is_child p) (has_element_name name)) (nodes_of (p ∷ above) n f)) ≡ map (λ (t : Top). t.number)
    (filter (is_called name) (tops n f))
children-in p n above name no_more l = refl
children-in p n above name (a_text characters rest) l =
    ap (λ b. map number (if b then record { number = n; kind = kinds.Text; name = None; above = p ∷ above; text = characters } ∷ filter
    (both (is_child p) (has_element_name name)) (nodes_of (p ∷ above) (n + 1) rest)
    else filter (both (is_child p) (has_element_name name)) (nodes_of (p ∷ above) (n + 1) rest)))
    (ap (λ b. elim (b && true) [ true ↦ false | false ↦ false ]) (child-here p above))
    ∙ children-in p (n + 1) above name rest (omega arith)
children-in p n above name (an_element e attributes inside rest) l =
    let test : Node → Bool = both (is_child p) (has_element_name name) in
    let own : List Node = nodes_of_attributes (n ∷ (p ∷ above)) (n + 1) attributes in
    let within : List Node = nodes_of (n ∷ (p ∷ above)) (n + (1 + length attributes)) inside in
    let later : List Node = nodes_of (p ∷ above) (n + (1 + (length attributes + size inside))) rest in
    let further : is_nearest p (n ∷ (p ∷ above)) ≡ false = other-is n p (inr l) in
    let called : Bool = is_spelled (uri_of name.namespace) name.local e in
    let behind : map number (filter test (own ++ (within ++ later))) ≡ map (λ (t : Top). t.number)
    (filter (is_called name) (tops (n + (1 + (length attributes + size inside))) rest)) =
    ap (map number) (filter-append test own (within ++ later)
    ∙ (ap (λ x. x ++ filter test (within ++ later))
    (filter-none test own (attributes-no-children p (n + 1) (n ∷ (p ∷ above)) (has_element_name name) attributes))
    ∙ (filter-append test within later
    ∙ ap (λ x. x ++ filter test later) (filter-none test within
    (each-weaker (λ (x : Node). is_nearest p x.above ≡ false) (λ x. test x ≡ false) within
    (λ x h. unboth (is_child p) (has_element_name name) x (no-child p x h))
    (far-forest p (n + (1 + length attributes)) (n ∷ (p ∷ above)) inside further (omega arith)))))))
    ∙ children-in p (n + (1 + (length attributes + size inside))) above name rest (omega arith) in
    ap (λ b. map number (if elim (b && true) [ true ↦ called | false ↦ false ] then element_node (p ∷ above) n e ∷ filter test
    (own ++ (within ++ later)) else filter test (own ++ (within ++ later))))
    (child-here p above)
    ∙ (shared called (element_node (p ∷ above) n e) (filter test (own ++ (within ++ later)))
    ∙ (ap (λ l. if called then n ∷ l else l) behind
    ∙ sym (shared-top called (record { number = n; name = e; attributes = attributes; inside = inside })
    (filter (is_called name) (tops (n + (1 + (length attributes + size inside))) rest)))))
  where
    shared : (b : Bool) (x : Node) (xs : List Node) → map number (if b then x ∷ xs else xs) ≡ (if b then x.number ∷ map number xs else map number xs)
    shared true x xs = refl
    shared false x xs = refl

    shared-top : (b : Bool) (x : Top) (xs : List Top)
        → map (λ (t : Top). t.number) (if b then x ∷ xs else xs) ≡ (if b then x.number ∷ map (λ (t : Top). t.number) xs else map (λ (t : Top). t.number) xs)
    shared-top true x xs = refl
    shared-top false x xs = refl

pub children-are : (nodes : List Node) (p : ℕ) (above : List ℕ) (n : ℕ) (f : Forest) → Holds nodes p above n f → (name : ElementName)
    → children_named nodes name p ≡ map (λ (t : Top). t.number) (filter (is_called name) (tops n f))
children-are nodes p above n f h name = ap (map number) (h.alone (has_element_name name)) ∙ children-in p n above name f h.lies.older.0

-- ---- an element

-- the texts inside a forest
abbrev pub texts : Forest → List ℕ
texts no_more = []
texts (a_text characters rest) = characters ++ texts rest
texts (an_element name attributes inside rest) = texts inside ++ texts rest

abbrev own_text : Node → List ℕ
own_text inner = inner.text

pub attributes-silent : (t : Node → Bool) (above : List ℕ) (n : ℕ) (attributes : List Attribute) →
    Each (λ x. (is_text x && t x) ≡ false) (nodes_of_attributes above n attributes)
attributes-silent t above n [] = tt
attributes-silent t above n (a ∷ attributes) = (refl, attributes-silent t above (n + 1) attributes)

texts-in : (p n : ℕ) (above : List ℕ) (f : Forest) → is_among p above ≡ true →
    flat_map own_text (filter (λ inner. is_text inner && is_among p inner.above) (nodes_of above n f)) ≡ texts f
texts-in p n above no_more h = refl
texts-in p n above (a_text characters rest) h =
    ap (λ b. flat_map own_text (if b then record { number = n; kind = kinds.Text; name = None; above = above; text = characters } ∷ filter
    (λ inner. is_text inner && is_among p inner.above) (nodes_of above (n + 1) rest)
    else filter (λ inner. is_text inner && is_among p inner.above) (nodes_of above (n + 1) rest))) h
    ∙ ap (λ l. characters ++ l) (texts-in p (n + 1) above rest h)
texts-in p n above (an_element e attributes inside rest) h =
    let test : Node → Bool = λ inner. is_text inner && is_among p inner.above in
    let own : List Node = nodes_of_attributes (n ∷ above) (n + 1) attributes in
    let within : List Node = nodes_of (n ∷ above) (n + (1 + length attributes)) inside in
    let later : List Node = nodes_of above (n + (1 + (length attributes + size inside))) rest in
    let further : is_among p (n ∷ above) ≡ true = ap (λ b. p == n || b) h ∙ or-true (p == n) in
    ap (flat_map own_text) (filter-append test own (within ++ later)
    ∙ (ap (λ x. x ++ filter test (within ++ later)) (filter-none test own (attributes-silent (λ inner. is_among p inner.above) (n ∷ above) (n + 1) attributes))
    ∙ filter-append test within later))
    ∙ (flat_map-append own_text (filter test within) (filter test later)
    ∙ (ap (λ x. x ++ flat_map own_text (filter test later)) (texts-in p (n + (1 + length attributes)) (n ∷ above) inside further)
    ∙ ap (λ x. texts inside ++ x) (texts-in p (n + (1 + (length attributes + size inside))) above rest h)))
  where
    or-true : (b : Bool) → (b || true) ≡ true
    or-true true = refl
    or-true false = refl

pub at-place : (front rest : List Node) (x d : Node) (n : ℕ) → length front ≡ n → get_or (front ++ (x ∷ rest)) n d ≡ x
at-place [] rest x d zero e = refl
at-place [] rest x d (suc n) e = absurd (omega (arith, e))
at-place (y ∷ front) rest x d zero e = absurd (omega (arith, e))
at-place (y ∷ front) rest x d (suc n) e = at-place front rest x d n (omega (arith, e))

pub silent : (n : ℕ) (x : Node) → is_among n x.above ≡ false → (is_text x && is_among n x.above) ≡ false
silent n x h = ap (λ b. is_text x && b) h ∙ and-false (is_text x)

module _ (nodes : List Node) (above : List ℕ) (n : ℕ) (name : Name) (attributes : List Attribute) (inside rest : Forest)
    (h : Lies nodes above n (an_element name attributes inside rest)) where
  in-lies : Lies nodes (n ∷ above) (n + (1 + length attributes)) inside
  in-lies = inside-lies nodes above n name attributes inside rest h

  abbrev pub own : List Node
  own = nodes_of_attributes (n ∷ above) (n + 1) attributes

  abbrev pub within : List Node
  within = nodes_of (n ∷ above) (n + (1 + length attributes)) inside

  abbrev pub later : List Node
  later = nodes_of above (n + (1 + (length attributes + size inside))) rest

  abbrev high : ℕ
  high = n + (1 + (length attributes + (size inside + size rest)))

  whole : nodes ≡ h.front ++ (element_node above n name ∷ ((own ++ (within ++ later)) ++ h.back))
  whole = h.is

  pub at-element : tree_node nodes n ≡ element_node above n name
  at-element = ap (λ l. tree_node l n) whole ∙ at-place h.front ((own ++ (within ++ later)) ++ h.back) (element_node above n name) _ n h.place

  older-clear : (low top : ℕ) → n ≤ low → FreeAbove low top above
  older-clear low top l = older-free n above low top l h.older

  front-far : Each (λ (x : Node). is_among n x.above ≡ false) h.front
  front-far = each-weaker (Free n high) (λ (x : Node). is_among n x.above ≡ false) h.front (λ x f. f n (omega arith) (omega arith)) h.front_free

  back-far : Each (λ (x : Node). is_among n x.above ≡ false) h.back
  back-far = each-weaker (Free n high) (λ (x : Node). is_among n x.above ≡ false) h.back (λ x f. f n (omega arith) (omega arith)) h.back_free

  later-far : Each (λ (x : Node). is_among n x.above ≡ false) later
  later-far =
      each-weaker (Free n (n + 1)) (λ (x : Node). is_among n x.above ≡ false) later (λ x f. f n (omega arith) (omega arith))
      (forest-free n (n + 1) above (n + (1 + (length attributes + size inside))) rest (older-clear n (n + 1) (omega arith)) (inl (omega arith)))

  element-far : is_among n above ≡ false
  element-far = among-older n above h.older

  split : (t : Node → Bool) → Each (λ x. t x ≡ false) h.front → t (element_node above n name) ≡ false → Each (λ x. t x ≡ false) own →
      Each (λ x. t x ≡ false) later → Each (λ x. t x ≡ false) h.back
      → filter t nodes ≡ filter t within
  split t front e attrs after back =
      filter-parts
    where
      parted : (a b c d e : List Node) (x : Node) → a ++ ((x ∷ (b ++ (c ++ d))) ++ e) ≡ (a ++ (x ∷ b)) ++ (c ++ (d ++ e))
      parted [] b c d e x = ap (λ l. x ∷ l) (append_assoc b (c ++ d) e ∙ ap (λ l. b ++ l) (append_assoc c d e))
      parted (y ∷ a) b c d e x = ap (λ l. y ∷ l) (parted a b c d e x)

      filter-parts : filter t nodes ≡ filter t within
      filter-parts =
          part t nodes (h.front ++ (element_node above n name ∷ own)) within (later ++ h.back)
          (h.is ∙ parted h.front own within later h.back (element_node above n name))
          (each-append (λ x. t x ≡ false) h.front (element_node above n name ∷ own) front (e, attrs)) (each-append (λ x. t x ≡ false) later h.back after back)

  unchild : (q : Node → Bool) (xs : List Node) → Each (λ (x : Node). is_among n x.above ≡ false) xs → Each (λ x. both (is_child n) q x ≡ false) xs
  unchild q xs k = each-weaker (λ (x : Node). is_among n x.above ≡ false) (λ x. both (is_child n) q x ≡ false) xs
      (λ x f. unboth (is_child n) q x (no-child n x (nearest-free n x.above f))) k

  pub inside-holds : Holds nodes n above (n + (1 + length attributes)) inside
  inside-holds = record {
    lies = in-lies;
    alone = λ q. split (both (is_child n) q) (unchild q h.front front-far)
        (unboth (is_child n) q (element_node above n name) (no-child n (element_node above n name) (nearest-free n above element-far)))
        (attributes-no-children n (n + 1) (n ∷ above) q attributes) (unchild q later later-far) (unchild q h.back back-far);
  }

  unheard : (xs : List Node) → Each (λ (x : Node). is_among n x.above ≡ false) xs → Each (λ x. (is_text x && is_among n x.above) ≡ false) xs
  unheard xs k = each-weaker (λ (x : Node). is_among n x.above ≡ false) (λ x. (is_text x && is_among n x.above) ≡ false) xs (λ x f. silent n x f) k

  pub string-is : string_at nodes n ≡ texts inside
  string-is =
      ap (λ x. string_of nodes x) at-element
      ∙ (ap (flat_map own_text) (split (λ inner. is_text inner && is_among n inner.above) (unheard h.front front-far) refl
      (attributes-silent (λ inner. is_among n inner.above) (n ∷ above) (n + 1) attributes) (unheard later later-far) (unheard h.back back-far))
      ∙ texts-in n (n + (1 + length attributes)) (n ∷ above) inside (ap (λ b. b || is_among n above) (same-is n)))
