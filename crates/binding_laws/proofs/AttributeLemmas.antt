-- The attributes of an element of a document, with their strings, are those of its forest.
use Rattle.std.proofs.Common.{◌≡◌, ℕ, suc, ◌+◌, ◌<◌, ◌≤◌, Bool, true, false, ◌&&◌, ◌||◌, List, [], ◌∷◌, ◌++◌, length, map, filter, flat_map, inl, inr, refl}
use Rattle.std.proofs.Common.{sym, ap, ◌∙◌, append_assoc, arith, length-append}
use Rattle.std.specs.Prelude.{◌==◌, if◌then◌else◌, Some, None}
use Rattle.inv_base.specs.declared.tree.Kind.TheVariants as kinds
use Rattle.inv_base.specs.Tree.{Forest, no_more, a_text, an_element, Name, Attribute, Node, size, nodes_of, nodes_of_attributes, is_among, is_text, string_of}
use Rattle.node_arena.specs.Moves.{tree_node, is_nearest, is_attribute_of}
use Rattle.bind_meaning.specs.Names.{is_spelled, has_plain_name}
use Rattle.bind_meaning.specs.Elements.{number, both, attributes_named, string_at}
use Rattle.binding_laws.specs.Written.{values_named}
use Rattle.binding_laws.proofs.TreeLemmas.{Each, each-weaker, each-append, filter-none, filter-same, same-is, other-is, Free, FreeAbove, nearest-free}
use Rattle.binding_laws.proofs.TreeLemmas.{forest-free, among-older, older-free, element_node, Lies}
use Rattle.binding_laws.proofs.NodeLemmas.{unboth, no-attribute, far-forest, at-place, and-false, silent, attributes-silent, part}

abbrev attribute_node : List ℕ → ℕ → Attribute → Node
attribute_node above n a = record { number = n; kind = kinds.Attribute; name = Some a.name; above = above; text = a.value }

-- what is inside an element has no attribute of the element
inside-no-attributes : (p n : ℕ) (above : List ℕ) (q : Node → Bool) (f : Forest) → p < n →
    Each (λ x. both (is_attribute_of p) q x ≡ false) (nodes_of (p ∷ above) n f)
inside-no-attributes p n above q no_more l = tt
inside-no-attributes p n above q (a_text characters rest) l = (
  unboth (is_attribute_of p) q (record { number = n; kind = kinds.Text; name = None; above = p ∷ above; text = characters }) (and-false (p == p)),
  inside-no-attributes p (n + 1) above q rest (omega arith),
)
inside-no-attributes p n above q (an_element name attributes inside rest) l =
    let further : is_nearest p (n ∷ (p ∷ above)) ≡ false = other-is n p (inr l) in
    let off : (xs : List Node) → Each (λ (x : Node). is_nearest p x.above ≡ false) xs → Each (λ x. both (is_attribute_of p) q x ≡ false) xs =
    λ xs h. each-weaker (λ (x : Node). is_nearest p x.above ≡ false) (λ x. both (is_attribute_of p) q x ≡ false) xs
    (λ x k. unboth (is_attribute_of p) q x (no-attribute p x k)) h in (
      unboth (is_attribute_of p) q (element_node (p ∷ above) n name) (and-false (p == p)),
      each-append (λ x. both (is_attribute_of p) q x ≡ false) (nodes_of_attributes (n ∷ (p ∷ above)) (n + 1) attributes) _
          (off _ (far-own (n + 1) attributes further))
          (each-append (λ x. both (is_attribute_of p) q x ≡ false) (nodes_of (n ∷ (p ∷ above)) (n + (1 + length attributes)) inside) _
          (off _ (far-forest p (n + (1 + length attributes)) (n ∷ (p ∷ above)) inside further (omega arith)))
          (inside-no-attributes p (n + (1 + (length attributes + size inside))) above q rest (omega arith))),
    )
  where
    far-own : (m : ℕ) (attributes : List Attribute) → is_nearest p (n ∷ (p ∷ above)) ≡ false →
        Each (λ (x : Node). is_nearest p x.above ≡ false) (nodes_of_attributes (n ∷ (p ∷ above)) m attributes)
    far-own m [] h = tt
    far-own m (a ∷ attributes) h = (h, far-own (m + 1) attributes h)

nodes-append : (above : List ℕ) (n : ℕ) (xs ys : List Attribute) → nodes_of_attributes above n (xs ++ ys) ≡ nodes_of_attributes above n xs ++
    nodes_of_attributes above (n + length xs) ys
nodes-append above n [] ys = ap (λ m. nodes_of_attributes above m ys) (let e : n ≡ n + 0 = omega arith in e)
nodes-append above n (x ∷ xs) ys =
    ap (λ l. attribute_node above n x ∷ l)
    (nodes-append above (n + 1) xs ys ∙ ap (λ m. nodes_of_attributes above (n + 1) xs ++ nodes_of_attributes above m ys)
    (let e : n + 1 + length xs ≡ n + suc (length xs) = omega arith in e))

attributes-long : (above : List ℕ) (n : ℕ) (attributes : List Attribute) → length (nodes_of_attributes above n attributes) ≡ length attributes
attributes-long above n [] = refl
attributes-long above n (a ∷ attributes) = ap suc (attributes-long above (n + 1) attributes)

module _ (nodes : List Node) (above : List ℕ) (n : ℕ) (name : Name) (attributes : List Attribute) (inside rest : Forest)
    (h : Lies nodes above n (an_element name attributes inside rest)) where
  abbrev own : List Node
  own = nodes_of_attributes (n ∷ above) (n + 1) attributes

  abbrev within : List Node
  within = nodes_of (n ∷ above) (n + (1 + length attributes)) inside

  abbrev later : List Node
  later = nodes_of above (n + (1 + (length attributes + size inside))) rest

  abbrev high : ℕ
  high = n + (1 + (length attributes + (size inside + size rest)))

  pub far : (m : ℕ) → n ≤ m → m < high → Each (λ (x : Node). is_among m x.above ≡ false) h.front × Each (λ (x : Node). is_among m x.above ≡ false) h.back
  far m l r = (
    each-weaker (Free n high) (λ (x : Node). is_among m x.above ≡ false) h.front (λ x f. f m l r) h.front_free,
    each-weaker (Free n high) (λ (x : Node). is_among m x.above ≡ false) h.back (λ x f. f m l r) h.back_free,
  )

  clear : (m : ℕ) → n ≤ m → FreeAbove m (m + 1) above
  clear m l = older-free n above m (m + 1) l h.older

  pub later-far : (m : ℕ) → n ≤ m → m < n + (1 + (length attributes + size inside)) → Each (λ (x : Node). is_among m x.above ≡ false) later
  later-far m l r =
      each-weaker (Free m (m + 1)) (λ (x : Node). is_among m x.above ≡ false) later (λ x f. f m (omega arith) (omega arith))
      (forest-free m (m + 1) above (n + (1 + (length attributes + size inside))) rest (clear m l) (inl (omega arith)))

  off : (q : Node → Bool) (xs : List Node) → Each (λ (x : Node). is_among n x.above ≡ false) xs → Each (λ x. both (is_attribute_of n) q x ≡ false) xs
  off q xs k = each-weaker (λ (x : Node). is_among n x.above ≡ false) (λ x. both (is_attribute_of n) q x ≡ false) xs
      (λ x f. unboth (is_attribute_of n) q x (no-attribute n x (nearest-free n x.above f))) k

  parted : (a b c d e : List Node) (x : Node) → a ++ ((x ∷ (b ++ (c ++ d))) ++ e) ≡ (a ++ (x ∷ [])) ++ (b ++ (c ++ (d ++ e)))
  parted [] b c d e x = ap (λ l. x ∷ l) (append_assoc b (c ++ d) e ∙ ap (λ l. b ++ l) (append_assoc c d e))
  parted (y ∷ a) b c d e x = ap (λ l. y ∷ l) (parted a b c d e x)

  own-test : (m : ℕ) (q : Node → Bool) (attrs : List Attribute) → filter (both (is_attribute_of n) q) (nodes_of_attributes (n ∷ above) m attrs) ≡ filter q
      (nodes_of_attributes (n ∷ above) m attrs)
  own-test m q attrs = filter-same (both (is_attribute_of n) q) q (nodes_of_attributes (n ∷ above) m attrs) (each m attrs)
    where
      each : (m : ℕ) (attrs : List Attribute) → Each (λ x. both (is_attribute_of n) q x ≡ q x) (nodes_of_attributes (n ∷ above) m attrs)
      each m [] = tt
      each m (a ∷ attrs) = (
        ap (λ b. elim (b && true) [
          | true ↦ q (record { number = m; kind = kinds.Attribute; name = Some a.name; above = n ∷ above; text = a.value })
          | false ↦ false
        ]) (same-is n),
        each (m + 1) attrs,
      )

  pub named-are : (local : List ℕ) → attributes_named nodes local n ≡ map number (filter (has_plain_name local) own)
  named-are local =
      let test : Node → Bool = both (is_attribute_of n) (has_plain_name local) in
      let ends = far n (omega arith) (omega arith) in
      ap (map number)
      (part test nodes (h.front ++ (element_node above n name ∷ [])) own (within ++ (later ++ h.back))
      (h.is ∙ parted h.front own within later h.back (element_node above n name))
      (each-append (λ x. test x ≡ false) h.front (element_node above n name ∷ []) (off (has_plain_name local) h.front ends.0) (
        unboth (is_attribute_of n) (has_plain_name local) (element_node above n name)
            (no-attribute n (element_node above n name) (nearest-free n above (among-older n above h.older))),
        tt,
      ))
      (each-append (λ x. test x ≡ false) within (later ++ h.back)
      (inside-no-attributes n (n + (1 + length attributes)) above (has_plain_name local) inside (omega arith))
      (each-append (λ x. test x ≡ false) later h.back (off (has_plain_name local) later (later-far n (omega arith) (omega arith)))
      (off (has_plain_name local) h.back ends.1)))
      ∙ own-test (n + 1) (has_plain_name local) attributes)

  -- ---- the string of an attribute

  unheard : (m : ℕ) (xs : List Node) → Each (λ (x : Node). is_among m x.above ≡ false) xs → Each (λ x. (is_text x && is_among m x.above) ≡ false) xs
  unheard m xs k = each-weaker (λ (x : Node). is_among m x.above ≡ false) (λ x. (is_text x && is_among m x.above) ≡ false) xs (λ x f. silent m x f) k

  within-far : (m : ℕ) → n < m → m < n + (1 + length attributes) → Each (λ (x : Node). is_among m x.above ≡ false) within
  within-far m l r =
      each-weaker (Free m (m + 1)) (λ (x : Node). is_among m x.above ≡ false) within (λ x f. f m (omega arith) (omega arith))
      (forest-free m (m + 1) (n ∷ above) (n + (1 + length attributes)) inside
      (λ k u v. ap (λ b. b || is_among k above) (other-is k n (inr (omega (arith, l, u)))) ∙ clear m (omega (arith, l)) k u v) (inl (omega arith)))

  none-heard : (m : ℕ) → n < m → m < n + (1 + length attributes) → filter (λ inner. is_text inner && is_among m inner.above) nodes ≡ []
  none-heard m l r =
      let test : Node → Bool = λ inner. is_text inner && is_among m inner.above in
      let ends = far m (omega (arith, l)) (omega (arith, r)) in
      ap (filter test) h.is
      ∙ filter-none test (h.front ++ ((element_node above n name ∷ (own ++ (within ++ later))) ++ h.back))
      (each-append (λ x. test x ≡ false) h.front _ (unheard m h.front ends.0) (
        refl,
        each-append (λ x. test x ≡ false) (own ++ (within ++ later)) h.back
            (each-append (λ x. test x ≡ false) own (within ++ later) (attributes-silent (λ inner. is_among m inner.above) (n ∷ above) (n + 1) attributes)
            (each-append (λ x. test x ≡ false) within later (unheard m within (within-far m l r))
            (unheard m later (later-far m (omega (arith, l)) (omega (arith, r))))))
            (unheard m h.back ends.1),
      ))

  nothing-behind : (xs : List ℕ) → xs ++ [] ≡ xs
  nothing-behind [] = refl
  nothing-behind (x ∷ xs) = ap (λ l. x ∷ l) (nothing-behind xs)

  found-at : (done : List Attribute) (a : Attribute) (todo : List Attribute) → attributes ≡ done ++ (a ∷ todo) →
      tree_node nodes (n + 1 + length done) ≡ attribute_node (n ∷ above) (n + 1 + length done) a
  found-at done a todo e =
      let before : List Node = h.front ++ (element_node above n name ∷ nodes_of_attributes (n ∷ above) (n + 1) done) in
      let place : length before ≡ n + 1 + length done =
      omega (
        arith,
        h.place,
        length-append h.front (element_node above n name ∷ nodes_of_attributes (n ∷ above) (n + 1) done),
        attributes-long (n ∷ above) (n + 1) done,
      ) in
      let after : List Node = nodes_of_attributes (n ∷ above) (n + 1 + length done + 1) todo ++ (within ++ (later ++ h.back)) in
      let whole : nodes ≡ before ++ (attribute_node (n ∷ above) (n + 1 + length done) a ∷ after) =
      h.is ∙ (parted h.front own within later h.back (element_node above n name)
      ∙ (ap (λ l. (h.front ++ (element_node above n name ∷ [])) ++ (l ++ (within ++ (later ++ h.back)))) (ap (nodes_of_attributes (n ∷ above) (n + 1)) e ∙
      nodes-append (n ∷ above) (n + 1) done (a ∷ todo))
      ∙ joined h.front (nodes_of_attributes (n ∷ above) (n + 1) done)
      (attribute_node (n ∷ above) (n + 1 + length done) a ∷ nodes_of_attributes (n ∷ above) (n + 1 + length done + 1) todo) (within ++ (later ++ h.back))))
      in
      ap (λ l. tree_node l (n + 1 + length done)) whole ∙ at-place before after (attribute_node (n ∷ above) (n + 1 + length done) a) _
      (n + 1 + length done) place
    where
      joined : (a b c d : List Node) → (a ++ (element_node above n name ∷ [])) ++ ((b ++ c) ++ d) ≡ (a ++ (element_node above n name ∷ b)) ++ (c ++ d)
      joined [] b c d = ap (λ l. element_node above n name ∷ l) (append_assoc b c d)
      joined (y ∷ a) b c d = ap (λ l. y ∷ l) (joined a b c d)

  attribute-string : (done : List Attribute) (a : Attribute) (todo : List Attribute) → attributes ≡ done ++ (a ∷ todo) →
      string_at nodes (n + 1 + length done) ≡ a.value
  attribute-string done a todo e =
      let long : length attributes ≡ length done + suc (length todo) = ap length e ∙ length-append done (a ∷ todo) in
      let none = none-heard (n + 1 + length done) (omega arith) (omega (arith, long)) in
      ap (string_of nodes) (found-at done a todo e)
      ∙ (ap (λ (l : List Node). a.value ++ flat_map (λ (inner : Node). inner.text) l) none ∙ nothing-behind a.value)

  values-are : (local : List ℕ) (done todo : List Attribute) → attributes ≡ done ++ todo
      → map (string_at nodes) (map number (filter (has_plain_name local) (nodes_of_attributes (n ∷ above) (n + 1 + length done) todo))) ≡ values_named local
      todo
  values-are local done [] e = refl
  values-are local done (a ∷ todo) e =
      let at : ℕ = n + 1 + length done in
      let further : List Node = filter (has_plain_name local) (nodes_of_attributes (n ∷ above) (at + 1) todo) in
      let next : attributes ≡ (done ++ (a ∷ [])) ++ todo = e ∙ sym (append_assoc done (a ∷ []) todo) in
      let place : n + 1 + length (done ++ (a ∷ [])) ≡ at + 1 = omega (arith, length-append done (a ∷ [])) in
      let later_is : map (string_at nodes) (map number further) ≡ values_named local todo =
      ap (λ m. map (string_at nodes) (map number (filter (has_plain_name local) (nodes_of_attributes (n ∷ above) m todo)))) (sym place) ∙
      values-are local (done ++ (a ∷ [])) todo next in
      chosen (is_spelled [] local a.name) (record { number = at; kind = kinds.Attribute; name = Some a.name; above = n ∷ above; text = a.value }) further
      ∙ (ap (λ l. elim (is_spelled [] local a.name) [ true ↦ string_at nodes at ∷ l | false ↦ l ]) later_is
      ∙ ap (λ (s : List ℕ). elim (is_spelled [] local a.name) [ true ↦ s ∷ values_named local todo | false ↦ values_named local todo ])
      (attribute-string done a todo e))
    where
      chosen : (b : Bool) (x : Node) (xs : List Node) → map (string_at nodes) (map number (if b then x ∷ xs else xs))
          ≡ (elim b [ true ↦ string_at nodes x.number ∷ map (string_at nodes) (map number xs) | false ↦ map (string_at nodes) (map number xs) ])
      chosen true x xs = refl
      chosen false x xs = refl

  pub attributes-are : (local : List ℕ) → map (string_at nodes) (attributes_named nodes local n) ≡ values_named local attributes
  attributes-are local =
      ap (map (string_at nodes)) (named-are local)
      ∙ (ap (λ m. map (string_at nodes) (map number (filter (has_plain_name local) (nodes_of_attributes (n ∷ above) m attributes))))
      (let e : n + 1 ≡ n + 1 + 0 = omega arith in e)
      ∙ values-are local [] attributes refl)
