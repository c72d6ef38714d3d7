-- The own text of an element, and the string of an attribute, among the nodes of a document.
use Rattle.std.proofs.Common.{◌≡◌, ℕ, suc, ◌+◌, ◌<◌, ◌≤◌, Bool, true, false, not, ◌&&◌, ◌||◌, List, [], ◌∷◌, ◌++◌, length, filter, flat_map, inl, inr, refl}
use Rattle.std.proofs.Common.{ap, ◌∙◌, append_assoc, arith, length-append}
use Rattle.std.specs.Prelude.{if◌then◌else◌, Some, None}
use Rattle.std.proofs.lemmas.List.Elements.{filter-append}
use Rattle.inv_base.specs.declared.tree.Kind.TheVariants as kinds
use Rattle.inv_base.specs.Tree.{Forest, no_more, a_text, an_element, Name, Attribute, Node, size, nodes_of, nodes_of_attributes, is_among, is_text, string_of}
use Rattle.term_table.specs.declared.contexts.Context.{Context}
use Rattle.inv_terms.specs.declared.entries.Entry.{Entry}
use Rattle.node_arena.specs.Moves.{tree_node, is_attribute, is_nearest, is_child}
use Rattle.bind_table.specs.Lines.{Plan, nothing, a_line}
use Rattle.bind_meaning.specs.Elements.{both, string_at}
use Rattle.bind_meaning.specs.Losses.{own_text}
use Rattle.bind_meaning.specs.Trees.{name_of, spots, is_emitted, holds_further, attributes, element_text, with_text, elements, written_lines}
use Rattle.binding_laws.proofs.TreeLemmas.{Each, each-weaker, each-append, filter-none, filter-same, same-is, other-is, Free, FreeAbove, forest-free}
use Rattle.binding_laws.proofs.TreeLemmas.{older-free, element_node, Lies}
use Rattle.binding_laws.proofs.NodeLemmas.{at-place, silent, attributes-silent, far-forest, unboth, texts, Holds, inside-holds}
use Rattle.binding_laws.proofs.AttributeLemmas.{far, later-far}
use Rattle.binding_laws.proofs.ContextLemmas.{all-each}
use Rattle.binding_laws.proofs.ListLemmas.{append-nil}

-- ---- texts at the top of a forest

abbrev pub top_texts : Forest → List ℕ
top_texts no_more = []
top_texts (a_text characters rest) = characters ++ top_texts rest
top_texts (an_element name attributes inside rest) = top_texts rest

abbrev text_in : Node → List ℕ
text_in inner = inner.text

no-text : (b : Bool) → elim b [ true ↦ false | false ↦ false ] ≡ false
no-text true = refl
no-text false = refl

attributes-no-texts : (p n : ℕ) (above : List ℕ) (attrs : List Attribute) → Each (λ x. both (is_child p) is_text x ≡ false) (nodes_of_attributes above n attrs)
attributes-no-texts p n above [] = tt
attributes-no-texts p n above (a ∷ attrs) = (no-text (is_nearest p above && false), attributes-no-texts p (n + 1) above attrs)

-- the texts right inside a node
texts-at-top : (p n : ℕ) (above : List ℕ) (f : Forest) → p < n
    → flat_map text_in (filter (both (is_child p) is_text) (nodes_of (p ∷ above) n f)) ≡ top_texts f
texts-at-top p n above no_more l = refl
texts-at-top p n above (a_text characters rest) l =
    ap (λ b. flat_map text_in (if elim (b && true) [ true ↦ true | false ↦ false ] then record {
      number = n;
      kind = kinds.Text;
      name = None;
      above = p ∷ above;
      text = characters;
    } ∷ filter (both (is_child p) is_text) (nodes_of (p ∷ above) (n + 1) rest)
    else filter (both (is_child p) is_text) (nodes_of (p ∷ above) (n + 1) rest))) (same-is p)
    ∙ ap (λ l. characters ++ l) (texts-at-top p (n + 1) above rest (omega arith))
texts-at-top p n above (an_element e attrs inside rest) l =
    let test : Node → Bool = both (is_child p) is_text in
    let own : List Node = nodes_of_attributes (n ∷ (p ∷ above)) (n + 1) attrs in
    let within : List Node = nodes_of (n ∷ (p ∷ above)) (n + (1 + length attrs)) inside in
    let later : List Node = nodes_of (p ∷ above) (n + (1 + (length attrs + size inside))) rest in
    let further : is_nearest p (n ∷ (p ∷ above)) ≡ false = other-is n p (inr l) in
    ap (λ b. flat_map text_in (if b then element_node (p ∷ above) n e ∷ filter test (own ++ (within ++ later)) else filter test (own ++ (within ++ later))))
    (no-text (is_child p (element_node (p ∷ above) n e)))
    ∙ (ap (flat_map text_in) (filter-append test own (within ++ later)
    ∙ (ap (λ x. x ++ filter test (within ++ later)) (filter-none test own (attributes-no-texts p (n + 1) (n ∷ (p ∷ above)) attrs))
    ∙ (filter-append test within later
    ∙ ap (λ x. x ++ filter test later) (filter-none test within
    (each-weaker (λ (x : Node). is_nearest p x.above ≡ false) (λ x. test x ≡ false) within
    (λ x h. unboth (is_child p) is_text x (ap (λ b. b && not (is_attribute x)) h))
    (far-forest p (n + (1 + length attrs)) (n ∷ (p ∷ above)) inside further (omega arith)))))))
    ∙ texts-at-top p (n + (1 + (length attrs + size inside))) above rest (omega arith))

turned-round : (a b : Bool) → ◌≡◌ {A = Bool} (elim a [ true ↦ b | false ↦ false ]) (elim b [ true ↦ a | false ↦ false ])
turned-round true true = refl
turned-round true false = refl
turned-round false true = refl
turned-round false false = refl

module _ (nodes : List Node) (above : List ℕ) (n : ℕ) (name : Name) (attrs : List Attribute) (inside rest : Forest)
    (h : Lies nodes above n (an_element name attrs inside rest)) where
  pub own-text-is : own_text nodes (element_node above n name) ≡ top_texts inside
  own-text-is =
      let holds : Holds nodes n above (n + (1 + length attrs)) inside = inside-holds nodes above n name attrs inside rest h in
      ap (flat_map text_in) (filter-same (both is_text (is_child n)) (both (is_child n) is_text) nodes
      (all-each (λ x. both is_text (is_child n) x ≡ both (is_child n) is_text x) nodes (λ x. turned-round (is_text x) (is_child n x)))
      ∙ holds.alone is_text)
      ∙ texts-at-top n (n + (1 + length attrs)) above inside (omega arith)

-- ---- the lines of a table write no text beside elements

elements-no-text : (is_there : Context → Bool) (name : Name) (attrs : Context → List Attribute) (inside : Context → Forest) (rest : Forest)
    → top_texts rest ≡ [] → (ds : List Context)
    → top_texts (elements is_there (λ d. an_element name (attrs d) (inside d)) ds rest) ≡ []
elements-no-text is_there name attrs inside rest h [] = h
elements-no-text is_there name attrs inside rest h (d ∷ ds) = go (is_there d) (elements-no-text is_there name attrs inside rest h ds)
  where
    go : (b : Bool) → top_texts (elements is_there (λ e. an_element name (attrs e) (inside e)) ds rest) ≡ []
        → top_texts (elim b [
          | true ↦ an_element name (attrs d) (inside d) (elements is_there (λ e. an_element name (attrs e) (inside e)) ds rest)
          | false ↦ elements is_there (λ e. an_element name (attrs e) (inside e)) ds rest
        ]) ≡ []
    go true k = k
    go false k = k

pub lines-no-text : (es : List Entry) (plan : Plan) (held : Bool) (c : Context) → top_texts (written_lines es plan held c) ≡ []
lines-no-text es nothing held c = refl
lines-no-text es (a_line t cells inside rest) held c =
    elements-no-text (is_emitted es t cells inside held) (name_of t.name) (attributes es t cells)
    (λ d. with_text (element_text es cells d) (written_lines es inside (holds_further es cells inside held d) d))
    (written_lines es rest held c) (lines-no-text es rest held c) (spots es c t.group)

pub text-at-top : (text : List ℕ) (f : Forest) → top_texts f ≡ [] → top_texts (with_text text f) ≡ text
text-at-top [] f h = h
text-at-top (c ∷ text) f h = ap (λ l. (c ∷ text) ++ l) h ∙ append-nil (c ∷ text)

pub texts-behind : (text : List ℕ) (f : Forest) → texts (with_text text f) ≡ text ++ texts f
texts-behind [] f = refl
texts-behind (c ∷ text) f = refl

-- ---- attributes

abbrev pub attribute_node : List ℕ → ℕ → Attribute → Node
attribute_node above n a = record { number = n; kind = kinds.Attribute; name = Some a.name; above = above; text = a.value }

nodes-append : (above : List ℕ) (n : ℕ) (xs ys : List Attribute) → nodes_of_attributes above n (xs ++ ys) ≡ nodes_of_attributes above n xs ++
    nodes_of_attributes above (n + length xs) ys
nodes-append above n [] ys = ap (λ m. nodes_of_attributes above m ys) (let e : n ≡ n + 0 = omega arith in e)
nodes-append above n (x ∷ xs) ys =
    ap (λ l. attribute_node above n x ∷ l)
    (nodes-append above (n + 1) xs ys ∙ ap (λ m. nodes_of_attributes above (n + 1) xs ++ nodes_of_attributes above m ys)
    (let e : n + 1 + length xs ≡ n + suc (length xs) = omega arith in e))

attributes-long : (above : List ℕ) (n : ℕ) (attrs : List Attribute) → length (nodes_of_attributes above n attrs) ≡ length attrs
attributes-long above n [] = refl
attributes-long above n (a ∷ attrs) = ap suc (attributes-long above (n + 1) attrs)

module _ (nodes : List Node) (above : List ℕ) (n : ℕ) (name : Name) (attrs : List Attribute) (inside rest : Forest)
    (h : Lies nodes above n (an_element name attrs inside rest)) where
  abbrev own : List Node
  own = nodes_of_attributes (n ∷ above) (n + 1) attrs

  abbrev within : List Node
  within = nodes_of (n ∷ above) (n + (1 + length attrs)) inside

  abbrev later : List Node
  later = nodes_of above (n + (1 + (length attrs + size inside))) rest

  clear : (m : ℕ) → n ≤ m → FreeAbove m (m + 1) above
  clear m l = older-free n above m (m + 1) l h.older

  parted : (a b c d e : List Node) (x : Node) → a ++ ((x ∷ (b ++ (c ++ d))) ++ e) ≡ (a ++ (x ∷ [])) ++ (b ++ (c ++ (d ++ e)))
  parted [] b c d e x = ap (λ l. x ∷ l) (append_assoc b (c ++ d) e ∙ ap (λ l. b ++ l) (append_assoc c d e))
  parted (y ∷ a) b c d e x = ap (λ l. y ∷ l) (parted a b c d e x)

  unheard : (m : ℕ) (xs : List Node) → Each (λ (x : Node). is_among m x.above ≡ false) xs → Each (λ x. (is_text x && is_among m x.above) ≡ false) xs
  unheard m xs k = each-weaker (λ (x : Node). is_among m x.above ≡ false) (λ x. (is_text x && is_among m x.above) ≡ false) xs (λ x f. silent m x f) k

  within-far : (m : ℕ) → n < m → m < n + (1 + length attrs) → Each (λ (x : Node). is_among m x.above ≡ false) within
  within-far m l r =
      each-weaker (Free m (m + 1)) (λ (x : Node). is_among m x.above ≡ false) within (λ x f. f m (omega arith) (omega arith))
      (forest-free m (m + 1) (n ∷ above) (n + (1 + length attrs)) inside
      (λ k u v. ap (λ b. b || is_among k above) (other-is k n (inr (omega (arith, l, u)))) ∙ clear m (omega (arith, l)) k u v) (inl (omega arith)))

  none-heard : (m : ℕ) → n < m → m < n + (1 + length attrs) → filter (λ inner. is_text inner && is_among m inner.above) nodes ≡ []
  none-heard m l r =
      let test : Node → Bool = λ inner. is_text inner && is_among m inner.above in
      let ends = far nodes above n name attrs inside rest h m (omega (arith, l)) (omega (arith, r)) in
      ap (filter test) h.is
      ∙ filter-none test (h.front ++ ((element_node above n name ∷ (own ++ (within ++ later))) ++ h.back))
      (each-append (λ x. test x ≡ false) h.front _ (unheard m h.front ends.0) (
        refl,
        each-append (λ x. test x ≡ false) (own ++ (within ++ later)) h.back
            (each-append (λ x. test x ≡ false) own (within ++ later) (attributes-silent (λ inner. is_among m inner.above) (n ∷ above) (n + 1) attrs)
            (each-append (λ x. test x ≡ false) within later (unheard m within (within-far m l r))
            (unheard m later (later-far nodes above n name attrs inside rest h m (omega (arith, l)) (omega (arith, r))))))
            (unheard m h.back ends.1),
      ))

  found-at : (done : List Attribute) (a : Attribute) (todo : List Attribute) → attrs ≡ done ++ (a ∷ todo) →
      tree_node nodes (n + 1 + length done) ≡ attribute_node (n ∷ above) (n + 1 + length done) a
  found-at done a todo e =
      let before : List Node = h.front ++ (element_node above n name ∷ nodes_of_attributes (n ∷ above) (n + 1) done) in
      let place : length before ≡ n + 1 + length done =
      omega (
        arith,
        h.place,
        length-append h.front (element_node above n name ∷ nodes_of_attributes (n ∷ above) (n + 1) done),
        attributes-long (n ∷ above) (n + 1) done,
      ) in
      let after : List Node = nodes_of_attributes (n ∷ above) (n + 1 + length done + 1) todo ++ (within ++ (later ++ h.back)) in
      let whole : nodes ≡ before ++ (attribute_node (n ∷ above) (n + 1 + length done) a ∷ after) =
      h.is ∙ (parted h.front own within later h.back (element_node above n name)
      ∙ (ap (λ l. (h.front ++ (element_node above n name ∷ [])) ++ (l ++ (within ++ (later ++ h.back)))) (ap (nodes_of_attributes (n ∷ above) (n + 1)) e ∙
      nodes-append (n ∷ above) (n + 1) done (a ∷ todo))
      ∙ joined h.front (nodes_of_attributes (n ∷ above) (n + 1) done)
      (attribute_node (n ∷ above) (n + 1 + length done) a ∷ nodes_of_attributes (n ∷ above) (n + 1 + length done + 1) todo) (within ++ (later ++ h.back))))
      in
      ap (λ l. tree_node l (n + 1 + length done)) whole ∙ at-place before after (attribute_node (n ∷ above) (n + 1 + length done) a) _
      (n + 1 + length done) place
    where
      joined : (a b c d : List Node) → (a ++ (element_node above n name ∷ [])) ++ ((b ++ c) ++ d) ≡ (a ++ (element_node above n name ∷ b)) ++ (c ++ d)
      joined [] b c d = ap (λ l. element_node above n name ∷ l) (append_assoc b c d)
      joined (y ∷ a) b c d = ap (λ l. y ∷ l) (joined a b c d)

  pub attribute-string : (done : List Attribute) (a : Attribute) (todo : List Attribute) → attrs ≡ done ++ (a ∷ todo) →
      string_at nodes (n + 1 + length done) ≡ a.value
  attribute-string done a todo e =
      let long : length attrs ≡ length done + suc (length todo) = ap length e ∙ length-append done (a ∷ todo) in
      let none = none-heard (n + 1 + length done) (omega arith) (omega (arith, long)) in
      ap (string_of nodes) (found-at done a todo e)
      ∙ (ap (λ (l : List Node). a.value ++ flat_map (λ (inner : Node). inner.text) l) none ∙ append-nil a.value)
