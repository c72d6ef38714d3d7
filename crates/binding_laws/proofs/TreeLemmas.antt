-- Nodes of a forest that lies in a document: children, attributes and strings among all nodes of the document are those of the forest.
use Rattle.std.proofs.Common.{◌≡◌, ℕ, suc, ◌+◌, ◌<◌, ◌≤◌, Bool, true, false, ◌||◌, List, [], ◌∷◌, ◌++◌, length, filter, ◌⊎◌, inl, inr, refl, sym, ap, ◌∙◌}
use Rattle.std.proofs.Common.{append_assoc, arith, length-append}
use Rattle.std.specs.Prelude.{◌==◌, if◌then◌else◌, Some, None}
use Rattle.std.proofs.lemmas.Bool.{false≢true}
use Rattle.std.proofs.lemmas.Bool.Decides.{nat_tests}
use Rattle.inv_base.specs.declared.tree.Kind.TheVariants as kinds
use Rattle.inv_base.specs.Tree.{Forest, no_more, a_text, an_element, Name, Attribute, Node, size, nodes_of, nodes_of_attributes, document_nodes, is_among}
use Rattle.node_arena.specs.Moves.{is_nearest}

-- ---- each of a list

abbrev pub Each : {X : Type 0} → (X → Type 0) → List X → Type 0
Each P [] = Unit {0}
Each P (x ∷ xs) = P x × Each P xs

pub each-weaker : {X : Type 0} (P Q : X → Type 0) (xs : List X) → ((x : X) → P x → Q x) → Each P xs → Each Q xs
each-weaker P Q [] f h = tt
each-weaker P Q (x ∷ xs) f h = (f x h.0, each-weaker P Q xs f h.1)

pub each-append : {X : Type 0} (P : X → Type 0) (xs ys : List X) → Each P xs → Each P ys → Each P (xs ++ ys)
each-append P [] ys h k = k
each-append P (x ∷ xs) ys h k = (h.0, each-append P xs ys h.1 k)

pub filter-none : {X : Type 0} (p : X → Bool) (xs : List X) → Each (λ x. p x ≡ false) xs → filter p xs ≡ []
filter-none p [] h = refl
filter-none p (x ∷ xs) h = rw h.0 (filter-none p xs h.1)

pub filter-same : {X : Type 0} (p q : X → Bool) (xs : List X) → Each (λ x. p x ≡ q x) xs → filter p xs ≡ filter q xs
filter-same p q [] h = refl
filter-same p q (x ∷ xs) h = ap (λ b. if b then x ∷ filter p xs else filter p xs) h.0 ∙ ap (λ l. if q x then x ∷ l else l) (filter-same p q xs h.1)

pub same-is : (n : ℕ) → (n == n) ≡ true
same-is n = grind (arith, nat_tests)

pub other-is : (m n : ℕ) → (m < n ⊎ n < m) → (m == n) ≡ false
other-is m n (inl h) = grind (arith, nat_tests)
other-is m n (inr h) = grind (arith, nat_tests)

-- ---- nodes inside which nothing else lies

-- none of these numbers is among the node's ancestors
abbrev pub Free : ℕ → ℕ → Node → Type 0
Free low high node = (m : ℕ) → low ≤ m → m < high → is_among m node.above ≡ false

pub among-older : (m : ℕ) (above : List ℕ) → Each (λ k. k < m) above → is_among m above ≡ false
among-older m [] h = refl
among-older m (k ∷ above) h = rw (other-is m k (inr h.0)) (among-older m above h.1)

pub nearest-free : (m : ℕ) (above : List ℕ) → is_among m above ≡ false → is_nearest m above ≡ false
nearest-free m [] h = refl
nearest-free m (k ∷ above) h = turn (k == m) (m == k) (swap k m) (first (m == k) (is_among m above) h)
  where
    swap : (k m : ℕ) → (k == m) ≡ (m == k)
    swap k m = grind (arith, nat_tests)

    first : (a b : Bool) → (a || b) ≡ false → a ≡ false
    first true b e = absurd (false≢true (sym e))
    first false b e = refl

    turn : (a b : Bool) → a ≡ b → b ≡ false → a ≡ false
    turn a b e f = e ∙ f

-- a span of numbers that isn't one that a forest of this size has from a number on
abbrev pub Beside : ℕ → ℕ → ℕ → ℕ → Type 0
Beside low high n long = (high ≤ n) ⊎ (n + long ≤ low)

abbrev pub FreeAbove : ℕ → ℕ → List ℕ → Type 0
FreeAbove low high above = (m : ℕ) → low ≤ m → m < high → is_among m above ≡ false

free-more : (low high n : ℕ) (above : List ℕ) → (high ≤ n) ⊎ (n < low) → FreeAbove low high above → FreeAbove low high (n ∷ above)
free-more low high n above (inl h) k m l r = rw (other-is m n (inl (omega arith))) (k m l r)
free-more low high n above (inr h) k m l r = rw (other-is m n (inr (omega arith))) (k m l r)

pub attributes-free : (low high : ℕ) (above : List ℕ) (n : ℕ) (attributes : List Attribute) → FreeAbove low high above →
    Each (Free low high) (nodes_of_attributes above n attributes)
attributes-free low high above n [] h = tt
attributes-free low high above n (a ∷ attributes) h = (h, attributes-free low high above (n + 1) attributes h)

left-of : (low high n a b c : ℕ) → Beside low high n (1 + (a + (b + c))) → (high ≤ n) ⊎ (n < low)
left-of low high n a b c (inl h) = inl h
left-of low high n a b c (inr h) = inr (omega (arith, h))

inside-beside : (low high n a b c : ℕ) → Beside low high n (1 + (a + (b + c))) → Beside low high (n + (1 + a)) b
inside-beside low high n a b c (inl h) = inl (omega (arith, h))
inside-beside low high n a b c (inr h) = inr (omega (arith, h))

rest-beside : (low high n a b c : ℕ) → Beside low high n (1 + (a + (b + c))) → Beside low high (n + (1 + (a + b))) c
rest-beside low high n a b c (inl h) = inl (omega (arith, h))
rest-beside low high n a b c (inr h) = inr (omega (arith, h))

next-beside : (low high n c : ℕ) → Beside low high n (1 + c) → Beside low high (n + 1) c
next-beside low high n c (inl h) = inl (omega (arith, h))
next-beside low high n c (inr h) = inr (omega (arith, h))

pub forest-free : (low high : ℕ) (above : List ℕ) (n : ℕ) (f : Forest) → FreeAbove low high above → Beside low high n (size f) →
    Each (Free low high) (nodes_of above n f)
forest-free low high above n no_more h k = tt
forest-free low high above n (a_text characters rest) h k = (h, forest-free low high above (n + 1) rest h (next-beside low high n (size rest) k))
forest-free low high above n (an_element name attributes inside rest) h k =
    let more = free-more low high n above (left-of low high n (length attributes) (size inside) (size rest) k) h in (
      h,
      each-append (Free low high) (nodes_of_attributes (n ∷ above) (n + 1) attributes) _ (attributes-free low high (n ∷ above) (n + 1) attributes more)
          (each-append (Free low high) (nodes_of (n ∷ above) (n + (1 + length attributes)) inside) _
          (forest-free low high (n ∷ above) (n + (1 + length attributes)) inside more
          (inside-beside low high n (length attributes) (size inside) (size rest) k))
          (forest-free low high above (n + (1 + (length attributes + size inside))) rest h
          (rest-beside low high n (length attributes) (size inside) (size rest) k))),
    )

-- ---- where a forest lies

pub record Lies (nodes : List Node) (above : List ℕ) (n : ℕ) (f : Forest) : Type 0 where
  pub front : List Node
  pub back : List Node
  pub is : nodes ≡ front ++ (nodes_of above n f ++ back)
  pub place : length front ≡ n
  pub older : Each (λ k. k < n) above
  pub front_free : Each (Free n (n + size f)) front
  pub back_free : Each (Free n (n + size f)) back

pub document-lies : (f : Forest) → Lies (document_nodes f) (0 ∷ []) 1 f
document-lies f = record {
  front = record { number = 0; kind = kinds.Document; name = None; above = []; text = [] } ∷ [];
  back = [];
  is = ap (λ l. record { number = 0; kind = kinds.Document; name = None; above = []; text = [] } ∷ l) (sym (nothing-behind (nodes_of (0 ∷ []) 1 f)));
  place = refl;
  older = (omega arith, tt);
  front_free = ((λ m l r. refl), tt);
  back_free = tt;
}
  where
    nothing-behind : (xs : List Node) → xs ++ [] ≡ xs
    nothing-behind [] = refl
    nothing-behind (x ∷ xs) = ap (λ l. x ∷ l) (nothing-behind xs)

free-part : (low high a b : ℕ) → low ≤ a → b ≤ high → (node : Node) → Free low high node → Free a b node
free-part low high a b l r node h m k j = h m (omega (arith, l, k)) (omega (arith, r, j))

pub older-free : (n : ℕ) (above : List ℕ) (low high : ℕ) → n ≤ low → Each (λ k. k < n) above → FreeAbove low high above
older-free n above low high h e m l r = among-older m above (each-weaker (λ k. k < n) (λ k. k < m) above (λ k j. omega (arith, h, l, j)) e)

abbrev pub element_node : List ℕ → ℕ → Name → Node
element_node above n name = record { number = n; kind = kinds.Element; name = Some name; above = above; text = [] }

older-more : (n k : ℕ) (above : List ℕ) → n ≤ k → Each (λ m. m < n) above → Each (λ m. m < k) above
older-more n k above h e = each-weaker (λ m. m < n) (λ m. m < k) above (λ m j. omega (arith, h, j)) e

pub behind-text : (nodes : List Node) (above : List ℕ) (n : ℕ) (characters : List ℕ) (rest : Forest) → Lies nodes above n (a_text characters rest) →
    Lies nodes above (n + 1) rest
behind-text nodes above n characters rest h = record {
  front = h.front ++ record { number = n; kind = kinds.Text; name = None; above = above; text = characters } ∷ [];
  back = h.back;
  is = h.is ∙ sym (append_assoc h.front (record { number = n; kind = kinds.Text; name = None; above = above; text = characters } ∷ [])
      (nodes_of above (n + 1) rest ++ h.back));
  place = omega (arith, h.place, length-append h.front (record { number = n; kind = kinds.Text; name = None; above = above; text = characters } ∷ []));
  older = older-more n (n + 1) above (omega arith) h.older;
  front_free = each-append (Free (n + 1) (n + 1 + size rest)) h.front _
      (each-weaker (Free n (n + (1 + size rest))) (Free (n + 1) (n + 1 + size rest)) h.front
      (free-part n (n + (1 + size rest)) (n + 1) (n + 1 + size rest) (omega arith) (omega arith)) h.front_free)
      (older-free n above (n + 1) (n + 1 + size rest) (omega arith) h.older, tt);
  back_free = each-weaker (Free n (n + (1 + size rest))) (Free (n + 1) (n + 1 + size rest)) h.back
      (free-part n (n + (1 + size rest)) (n + 1) (n + 1 + size rest) (omega arith) (omega arith)) h.back_free;
}

attributes-long : (above : List ℕ) (n : ℕ) (attributes : List Attribute) → length (nodes_of_attributes above n attributes) ≡ length attributes
attributes-long above n [] = refl
attributes-long above n (a ∷ attributes) = ap suc (attributes-long above (n + 1) attributes)

pub forest-long : (above : List ℕ) (n : ℕ) (f : Forest) → length (nodes_of above n f) ≡ size f
forest-long above n no_more = refl
forest-long above n (a_text characters rest) = omega (arith, forest-long above (n + 1) rest)
forest-long above n (an_element name attributes inside rest) =
    omega (
      arith,
      length-append (nodes_of_attributes (n ∷ above) (n + 1) attributes)
          (nodes_of (n ∷ above) (n + (1 + length attributes)) inside ++ nodes_of above (n + (1 + (length attributes + size inside))) rest),
      length-append (nodes_of (n ∷ above) (n + (1 + length attributes)) inside) (nodes_of above (n + (1 + (length attributes + size inside))) rest),
      attributes-long (n ∷ above) (n + 1) attributes,
      forest-long (n ∷ above) (n + (1 + length attributes)) inside,
      forest-long above (n + (1 + (length attributes + size inside))) rest,
    )

-- an element, its attributes, what is inside it and what is behind it
module _ (nodes : List Node) (above : List ℕ) (n : ℕ) (name : Name) (attributes : List Attribute) (inside rest : Forest)
    (h : Lies nodes above n (an_element name attributes inside rest)) where
  abbrev own : List Node
  own = nodes_of_attributes (n ∷ above) (n + 1) attributes

  abbrev within : List Node
  within = nodes_of (n ∷ above) (n + (1 + length attributes)) inside

  abbrev later : List Node
  later = nodes_of above (n + (1 + (length attributes + size inside))) rest

  abbrev high : ℕ
  high = n + (1 + (length attributes + (size inside + size rest)))

  parted : (a b c d e : List Node) (x : Node) → a ++ ((x ∷ (b ++ (c ++ d))) ++ e) ≡ (a ++ (x ∷ b)) ++ (c ++ (d ++ e))
  parted [] b c d e x = ap (λ l. x ∷ l) (append_assoc b (c ++ d) e ∙ ap (λ l. b ++ l) (append_assoc c d e))
  parted (y ∷ a) b c d e x = ap (λ l. y ∷ l) (parted a b c d e x)

  parted-further : (a b c d e : List Node) (x : Node) → a ++ ((x ∷ (b ++ (c ++ d))) ++ e) ≡ (a ++ (x ∷ (b ++ c))) ++ (d ++ e)
  parted-further [] b c d e x = ap (λ l. x ∷ l) (ap (λ l. l ++ e) (sym (append_assoc b c d)) ∙ append_assoc (b ++ c) d e)
  parted-further (y ∷ a) b c d e x = ap (λ l. y ∷ l) (parted-further a b c d e x)

  inner-older : Each (λ k. k < n + (1 + length attributes)) (n ∷ above)
  inner-older = (omega arith, older-more n (n + (1 + length attributes)) above (omega arith) h.older)

  own-free : (low top : ℕ) → n < low → FreeAbove low top above → Each (Free low top) own
  own-free low top k f = attributes-free low top (n ∷ above) (n + 1) attributes (free-more low top n above (inr k) f)

  pub inside-lies : Lies nodes (n ∷ above) (n + (1 + length attributes)) inside
  inside-lies = record {
    front = h.front ++ (element_node above n name ∷ own);
    back = later ++ h.back;
    is = h.is ∙ parted h.front own within later h.back (element_node above n name);
    place = omega (arith, h.place, length-append h.front (element_node above n name ∷ own), attributes-long (n ∷ above) (n + 1) attributes);
    older = inner-older;
    front_free =
        let low : ℕ = n + (1 + length attributes) in
        let top : ℕ = n + (1 + length attributes) + size inside in
        let clear : FreeAbove low top above = older-free n above low top (omega arith) h.older in
        each-append (Free low top) h.front (element_node above n name ∷ own)
        (each-weaker (Free n high) (Free low top) h.front (free-part n high low top (omega arith) (omega arith)) h.front_free)
        (clear, own-free low top (omega arith) clear);
    back_free =
        let low : ℕ = n + (1 + length attributes) in
        let top : ℕ = n + (1 + length attributes) + size inside in
        each-append (Free low top) later h.back
        (forest-free low top above (n + (1 + (length attributes + size inside))) rest (older-free n above low top (omega arith) h.older) (inl (omega arith)))
        (each-weaker (Free n high) (Free low top) h.back (free-part n high low top (omega arith) (omega arith)) h.back_free);
  }

  pub behind-element : Lies nodes above (n + (1 + (length attributes + size inside))) rest
  behind-element = record {
    front = h.front ++ (element_node above n name ∷ (own ++ within));
    back = h.back;
    is = h.is ∙ parted-further h.front own within later h.back (element_node above n name);
    place = omega (
      arith,
      h.place,
      length-append h.front (element_node above n name ∷ (own ++ within)),
      length-append own within,
      attributes-long (n ∷ above) (n + 1) attributes,
      forest-long (n ∷ above) (n + (1 + length attributes)) inside,
    );
    older = older-more n (n + (1 + (length attributes + size inside))) above (omega arith) h.older;
    front_free =
        let low : ℕ = n + (1 + (length attributes + size inside)) in
        let top : ℕ = n + (1 + (length attributes + size inside)) + size rest in
        let clear : FreeAbove low top above = older-free n above low top (omega arith) h.older in
        each-append (Free low top) h.front (element_node above n name ∷ (own ++ within))
        (each-weaker (Free n high) (Free low top) h.front (free-part n high low top (omega arith) (omega arith)) h.front_free) (
          clear,
          each-append (Free low top) own within (own-free low top (omega arith) clear)
              (forest-free low top (n ∷ above) (n + (1 + length attributes)) inside (free-more low top n above (inr (omega arith)) clear) (inr (omega arith))),
        );
    back_free =
        let low : ℕ = n + (1 + (length attributes + size inside)) in
        let top : ℕ = n + (1 + (length attributes + size inside)) + size rest in
        each-weaker (Free n high) (Free low top) h.back (free-part n high low top (omega arith) (omega arith)) h.back_free;
  }
