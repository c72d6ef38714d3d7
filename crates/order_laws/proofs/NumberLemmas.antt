-- The nodes of a document are numbered.
use Rattle.std.proofs.Common.{◌≡◌, ℕ, suc, ◌+◌, ◌<◌, ◌≤◌, List, [], ◌∷◌, ◌++◌, length, refl, sym, ap, ◌∙◌, subst, append_assoc, arith, length-append}
use Rattle.inv_base.specs.Tree.{Forest, no_more, a_text, an_element, Attribute, Node, size, nodes_of, nodes_of_attributes, document_nodes}
use Rattle.binding_laws.proofs.TreeLemmas.{Each, Lies, forest-long}

-- The nodes have the numbers from this one on.
abbrev pub Numbered : ℕ → List Node → Type 0
Numbered n [] = Unit {0}
Numbered n (x ∷ xs) = (x.number ≡ n) × Numbered (n + 1) xs

numbered-append : (n m : ℕ) (xs ys : List Node) → n + length xs ≡ m → Numbered n xs → Numbered m ys → Numbered n (xs ++ ys)
numbered-append n m [] ys e h k = let same : m ≡ n = omega (arith, e) in subst (λ j. Numbered j ys) same k
numbered-append n m (x ∷ xs) ys e h k = (h.0, numbered-append (n + 1) m xs ys (omega (arith, e)) h.1 k)

numbered-behind : (n m : ℕ) (xs ys : List Node) → n + length xs ≡ m → Numbered n (xs ++ ys) → Numbered m ys
numbered-behind n m [] ys e h = let same : n ≡ m = omega (arith, e) in subst (λ j. Numbered j ys) same h
numbered-behind n m (x ∷ xs) ys e h = numbered-behind (n + 1) m xs ys (omega (arith, e)) h.1

numbered-front : (n : ℕ) (xs ys : List Node) → Numbered n (xs ++ ys) → Numbered n xs
numbered-front n [] ys h = tt
numbered-front n (x ∷ xs) ys h = (h.0, numbered-front (n + 1) xs ys h.1)

below-all : (n m : ℕ) (xs : List Node) → n + length xs ≤ m → Numbered n xs → Each (λ (x : Node). x.number < m) xs
below-all n m [] l h = tt
below-all n m (x ∷ xs) l h = (let e = h.0 in omega (arith, e, l), below-all (n + 1) m xs (omega (arith, l)) h.1)

pub from-all : (n m : ℕ) (xs : List Node) → m ≤ n → Numbered n xs → Each (λ (x : Node). m ≤ x.number) xs
from-all n m [] l h = tt
from-all n m (x ∷ xs) l h = (let e = h.0 in omega (arith, e, l), from-all (n + 1) m xs (omega (arith, l)) h.1)

attributes-long : (above : List ℕ) (n : ℕ) (attributes : List Attribute) → length (nodes_of_attributes above n attributes) ≡ length attributes
attributes-long above n [] = refl
attributes-long above n (a ∷ attributes) = ap suc (attributes-long above (n + 1) attributes)

attributes-numbered : (above : List ℕ) (n : ℕ) (attributes : List Attribute) → Numbered n (nodes_of_attributes above n attributes)
attributes-numbered above n [] = tt
attributes-numbered above n (a ∷ attributes) = (refl, attributes-numbered above (n + 1) attributes)

pub forest-numbered : (above : List ℕ) (n : ℕ) (f : Forest) → Numbered n (nodes_of above n f)
forest-numbered above n no_more = tt
forest-numbered above n (a_text characters rest) = (refl, forest-numbered above (n + 1) rest)
forest-numbered above n (an_element name attributes inside rest) =
    let within : ℕ = n + (1 + length attributes) in
    let later : ℕ = n + (1 + (length attributes + size inside)) in (
      refl,
      numbered-append (n + 1) within (nodes_of_attributes (n ∷ above) (n + 1) attributes) (nodes_of (n ∷ above) within inside ++ nodes_of above later rest)
          (omega (arith, attributes-long (n ∷ above) (n + 1) attributes))
          (attributes-numbered (n ∷ above) (n + 1) attributes)
          (numbered-append within later (nodes_of (n ∷ above) within inside) (nodes_of above later rest)
          (omega (arith, forest-long (n ∷ above) within inside))
          (forest-numbered (n ∷ above) within inside)
          (forest-numbered above later rest)),
    )

pub document-numbered : (f : Forest) → Numbered 0 (document_nodes f)
document-numbered f = (refl, forest-numbered (0 ∷ []) 1 f)

-- ---- the numbers in front of a forest, and behind it

module _ (nodes : List Node) (numbered : Numbered 0 nodes) (above : List ℕ) (n : ℕ) (f : Forest) (h : Lies nodes above n f) where
  pub front-below : Each (λ (x : Node). x.number < n) h.front
  front-below =
      below-all 0 n h.front (omega (arith, h.place))
      (numbered-front 0 h.front (nodes_of above n f ++ h.back) (subst (Numbered 0) h.is numbered))

  pub back-beyond : Each (λ (x : Node). n + size f ≤ x.number) h.back
  back-beyond =
      from-all (n + size f) (n + size f) h.back (omega arith)
      (numbered-behind 0 (n + size f) (h.front ++ nodes_of above n f) h.back
      (omega (arith, length-append h.front (nodes_of above n f), h.place, forest-long above n f))
      (subst (Numbered 0) (h.is ∙ sym (append_assoc h.front (nodes_of above n f) h.back)) numbered))
