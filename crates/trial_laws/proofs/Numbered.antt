-- The nodes of a document have the numbers of their places, so a node is one of those that pass a test exactly where it passes.
use Rattle.std.proofs.Common.{◌≡◌, ℕ, zero, suc, ◌+◌, ◌<◌, ◌≤◌, Bool, true, false, ◌||◌, List, [], ◌∷◌, ◌++◌, length, get_or, map, filter, inl, inr, refl, sym}
use Rattle.std.proofs.Common.{ap, ◌∙◌, subst, arith}
use Rattle.std.specs.Prelude.{if◌then◌else◌}
use Rattle.inv_base.specs.Tree.{Forest, no_more, a_text, an_element, Attribute, Node, size, nodes_of, nodes_of_attributes, document_nodes, is_among}
use Rattle.node_arena.specs.Moves.{tree_node}
use Rattle.binding_laws.proofs.TreeLemmas.{Each, each-weaker, each-append, same-is, other-is}

-- ---- numbers by places

-- from the first number up to, but not with, the second
abbrev pub AreNumbered : ℕ → ℕ → List Node → Type 0
AreNumbered n m [] = n ≡ m
AreNumbered n m (x ∷ xs) = (x.number ≡ n) × AreNumbered (n + 1) m xs

numbered-append : (n m k : ℕ) (xs ys : List Node) → AreNumbered n m xs → AreNumbered m k ys → AreNumbered n k (xs ++ ys)
numbered-append n m k [] ys h l = subst (λ a. AreNumbered a k ys) (sym h) l
numbered-append n m k (x ∷ xs) ys h l = (h.0, numbered-append (n + 1) m k xs ys h.1 l)

from-to : (n m k l : ℕ) (xs : List Node) → AreNumbered n m xs → n ≡ k → m ≡ l → AreNumbered k l xs
from-to n m k l xs h e f = subst (λ a. AreNumbered a l xs) e (subst (λ b. AreNumbered n b xs) f h)

attributes-numbered : (above : List ℕ) (n : ℕ) (attributes : List Attribute) → AreNumbered n (n + length attributes) (nodes_of_attributes above n attributes)
attributes-numbered above n [] = omega arith
attributes-numbered above n (attribute ∷ attributes) = (
  refl,
  from-to (n + 1) (n + 1 + length attributes) (n + 1) (n + length (attribute ∷ attributes)) (nodes_of_attributes above (n + 1) attributes)
      (attributes-numbered above (n + 1) attributes) refl (omega arith),
)

pub forest-numbered : (above : List ℕ) (n : ℕ) (f : Forest) → AreNumbered n (n + size f) (nodes_of above n f)
forest-numbered above n no_more = omega arith
forest-numbered above n (a_text characters rest) = (
  refl,
  from-to (n + 1) (n + 1 + size rest) (n + 1) (n + size (a_text characters rest)) (nodes_of above (n + 1) rest) (forest-numbered above (n + 1) rest) refl
      (omega arith),
)
forest-numbered above n (an_element name attributes inside rest) =
    let a : ℕ = length attributes in
    let b : ℕ = size inside in
    let c : ℕ = size rest in
    let own : List Node = nodes_of_attributes (n ∷ above) (n + 1) attributes in
    let within : List Node = nodes_of (n ∷ above) (n + (1 + a)) inside in
    let later : List Node = nodes_of above (n + (1 + (a + b))) rest in (
      refl,
      numbered-append (n + 1) (n + (1 + a)) (n + (1 + (a + (b + c)))) own (within ++ later)
          (from-to (n + 1) (n + 1 + a) (n + 1) (n + (1 + a)) own (attributes-numbered (n ∷ above) (n + 1) attributes) refl (omega arith))
          (numbered-append (n + (1 + a)) (n + (1 + (a + b))) (n + (1 + (a + (b + c)))) within later
          (from-to (n + (1 + a)) (n + (1 + a) + b) (n + (1 + a)) (n + (1 + (a + b))) within (forest-numbered (n ∷ above) (n + (1 + a)) inside) refl
          (omega arith))
          (from-to (n + (1 + (a + b))) (n + (1 + (a + b)) + c) (n + (1 + (a + b))) (n + (1 + (a + (b + c)))) later
          (forest-numbered above (n + (1 + (a + b))) rest) refl (omega arith))),
    )

pub document-numbered : (f : Forest) → AreNumbered 0 (1 + size f) (document_nodes f)
document-numbered f = (refl, forest-numbered (0 ∷ []) 1 f)

-- the node of a number has it
number-got : (n m k : ℕ) (xs : List Node) (d : Node) → AreNumbered n m xs → n + k < m → (get_or xs k d).number ≡ n + k
number-got n m k [] d h l = absurd (omega (arith, h, l))
number-got n m zero (x ∷ xs) d h l = h.0 ∙ omega arith
number-got n m (suc k) (x ∷ xs) d h l = number-got (n + 1) m k xs d h.1 (omega (arith, l)) ∙ omega arith

pub number-at : (m n : ℕ) (xs : List Node) → AreNumbered 0 m xs → n < m → (tree_node xs n).number ≡ n
number-at m n xs h l = number-got 0 m n xs _ h (omega (arith, l)) ∙ omega arith

-- ---- nodes that pass a test, by their numbers

abbrev pub number : Node → ℕ
number node = node.number

none-among : (p : Node → Bool) (k n m : ℕ) (xs : List Node) → AreNumbered n m xs → k < n → is_among k (map number (filter p xs)) ≡ false
none-among p k n m [] h l = refl
none-among p k n m (x ∷ xs) h l = go (none-among p k (n + 1) m xs h.1 (omega (arith, l))) (p x)
  where
    go : is_among k (map number (filter p xs)) ≡ false → (b : Bool) → is_among k (map number (if b then x ∷ filter p xs else filter p xs)) ≡ false
    go later true = ap (λ c. c || is_among k (map number (filter p xs))) (other-is k x.number (inl (omega (arith, h.0, l)))) ∙ later
    go later false = later

abbrev Told : (Node → Bool) → List Node → ℕ → Node → Type 0
Told p xs n x = (n ≤ x.number) × (is_among x.number (map number (filter p xs)) ≡ p x)

told-each : (p : Node → Bool) (n m : ℕ) (xs : List Node) → AreNumbered n m xs → Each (Told p xs n) xs
told-each p n m [] h = tt
told-each p n m (x ∷ xs) h = (
  (omega (arith, h.0), here (p x)),
  each-weaker (Told p xs (n + 1)) (Told p (x ∷ xs) n) xs (λ y t. (omega (arith, t.0), past y (omega (arith, t.0, h.0)) (p x) ∙ t.1))
      (told-each p (n + 1) m xs h.1),
)
  where
    here : (b : Bool) → is_among x.number (map number (if b then x ∷ filter p xs else filter p xs)) ≡ b
    here true = ap (λ c. c || is_among x.number (map number (filter p xs))) (same-is x.number)
    here false = none-among p x.number (n + 1) m xs h.1 (omega (arith, h.0))

    past : (y : Node) → x.number < y.number → (b : Bool) → is_among y.number (map number (if b then x ∷ filter p xs else filter p xs)) ≡ is_among y.number
        (map number (filter p xs))
    past y l true = ap (λ c. c || is_among y.number (map number (filter p xs))) (other-is y.number x.number (inr l))
    past y l false = refl

-- A node is among those that pass exactly where it passes.
pub among-each : (p : Node → Bool) (m : ℕ) (xs : List Node) → AreNumbered 0 m xs → Each (λ x. is_among x.number (map number (filter p xs)) ≡ p x) xs
among-each p m xs h = each-weaker (Told p xs 0) (λ x. is_among x.number (map number (filter p xs)) ≡ p x) xs (λ x t. t.1) (told-each p 0 m xs h)

-- ---- the nodes around

-- the nearest of these numbers is below the count
abbrev pub IsWithin : ℕ → List ℕ → Type 0
IsWithin count [] = ⊥
IsWithin count (n ∷ above) = n < count

attributes-within : (count : ℕ) (above : List ℕ) (n : ℕ) (attributes : List Attribute) → IsWithin count above →
    Each (λ (x : Node). IsWithin count x.above) (nodes_of_attributes above n attributes)
attributes-within count above n [] h = tt
attributes-within count above n (attribute ∷ attributes) h = (h, attributes-within count above (n + 1) attributes h)

forest-within : (count : ℕ) (above : List ℕ) (n : ℕ) (f : Forest) → IsWithin count above → n + size f ≤ count →
    Each (λ (x : Node). IsWithin count x.above) (nodes_of above n f)
forest-within count above n no_more h l = tt
forest-within count above n (a_text characters rest) h l = (h, forest-within count above (n + 1) rest h (omega (arith, l)))
forest-within count above n (an_element name attributes inside rest) h l = (
  h,
  each-append (λ (x : Node). IsWithin count x.above) (nodes_of_attributes (n ∷ above) (n + 1) attributes) _
      (attributes-within count (n ∷ above) (n + 1) attributes (omega (arith, l)))
      (each-append (λ (x : Node). IsWithin count x.above) (nodes_of (n ∷ above) (n + (1 + length attributes)) inside) _
      (forest-within count (n ∷ above) (n + (1 + length attributes)) inside (omega (arith, l)) (omega (arith, l)))
      (forest-within count above (n + (1 + (length attributes + size inside))) rest h (omega (arith, l)))),
)

-- Each node but the document's own stands in one of the document.
pub tree-within : (f : Forest) → Each (λ (x : Node). IsWithin (1 + size f) x.above) (nodes_of (0 ∷ []) 1 f)
tree-within f = forest-within (1 + size f) (0 ∷ []) 1 f (omega arith) (omega arith)
