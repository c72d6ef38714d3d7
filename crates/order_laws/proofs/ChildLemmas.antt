-- The children of an element that come before a node: where something holds of each of them, and of the next one, it holds of each that
-- comes before what is behind that one.
use Rattle.std.proofs.Common.{◌≡◌, ℕ, ◌+◌, ◌<◌, ◌≤◌, true, false, List, [], ◌∷◌, ◌++◌, length, inr, sym, ◌∙◌}
use Rattle.std.proofs.Common.{subst, arith}
use Rattle.std.specs.Prelude.{None}
use Rattle.std.proofs.lemmas.Bool.{false≢true}
use Rattle.inv_base.specs.declared.tree.Kind.TheVariants as kinds
use Rattle.inv_base.specs.Tree.{Forest, a_text, an_element, Name, Attribute, Node, size, nodes_of, nodes_of_attributes}
use Rattle.node_arena.specs.Moves.{is_nearest, is_child}
use Rattle.binding_laws.proofs.TreeLemmas.{Each, each-weaker, each-append, Free, nearest-free, among-older, other-is, element_node, Lies}
use Rattle.binding_laws.proofs.NodeLemmas.{and-false, no-child, far-forest}
use Rattle.order_laws.proofs.ListLemmas.{each-front, each-zip}
use Rattle.order_laws.proofs.NumberLemmas.{Numbered, from-all, forest-numbered, front-below, back-beyond}

-- It holds of the node where that is a child of the one of this number, and comes before that number.
abbrev pub OfChild : ℕ → ℕ → (Node → Type 0) → Node → Type 0
OfChild p n P x = is_child p x ≡ true → x.number < n → P x

abbrev pub OfChildren : ℕ → ℕ → (Node → Type 0) → List Node → Type 0
OfChildren p n P nodes = Each (OfChild p n P) nodes

pub children-weaker : (p n : ℕ) (P Q : Node → Type 0) (nodes : List Node) → ((x : Node) → P x → Q x) → OfChildren p n P nodes → OfChildren p n Q nodes
children-weaker p n P Q nodes f h = each-weaker (OfChild p n P) (OfChild p n Q) nodes (λ x k c l. f x (k c l)) h

childless : (p n : ℕ) (P : Node → Type 0) (x : Node) → is_child p x ≡ false → OfChild p n P x
childless p n P x e c l = absurd (false≢true (sym e ∙ c))

too-late : (p n : ℕ) (P : Node → Type 0) (x : Node) → n ≤ x.number → OfChild p n P x
too-late p n P x h c l = let z : ⊥ = omega (arith, h, l) in absurd z

far : (p n : ℕ) (P : Node → Type 0) (xs : List Node) → Each (λ (x : Node). is_nearest p x.above ≡ false) xs → OfChildren p n P xs
far p n P xs h = each-weaker (λ (x : Node). is_nearest p x.above ≡ false) (OfChild p n P) xs (λ x e. childless p n P x (no-child p x e)) h

late : (p n low : ℕ) (P : Node → Type 0) (xs : List Node) → n ≤ low → Each (λ (x : Node). low ≤ x.number) xs → OfChildren p n P xs
late p n low P xs l h = each-weaker (λ (x : Node). low ≤ x.number) (OfChild p n P) xs (λ x k. too-late p n P x (omega (arith, l, k))) h

attributes-childless : (p n : ℕ) (P : Node → Type 0) (above : List ℕ) (m : ℕ) (attributes : List Attribute)
    → OfChildren p n P (nodes_of_attributes above m attributes)
attributes-childless p n P above m [] = tt
attributes-childless p n P above m (a ∷ attributes) =
    (λ c l. absurd (false≢true (sym (and-false (is_nearest p above)) ∙ c)), attributes-childless p n P above (m + 1) attributes)

-- the children that come before a forest in the document
pub none-before : (p : ℕ) (P : Node → Type 0) (above : List ℕ) (n : ℕ) (f : Forest) → OfChildren p n P (nodes_of above n f)
none-before p P above n f = late p n n P (nodes_of above n f) (omega arith) (from-all n n (nodes_of above n f) (omega arith) (forest-numbered above n f))

module _ (nodes : List Node) (numbered : Numbered 0 nodes) where
  -- in front of the forest they are those that came before
  front-children : (p : ℕ) (above : List ℕ) (n : ℕ) (f : Forest) (P : Node → Type 0) (m : ℕ) (h : Lies nodes above n f)
      → OfChildren p n P nodes → OfChildren p m P h.front
  front-children p above n f P m h k =
      each-zip (OfChild p n P) (λ (x : Node). x.number < n) (OfChild p m P) h.front (λ x a l c _. a c l)
      (each-front (OfChild p n P) h.front (nodes_of above n f ++ h.back) (subst (Each (OfChild p n P)) h.is k))
      (front-below nodes numbered above n f h)

  pub behind-text : (p : ℕ) (above : List ℕ) (n : ℕ) (characters : List ℕ) (rest : Forest) (P : Node → Type 0)
      → Lies nodes (p ∷ above) n (a_text characters rest)
      → P (record { number = n; kind = kinds.Text; name = None; above = p ∷ above; text = characters }) → OfChildren p n P nodes → OfChildren p (n + 1) P nodes
  behind-text p above n characters rest P h own k =
      let Q : Node → Type 0 = OfChild p (n + 1) P in
      let later : List Node = nodes_of (p ∷ above) (n + 1) rest in
      subst (Each Q) (sym h.is)
      (each-append Q h.front (nodes_of (p ∷ above) n (a_text characters rest) ++ h.back)
      (front-children p (p ∷ above) n (a_text characters rest) P (n + 1) h k) (
        λ c l. own,
        each-append Q later h.back (none-before p P (p ∷ above) (n + 1) rest)
            (late p (n + 1) (n + (1 + size rest)) P h.back (omega arith) (back-beyond nodes numbered (p ∷ above) n (a_text characters rest) h)),
      ))

  module _ (above : List ℕ) (n : ℕ) (name : Name) (attributes : List Attribute) (inside rest : Forest)
      (h : Lies nodes above n (an_element name attributes inside rest)) where
    abbrev own : List Node
    own = nodes_of_attributes (n ∷ above) (n + 1) attributes

    abbrev within : List Node
    within = nodes_of (n ∷ above) (n + (1 + length attributes)) inside

    abbrev later : List Node
    later = nodes_of above (n + (1 + (length attributes + size inside))) rest

    of-parts : (Q : Node → Type 0) → Each Q h.front → Q (element_node above n name) → Each Q own → Each Q within → Each Q later → Each Q h.back → Each Q nodes
    of-parts Q a b c d e f =
        subst (Each Q) (sym h.is)
        (each-append Q h.front (element_node above n name ∷ ((own ++ (within ++ later)) ++ h.back)) a
        (b, each-append Q (own ++ (within ++ later)) h.back (each-append Q own (within ++ later) c (each-append Q within later d e)) f))

    -- before the first of an element's own children none comes
    pub at-first : (P : Node → Type 0) → OfChildren n (n + (1 + length attributes)) P nodes
    at-first P =
        let m : ℕ = n + (1 + length attributes) in
        let high : ℕ = n + (1 + (length attributes + (size inside + size rest))) in
        of-parts (OfChild n m P)
        (far n m P h.front (each-weaker (Free n high) (λ (x : Node). is_nearest n x.above ≡ false) h.front
        (λ x k. nearest-free n x.above (k n (omega arith) (omega arith))) h.front_free))
        (childless n m P (element_node above n name) (no-child n (element_node above n name) (nearest-free n above (among-older n above h.older))))
        (attributes-childless n m P (n ∷ above) (n + 1) attributes)
        (none-before n P (n ∷ above) m inside)
        (late n m (n + (1 + (length attributes + size inside))) P later (omega arith)
        (from-all (n + (1 + (length attributes + size inside))) (n + (1 + (length attributes + size inside))) later (omega arith)
        (forest-numbered above (n + (1 + (length attributes + size inside))) rest)))
        (late n m high P h.back (omega arith) (back-beyond nodes numbered above n (an_element name attributes inside rest) h))

  -- behind an element that one comes, and none of those inside it
  pub behind-element : (p : ℕ) (above : List ℕ) (n : ℕ) (name : Name) (attributes : List Attribute) (inside rest : Forest) (P : Node → Type 0)
      → Lies nodes (p ∷ above) n (an_element name attributes inside rest) → P (element_node (p ∷ above) n name) → OfChildren p n P nodes
      → OfChildren p (n + (1 + (length attributes + size inside))) P nodes
  behind-element p above n name attributes inside rest P h this k =
      let m : ℕ = n + (1 + (length attributes + size inside)) in
      let older : p < n = h.older.0 in
      of-parts (p ∷ above) n name attributes inside rest h (OfChild p m P)
      (front-children p (p ∷ above) n (an_element name attributes inside rest) P m h k)
      (λ c l. this)
      (attributes-childless p m P (n ∷ (p ∷ above)) (n + 1) attributes)
      (far p m P (nodes_of (n ∷ (p ∷ above)) (n + (1 + length attributes)) inside)
      (far-forest p (n + (1 + length attributes)) (n ∷ (p ∷ above)) inside (other-is n p (inr older)) (omega (arith, older))))
      (none-before p P (p ∷ above) m rest)
      (late p m (n + (1 + (length attributes + (size inside + size rest)))) P h.back (omega arith)
      (back-beyond nodes numbered (p ∷ above) n (an_element name attributes inside rest) h))
