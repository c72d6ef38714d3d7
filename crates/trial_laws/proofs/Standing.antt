-- In a document each node but its own stands in an element of it, or in it.
use Rattle.std.proofs.Common.{◌≡◌, ℕ, suc, ◌+◌, Bool, true, false, ◌&&◌, ◌||◌, List, [], ◌∷◌, ◌++◌, length, refl, ap, ◌∙◌, arith, length-append}
use Rattle.std.specs.Prelude.{◌==◌}
use Rattle.std.proofs.lemmas.Bool.{false≢true}
use Rattle.inv_base.specs.Tree.{Forest, no_more, a_text, an_element, Name, Attribute, Node, size, nodes_of, nodes_of_attributes, document_nodes, is_among}
use Rattle.node_arena.specs.Moves.{tree_node}
use Rattle.binding_laws.proofs.TreeLemmas.{Each, each-weaker, each-append, element_node, Lies, document-lies, inside-lies, behind-element, behind-text}
use Rattle.binding_laws.proofs.NodeLemmas.{at-element}
use Rattle.trial_laws.proofs.Finding.{is_reached, IsPlace, FineAbove, StandsWell}

or-true : (b c : Bool) → c ≡ true → (b || c) ≡ true
or-true true c h = refl
or-true false c h = h

attributes-fine : (nodes : List Node) (above : List ℕ) (n : ℕ) (attributes : List Attribute) → FineAbove nodes above →
    Each (λ (x : Node). FineAbove nodes x.above) (nodes_of_attributes above n attributes)
attributes-fine nodes above n [] h = tt
attributes-fine nodes above n (attribute ∷ attributes) h = (h, attributes-fine nodes above (n + 1) attributes h)

module _ (nodes : List Node) (rooted : (tree_node nodes 0).number ≡ 0) where
  pub element-place : (above : List ℕ) (n : ℕ) (name : Name) (attributes : List Attribute) (inside rest : Forest) →
      Lies nodes above n (an_element name attributes inside rest)
      → is_among 0 above ≡ true → IsPlace nodes n
  element-place above n name attributes inside rest lies within =
      let got : tree_node nodes n ≡ element_node above n name = at-element nodes above n name attributes inside rest lies in
      let front : ℕ = length lies.front in
      let behind : List Node = nodes_of_attributes (n ∷ above) (n + 1) attributes ++
      (nodes_of (n ∷ above) (n + (1 + length attributes)) inside ++ nodes_of above (n + (1 + (length attributes + size inside))) rest) in
      let long : length nodes ≡ length lies.front + suc (length (behind ++ lies.back)) = ap length lies.is ∙
      length-append lies.front (element_node above n name ∷ (behind ++ lies.back)) in
      record {
        below = omega (arith, long, lies.place);
        number_is = ap (λ (x : Node). x.number) got;
        reached = ap (is_reached nodes) got
            ∙ (ap (λ k. ((n == k) || (is_among k above && true)) && true) rooted ∙
            ap (λ b. b && true) (or-true (n == 0) (is_among 0 above && true) (ap (λ b. b && true) within)));
      }

  forest-fine : (above : List ℕ) (n : ℕ) (f : Forest) → Lies nodes above n f → FineAbove nodes above → is_among 0 above ≡ true →
      Each (λ (x : Node). FineAbove nodes x.above) (nodes_of above n f)
  forest-fine above n no_more lies fine within = tt
  forest-fine above n (a_text characters rest) lies fine within =
      (fine, forest-fine above (n + 1) rest (behind-text nodes above n characters rest lies) fine within)
  forest-fine above n (an_element name attributes inside rest) lies fine within =
      let place : IsPlace nodes n = element-place above n name attributes inside rest lies within in (
        fine,
        each-append (λ (x : Node). FineAbove nodes x.above) (nodes_of_attributes (n ∷ above) (n + 1) attributes) _
            (attributes-fine nodes (n ∷ above) (n + 1) attributes place)
            (each-append (λ (x : Node). FineAbove nodes x.above) (nodes_of (n ∷ above) (n + (1 + length attributes)) inside) _
            (forest-fine (n ∷ above) (n + (1 + length attributes)) inside (inside-lies nodes above n name attributes inside rest lies) place
            (or-true (0 == n) (is_among 0 above) within))
            (forest-fine above (n + (1 + (length attributes + size inside))) rest (behind-element nodes above n name attributes inside rest lies) fine within)),
      )

pub document-stands : (f : Forest) (name : Name) → Each (StandsWell (document_nodes f) name) (document_nodes f)
document-stands f name =
    let nodes : List Node = document_nodes f in
    let root : IsPlace nodes 0 = record { below = omega arith; number_is = refl; reached = refl } in (
      (λ h. absurd (false≢true h)),
      each-weaker (λ (x : Node). FineAbove nodes x.above) (StandsWell nodes name) (nodes_of (0 ∷ []) 1 f) (λ x w h. w)
          (forest-fine nodes refl (0 ∷ []) 1 f (document-lies f) root refl),
    )
