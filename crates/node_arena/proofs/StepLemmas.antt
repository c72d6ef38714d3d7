-- The nodes of a tree, each beside the next in document order.
use Rattle.std.proofs.Common.{◌≡◌, ℕ, zero, suc, ◌+◌, ◌<◌, true, false, ◌⊎◌, inl, inr, ⊎_elim, List, [], ◌∷◌, ◌++◌, length, Some, None, subst, refl, sym, ◌∙◌}
use Rattle.std.proofs.Common.{append_assoc, arith}
use Rattle.std.proofs.lemmas.Bool.{false≢true, or_cases, or_right, or_left, eqb-true, eq-eqb}
use Rattle.inv_base.specs.declared.tree.Kind.TheVariants as kinds
use Rattle.inv_base.specs.Tree.{Node, Attribute, Forest, no_more, a_text, an_element, size, nodes_of, nodes_of_attributes, document_nodes, is_among}
use Rattle.node_arena.specs.Moves.{tree_node, is_attribute}
use Rattle.node_arena.proofs.FoundLemmas.{AreInOrder}

-- The number is one of the numbers.
abbrev pub In : ℕ → List ℕ → Type 0
In n [] = ⊥
In n (m ∷ numbers) = (n ≡ m) ⊎ In n numbers

pub in_among : (n : ℕ) (numbers : List ℕ) → is_among n numbers ≡ true → In n numbers
in_among n [] e = absurd (false≢true e)
in_among n (m ∷ numbers) e = ⊎_elim (λ here. inl (eqb-true n m here)) (λ there. inr (in_among n numbers there)) (or_cases _ _ e)

pub among_in : (n : ℕ) (numbers : List ℕ) → In n numbers → is_among n numbers ≡ true
among_in n [] i = absurd i
among_in n (m ∷ numbers) (inl e) = or_left _ _ (eq-eqb n m e)
among_in n (m ∷ numbers) (inr i) = or_right _ _ (among_in n numbers i)

pub in_right : (n : ℕ) (left numbers : List ℕ) → In n numbers → In n (left ++ numbers)
in_right n [] numbers i = i
in_right n (m ∷ left) numbers i = inr (in_right n left numbers i)

-- How a node stands to the next: that is right inside it, or beside it or beside one that it is inside. An attribute is
-- right behind its element or behind another attribute.
pub data Step (node next : Node) : Type 0 where
  inner : is_attribute node ≡ false → next.above ≡ node.number ∷ node.above → Step node next
  beside : (left : List ℕ) → node.above ≡ left ++ next.above
      → (is_attribute next ≡ true → (is_attribute node ≡ true) × (node.above ≡ next.above)) → Step node next

-- from a node to the last of those behind it, step by step
abbrev Leads : Node → List Node → Node → Type 0
Leads node [] last = node ≡ last
Leads node (next ∷ nodes) last = (next.number ≡ node.number + 1) × In 0 next.above × Step node next × Leads next nodes last

leads-append : (node middle last : Node) (xs ys : List Node) → Leads node xs middle → Leads middle ys last → Leads node (xs ++ ys) last
leads-append node middle last [] ys p q = subst (λ x. Leads x ys last) (sym p) q
leads-append node middle last (x ∷ xs) ys p q = (p.0, p.1, p.2, leads-append x middle last xs ys p.3 q)

-- Behind the node stands an attribute, or another node, with these ancestors.
abbrev FitsAttribute : Node → List ℕ → Type 0
FitsAttribute node above = ((is_attribute node ≡ false) × (above ≡ node.number ∷ node.above)) ⊎ ((is_attribute node ≡ true) × (above ≡ node.above))

abbrev Fits : Node → List ℕ → Type 0
Fits node above = ((is_attribute node ≡ false) × (above ≡ node.number ∷ node.above)) ⊎ ((left : List ℕ) × (node.above ≡ left ++ above))

record Reaches (Fit : Node → List ℕ → Type 0) (node : Node) (above : List ℕ) (nodes : List Node) (n : ℕ) : Type 0 where
  pub last : Node
  pub leads : Leads node nodes last
  pub fits : Fit last above
  pub number : last.number + 1 ≡ n

attribute_step : (node next : Node) → is_attribute next ≡ true → FitsAttribute node next.above → Step node next
attribute_step node next is (inl f) = inner f.0 f.1
attribute_step node next is (inr f) = beside [] (sym f.1) (λ e. (f.0, sym f.1))

other_step : (node next : Node) → is_attribute next ≡ false → Fits node next.above → Step node next
other_step node next is (inl f) = inner f.0 f.1
other_step node next is (inr f) = beside f.0 f.1 (λ e. absurd (false≢true (sym is ∙ e)))

fits_other : (node : Node) (above : List ℕ) → FitsAttribute node above → Fits node above
fits_other node above (inl f) = inl f
fits_other node above (inr f) = inr ([], sym f.1)

tail_is : (n m : ℕ) (xs ys : List ℕ) → n ∷ xs ≡ m ∷ ys → xs ≡ ys
tail_is n m xs ys e = cc

fits_outer : (node : Node) (n : ℕ) (above : List ℕ) → Fits node (n ∷ above) → Fits node above
fits_outer node n above (inl f) = inr ([], sym (tail_is n node.number above node.above f.1))
fits_outer node n above (inr f) = inr (f.0 ++ n ∷ [], f.1 ∙ sym (append_assoc f.0 (n ∷ []) above))

lead_attributes : (attributes : List Attribute) (node : Node) (above : List ℕ) (n : ℕ) → n ≡ node.number + 1 → In 0 above → FitsAttribute node above
    → Reaches FitsAttribute node above (nodes_of_attributes above n attributes) (n + length attributes)
lead_attributes [] node above n is rooted fits = record { last = node; leads = refl; fits = fits; number = omega (arith, is) }
lead_attributes (attribute ∷ attributes) node above n is rooted fits =
    let next : Node = record { number = n; kind = kinds.Attribute; name = Some attribute.name; above = above; text = attribute.value } in
    let more = lead_attributes attributes next above (n + 1) refl rooted (inr (refl, refl)) in
    let number = more.number in
    record {
      last = more.last;
      leads = (is, rooted, attribute_step node next refl fits, more.leads);
      fits = more.fits;
      number = omega (arith, number);
    }

lead_forest : (f : Forest) (node : Node) (above : List ℕ) (n : ℕ) → n ≡ node.number + 1 → In 0 above → Fits node above
    → Reaches Fits node above (nodes_of above n f) (n + size f)
lead_forest no_more node above n is rooted fits = record { last = node; leads = refl; fits = fits; number = omega (arith, is) }
lead_forest (a_text characters rest) node above n is rooted fits =
    let next : Node = record { number = n; kind = kinds.Text; name = None; above = above; text = characters } in
    let more = lead_forest rest next above (n + 1) refl rooted (inr ([], refl)) in
    let number = more.number in
    record { last = more.last; leads = (is, rooted, other_step node next refl fits, more.leads); fits = more.fits; number = omega (arith, number) }
lead_forest (an_element name attributes inside rest) node above n is rooted fits =
    let next : Node = record { number = n; kind = kinds.Element; name = Some name; above = above; text = [] } in
    let first = lead_attributes attributes next (n ∷ above) (n + 1) refl (inr rooted) (inl (refl, refl)) in
    let first_number = first.number in
    let second = lead_forest inside first.last (n ∷ above) (n + (1 + length attributes)) (omega (arith, first_number)) (inr rooted)
    (fits_other first.last (n ∷ above) first.fits) in
    let second_number = second.number in
    let third = lead_forest rest second.last above (n + (1 + (length attributes + size inside))) (omega (arith, second_number)) rooted
    (fits_outer second.last n above second.fits) in
    let third_number = third.number in
    record {
      last = third.last;
      leads = (
        is,
        rooted,
        other_step node next refl fits,
        leads-append next first.last third.last _ _ first.leads (leads-append first.last second.last third.last _ _ second.leads third.leads),
      );
      fits = third.fits;
      number = omega (arith, third_number);
    }

-- The nodes lead on: each has the number of its place, and stands to the next as it should.
pub record Walk (nodes : List Node) : Type 0 where
  pub numbers : AreInOrder nodes
  pub begins : (tree_node nodes 0).above ≡ []
  pub whole : is_attribute (tree_node nodes 0) ≡ false
  pub rooted : (k : ℕ) → suc k < length nodes → In 0 (tree_node nodes (suc k)).above
  pub step : (k : ℕ) → suc k < length nodes → Step (tree_node nodes k) (tree_node nodes (suc k))

numbers_at : (node last : Node) (nodes : List Node) → Leads node nodes last → (k : ℕ) → k < length (node ∷ nodes) →
    (tree_node (node ∷ nodes) k).number ≡ node.number + k
numbers_at node last nodes led zero h = omega arith
numbers_at node last [] led (suc k) h = absurd (omega (arith, h))
numbers_at node last (next ∷ nodes) led (suc k) h = omega (arith, numbers_at next last nodes led.3 k (omega (arith, h)), led.0)

steps_at : (node last : Node) (nodes : List Node) → Leads node nodes last → (k : ℕ) → suc k < length (node ∷ nodes)
    → In 0 (tree_node (node ∷ nodes) (suc k)).above × Step (tree_node (node ∷ nodes) k) (tree_node (node ∷ nodes) (suc k))
steps_at node last [] led k h = absurd (omega (arith, h))
steps_at node last (next ∷ nodes) led zero h = (led.1, led.2)
steps_at node last (next ∷ nodes) led (suc k) h = steps_at next last nodes led.3 k (omega (arith, h))

pub document_walk : (tree : Forest) → Walk (document_nodes tree)
document_walk tree =
    let document : Node = record { number = 0; kind = kinds.Document; name = None; above = []; text = [] } in
    let led = lead_forest tree document (0 ∷ []) 1 refl (inl refl) (inl (refl, refl)) in
    let nodes = nodes_of (0 ∷ []) 1 tree in
    record {
      numbers = λ k h. numbers_at document led.last nodes led.leads k h ∙ omega arith;
      begins = refl;
      whole = refl;
      rooted = λ k h. (steps_at document led.last nodes led.leads k h).0;
      step = λ k h. (steps_at document led.last nodes led.leads k h).1;
    }
