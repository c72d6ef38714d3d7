-- What rows pick stands in the document: ways lead from element to element inside it.
use Rattle.std.proofs.Common.{◌≡◌, ℕ, ◌+◌, ◌<◌, zero, suc, Bool, true, false, not, List, [], ◌∷◌, ◌++◌, length, get_or, Some, refl, sym, ap, subst, ◌∙◌, arith}
use Rattle.std.proofs.Common.{append_assoc}
use Rattle.std.specs.Prelude.{◌==◌, filter, map, unwrap_or}
use Rattle.std.specs.List.{All}
use Rattle.std.proofs.lemmas.Bool.{false≢true, and_parts, eqb-true}
use Rattle.std.proofs.lemmas.Bool.Decides.{same_from_decides, Decides-like, Decides-eqb}
use Rattle.std.proofs.lemmas.List.{append-nil, append_cancel_right}
use Rattle.std.specs.Prelude.{bytes_eq}
use Rattle.std.proofs.lemmas.Slice.Eq.{bytes_eq-Decides}
use Rattle.std.proofs.lemmas.List.Elements.{All-nil, All-cons, All-map, All-filter, All-weaker, filter_passes}
use Rattle.inv_base.specs.Tree.{Node}
use Rattle.node_arena.specs.Moves.{tree_node, nearest, is_nearest, is_child, is_attribute, is_attribute_of, parent}
use Rattle.bind_rows.specs.declared.names.ElementName.{ElementName}
use Rattle.bind_rows.specs.declared.names.Leaf.{Leaf}
use Rattle.bind_rows.specs.declared.names.Leaf.TheVariants as leaves
use Rattle.bind_rows.specs.declared.rows.Step.{Step}
use Rattle.bind_rows.specs.declared.rows.Row.{Row}
use Rattle.bind_meaning.specs.Names.{has_element_name, has_plain_name}
use Rattle.bind_meaning.specs.Elements.{number, both, children_named, attributes_named, is_blank_at, are_met, met}
use Rattle.bind_meaning.specs.Picks.{Pick, ways, last_of, filled, leaves_of, picks_of_way, nodes_picked, around_last}
use Rattle.bind_meaning.specs.Terms.{turned}
use Rattle.bind_seats.specs.Nodes.{Numbered, Sound}
use Rattle.bind_seats.specs.Rowed.{above, last_element, holder}
use Rattle.bind_seats.proofs.ListLemmas.{All-flat_map, All-both}

-- ---- the nodes of a document

-- a node is the one of its number
abbrev IsAt : List Node → Node → Type 0
IsAt nodes node = (node.number < length nodes) × (tree_node nodes node.number ≡ node)

at-from : (whole nodes : List Node) (j : ℕ) → Numbered j nodes → length whole ≡ j + length nodes
    → ((k : ℕ) → k < length nodes → tree_node whole (j + k) ≡ tree_node nodes k) → (k : ℕ) (d : Node) → k < length nodes → IsAt whole (get_or nodes k d)
at-from whole [] j h l e k d lt = absurd (omega arith)
at-from whole (node ∷ nodes) j h l e zero d lt =
    (let n = h.0 in omega arith, ap (tree_node whole) (h.0 ∙ (let z : j ≡ j + 0 = omega arith in z)) ∙ e 0 (omega arith))
at-from whole (node ∷ nodes) j h l e (suc k) d lt =
    at-from whole nodes (suc j) h.1 (omega arith)
    (λ i less. ap (tree_node whole) (let z : suc j + i ≡ j + suc i = omega arith in z) ∙ e (suc i) (omega arith)) k d (omega arith)

pub all_at : (nodes : List Node) → Numbered 0 nodes → All (IsAt nodes) nodes
all_at nodes h = at-from nodes nodes 0 h (omega arith) (λ k l. ap (tree_node nodes) (let z : 0 + k ≡ k = omega arith in z))

pub number-at : (nodes : List Node) → Numbered 0 nodes → (m : ℕ) → m < length nodes → (tree_node nodes m).number ≡ m
number-at nodes h m l = from 0 nodes m h l ∙ (let z : 0 + m ≡ m = omega arith in z)
  where
    from : (j : ℕ) (xs : List Node) (k : ℕ) → Numbered j xs → k < length xs → (tree_node xs k).number ≡ j + k
    from j [] k n lt = absurd (omega arith)
    from j (x ∷ xs) zero n lt = n.0 ∙ (let z : j ≡ j + 0 = omega arith in z)
    from j (x ∷ xs) (suc k) n lt = from (suc j) xs k n.1 (omega arith) ∙ (let z : suc j + k ≡ j + suc k = omega arith in z)

-- ---- what a step leads to

abbrev pub IsIn : List Node → ℕ → ℕ → Type 0
IsIn nodes n m = (m < length nodes) × (parent nodes m ≡ Some n)

pub nearest-is : (n : ℕ) (ns : List ℕ) → is_nearest n ns ≡ true → nearest ns ≡ Some n
nearest-is n [] h = absurd (false≢true h)
nearest-is n (m ∷ ns) h = ap Some (eqb-true m n h)

both-first : (p q : Node → Bool) (node : Node) → both p q node ≡ true → p node ≡ true
both-first p q node h = go (p node) refl h
  where
    go : (b : Bool) → p node ≡ b → (elim b [ true ↦ q node | false ↦ false ]) ≡ true → p node ≡ true
    go true e h = e
    go false e h = absurd (false≢true h)

in-by_number : (nodes : List Node) (n : ℕ) (node : Node) → IsAt nodes node → is_nearest n node.above ≡ true → IsIn nodes n node.number
in-by_number nodes n node at h = (at.0, ap (λ (x : Node). nearest x.above) at.1 ∙ nearest-is n node.above h)

pub children-in : (nodes : List Node) → Numbered 0 nodes → (name : ElementName) (n : ℕ) → All (IsIn nodes n) (children_named nodes name n)
children-in nodes h name n =
    let test : Node → Bool = both (is_child n) (has_element_name name) in
    All-map (IsIn nodes n) number (filter test nodes)
    (All-weaker (λ node. IsAt nodes node × (test node ≡ true)) (λ node. IsIn nodes n node.number)
    (λ node w. in-by_number nodes n node w.0
    (and_parts (is_nearest n node.above) (not (is_attribute node)) (both-first (is_child n) (has_element_name name) node w.1)).0)
    (filter test nodes) (All-both (IsAt nodes) (λ node. test node ≡ true) (filter test nodes) (All-filter test (IsAt nodes) nodes (all_at nodes h))
    (filter_passes test nodes)))

pub attributes-in : (nodes : List Node) → Numbered 0 nodes → (local : List ℕ) (n : ℕ) → All (IsIn nodes n) (attributes_named nodes local n)
attributes-in nodes h local n =
    let test : Node → Bool = both (is_attribute_of n) (has_plain_name local) in
    All-map (IsIn nodes n) number (filter test nodes)
    (All-weaker (λ node. IsAt nodes node × (test node ≡ true)) (λ node. IsIn nodes n node.number)
    (λ node w. in-by_number nodes n node w.0
    (and_parts (is_nearest n node.above) (is_attribute node) (both-first (is_attribute_of n) (has_plain_name local) node w.1)).0)
    (filter test nodes) (All-both (IsAt nodes) (λ node. test node ≡ true) (filter test nodes) (All-filter test (IsAt nodes) nodes (all_at nodes h))
    (filter_passes test nodes)))

pub met-in : (nodes : List Node) → Numbered 0 nodes → (step : Step) (n : ℕ) → All (IsIn nodes n) (met nodes step n)
met-in nodes h step n = All-filter (are_met nodes step.guards) (IsIn nodes n) (children_named nodes step.name n) (children-in nodes h step.name n)

-- ---- ways

-- The way leads from a node down, each element right inside the one before.
abbrev pub IsWay : List Node → ℕ → List ℕ → Type 0
IsWay nodes n [] = Unit {0}
IsWay nodes n (m ∷ way) = IsIn nodes n m × IsWay nodes m way

pub ways-lead : (nodes : List Node) → Numbered 0 nodes → (path : List Step) (n : ℕ) → All (IsWay nodes n) (ways nodes path n)
ways-lead nodes h [] n = All-cons (IsWay nodes n) [] [] tt (All-nil (IsWay nodes n))
ways-lead nodes h (step ∷ path) n =
    All-flat_map (IsWay nodes n) (λ m. map (λ way. m ∷ way) (ways nodes path m)) (met nodes step n)
    (All-weaker (IsIn nodes n) (λ m. All (IsWay nodes n) (map (λ way. m ∷ way) (ways nodes path m)))
    (λ m is. All-map (IsWay nodes n) (λ way. m ∷ way) (ways nodes path m)
    (All-weaker (IsWay nodes m) (λ way. IsIn nodes n m × IsWay nodes m way) (λ way w. (is, w)) (ways nodes path m) (ways-lead nodes h path m)))
    (met nodes step n) (met-in nodes h step n))

pub last-within : (nodes : List Node) (n : ℕ) (way : List ℕ) → 0 < length nodes → IsWay nodes n way → last_of way < length nodes
last-within nodes n [] some h = some
last-within nodes n (m ∷ []) some h = h.0.0
last-within nodes n (m ∷ (k ∷ way)) some h = last-within nodes m (k ∷ way) some h.1

-- ---- the elements around the end of a way

-- a node's number and those of all around it
abbrev pub chain_of : List Node → ℕ → List ℕ
chain_of nodes n = n ∷ (tree_node nodes n).above

above-is : (nodes : List Node) (n m : ℕ) → parent nodes m ≡ Some n → above nodes m ≡ n
above-is nodes n m h = ap (λ o. unwrap_or o 0) h

chain-way : (nodes : List Node) → Sound nodes → (n m : ℕ) (way : List ℕ) → IsWay nodes n (m ∷ way)
    → chain_of nodes (above nodes (last_of (m ∷ way))) ≡ turned (chain_of nodes n) (around_last (m ∷ way))
chain-way nodes s n m [] h = ap (chain_of nodes) (above-is nodes n m h.0.1)
chain-way nodes s n m (k ∷ way) h =
    chain-way nodes s m k way h.1 ∙ ap (λ c. turned (m ∷ c) (around_last (k ∷ way))) (s.around m n h.0.0 h.0.1)

pub chain-is : (nodes : List Node) → Sound nodes → (way : List ℕ) → IsWay nodes 0 way
    → chain_of nodes (above nodes (last_of way)) ≡ turned (0 ∷ []) (around_last way)
chain-is nodes s [] h = rw s.top (rw s.top refl)
chain-is nodes s (m ∷ way) h = chain-way nodes s 0 m way h ∙ ap (λ c. turned (0 ∷ c) (around_last (m ∷ way))) s.top

turned-back : (done ns : List ℕ) → turned done ns ≡ turned [] ns ++ done
turned-back done [] = refl
turned-back done (n ∷ ns) =
    turned-back (n ∷ done) ns ∙ (sym (append_assoc (turned [] ns) (n ∷ []) done) ∙ ap (λ xs. xs ++ done) (sym (turned-back (n ∷ []) ns)))

turned-onto : (b a ns : List ℕ) → turned b (turned a ns) ≡ turned (ns ++ b) a
turned-onto b a [] = refl
turned-onto b a (n ∷ ns) = turned-onto b (n ∷ a) ns

turned-twice : (ns : List ℕ) → turned [] (turned [] ns) ≡ ns
turned-twice ns = turned-onto [] [] ns ∙ append-nil ns

pub turned-same : (done ns ms : List ℕ) → turned done ns ≡ turned done ms → ns ≡ ms
turned-same done ns ms h =
    let backs : turned [] ns ≡ turned [] ms = append_cancel_right (turned [] ns) (turned [] ms) done (sym (turned-back done ns) ∙ (h ∙ turned-back done ms)) in
    sym (turned-twice ns) ∙ (ap (turned []) backs ∙ turned-twice ms)

same-head : (n m : ℕ) (ns ms : List ℕ) → n ∷ ns ≡ m ∷ ms → n ≡ m
same-head n m ns ms h = cc

-- Two ways end in one element exactly where the elements above their last ones are the same.
pub same-holder : (nodes : List Node) → Sound nodes → (a b : List ℕ) → IsWay nodes 0 a → IsWay nodes 0 b
    → bytes_eq (around_last a) (around_last b) ≡ (above nodes (last_of a) == above nodes (last_of b))
same-holder nodes s a b wa wb =
    same_from_decides _ _ (bytes_eq-Decides (around_last a) (around_last b))
    (Decides-like _
    (λ e. turned-same (0 ∷ []) (around_last a) (around_last b) (sym (chain-is nodes s a wa) ∙ (ap (chain_of nodes) e ∙ chain-is nodes s b wb)))
    (λ e. same-head _ _ _ _ (chain-is nodes s a wa ∙ (ap (turned (0 ∷ [])) e ∙ sym (chain-is nodes s b wb))))
    (Decides-eqb (above nodes (last_of a)) (above nodes (last_of b))))

-- ---- leaves

abbrev pub IsLeaf : List Node → Leaf → ℕ → ℕ → Type 0
IsLeaf nodes leaves.Element n m = m ≡ n
IsLeaf nodes (leaves.Attribute local) n m = IsIn nodes n m

filled-itself : (nodes : List Node) (n : ℕ) → All (λ m. m ≡ n) (filled nodes (n ∷ []))
filled-itself nodes n = All-filter (λ m. not (is_blank_at nodes m)) (λ m. m ≡ n) (n ∷ []) (All-cons (λ m. m ≡ n) n [] refl (All-nil (λ m. m ≡ n)))

pub leaves-are : (nodes : List Node) → Numbered 0 nodes → (leaf : Leaf) (n : ℕ) → All (IsLeaf nodes leaf n) (leaves_of nodes leaf n)
leaves-are nodes h leaves.Element n = filled-itself nodes n
leaves-are nodes h (leaves.Attribute local) n =
    All-flat_map (IsIn nodes n) (λ m. filled nodes (attributes_named nodes local m)) (filled nodes (n ∷ []))
    (All-weaker (λ m. m ≡ n) (λ m. All (IsIn nodes n) (filled nodes (attributes_named nodes local m)))
    (λ m e. subst (λ k. All (IsIn nodes n) (filled nodes (attributes_named nodes local k))) (sym e)
    (All-filter (λ k. not (is_blank_at nodes k)) (IsIn nodes n) (attributes_named nodes local n) (attributes-in nodes h local n)))
    (filled nodes (n ∷ [])) (filled-itself nodes n))

leaf-within : (nodes : List Node) (leaf : Leaf) (n m : ℕ) → n < length nodes → IsLeaf nodes leaf n m → m < length nodes
leaf-within nodes leaves.Element n m l h = subst (λ k. k < length nodes) (sym h) l
leaf-within nodes (leaves.Attribute local) n m l h = h.0

leaf-last : (nodes : List Node) (leaf : Leaf) (n m : ℕ) → IsLeaf nodes leaf n m → last_element nodes leaf m ≡ n
leaf-last nodes leaves.Element n m h = h
leaf-last nodes (leaves.Attribute local) n m h = above-is nodes n m h.1

-- ---- picks

-- What is known of a pick: its way and its node are in the document, and the node is at the way's end.
pub record IsPlaced (nodes : List Node) (p : Pick) : Type 0 where
  pub way : IsWay nodes 0 p.elements
  pub node : p.node < length nodes
  pub last : last_element nodes p.row.leaf p.node ≡ last_of p.elements

pub picks-placed : (nodes : List Node) → Sound nodes → (k : ℕ) (row : Row) → All (IsPlaced nodes) (nodes_picked nodes k row)
picks-placed nodes s k row =
    All-flat_map (IsPlaced nodes) (picks_of_way nodes k row) (ways nodes row.path 0)
    (All-weaker (IsWay nodes 0) (λ way. All (IsPlaced nodes) (picks_of_way nodes k row way))
    (λ way w. All-map (IsPlaced nodes) (λ n. record { place = k; row = row; elements = way; node = n }) (leaves_of nodes row.leaf (last_of way))
    (All-weaker (IsLeaf nodes row.leaf (last_of way)) (λ n. IsPlaced nodes (record { place = k; row = row; elements = way; node = n }))
    (λ n l. record {
      way = w;
      node = leaf-within nodes row.leaf (last_of way) n (last-within nodes 0 way s.some w) l;
      last = leaf-last nodes row.leaf (last_of way) n l;
    })
    (leaves_of nodes row.leaf (last_of way)) (leaves-are nodes s.numbered row.leaf (last_of way))))
    (ways nodes row.path 0) (ways-lead nodes s.numbered row.path 0))

pub picks-of_row : (nodes : List Node) (k : ℕ) (row : Row) → All (λ (p : Pick). (p.place ≡ k) × (p.row ≡ row)) (nodes_picked nodes k row)
picks-of_row nodes k row =
    All-flat_map (λ (p : Pick). (p.place ≡ k) × (p.row ≡ row)) (picks_of_way nodes k row) (ways nodes row.path 0)
    (λ i d l. All-map (λ (p : Pick). (p.place ≡ k) × (p.row ≡ row))
    (λ n. record { place = k; row = row; elements = get_or (ways nodes row.path 0) i d; node = n })
    (leaves_of nodes row.leaf (last_of (get_or (ways nodes row.path 0) i d))) (λ j e m. (refl, refl)))

-- The element around a pick's last one is the holder of its node.
pub holder-is : (nodes : List Node) (p : Pick) → IsPlaced nodes p → holder nodes p.row.leaf p.node ≡ above nodes (last_of p.elements)
holder-is nodes p h = ap (above nodes) h.last
