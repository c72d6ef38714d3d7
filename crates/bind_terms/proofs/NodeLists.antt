-- Walks over the nodes of a document are filters and tests over all of them.
use Rattle.std.proofs.Common.{◌≡◌, ℕ, zero, suc, ◌+◌, ◌-◌, ◌<◌, ◌≤◌, Bool, true, false, ◌&&◌, List, [], ◌∷◌, ◌++◌, length, drop, map, filter, Option, Some}
use Rattle.std.proofs.Common.{None, option_map, ◌⊎◌, inl, inr, refl, sym, ap, ◌∙◌, arith, append_assoc, drop-cons}
use Rattle.std.specs.List.{list_any}
use Rattle.std.proofs.lemmas.Bool.{false≢true}
use Rattle.std.proofs.lemmas.List.{get_or-map, length-map}
use Rattle.std.proofs.lemmas.List.Folds.{list_any_at}
use Rattle.std.proofs.lemmas.Bool.Decides.{nat_tests}
use Rattle.std.specs.Prelude.{if◌then◌else◌}
use Rattle.inv_base.specs.declared.tree.Kind.TheVariants as kinds
use Rattle.inv_base.specs.Tree.{Name, Node, is_among}
use Rattle.node_arena.specs.Document.{Placed, Document, document_node, node_at, AreNumbered}
use Rattle.node_arena.specs.Moves.{node_of, tree_nodes, tree_node, first_that, is_nearest, nearest, is_attribute, is_attribute_of, is_inside, is_between}
use Rattle.node_arena.specs.Moves.{first_attribute, next_attribute}
use Rattle.node_arena.proofs.FoundLemmas.{AreInOrder, first_from, none_from}
use Rattle.bind_meaning.specs.Elements.{number, is_element, both, has_element_inside}
use Rattle.bind_meaning.specs.Names.{is_named, has_plain_name}
use Rattle.xml_events.specs.Events.{name_at}
use Rattle.std.specs.Str.{chars, bytes_eq}
use Rattle.std.proofs.lemmas.Str.{chars-nil}
use Rattle.term_table.proofs.GroupLemmas.{both as parts}

bool_cases : (b : Bool) → (b ≡ true) ⊎ (b ≡ false)
bool_cases true = inl refl
bool_cases false = inr refl

-- ---- numbers of nodes

numbered_at : (n : ℕ) (nodes : List Placed) → AreNumbered n nodes → (k : ℕ) → k < length nodes → (node_at nodes k).number ≡ n + k
numbered_at n [] h k below = absurd (omega arith)
numbered_at n (node ∷ nodes) h zero below = h.0 ∙ omega arith
numbered_at n (node ∷ nodes) h (suc k) below = numbered_at (n + 1) nodes h.1 k (omega arith) ∙ omega arith

pub at-document : (document : Document) (k : ℕ) → k < length document.nodes
    → tree_node (tree_nodes document) k ≡ node_of document.names (node_at document.nodes k)
at-document document k below = get_or-map (node_of document.names) document.nodes k document_node _ below

pub ordered : (document : Document) → AreNumbered 0 document.nodes → AreInOrder (tree_nodes document)
ordered document h k below =
    let within : k < length document.nodes = omega (arith, below, length-map document.nodes (node_of document.names)) in
    ap (λ (node : Node). node.number) (at-document document k within) ∙ (numbered_at 0 document.nodes h k within ∙ omega arith)

pub long : (document : Document) → length (tree_nodes document) ≡ length document.nodes
long document = length-map document.nodes (node_of document.names)

-- ---- the nodes of a sort, one after another

-- those among the nodes from a place on
abbrev pub those : (Node → Bool) → List Node → ℕ → List ℕ
those is_so nodes start = map number (filter is_so (drop start nodes))

both-false : (p q : Node → Bool) (node : Node) → p node ≡ false → both p q node ≡ false
both-false p q node h = ap (λ b. elim b [ true ↦ q node | false ↦ false ]) h

both-true : (p q : Node → Bool) (node : Node) → p node ≡ true → both p q node ≡ q node
both-true p q node h = ap (λ b. elim b [ true ↦ q node | false ↦ false ]) h

filter-false : (p : Node → Bool) (node : Node) (nodes : List Node) → p node ≡ false → filter p (node ∷ nodes) ≡ filter p nodes
filter-false p node nodes h = rw h refl

filter-true : (p : Node → Bool) (node : Node) (nodes : List Node) → p node ≡ true → filter p (node ∷ nodes) ≡ node ∷ filter p nodes
filter-true p node nodes h = rw h refl

at-drop : (nodes : List Node) (k : ℕ) → k < length nodes → drop k nodes ≡ tree_node nodes k ∷ drop (k + 1) nodes
at-drop nodes k below = drop-cons nodes k (record { number = 0; kind = kinds.Document; name = None; above = []; text = [] }) below
    ∙ ap (λ j. tree_node nodes k ∷ drop j nodes) (let e : suc k ≡ k + 1 = omega arith in e)

-- where none is so from one place up to another, both have the same
skipped : (is_so : Node → Bool) (nodes : List Node) (steps start : ℕ) → start + steps ≤ length nodes
    → ((k : ℕ) → start ≤ k → k < start + steps → is_so (tree_node nodes k) ≡ false)
    → those is_so nodes start ≡ those is_so nodes (start + steps)
skipped is_so nodes zero start h none = ap (those is_so nodes) (omega arith)
skipped is_so nodes (suc steps) start h none =
    ap (λ xs. map number (filter is_so xs)) (at-drop nodes start (omega arith))
    ∙ (ap (map number) (filter-false is_so (tree_node nodes start) (drop (start + 1) nodes) (none start (omega arith) (omega arith)))
    ∙ (skipped is_so nodes steps (start + 1) (omega arith) (λ k a b. none k (omega arith) (omega arith)) ∙ ap (those is_so nodes) (omega arith)))

past-all : (nodes : List Node) (n : ℕ) → length nodes ≤ n → drop n nodes ≡ []
past-all [] zero h = refl
past-all [] (suc n) h = refl
past-all (node ∷ nodes) zero h = absurd (omega arith)
past-all (node ∷ nodes) (suc n) h = past-all nodes n (omega arith)

-- none is so from a place on
none-behind : (is_so : Node → Bool) (nodes : List Node) (start : ℕ) → start ≤ length nodes
    → ((k : ℕ) → start ≤ k → k < length nodes → is_so (tree_node nodes k) ≡ false) → those is_so nodes start ≡ []
none-behind is_so nodes start h none =
    skipped is_so nodes (length nodes - start) start (omega arith) (λ k a b. none k a (omega arith))
    ∙ ap (λ xs. map number (filter is_so xs)) (past-all nodes (start + (length nodes - start)) (omega arith))

-- ---- attributes

-- an attribute of the element stands next, or none does
abbrev pub Next : List Node → ℕ → (Node → Bool) → List ℕ → List ℕ → Option ℕ → Type 0
Next nodes n q found all None = found ≡ all
Next nodes n q found all (Some m) = (found ++ those (both (is_attribute_of n) q) nodes m ≡ all) × (m < length nodes)
    × (is_attribute_of n (tree_node nodes m) ≡ true)

append-nil : (xs : List ℕ) → xs ++ [] ≡ xs
append-nil [] = refl
append-nil (x ∷ xs) = ap (λ z. x ∷ z) (append-nil xs)

next-from : (nodes : List Node) (n : ℕ) (q : Node → Bool) (found all : List ℕ) (start : ℕ) (next : Option ℕ) → AreInOrder nodes → start ≤ length nodes
    → found ++ those (both (is_attribute_of n) q) nodes start ≡ all → first_that (is_attribute_of n) (drop start nodes) ≡ next → Next nodes n q found all next
next-from nodes n q found all start None order h e f =
    sym (append-nil found) ∙ (ap (λ xs. found ++ xs) (sym (none-behind (both (is_attribute_of n) q) nodes start h
    (λ k a b. both-false (is_attribute_of n) q (tree_node nodes k) (none_from (is_attribute_of n) nodes start f k a b)))) ∙ e)
next-from nodes n q found all start (Some m) order h e f =
    let first = first_from (is_attribute_of n) nodes order start m f in
    let same : those (both (is_attribute_of n) q) nodes start ≡ those (both (is_attribute_of n) q) nodes m =
    skipped (both (is_attribute_of n) q) nodes (m - start) start (omega (arith, first.from, first.within))
    (λ k a b. both-false (is_attribute_of n) q (tree_node nodes k) (first.before k a (omega (arith, first.from, b))))
    ∙ ap (those (both (is_attribute_of n) q) nodes) (omega (arith, first.from)) in
    (ap (λ xs. found ++ xs) (sym same) ∙ e, first.within, first.is)

pub attributes-begin : (nodes : List Node) (n : ℕ) (q : Node → Bool) (next : Option ℕ) → AreInOrder nodes → next ≡ first_attribute nodes n
    → Next nodes n q [] (map number (filter (both (is_attribute_of n) q) nodes)) next
attributes-begin nodes n q next order e = next-from nodes n q [] _ 0 next order (omega arith) refl (sym e)

nearest-is : (n : ℕ) (above : List ℕ) → is_nearest n above ≡ true → nearest above ≡ Some n
nearest-is n [] h = absurd (false≢true h)
nearest-is n (m ∷ above) h = ap Some (let e : m ≡ n = grind (arith, nat_tests) in e)

next-is : (nodes : List Node) (n m : ℕ) → is_attribute_of n (tree_node nodes m) ≡ true
    → next_attribute nodes m ≡ first_that (is_attribute_of n) (drop (m + 1) nodes)
next-is nodes n m h =
    let k = parts (is_nearest n (tree_node nodes m).above) (is_attribute (tree_node nodes m)) h in
    rw (k.1, nearest-is n (tree_node nodes m).above k.0) refl

here : (nodes : List Node) (n m : ℕ) (q : Node → Bool) → m < length nodes → is_attribute_of n (tree_node nodes m) ≡ true → (tree_node nodes m).number ≡ m
    → (b : Bool) → q (tree_node nodes m) ≡ b
    → those (both (is_attribute_of n) q) nodes m ≡ (if b then m ∷ [] else []) ++ those (both (is_attribute_of n) q) nodes (m + 1)
here nodes n m q below is at true e =
    ap (λ xs. map number (filter (both (is_attribute_of n) q) xs)) (at-drop nodes m below)
    ∙ (ap (map number) (filter-true (both (is_attribute_of n) q) (tree_node nodes m) (drop (m + 1) nodes)
    (both-true (is_attribute_of n) q (tree_node nodes m) is ∙ e))
    ∙ ap (λ k. k ∷ those (both (is_attribute_of n) q) nodes (m + 1)) at)
here nodes n m q below is at false e =
    ap (λ xs. map number (filter (both (is_attribute_of n) q) xs)) (at-drop nodes m below)
    ∙ ap (map number) (filter-false (both (is_attribute_of n) q) (tree_node nodes m) (drop (m + 1) nodes)
    (both-true (is_attribute_of n) q (tree_node nodes m) is ∙ e))

pub attributes-go_on : (nodes : List Node) (n : ℕ) (q : Node → Bool) (found longer all : List ℕ) (m : ℕ) (next : Option ℕ) (b : Bool) → AreInOrder nodes
    → Next nodes n q found all (Some m)
    → q (tree_node nodes m) ≡ b → longer ≡ found ++ (if b then m ∷ [] else []) → next ≡ next_attribute nodes m → Next nodes n q longer all next
attributes-go_on nodes n q found longer all m next b order (e, below, is) so more step =
    next-from nodes n q longer all (m + 1) next order (omega (arith, below))
    (ap (λ xs. xs ++ those (both (is_attribute_of n) q) nodes (m + 1)) more
    ∙ (append_assoc found (if b then m ∷ [] else []) (those (both (is_attribute_of n) q) nodes (m + 1))
    ∙ (ap (λ xs. found ++ xs) (sym (here nodes n m q below is (order m below) b so)) ∙ e)))
    (sym (step ∙ next-is nodes n m is))

-- ---- elements inside a node

-- No element inside the node has a number up to this one, which is the node's or behind it.
pub record NoneUpTo (nodes : List Node) (n last at : ℕ) : Type 0 where
  pub from : n ≤ at
  pub to : at ≤ last
  pub none : (k : ℕ) → n < k → k ≤ at → is_element (tree_node nodes k) ≡ false

abbrev pub IsInterval : List Node → ℕ → ℕ → Type 0
IsInterval nodes n last = (k : ℕ) → k < length nodes → is_inside n (tree_node nodes k) ≡ is_between n last k

pub none-begin : (nodes : List Node) (n last : ℕ) → n ≤ last → NoneUpTo nodes n last n
none-begin nodes n last h = record { from = omega arith; to = h; none = λ k a b. absurd (omega (arith, a, b)) }

pub none-more : (nodes : List Node) (n last at next : ℕ) → NoneUpTo nodes n last at → next ≡ at + 1 → at < last → is_element (tree_node nodes next) ≡ false
    → NoneUpTo nodes n last next
none-more nodes n last at next h e below out = record {
  from = omega (arith, h.from, e);
  to = omega (arith, e, below);
  none = λ k a b. elim (here_or k b) [ inl same ↦ ap (λ j. is_element (tree_node nodes j)) same ∙ out | inr before ↦ h.none k a before ];
}
  where
    here_or : (k : ℕ) → k ≤ next → (k ≡ next) ⊎ (k ≤ at)
    here_or k b = grind (arith, e)

any-none : (p : Node → Bool) (nodes : List Node) → ((k : ℕ) → k < length nodes → p (tree_node nodes k) ≡ false) → list_any p nodes ≡ false
any-none p [] h = refl
any-none p (node ∷ nodes) h = let out : p node ≡ false = h 0 (omega arith) in rw out (any-none p nodes (λ k below. h (suc k) (omega (arith, below))))

and-true : (a b : Bool) → a ≡ true → b ≡ true → (a && b) ≡ true
and-true a b h k = rw (h, k) refl

between : (n last k : ℕ) → n < k → k ≤ last → is_between n last k ≡ true
between n last k a b = grind (arith, nat_tests)

pub some-inside : (nodes : List Node) (n last at next : ℕ) → IsInterval nodes n last → NoneUpTo nodes n last at → next ≡ at + 1 → at < last
    → next < length nodes → is_element (tree_node nodes next) ≡ true
    → true ≡ has_element_inside nodes n
some-inside nodes n last at next interval h e below within is =
    sym (list_any_at (λ (node : Node). is_element node && is_among n node.above) nodes next _ within
    (and-true _ _ is (interval next within ∙ between n last next (omega (arith, h.from, e)) (omega (arith, e, below)))))

out-of : (n last at k : ℕ) → last ≤ at → (n < k → k ≤ at → ⊥) → is_between n last k ≡ false
out-of n last at k h out = elim (bool_cases (is_between n last k)) [
  | inl is ↦ absurd (out (let a : n < k = grind (arith, nat_tests) in a) (let b : k ≤ last = grind (arith, nat_tests) in omega (arith, b, h)))
  | inr out_of_it ↦ out_of_it
]

and-second : (a b : Bool) → b ≡ false → (a && b) ≡ false
and-second true b e = e
and-second false b e = refl

and-first : (a b : Bool) → a ≡ false → (a && b) ≡ false
and-first a b e = rw e refl

pub none-inside : (nodes : List Node) (n last at : ℕ) → IsInterval nodes n last → NoneUpTo nodes n last at → last ≤ at → false ≡ has_element_inside nodes n
none-inside nodes n last at interval h past =
    sym (any-none (λ (node : Node). is_element node && is_among n node.above) nodes (λ k within. elim (bool_cases (is_element (tree_node nodes k))) [
      | inl is ↦ and-second _ _ (interval k within ∙ out-of n last at k past (λ a b. false≢true (sym (h.none k a b) ∙ is)))
      | inr other ↦ and-first _ _ other
    ]))

-- ---- names

pub named-uri : (document : Document) (n : ℕ) (local other uri : List ℕ) (k : ℕ) (names more : List Name) → n < length document.nodes
    → Some k ≡ (node_at document.nodes n).name
    → bytes_eq local other ≡ true → other ≡ (name_at names k).local → names ≡ document.names → uri ≡ (name_at more k).uri → more ≡ document.names
    → bytes_eq (chars []) uri ≡ has_plain_name local (tree_node (tree_nodes document) n)
named-uri document n local other uri k names more below name same local_is names_are uri_is more_are =
    let at : (tree_node (tree_nodes document) n).name ≡ Some (name_at document.names k) =
    ap (λ (node : Node). node.name) (at-document document n below) ∙ ap (option_map (name_at document.names)) (sym name) in
    let spelled : bytes_eq local (name_at document.names k).local ≡ true = ap (bytes_eq local) (sym (local_is ∙ ap (λ x. (name_at x k).local) names_are))
    ∙ same in
    ap (λ x. bytes_eq x uri) chars-nil
    ∙ (ap (bytes_eq []) (uri_is ∙ ap (λ x. (name_at x k).uri) more_are)
    ∙ (ap (λ b. elim b [ true ↦ bytes_eq [] (name_at document.names k).uri | false ↦ false ]) (sym spelled) ∙ ap (is_named [] local) (sym at)))
