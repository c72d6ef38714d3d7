-- A chain of a name's number is one of its expanded name.
use Rattle.std.proofs.Common.{◌≡◌, ℕ, ◌<◌, Bool, true, false, cond, ◌==◌, List, [], ◌∷◌, map, filter, length, Option, Some, None, refl, ap, sym, ◌∙◌, zero, suc}
use Rattle.std.proofs.Common.{◌+◌, drop, find, option_map, subst, ⊎_elim, arith}
use Rattle.std.specs.Option.{ForSome}
use Rattle.std.proofs.lemmas.Bool.{eqb-true, eq-eqb, and_parts, and_from, cases_Bool}
use Rattle.std.proofs.lemmas.List.{drop-map, get_or-map}
use Rattle.std.proofs.lemmas.Slice.Eq.{bytes_eq-Decides}
use Rattle.inv_base.specs.Tree.{Name, Node}
use Rattle.xml_events.specs.Events.{name_at}
use Rattle.xml_events.specs.Names.{same_name, find_name, AreDistinct}
use Rattle.node_arena.specs.Document.{Placed, Document, document_node, node_at, AreNamed}
use Rattle.node_arena.specs.Moves.{node_of, tree_nodes, behind, nearest, first_that, is_named, has_name, has_found, tree_node, chain, first_named, next_named}

-- A test of names is true exactly where they are equal.
same_is : (a b : Name) → same_name a b ≡ true → a ≡ b
same_is a b e =
    let parts = and_parts _ _ e in
    let uri : a.uri ≡ b.uri = (bytes_eq-Decides a.uri b.uri).0 parts.0 in
    let local : a.local ≡ b.local = (bytes_eq-Decides a.local b.local).0 parts.1 in
    let both : (x y : List ℕ) → Name = λ x y. record { uri = x; local = y } in
    ap (λ x. both x a.local) uri ∙ ap (both b.uri) local

is_same : (a b : Name) → a ≡ b → same_name a b ≡ true
is_same a b e = and_from _ _ ((bytes_eq-Decides a.uri b.uri).1 (ap (λ (n : Name). n.uri) e))
    ((bytes_eq-Decides a.local b.local).1 (ap (λ (n : Name). n.local) e))

one_answer : (a b : Bool) → (a ≡ true → b ≡ true) → (b ≡ true → a ≡ true) → a ≡ b
one_answer true b f g = sym (f refl)
one_answer false true f g = g refl
one_answer false false f g = refl

module _ (names : List Name) (distinct : AreDistinct names) (name : ℕ) (within : name < length names) where
  same_test : (o : Option ℕ) → ForSome o (λ k. k < length names)
      → (elim o as (λ _. Bool) [ None ↦ false | Some k ↦ k == name ]) ≡ (elim (option_map (name_at names) o) as
      (λ _. Bool) [ None ↦ false | Some n ↦ same_name n (name_at names name) ])
  same_test None h = refl
  same_test (Some k) h =
      one_answer (k == name) (same_name (name_at names k) (name_at names name))
      (λ e. is_same (name_at names k) (name_at names name) (ap (name_at names) (eqb-true k name e)))
      (λ e. eq-eqb k name (distinct k name (h k refl) within (same_is (name_at names k) (name_at names name) e)))

  filtered : (nodes : List Placed) → AreNamed (length names) nodes
      → map (λ (node : Placed). node.number) (filter (is_named name) nodes) ≡ map (λ (node : Node). node.number)
      (filter (has_name (name_at names name)) (map (node_of names) nodes))
  filtered [] h = refl
  filtered (node ∷ nodes) h =
      let rest = filter (has_name (name_at names name)) (map (node_of names) nodes) in
      both_ways (is_named name node) (has_name (name_at names name) (node_of names node)) node (filter (is_named name) nodes) rest (same_test node.name h.0)
      (filtered nodes h.1)
    where
      both_ways : (a b : Bool) (node : Placed) (placed : List Placed) (rest : List Node) → a ≡ b →
          map (λ (n : Placed). n.number) placed ≡ map (λ (n : Node). n.number) rest
          → map (λ (n : Placed). n.number) (cond a (node ∷ placed) placed) ≡ map (λ (n : Node). n.number) (cond b (node_of names node ∷ rest) rest)
      both_ways true true node placed rest e is = ap (λ numbers. node.number ∷ numbers) is
      both_ways false false node placed rest e is = is
      both_ways true false node placed rest e is = cc
      both_ways false true node placed rest e is = cc

pub expanded_chain : (document : Document) (name : ℕ) → AreDistinct document.names → AreNamed (length document.names) document.nodes →
    name < length document.names
    → chain document.nodes name ≡ map (λ (node : Node). node.number) (filter (has_name (name_at document.names name)) (tree_nodes document))
expanded_chain document name distinct named within = filtered document.names distinct name within document.nodes named

-- the first of a list that is filtered
first_filtered : (is_so : Node → Bool) (nodes : List Node) → nearest (map (λ (node : Node). node.number) (filter is_so nodes)) ≡ first_that is_so nodes
first_filtered is_so [] = refl
first_filtered is_so (node ∷ nodes) = by (is_so node) (filter is_so nodes) (find is_so nodes) (first_filtered is_so nodes)
  where
    by : (b : Bool) (rest : List Node) (found : Option Node) → nearest (map (λ (n : Node). n.number) rest) ≡ option_map (λ (n : Node). n.number) found
        → nearest (map (λ (n : Node). n.number) (cond b (node ∷ rest) rest)) ≡ option_map (λ (n : Node). n.number) (cond b (Some node) found)
    by true rest found e = refl
    by false rest found e = e

first_among : (names : List Name) (nodes : List Placed) (name : ℕ) → AreDistinct names → AreNamed (length names) nodes → name < length names
    → first_named nodes name ≡ first_that (has_name (name_at names name)) (map (node_of names) nodes)
first_among names nodes name distinct named within =
    ap nearest (filtered names distinct name within nodes named) ∙ first_filtered (has_name (name_at names name)) (map (node_of names) nodes)

pub expanded_first : (document : Document) (name : ℕ) → AreDistinct document.names → AreNamed (length document.names) document.nodes →
    name < length document.names
    → first_named document.nodes name ≡ first_that (has_name (name_at document.names name)) (tree_nodes document)
expanded_first document name distinct named within = first_among document.names document.nodes name distinct named within

named_behind : (count k : ℕ) (nodes : List Placed) → AreNamed count nodes → AreNamed count (drop k nodes)
named_behind count zero nodes h = h
named_behind count (suc k) [] h = tt
named_behind count (suc k) (node ∷ nodes) h = named_behind count k nodes h.1

pub expanded_next : (document : Document) (n name : ℕ) → AreDistinct document.names → AreNamed (length document.names) document.nodes
    → (node_at document.nodes n).name ≡ Some name → name < length document.names
    → next_named document.nodes n ≡ first_that (has_name (name_at document.names name)) (behind n (tree_nodes document))
expanded_next document n name distinct named has within =
    ap (λ o. elim o as (λ _. Option ℕ) [ None ↦ None | Some k ↦ first_named (drop (n + 1) document.nodes) k ]) has
    ∙ (first_among document.names (drop (n + 1) document.nodes) name distinct (named_behind (length document.names) (n + 1) document.nodes named) within
    ∙ ap (first_that (has_name (name_at document.names name))) (sym (drop-map (node_of document.names) (n + 1) document.nodes)))

-- Where a name is found, it has the number; where it isn't, no name of the table is the same.
abbrev Found : Name → List Name → Option ℕ → Type 0
Found name names None = (k : ℕ) → k < length names → same_name (name_at names k) name ≡ false
Found name names (Some n) = (n < length names) × (name_at names n ≡ name)

found_more : (name first : Name) (names : List Name) (o : Option ℕ) → same_name first name ≡ false → Found name names o →
    Found name (first ∷ names) (option_map (λ k. k + 1) o)
found_more name first names None other none = at
  where
    at : (k : ℕ) → k < length (first ∷ names) → same_name (name_at (first ∷ names) k) name ≡ false
    at zero h = other
    at (suc k) h = none k (omega (arith, h))
found_more name first names (Some n) other found = (omega (arith, found.0), ap (name_at (first ∷ names)) (let e : n + 1 ≡ suc n = omega arith in e) ∙ found.1)

found : (name : Name) (names : List Name) → Found name names (find_name name names)
found name [] = λ k h. absurd (omega (arith, h))
found name (first ∷ names) = ⊎_elim
    (λ (same : same_name first name ≡ true). subst (λ b. Found name (first ∷ names) (cond b (Some 0) (option_map (λ k. k + 1) (find_name name names))))
    (sym same)
    (let here : Found name (first ∷ names) (Some 0) = (omega arith, same_is first name same) in here))
    (λ (other : same_name first name ≡ false). subst (λ b. Found name (first ∷ names) (cond b (Some 0) (option_map (λ k. k + 1) (find_name name names))))
    (sym other)
    (found_more name first names (find_name name names) other (found name names)))
    (cases_Bool (same_name first name))

-- The expanded name of a node is tested by its number.
module _ (names : List Name) (distinct : AreDistinct names) (name : Name) where
  tested : (f o : Option ℕ) → Found name names f → ForSome o (λ k. k < length names)
      → (elim (option_map (name_at names) o) as (λ _. Bool) [ None ↦ false | Some n ↦ same_name n name ])
      ≡ (elim f as (λ _. Bool) [ None ↦ false | Some number ↦ elim o as (λ _. Bool) [ None ↦ false | Some k ↦ k == number ] ])
  tested None None found h = refl
  tested (Some number) None found h = refl
  tested None (Some k) found h = found k (h k refl)
  tested (Some number) (Some k) found h =
      ap (same_name (name_at names k)) (sym found.1) ∙ sym (same_test names distinct number found.0 (Some k) h)

by_found : (f : Option ℕ) (node : Placed) → has_found f node ≡ (elim f as (λ _. Bool) [ None ↦ false | Some number ↦ is_named number node ])
by_found None node = refl
by_found (Some number) node = refl

named_node : (count : ℕ) (nodes : List Placed) (n : ℕ) → AreNamed count nodes → n < length nodes → ForSome (node_at nodes n).name (λ name. name < count)
named_node count [] n h within = absurd (omega (arith, within))
named_node count (node ∷ nodes) zero h within = h.0
named_node count (node ∷ nodes) (suc n) h within = named_node count nodes n h.1 (omega (arith, within))

pub found_by_number : (document : Document) (name : Name) (n : ℕ) → AreDistinct document.names → AreNamed (length document.names) document.nodes →
    n < length document.nodes
    → has_name name (tree_node (tree_nodes document) n) ≡ has_found (find_name name document.names) (node_at document.nodes n)
found_by_number document name n distinct named within =
    let node = node_at document.nodes n in
    ap (has_name name) (get_or-map (node_of document.names) document.nodes n document_node _ within)
    ∙ (tested document.names distinct name (find_name name document.names) node.name (found name document.names)
    (named_node (length document.names) document.nodes n named within)
    ∙ sym (by_found (find_name name document.names) node))
