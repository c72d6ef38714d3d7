-- What the events of a tree build.
use Rattle.std.proofs.Common.{◌≡◌, ℕ, ◌+◌, ◌<◌, ◌^◌, Bool, true, false, not, ◌&&◌, ◌==◌, List, [], ◌∷◌, ◌++◌, map, length, Some, None, refl, ap, sym, ◌∙◌}
use Rattle.std.proofs.Common.{append_assoc, append-nil, arith, cond, suc, length-append, subst}
use Rattle.std.specs.Option.{ForSome}
use Rattle.std.proofs.lemmas.List.{map-append, length-map, length_push}
use Rattle.inv_base.specs.declared.tree.Kind.TheVariants as kinds
use Rattle.inv_base.specs.Tree.{Name, Attribute, Forest, no_more, a_text, an_element, begins_with_text, is_joined, IsDocument, Node, size, nodes_of}
use Rattle.inv_base.specs.Tree.{nodes_of_attributes}
use Rattle.inv_base.proofs.TextLemmas.{both}
use Rattle.xml_events.specs.Events.{Event, starts, has_attribute, has_text, ends}
use Rattle.xml_events.specs.Documents.{Tells, TellsAttributes}
use Rattle.node_arena.specs.Document.{Placed, Built, begun, after, built, built_from, last_place, with_last_text, document_node, node_behind, ended, AreNamed}
use Rattle.node_arena.specs.Document.{IsNumbered}
use Rattle.node_arena.specs.Moves.{node_of, HasNodesOf, IsWhole}

built_from-append : (b : Built) (first more : List Event) → built_from b (first ++ more) ≡ built_from (built_from b first) more
built_from-append b [] more = refl
built_from-append b (event ∷ first) more = built_from-append (after event b) first more

AreNamed-append : (count : ℕ) (a b : List Placed) → AreNamed count a → AreNamed count b → AreNamed count (a ++ b)
AreNamed-append count [] b p q = q
AreNamed-append count (node ∷ a) b p q = (p.0, AreNamed-append count a b p.1 q)

-- From one document to the next, these nodes were added.
pub record Adds (names : List Name) (before behind : Built) (nodes : List Node) : Type 0 where
  pub new : List Placed
  pub nodes_are : behind.nodes ≡ before.nodes ++ new
  pub tree_are : map (node_of names) new ≡ nodes
  pub named : AreNamed (length names) new

Adds-nil : (names : List Name) (b : Built) → Adds names b b []
Adds-nil names b = record { new = []; nodes_are = sym (append-nil b.nodes); tree_are = refl; named = tt }

Adds-append : (names : List Name) (b c d : Built) (xs ys : List Node) → Adds names b c xs → Adds names c d ys → Adds names b d (xs ++ ys)
Adds-append names b c d xs ys p q = record {
  new = p.new ++ q.new;
  nodes_are = q.nodes_are ∙ (ap (λ x. x ++ q.new) p.nodes_are ∙ append_assoc b.nodes p.new q.new);
  tree_are = map-append (node_of names) p.new q.new ∙ (ap (λ x. x ++ map (node_of names) q.new) p.tree_are ∙ ap (λ x. xs ++ x) q.tree_are);
  named = AreNamed-append (length names) p.new q.new p.named q.named;
}

Adds-count : (names : List Name) (b c : Built) (nodes : List Node) → Adds names b c nodes → length c.nodes ≡ length b.nodes + length nodes
Adds-count names b c nodes p =
    let parts = length-append b.nodes p.new in
    let new = sym (length-map p.new (node_of names)) ∙ ap length p.tree_are in
    let all = ap length p.nodes_are in
    omega (arith, parts, new, all)

some_number : (names : List Name) (number : ℕ) → number < length names → ForSome (Some number) (λ name. name < length names)
some_number names number h = λ x e. let same : number ≡ x = cc in omega (arith, h, same)

none_number : (names : List Name) → ForSome {T = ℕ} None (λ name. name < length names)
none_number names = λ x e. cc

-- one node
adds_one : (names : List Name) (b c : Built) (node : Placed) → c.nodes ≡ b.nodes ++ node ∷ []
    → ForSome node.name (λ name. name < length names) → Adds names b c (node_of names node ∷ [])
adds_one names b c node nodes named = record { new = node ∷ []; nodes_are = nodes; tree_are = refl; named = (named, tt) }

-- The attributes of an element are added.
pub record AddsAttributes (names : List Name) (before behind : Built) (nodes : List Node) : Type 0 where
  pub adds : Adds names before behind nodes
  pub out : behind.in_text ≡ false
  pub still_open : behind.open_nodes ≡ before.open_nodes

adds_attributes : (names : List Name) (attributes : List Attribute) (events : List Event) → TellsAttributes names attributes events
    → (b : Built) → b.in_text ≡ false → AddsAttributes names b (built_from b events) (nodes_of_attributes b.open_nodes (length b.nodes) attributes)
adds_attributes names [] events told b out = rw told (record { adds = Adds-nil names b; out = out; still_open = refl })
adds_attributes names (attribute ∷ attributes) events told b out =
    let number = told.0 in
    let more = told.1 in
    let is = told.2 in
    let node = node_behind b.nodes b.open_nodes kinds.Attribute (Some number) attribute.value (last_place b.nodes) in
    let c = after (has_attribute number attribute.value) b in
    let first = adds_one names b c node refl (some_number names number is.within) in
    let others = adds_attributes names attributes more told.4 c refl in
    let count : length c.nodes ≡ length b.nodes + 1 = length_push b.nodes node in
    let others_adds : Adds names c (built_from c more) (nodes_of_attributes b.open_nodes (length b.nodes + 1) attributes) =
    subst (λ n. Adds names c (built_from c more) (nodes_of_attributes b.open_nodes n attributes)) count others.adds in
    let all = Adds-append names b c (built_from c more) _ _ first others_adds in
    rw (told.3, ← is.is) (record { adds = all; out = others.out; still_open = others.still_open })

out_of_text : (b : Bool) → (b && true) ≡ false → b ≡ false
out_of_text true e = e
out_of_text false e = refl

no_text : (b c : Bool) → b ≡ false → (b && c) ≡ false
no_text true c e = cc
no_text false c e = refl

not_so : (b : Bool) → not b ≡ true → b ≡ false
not_so true e = cc
not_so false e = refl

ended_inside : (n : ℕ) (numbers : List ℕ) → 0 < length numbers → ended (n ∷ numbers) ≡ numbers
ended_inside n [] h = absurd (omega arith)
ended_inside n (m ∷ numbers) h = refl

length-nodes_of_attributes : (above : List ℕ) (n : ℕ) (attributes : List Attribute) → length (nodes_of_attributes above n attributes) ≡ length attributes
length-nodes_of_attributes above n [] = refl
length-nodes_of_attributes above n (attribute ∷ attributes) = ap suc (length-nodes_of_attributes above (n + 1) attributes)

length-nodes_of : (above : List ℕ) (n : ℕ) (f : Forest) → length (nodes_of above n f) ≡ size f
length-nodes_of above n no_more = refl
length-nodes_of above n (a_text characters rest) = omega (arith, length-nodes_of above (n + 1) rest)
length-nodes_of above n (an_element name attributes inside rest) =
    simp length-append (omega (
      arith,
      length-nodes_of_attributes (n ∷ above) (n + 1) attributes,
      length-nodes_of (n ∷ above) (n + (1 + length attributes)) inside,
      length-nodes_of above (n + (1 + (length attributes + size inside))) rest,
    ))

pub record AddsForest (names : List Name) (before behind : Built) (nodes : List Node) : Type 0 where
  pub adds : Adds names before behind nodes
  pub still_open : behind.open_nodes ≡ before.open_nodes

-- The nodes of a forest are added, where a text at its front is new.
adds_forest : (names : List Name) (f : Forest) (events : List Event) → is_joined f ≡ true → Tells names f events
    → (b : Built) → (b.in_text && begins_with_text f) ≡ false → 0 < length b.open_nodes
    → AddsForest names b (built_from b events) (nodes_of b.open_nodes (length b.nodes) f)
adds_forest names no_more events joined told b out some = rw told (record { adds = Adds-nil names b; still_open = refl })
adds_forest names (a_text characters rest) events joined told b out some =
    let place = told.0 in
    let more = told.1 in
    let others_joined = both (not (begins_with_text rest)) (is_joined rest)
    (both (not (length characters == 0)) (not (begins_with_text rest) && is_joined rest) joined).1 in
    let node = node_behind b.nodes b.open_nodes kinds.Text None characters place in
    let c = after (has_text characters place) b in
    let added : c.nodes ≡ b.nodes ++ node ∷ [] = ap (λ t. cond t (with_last_text characters b.nodes) (b.nodes ++ node ∷ [])) (out_of_text b.in_text out) in
    let first = adds_one names b c node added (none_number names) in
    let others = adds_forest names rest more others_joined.1 told.3 c (not_so (begins_with_text rest) others_joined.0) some in
    let count : length c.nodes ≡ length b.nodes + 1 = ap length added ∙ length_push b.nodes node in
    let others_adds : Adds names c (built_from c more) (nodes_of b.open_nodes (length b.nodes + 1) rest) =
    subst (λ n. Adds names c (built_from c more) (nodes_of b.open_nodes n rest)) count others.adds in
    let all = Adds-append names b c (built_from c more) _ _ first others_adds in
    rw told.2 (record { adds = all; still_open = others.still_open })
adds_forest names (an_element name attributes inside rest) events joined told b out some =
    let number = told.0 in
    let place = told.1 in
    let is = told.5 in
    let parts = both (is_joined inside) (is_joined rest) joined in
    let n = length b.nodes in
    let node = node_behind b.nodes b.open_nodes kinds.Element (Some number) [] place in
    let b0 = after (starts number place) b in
    let b1 = built_from b0 told.2 in
    let b2 = built_from b1 told.3 in
    let b3 = after ends b2 in
    let b4 = built_from b3 told.4 in
    let element = adds_one names b b0 node refl (some_number names number is.within) in
    let first = adds_attributes names attributes told.2 told.7 b0 refl in
    let one : length b0.nodes ≡ n + 1 = length_push b.nodes node in
    let first_adds : Adds names b0 b1 (nodes_of_attributes (n ∷ b.open_nodes) (n + 1) attributes) =
    subst (λ m. Adds names b0 b1 (nodes_of_attributes (n ∷ b.open_nodes) m attributes)) one first.adds in
    let opened : b1.open_nodes ≡ n ∷ b.open_nodes = first.still_open in
    let more_than_one = ap length opened in
    let inner = adds_forest names inside told.3 parts.0 told.8 b1 (no_text b1.in_text (begins_with_text inside) first.out) (omega (arith, more_than_one)) in
    let in_attributes = length-nodes_of_attributes (n ∷ b.open_nodes) (n + 1) attributes in
    let behind_attributes : length b1.nodes ≡ n + (1 + length attributes) = let count = Adds-count names b0 b1 _ first_adds in
    omega (arith, count, one, in_attributes) in
    let inner_adds : Adds names b1 b3 (nodes_of (n ∷ b.open_nodes) (n + (1 + length attributes)) inside) =
    record {
      new = inner.adds.new;
      nodes_are = inner.adds.nodes_are;
      tree_are = inner.adds.tree_are ∙ (ap (λ above. nodes_of above (length b1.nodes) inside) opened ∙
          ap (λ m. nodes_of (n ∷ b.open_nodes) m inside) behind_attributes);
      named = inner.adds.named;
    } in
    let closed : b3.open_nodes ≡ b.open_nodes = ap ended (inner.still_open ∙ opened) ∙ ended_inside n b.open_nodes some in
    let still_some = ap length closed in
    let others = adds_forest names rest told.4 parts.1 told.9 b3 refl (omega (arith, some, still_some)) in
    let in_inside = length-nodes_of (n ∷ b.open_nodes) (n + (1 + length attributes)) inside in
    let behind_inside : length b3.nodes ≡ n + (1 + (length attributes + size inside)) =
    let count = Adds-count names b1 b3 _ inner_adds in omega (arith, count, behind_attributes, in_inside) in
    let others_adds : Adds names b3 b4 (nodes_of b.open_nodes (n + (1 + (length attributes + size inside))) rest) =
    record {
      new = others.adds.new;
      nodes_are = others.adds.nodes_are;
      tree_are = others.adds.tree_are ∙ (ap (λ above. nodes_of above (length b3.nodes) rest) closed ∙ ap (λ m. nodes_of b.open_nodes m rest) behind_inside);
      named = others.adds.named;
    } in
    let all = Adds-append names b b0 b4 _ _ element (Adds-append names b0 b1 b4 _ _ first_adds (Adds-append names b1 b3 b4 _ _ inner_adds others_adds)) in
    let behind : built_from b (starts number place ∷ (told.2 ++ (told.3 ++ (ends ∷ told.4)))) ≡ b4 =
    built_from-append b0 told.2 (told.3 ++ (ends ∷ told.4)) ∙ built_from-append b1 told.3 (ends ∷ told.4) in
    let answer : AddsForest names b b4 (nodes_of b.open_nodes (length b.nodes) (an_element name attributes inside rest)) =
    rw (← is.is) (record { adds = all; still_open = others.still_open ∙ closed }) in
    rw (told.6, behind) answer

is_joined_document : (tree : Forest) → IsDocument tree → is_joined tree ≡ true
is_joined_document tree d = rw d.root (ap (λ b. b && true) d.joined)

document_adds : (names : List Name) (tree : Forest) (events : List Event) → IsDocument tree → Tells names tree events
    → AddsForest names begun (built_from begun events) (nodes_of (0 ∷ []) 1 tree)
document_adds names tree events d told = adds_forest names tree events (is_joined_document tree d) told begun refl (omega arith)

pub document_has_nodes : (names : List Name) (tree : Forest) (events : List Event) → IsDocument tree → Tells names tree events
    → HasNodesOf (record { nodes = (built events).nodes; names = names }) tree
unfolding built
document_has_nodes names tree events d told =
    let added = (document_adds names tree events d told).adds in
    ap (map (node_of names)) added.nodes_are
    ∙ ap (λ nodes. let node : Node = record { number = 0; kind = kinds.Document; name = None; above = []; text = [] } in node ∷ nodes) added.tree_are

root_ends : (names : List Name) (name : Name) (attributes : List Attribute) (inside : Forest) (events : List Event) (b : Built)
    → Tells names (an_element name attributes inside no_more) events → (built_from b events).in_text ≡ false
root_ends names name attributes inside events b told =
    let b0 = after (starts told.0 told.1) b in
    let b1 = built_from b0 told.2 in
    let behind : built_from b (starts told.0 told.1 ∷ (told.2 ++ (told.3 ++ (ends ∷ told.4)))) ≡ built_from (after ends (built_from b1 told.3)) told.4 =
    built_from-append b0 told.2 (told.3 ++ (ends ∷ told.4)) ∙ built_from-append b1 told.3 (ends ∷ told.4) in
    rw (told.6, behind, told.9) refl

document_is_numbered : (names : List Name) (tree : Forest) (events : List Event) → IsDocument tree → Tells names tree events → size tree + 1 < 2 ^ 32
    → IsNumbered (built events).nodes names × ((built events).in_text ≡ false)
unfolding built
document_is_numbered names tree events d told few =
    let added = (document_adds names tree events d told).adds in
    let count : length added.new ≡ size tree = sym (length-map added.new (node_of names)) ∙ (ap length added.tree_are ∙ length-nodes_of (0 ∷ []) 1 tree) in
    let some : 0 < size tree = rw d.root (omega arith) in
    let all : length (built_from begun events).nodes ≡ suc (length added.new) = ap length added.nodes_are in
    let named : AreNamed (length names) (document_node ∷ added.new) = (none_number names, added.named) in (
      record { rooted = omega arith; few = omega arith; named = rw added.nodes_are named },
      root_ends names d.name d.attributes d.inside events begun (subst (λ t. Tells names t events) d.root told),
    )

pub document_is_whole : (names : List Name) (tree : Forest) (events : List Event) → IsDocument tree → Tells names tree events → size tree + 1 < 2 ^ 32
    → IsWhole names (built events)
document_is_whole names tree events d told few =
    let parts = document_is_numbered names tree events d told few in
    record { ended = parts.1; numbered = parts.0; of_a_tree = record { tree = tree; whole = d; has_nodes = document_has_nodes names tree events d told } }
