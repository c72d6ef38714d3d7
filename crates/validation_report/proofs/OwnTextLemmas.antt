-- The texts right inside an element, gone over by moves from a child to the next.
use Rattle.std.proofs.Common.{◌≡◌, ℕ, zero, suc, ◌+◌, ◌-◌, ◌<◌, ◌≤◌, Bool, true, false, cond, List, [], ◌∷◌, ◌++◌, length, drop, get_or, Option, Some, None}
use Rattle.std.proofs.Common.{◌⊎◌, ⊎_elim, IfSome, refl, ap, sym, ◌∙◌, arith, append_assoc, append-nil}
use Rattle.std.specs.Prelude.{filter, flat_map, not}
use Rattle.std.proofs.lemmas.Bool.{and_parts, eqb-true, not-true}
use Rattle.std.proofs.lemmas.List.{drop_more, drop_all, get_or-map, length-map}
use Rattle.inv_base.specs.declared.tree.Kind.{Kind}
use Rattle.inv_base.specs.declared.tree.Kind.TheVariants as kinds
use Rattle.inv_base.specs.Tree.{Node, is_text}
use Rattle.node_arena.specs.Document.{Document, node_at, document_node}
use Rattle.node_arena.specs.Moves.{node_of, tree_nodes, tree_node, IsOfATree, behind, nearest, is_nearest, is_attribute, is_child, first_that, parent}
use Rattle.node_arena.specs.Moves.{first_child, next_sibling}
use Rattle.node_arena.specs.Strings.{if_text}
use Rattle.node_arena.proofs.FoundLemmas.{AreInOrder, first_from, none_from}
use Rattle.node_arena.proofs.IntervalLemmas.{walk_of}
use Rattle.bind_meaning.specs.Elements.{both}
use Rattle.bind_meaning.specs.Losses.{own_text}
use Rattle.validation_report.specs.OwnTexts.{inner_texts, texts_from}

abbrev none : Node
none = record { number = 0; kind = kinds.Document; name = None; above = []; text = [] }

abbrev text_of : Node → List ℕ
text_of node = node.text

-- ---- one node more

both-false : (b c : Bool) → c ≡ false → elim b as (λ _. Bool) [ true ↦ c | false ↦ false ] ≡ false
both-false true c h = h
both-false false c h = refl

both-true : (b c : Bool) → c ≡ true → elim b as (λ _. Bool) [ true ↦ c | false ↦ false ] ≡ b
both-true true c h = h
both-true false c h = refl

by-kind : (kind : Kind) (node : Node) (others : List Node)
    → flat_map text_of (cond (elim kind as (λ _. Bool) [ kinds.Document ↦ false | kinds.Element ↦ false | kinds.Attribute ↦ false | kinds.Text ↦ true ])
    (node ∷ others) others) ≡ if_text kind node.text ++ flat_map text_of others
by-kind kinds.Document node others = refl
by-kind kinds.Element node others = refl
by-kind kinds.Attribute node others = refl
by-kind kinds.Text node others = refl

inner-without : (n : ℕ) (node : Node) (nodes : List Node) → is_child n node ≡ false → inner_texts n (node ∷ nodes) ≡ inner_texts n nodes
inner-without n node nodes h =
    let others = filter (both is_text (is_child n)) nodes in
    ap (λ b. flat_map text_of (cond b (node ∷ others) others)) (both-false (is_text node) (is_child n node) h)

inner-with : (n : ℕ) (node : Node) (nodes : List Node) → is_child n node ≡ true → inner_texts n (node ∷ nodes) ≡ if_text node.kind node.text ++ inner_texts n nodes
inner-with n node nodes h =
    let others = filter (both is_text (is_child n)) nodes in
    ap (λ b. flat_map text_of (cond b (node ∷ others) others)) (both-true (is_text node) (is_child n node) h) ∙ by-kind node.kind node others

-- a node that is no text
pub without-text : (text own : List ℕ) (kind other : Kind) → kind ≡ other → (kind ≡ kinds.Document) ⊎ ((kind ≡ kinds.Element) ⊎ (kind ≡ kinds.Attribute))
    → text ≡ text ++ if_text other own
without-text text own kind other e is =
    let none : if_text kind own ≡ [] = ⊎_elim (ap (λ k. if_text k own)) (⊎_elim (ap (λ k. if_text k own)) (ap (λ k. if_text k own))) is in
    sym (append-nil text) ∙ ap (λ t. text ++ t) (sym none ∙ ap (λ k. if_text k own) e)

-- nodes that are passed over
skip : (n : ℕ) (nodes : List Node) (start count : ℕ) → start + count ≤ length nodes
    → ((k : ℕ) → start ≤ k → k < start + count → is_child n (tree_node nodes k) ≡ false)
    → inner_texts n (drop start nodes) ≡ inner_texts n (drop (start + count) nodes)
skip n nodes start zero h free = ap (λ k. inner_texts n (drop k nodes)) (let e : start ≡ start + 0 = omega arith in e)
skip n nodes start (suc count) h free =
    ap (inner_texts n) (drop_more nodes start none (omega (arith, h)))
    ∙ (inner-without n (tree_node nodes start) (drop (start + 1) nodes) (free start (omega arith) (omega arith))
    ∙ (skip n nodes (start + 1) count (omega (arith, h)) (λ k a b. free k (omega (arith, a)) (omega (arith, b)))
    ∙ ap (λ k. inner_texts n (drop k nodes)) (let e : start + 1 + count ≡ start + suc count = omega arith in e)))

-- ---- moves

nearest-is : (n : ℕ) (above : List ℕ) → is_nearest n above ≡ true → nearest above ≡ Some n
nearest-is n [] h = cc
nearest-is n (m ∷ above) h = ap Some (eqb-true m n h)

abbrev next_by : List Node → ℕ → Option ℕ → Option ℕ
next_by nodes m p = elim p [ None ↦ None | Some k ↦ first_that (is_child k) (behind m nodes) ]

sibling-is : (nodes : List Node) (n m : ℕ) → is_child n (tree_node nodes m) ≡ true → next_sibling nodes m ≡ first_that (is_child n) (behind m nodes)
sibling-is nodes n m h =
    let parts = and_parts (is_nearest n (tree_node nodes m).above) (not (is_attribute (tree_node nodes m))) h in
    ap (λ b. cond b None (next_by nodes m (parent nodes m))) (not-true (is_attribute (tree_node nodes m)) parts.1)
    ∙ ap (next_by nodes m) (nearest-is n (tree_node nodes m).above parts.0)

-- The next child is one of the document, and the texts from it on stand behind those that were gone over.
pub record GoesOver (d : Document) (n : ℕ) (text : List ℕ) (next : Option ℕ) : Type 0 where
  pub at : IfSome next (λ m. (m < length d.nodes) × (is_child n (tree_node (tree_nodes d) m) ≡ true))
  pub left : text ++ texts_from n (tree_nodes d) next ≡ inner_texts n (tree_nodes d)

module _ (d : Document) (of : IsOfATree d) where
  ordered : AreInOrder (tree_nodes d)
  ordered = (walk_of d of.tree of.has_nodes).numbers

  long : length (tree_nodes d) ≡ length d.nodes
  long = length-map d.nodes (node_of d.names)

  -- from the first child from a place on
  from-first : (n start : ℕ) (next : Option ℕ) → start ≤ length d.nodes → next ≡ first_that (is_child n) (drop start (tree_nodes d))
      → (inner_texts n (drop start (tree_nodes d)) ≡ texts_from n (tree_nodes d) next)
      × IfSome next (λ m. (m < length d.nodes) × (is_child n (tree_node (tree_nodes d) m) ≡ true))
  from-first n start None h e =
      let nodes = tree_nodes d in
      let all : start + (length nodes - start) ≡ length nodes = omega (arith, h, long) in
      let free = none_from (is_child n) nodes start (sym e) in (
        skip n nodes start (length nodes - start) (omega (arith, all)) (λ k a b. free k a (omega (arith, all, b)))
            ∙ (ap (λ k. inner_texts n (drop k nodes)) all ∙ ap (inner_texts n) (drop_all (length nodes) nodes (omega arith))),
        tt,
      )
  from-first n start (Some m) h e =
      let nodes = tree_nodes d in
      let first = first_from (is_child n) nodes ordered start m (sym e) in
      let to : start + (m - start) ≡ m = omega (arith, first.from) in (
        skip n nodes start (m - start) (omega (arith, to, first.within)) (λ k a b. first.before k a (omega (arith, to, b)))
            ∙ ap (λ k. inner_texts n (drop k nodes)) to,
        (omega (arith, first.within, long), first.is),
      )

  pub begins : (n : ℕ) (text : List ℕ) (next : Option ℕ) → text ≡ [] → next ≡ first_child (tree_nodes d) n → GoesOver d n text next
  begins n text next empty e =
      let first = from-first n 0 next (omega arith) e in
      record { at = first.1; left = ap (λ t. t ++ texts_from n (tree_nodes d) next) empty ∙ sym first.0 }

  node-is : (n : ℕ) → n < length d.nodes → tree_node (tree_nodes d) n ≡ node_of d.names (node_at d.nodes n)
  node-is n within = get_or-map (node_of d.names) d.nodes n document_node _ within

  pub goes-on : (n m : ℕ) (text more : List ℕ) (next : Option ℕ) → GoesOver d n text (Some m)
      → more ≡ text ++ if_text (node_at d.nodes m).kind (node_at d.nodes m).text
      → next ≡ next_sibling (tree_nodes d) m → GoesOver d n more next
  goes-on n m text more next over e move =
      let nodes = tree_nodes d in
      let node = tree_node nodes m in
      let within : m < length nodes = omega (arith, over.at.0, long) in
      let first = from-first n (m + 1) next (omega (arith, within, long)) (move ∙ sibling-is nodes n m over.at.1) in
      let here : inner_texts n (drop m nodes) ≡ if_text node.kind node.text ++ texts_from n nodes next =
      ap (inner_texts n) (drop_more nodes m none within)
      ∙ (inner-with n node (drop (m + 1) nodes) over.at.1 ∙ ap (λ t. if_text node.kind node.text ++ t) first.0) in
      record {
        at = first.1;
        left = ap (λ t. t ++ texts_from n nodes next)
            (e ∙ ap (λ (x : Node). text ++ if_text x.kind x.text) (sym (node-is m over.at.0)))
            ∙ (append_assoc text (if_text node.kind node.text) (texts_from n nodes next) ∙ (ap (λ t. text ++ t) (sym here) ∙ over.left));
      }

  pub ends : (n : ℕ) (text : List ℕ) (next : Option ℕ) → next ≡ None → GoesOver d n text next → text ≡ inner_texts n (tree_nodes d)
  ends n text next is over = sym (append-nil text) ∙ (ap (λ o. text ++ texts_from n (tree_nodes d) o) (sym is) ∙ over.left)

  -- ---- the text of a node alone

  abbrev own_by : Kind → List ℕ → List ℕ → List ℕ
  own_by kind text inside = elim kind [ kinds.Document ↦ [] | kinds.Element ↦ inside | kinds.Attribute ↦ text | kinds.Text ↦ text ]

  pub own-is : (n : ℕ) → n < length d.nodes → (kind : Kind) → (node_at d.nodes n).kind ≡ kind
      → own_by kind (node_at d.nodes n).text (inner_texts n (tree_nodes d)) ≡ own_text (tree_nodes d) (tree_node (tree_nodes d) n)
  own-is n within kind e =
      let node = tree_node (tree_nodes d) n in
      let same = node-is n within in
      let number : node.number ≡ n = ordered n (omega (arith, within, long)) in
      ap (λ k. own_by k (node_at d.nodes n).text (inner_texts n (tree_nodes d))) (sym e)
      ∙ (λ i. own_by (sym (ap (λ (x : Node). x.kind) same) i) (sym (ap (λ (x : Node). x.text) same) i) (inner_texts (sym number i) (tree_nodes d)))
