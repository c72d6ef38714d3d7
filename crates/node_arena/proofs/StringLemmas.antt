-- The string of a node is its own text and those of the texts in its interval.
use Rattle.std.proofs.Common.{◌≡◌, ℕ, ◌+◌, ◌-◌, ◌<◌, ◌≤◌, Bool, true, false, cond, ◌&&◌, List, [], ◌∷◌, ◌++◌, map, length, take, drop, get_or, chars, suc, refl}
use Rattle.std.proofs.Common.{subst, ap, sym, ◌∙◌, ◌⊎◌, ⊎_elim, append_assoc, append-nil, arith}
use Rattle.std.specs.Prelude.{filter, flat_map}
use Rattle.std.proofs.lemmas.List.{get_or-take, get_or-drop, get_or-map, length-drop, length-take, length-map, take-append-drop, drop_all, drop-take, take-map}
use Rattle.std.proofs.lemmas.List.{drop-map}
use Rattle.std.proofs.lemmas.List.Folds.{flat_map-map}
use Rattle.std.proofs.lemmas.Grind.{flat_map-append}
use Rattle.std.proofs.lemmas.Bool.{and_right}
use Rattle.std.proofs.Math.Seq.{drop-cons}
use Rattle.inv_base.specs.declared.tree.Kind.{Kind}
use Rattle.inv_base.specs.declared.tree.Kind.TheVariants as kinds
use Rattle.inv_base.specs.Tree.{Name, Node, is_text, is_among, string_of}
use Rattle.node_arena.specs.Document.{Placed, Document, document_node, node_at}
use Rattle.node_arena.specs.Moves.{node_of, tree_nodes, tree_node, is_inside, is_between, last_inside}
use Rattle.node_arena.specs.Slots.{placed, kept_behind, kept}
use Rattle.node_arena.specs.Strings.{if_text, texts_of}
use Rattle.node_arena.specs.Linked.{IsLinked}
use Rattle.node_arena.specs.declared.chains.Links.{Links}
use Rattle.node_arena.specs.declared.slot.Slot.{Slot}
use Rattle.node_arena.proofs.StepLemmas.{Walk}
use Rattle.node_arena.proofs.IntervalLemmas.{interval, walk_of, not_between, between}

-- texts of some nodes
abbrev text_if : (Node → Bool) → Node → List ℕ
text_if is_so node = cond (is_so node) node.text []

filtered : (is_so : Node → Bool) (nodes : List Node) → flat_map (λ (node : Node). node.text) (filter is_so nodes) ≡ flat_map (text_if is_so) nodes
filtered is_so [] = refl
filtered is_so (node ∷ nodes) = by (is_so node) (filtered is_so nodes)
  where
    by : (b : Bool) → flat_map (λ (x : Node). x.text) (filter is_so nodes) ≡ flat_map (text_if is_so) nodes
        → flat_map (λ (x : Node). x.text) (cond b (node ∷ filter is_so nodes) (filter is_so nodes)) ≡ cond b node.text [] ++ flat_map (text_if is_so) nodes
    by true e = ap (λ more. node.text ++ more) e
    by false e = e

none_among : (f : Node → List ℕ) (nodes : List Node) → ((k : ℕ) → k < length nodes → f (tree_node nodes k) ≡ []) → flat_map f nodes ≡ []
none_among f [] none = refl
none_among f (node ∷ nodes) none =
    let rest = none_among f nodes (λ k h. none (suc k) (omega (arith, h))) in
    ap (λ x. x ++ flat_map f nodes) (none 0 (omega arith)) ∙ rest

same_among : (f g : Node → List ℕ) (nodes : List Node) → ((k : ℕ) → k < length nodes → f (tree_node nodes k) ≡ g (tree_node nodes k)) →
    flat_map f nodes ≡ flat_map g nodes
same_among f g [] same = refl
same_among f g (node ∷ nodes) same =
    let rest = same_among f g nodes (λ k h. same (suc k) (omega (arith, h))) in
    ap (λ x. x ++ flat_map f nodes) (same 0 (omega arith)) ∙ ap (λ x. g node ++ x) rest

-- what an interval holds
module _ (nodes : List Node) (w : Walk nodes) (n last : ℕ) (h : n < length nodes) (is : last ≡ last_inside nodes n) (from : n ≤ last)
    (to : last < length nodes) where
  test : Node → Bool
  test node = is_text node && is_among n node.above

  off : (k : ℕ) → k < length nodes → (n < k → k ≤ last → ⊥) → text_if test (tree_node nodes k) ≡ []
  unfolding test
  off k within out =
      let inside : is_inside n (tree_node nodes k) ≡ false = interval nodes w n k h within ∙ (ap (λ m. is_between n m k) (sym is) ∙ not_between n last k out) in
      ap (λ b. cond b (tree_node nodes k).text []) (and_right (is_text (tree_node nodes k)) (is_inside n (tree_node nodes k)) inside)

  on : (k : ℕ) → k < length nodes → n < k → k ≤ last → text_if test (tree_node nodes k) ≡ text_if is_text (tree_node nodes k)
  unfolding test
  on k within above below =
      let inside : is_inside n (tree_node nodes k) ≡ true = interval nodes w n k h within ∙
      (ap (λ m. is_between n m k) (sym is) ∙ between n last k above below) in
      ap (λ b. cond (is_text (tree_node nodes k) && b) (tree_node nodes k).text []) inside ∙
      ap (λ b. cond b (tree_node nodes k).text []) (and_all (is_text (tree_node nodes k)))
    where
      and_all : (b : Bool) → (b && true) ≡ b
      and_all true = refl
      and_all false = refl

  before_it : flat_map (text_if test) (take (n + 1) nodes) ≡ []
  before_it = none_among (text_if test) (take (n + 1) nodes) (λ k short.
      let long = length-take (n + 1) nodes in
      let less : k < n + 1 = omega (arith, short, long) in
      ap (text_if test) (get_or-take (n + 1) nodes k _ less) ∙ off k (omega (arith, short, long)) (λ above below. omega (arith, above, less)))

  within_it : flat_map (text_if test) (take (last - n) (drop (n + 1) nodes)) ≡ flat_map (text_if is_text) (take (last - n) (drop (n + 1) nodes))
  within_it = same_among (text_if test) (text_if is_text) (take (last - n) (drop (n + 1) nodes)) (λ k short.
      let some = length-take (last - n) (drop (n + 1) nodes) in
      let more = length-drop (n + 1) nodes in
      let less : k < last - n = omega (arith, short, some) in
      let at : tree_node (take (last - n) (drop (n + 1) nodes)) k ≡ tree_node nodes (n + 1 + k) = get_or-take (last - n) (drop (n + 1) nodes) k _ less ∙
      get_or-drop (n + 1) nodes k _ in
      ap (text_if test) at ∙ (on (n + 1 + k) (omega (arith, less, to)) (omega arith) (omega (arith, less)) ∙ ap (text_if is_text) (sym at)))

  behind_it : flat_map (text_if test) (drop (last - n) (drop (n + 1) nodes)) ≡ []
  behind_it = none_among (text_if test) (drop (last - n) (drop (n + 1) nodes)) (λ k short.
      let some = length-drop (last - n) (drop (n + 1) nodes) in
      let more = length-drop (n + 1) nodes in
      let at : tree_node (drop (last - n) (drop (n + 1) nodes)) k ≡ tree_node nodes (n + 1 + (last - n + k)) =
      get_or-drop (last - n) (drop (n + 1) nodes) k _ ∙ get_or-drop (n + 1) nodes (last - n + k) _ in
      ap (text_if test) at ∙ off (n + 1 + (last - n + k)) (omega (arith, short, some, more)) (λ above below. omega (arith, below, from)))

  inside_texts : flat_map (λ (node : Node). node.text) (filter test nodes) ≡ flat_map (text_if is_text) (take (last - n) (drop (n + 1) nodes))
  inside_texts =
      let rest = drop (n + 1) nodes in
      filtered test nodes
      ∙ (ap (flat_map (text_if test)) (sym (take-append-drop (n + 1) nodes))
      ∙ (flat_map-append (text_if test) (take (n + 1) nodes) rest
      ∙ (ap (λ x. x ++ flat_map (text_if test) rest) before_it
      ∙ (ap (flat_map (text_if test)) (sym (take-append-drop (last - n) rest))
      ∙ (flat_map-append (text_if test) (take (last - n) rest) (drop (last - n) rest)
      ∙ (ap (λ x. flat_map (text_if test) (take (last - n) rest) ++ x) behind_it
      ∙ (append-nil (flat_map (text_if test) (take (last - n) rest)) ∙ within_it)))))))

  pub node_string : (tree_node nodes n).number ≡ n
      → string_of nodes (tree_node nodes n) ≡ (tree_node nodes n).text ++ flat_map (text_if is_text) (take (last - n) (drop (n + 1) nodes))
  unfolding test
  node_string number =
      ap (λ m. (tree_node nodes n).text ++ flat_map (λ (node : Node). node.text) (filter (λ node. is_text node && is_among m node.above) nodes)) number
      ∙ ap (λ x. (tree_node nodes n).text ++ x) inside_texts

-- the texts of nodes as they are kept
abbrev slot_text : Slot → List ℕ
slot_text slot = if_text slot.kind (chars slot.text.now)

kind_text : (kind : Kind) (characters : List ℕ)
    → cond (elim kind as (λ _. Bool) [ kinds.Document ↦ false | kinds.Element ↦ false | kinds.Attribute ↦ false | kinds.Text ↦ true ]) characters [] ≡ if_text
    kind characters
kind_text kinds.Document characters = refl
kind_text kinds.Element characters = refl
kind_text kinds.Attribute characters = refl
kind_text kinds.Text characters = refl

behind_texts : (names : List Name) (before : List Placed) (slots : List Slot)
    → map (text_if is_text) (map (node_of names) (kept_behind before slots)) ≡ map slot_text slots
behind_texts names before [] = refl
behind_texts names before (slot ∷ slots) =
    ap (λ x. x ∷ map (text_if is_text) (map (node_of names) (kept_behind (before ++ placed before slot ∷ []) slots)))
    (kind_text slot.kind (chars slot.text.now))
    ∙ ap (λ more. slot_text slot ∷ more) (behind_texts names (before ++ placed before slot ∷ []) slots)

kept_texts : (names : List Name) (slots : List Slot) → map (text_if is_text) (map (node_of names) (kept slots)) ≡ map slot_text slots
unfolding kept
kept_texts names slots = behind_texts names [] slots

part_texts : (names : List Name) (slots : List Slot) (start count : ℕ)
    → flat_map (text_if is_text) (take count (drop start (map (node_of names) (kept slots)))) ≡ texts_of (take count (drop start slots))
part_texts names slots start count =
    let nodes = map (node_of names) (kept slots) in
    sym (flat_map-map (λ (x : List ℕ). x) (text_if is_text) (take count (drop start nodes)))
    ∙ (ap (flat_map (λ (x : List ℕ). x)) (
    sym (take-map (text_if is_text) count (drop start nodes)) ∙ (ap (take count) (sym (drop-map (text_if is_text) start nodes))
    ∙ (ap (λ all. take count (drop start all)) (kept_texts names slots)
    ∙ (ap (take count) (drop-map slot_text start slots) ∙ take-map slot_text count (drop start slots)))))
    ∙ flat_map-map (λ (x : List ℕ). x) slot_text (take count (drop start slots)))

abbrev as_document : List Slot → List Name → Document
as_document slots names = record { nodes = kept slots; names = names }

kept_string : (slots : List Slot) (node_ends : List ℕ) (links : Links) (names : List Name) → IsLinked slots node_ends links names → (n last : ℕ) →
    n < length (kept slots)
    → last ≡ last_inside (tree_nodes (as_document slots names)) n → n ≤ last → last < length (kept slots)
    → (own : List ℕ) → own ≡ (node_at (kept slots) n).text → (inside : List Slot) → inside ≡ drop (n + 1) (take (last + 1) slots)
    → own ++ texts_of inside ≡ string_of (tree_nodes (as_document slots names)) (tree_node (tree_nodes (as_document slots names)) n)
kept_string slots node_ends links names linked n last h is from to own owned inside part =
    let document = as_document slots names in
    let nodes = tree_nodes document in
    let walk = walk_of document linked.of_a_tree.tree linked.of_a_tree.has_nodes in
    let count = length-map (kept slots) (node_of names) in
    let at : tree_node nodes n ≡ node_of names (node_at (kept slots) n) = get_or-map (node_of names) (kept slots) n document_node _ h in
    let interval_is : inside ≡ take (last - n) (drop (n + 1) slots) =
    part ∙ (ap (λ m. drop (n + 1) (take m slots)) (let e : last + 1 ≡ n + 1 + (last - n) = omega (arith, from) in e) ∙ drop-take (n + 1) (last - n) slots) in
    ap (λ x. x ++ texts_of inside) (owned ∙ sym (ap (λ (node : Node). node.text) at))
    ∙ (ap (λ x. (tree_node nodes n).text ++ x) (ap texts_of interval_is ∙ sym (part_texts names slots (n + 1) (last - n)))
    ∙ sym (node_string nodes walk n last (omega (arith, h, count)) is from (omega (arith, to, count)) (walk.numbers n (omega (arith, h, count)))))

pub string_is : (slots : List Slot) (node_ends : List ℕ) (links : Links) (names : List Name) (document : Document) → IsLinked slots node_ends links names
    → as_document slots names ≡ document → (n last : ℕ) → n < length document.nodes
    → last ≡ last_inside (tree_nodes document) n → n ≤ last → last < length document.nodes
    → (own : List ℕ) → own ≡ (node_at document.nodes n).text → (inside : List Slot) → inside ≡ drop (n + 1) (take (last + 1) slots)
    → own ++ texts_of inside ≡ string_of (tree_nodes document) (tree_node (tree_nodes document) n)
string_is slots node_ends links names document linked seen =
    subst (λ (d : Document). (n last : ℕ) → n < length d.nodes → last ≡ last_inside (tree_nodes d) n → n ≤ last → last < length d.nodes
    → (own : List ℕ) → own ≡ (node_at d.nodes n).text → (inside : List Slot) → inside ≡ drop (n + 1) (take (last + 1) slots)
    → own ++ texts_of inside ≡ string_of (tree_nodes d) (tree_node (tree_nodes d) n)) seen (kept_string slots node_ends links names linked)

-- texts joined one after another
pub texts_more : (slots : List Slot) (k : ℕ) (slot : Slot) (so_far more all : List ℕ) → k < length slots → slot ≡ get_or slots k slot
    → more ≡ so_far ++ if_text slot.kind (chars slot.text.now) → so_far ++ texts_of (drop k slots) ≡ all → more ++ texts_of (drop (k + 1) slots) ≡ all
texts_more slots k slot so_far more all h is with_it whole =
    let first : texts_of (drop k slots) ≡ slot_text slot ++ texts_of (drop (k + 1) slots) =
    ap texts_of (drop-cons slots k slot h) ∙ (ap (λ (s : Slot). slot_text s ++ texts_of (drop (suc k) slots)) (sym is)
    ∙ ap (λ m. slot_text slot ++ texts_of (drop m slots)) (let e : suc k ≡ k + 1 = omega arith in e)) in
    ap (λ x. x ++ texts_of (drop (k + 1) slots)) with_it
    ∙ (append_assoc so_far (slot_text slot) (texts_of (drop (k + 1) slots)) ∙ (ap (λ x. so_far ++ x) (sym first) ∙ whole))

pub with_that : (kind : Kind) (old text new : List ℕ) → kind ≡ kinds.Text → new ≡ old ++ text → new ≡ old ++ if_text kind text
with_that kind old text new is more = more ∙ ap (λ k. old ++ if_text k text) (sym is)

pub without_that : (kind : Kind) (old text new : List ℕ) → (kind ≡ kinds.Document) ⊎ ((kind ≡ kinds.Element) ⊎ (kind ≡ kinds.Attribute)) → new ≡ old → new ≡ old
    ++ if_text kind text
without_that kind old text new is same =
    let none : if_text kind text ≡ [] = ⊎_elim (ap (λ k. if_text k text)) (⊎_elim (ap (λ k. if_text k text)) (ap (λ k. if_text k text))) is in
    same ∙ (sym (append-nil old) ∙ ap (λ x. old ++ x) (sym none))

pub all_joined : (slots : List Slot) (k : ℕ) (so_far all : List ℕ) → length slots ≤ k → so_far ++ texts_of (drop k slots) ≡ all → so_far ≡ all
all_joined slots k so_far all past whole = sym (append-nil so_far) ∙ (ap (λ rest. so_far ++ texts_of rest) (sym (drop_all k slots past)) ∙ whole)
