-- What a builder keeps behind one call more.
use Rattle.std.proofs.Common.{◌≡◌, ℕ, ◌+◌, ◌-◌, ◌<◌, Bool, true, false, ◌==◌, cond, zero, suc, List, [], ◌∷◌, ◌++◌, length, get_or, Option, Some, None, OnSome}
use Rattle.std.proofs.Common.{chars, IsUtf8, is_some, refl, ap, sym, ◌∙◌, append-nil, append_assoc, arith}
use Rattle.std.proofs.lemmas.Str.{chars-nil}
use Rattle.std.proofs.lemmas.List.{length_push}
use Rattle.std.proofs.lemmas.Bool.{false≢true}
use Rattle.std.proofs.lemmas.Bool.Decides.{nat_tests}
use Rattle.inv_base.specs.Tree.{is_among}
use Rattle.inv_base.specs.declared.tree.Kind.TheVariants as kinds
use Rattle.inv_base.specs.declared.place.Place.{Place}
use Rattle.inv_base.proofs.TextLemmas.{chars-append}
use Rattle.xml_events.specs.Events.{starts, has_attribute, has_text, ends}
use Rattle.node_arena.specs.Document.{Placed, Built, after, begun, document_node, node_behind, last_place, ended}
use Rattle.node_arena.specs.Slots.{is_inner, path, kept, text_nodes, last_kept, IsGrowing}
use Rattle.node_arena.specs.declared.slot.Slot.{Slot}
use Rattle.node_arena.proofs.NodeLemmas.{with_last_text-push, last_place-at}
use Rattle.node_arena.proofs.KeptLemmas.{kept-at, kept_length}

abbrev pub as_built : List Placed → List ℕ → Bool → Built
as_built nodes open_nodes in_text = record { nodes = nodes; open_nodes = open_nodes; in_text = in_text }

-- the text that was going on, as it is lent
same_text : (nodes : List Placed) (open_nodes a b : List ℕ) (place : Option Place) → OnSome place (a ≡ b)
    → text_nodes nodes open_nodes a place ≡ text_nodes nodes open_nodes b place
same_text nodes open_nodes a b None e = refl
same_text nodes open_nodes a b (Some place) e = ap (λ text. text_nodes nodes open_nodes text (Some place)) e

module _ (old reserved mid : List Slot) (current : ℕ) (kept_same : reserved ≡ old) where
  pub lent : (lent_text text : List ℕ) (place : Option Place)
      → kept mid ≡ kept reserved ++ text_nodes (kept reserved) (path (kept reserved) current) lent_text place → OnSome place (lent_text ≡ text)
      → kept mid ≡ kept old ++ text_nodes (kept old) (path (kept old) current) text place
  lent lent_text text place pushed same =
      pushed
      ∙ (ap (λ slots. kept slots ++ text_nodes (kept slots) (path (kept slots) current) lent_text place) kept_same
      ∙ ap (λ text_node. kept old ++ text_node) (same_text (kept old) (path (kept old) current) lent_text text place same))

  pub lent_around : path (kept mid) current ≡ path (kept reserved) current → path (kept mid) current ≡ path (kept old) current
  lent_around around = around ∙ ap (λ slots. path (kept slots) current) kept_same

-- a text of no length
pub nothing : (xs : List ℕ) → true ≡ (length xs == 0) → xs ≡ []
nothing [] e = refl
nothing (x ∷ xs) e = let none : length (x ∷ xs) ≡ 0 = grind (arith, nat_tests, e) in absurd (omega (arith, none))

-- a lent piece alone
pub lent_alone : (lent text : List ℕ) → text ≡ [] → chars lent ≡ chars lent ++ chars text
lent_alone lent text none = sym (append-nil (chars lent)) ∙ ap (λ more. chars lent ++ more) (sym (ap chars none ∙ chars-nil))

-- copied pieces alone
pub copied_alone : (lent text placed : List ℕ) → lent ≡ [] → placed ≡ text → chars placed ≡ chars lent ++ chars text
copied_alone lent text placed none same = ap chars same ∙ ap (λ first. first ++ chars text) (sym (ap chars none ∙ chars-nil))

-- both
pub lent_joined : (lent text whole placed : List ℕ) → whole ≡ lent ++ text → placed ≡ whole → IsUtf8 lent → IsUtf8 text → chars placed ≡ chars lent ++
    chars text
lent_joined lent text whole placed joined same u v = ap chars (same ∙ joined) ∙ chars-append lent text u v

-- an element behind the nodes
pub started : (mid new nodes : List Placed) (around around_new open_nodes text : List ℕ) (name place number : ℕ)
    → mid ≡ nodes → around ≡ open_nodes → new ≡ mid ++ node_behind mid around kinds.Element (Some name) (chars text) place ∷ [] → text ≡ []
    → around_new ≡ number ∷ around → number ≡ length mid
    → as_built (new ++ []) around_new false ≡ after (starts name place) (as_built nodes open_nodes false)
started mid new nodes around around_new open_nodes text name place number so_far inside push none opened is =
    let all : List Placed → List ℕ → List ℕ → Built = λ before inside characters.
    as_built (before ++ node_behind before inside kinds.Element (Some name) characters place ∷ []) (length before ∷ inside) false in
    ap (λ before. as_built before around_new false) (append-nil new ∙ push)
    ∙ (ap (λ opening. as_built (mid ++ node_behind mid around kinds.Element (Some name) (chars text) place ∷ []) opening false)
    (opened ∙ ap (λ n. n ∷ around) is)
    ∙ (ap (all mid around) (ap chars none ∙ chars-nil) ∙ (ap (λ before. all before around []) so_far ∙ ap (λ inner. all nodes inner []) inside)))

-- an attribute behind the nodes
pub attributed : (mid new nodes : List Placed) (around around_new open_nodes text value : List ℕ) (name place : ℕ)
    → mid ≡ nodes → around ≡ open_nodes → new ≡ mid ++ node_behind mid around kinds.Attribute (Some name) (chars text) place ∷ [] → text ≡ value
    → place ≡ last_place mid → around_new ≡ around
    → as_built (new ++ []) around_new false ≡ after (has_attribute name (chars value)) (as_built nodes open_nodes false)
attributed mid new nodes around around_new open_nodes text value name place so_far inside push same at kept_open =
    let all : List Placed → List ℕ → List ℕ → ℕ → Built = λ before inner characters where_at.
    as_built (before ++ node_behind before inner kinds.Attribute (Some name) (chars characters) where_at ∷ []) inner false in
    ap (λ before. as_built before around_new false) (append-nil new ∙ push)
    ∙ (ap (λ inner. as_built (mid ++ node_behind mid around kinds.Attribute (Some name) (chars text) place ∷ []) inner false) kept_open
    ∙ (ap (λ t. all mid around t place) same ∙ (ap (all mid around value) at
    ∙ (ap (λ before. all before around value (last_place before)) so_far ∙ ap (λ inner. all nodes inner value (last_place nodes)) inside))))

-- the end of the innermost
pub ended_behind : (mid nodes : List Placed) (around around_new open_nodes : List ℕ)
    → mid ≡ nodes → around ≡ open_nodes → around_new ≡ ended around
    → as_built (mid ++ []) around_new false ≡ after ends (as_built nodes open_nodes false)
ended_behind mid nodes around around_new open_nodes so_far inside ends_it =
    ap (λ before. as_built before around_new false) (append-nil mid ∙ so_far) ∙ ap (λ inner. as_built nodes inner false) (ends_it ∙ ap ended inside)

pub closed_around : (seen mid : List Slot) (current inner : ℕ) → seen ≡ mid → path (kept seen) inner ≡ ended (path (kept seen) current)
    → path (kept mid) inner ≡ ended (path (kept mid) current)
closed_around seen mid current inner same closed =
    ap (λ slots. path (kept slots) inner) (sym same) ∙ (closed ∙ ap (λ slots. ended (path (kept slots) current)) same)

-- more of a text that was going on
pub text_more : (nodes : List Placed) (open_nodes lent text piece new : List ℕ) (place : Option Place) (p : Place) (q : ℕ) → place ≡ Some p
    → new ≡ text ++ piece → IsUtf8 text → IsUtf8 piece
    → as_built (nodes ++ text_nodes nodes open_nodes (chars lent ++ chars new) place) open_nodes (is_some place)
    ≡ after (has_text (chars piece) q) (as_built (nodes ++ text_nodes nodes open_nodes (chars lent ++ chars text) place) open_nodes (is_some place))
text_more nodes open_nodes lent text piece new place p q is more u v =
    let going : List ℕ → Built = λ characters. as_built (nodes ++ text_nodes nodes open_nodes characters (Some p)) open_nodes true in
    let e : going (chars lent ++ chars new) ≡ after (has_text (chars piece) q) (going (chars lent ++ chars text)) =
    ap going (ap (λ behind. chars lent ++ behind) (ap chars more ∙ chars-append text piece u v) ∙ sym (append_assoc (chars lent) (chars text) (chars piece)))
    ∙ ap (λ all. as_built all open_nodes true) (sym (with_last_text-push (chars piece) nodes _)) in
    rw is e

-- the first piece of a text
pub text_begun : (nodes : List Placed) (open_nodes text piece new : List ℕ) (place : Option Place) (p : Place) → place ≡ None → new ≡ piece
    → as_built (nodes ++ text_nodes nodes open_nodes new (Some p)) open_nodes true
    ≡ after (has_text piece p.byte) (as_built (nodes ++ text_nodes nodes open_nodes text place) open_nodes (is_some place))
text_begun nodes open_nodes text piece new place p none first =
    let going : List ℕ → List Placed → Built = λ characters before. as_built (before ++ text_nodes before open_nodes characters (Some p)) open_nodes true in
    let e : going new nodes ≡ going piece (nodes ++ []) =
    ap (λ t. going t nodes) first ∙ ap (going piece) (sym (append-nil nodes)) in
    rw none e

-- how many nodes there are
pub count_text : (slots : List Slot) (open_nodes text : List ℕ) (place : Option Place) (p : Place) (n : ℕ) → n ≡ length slots → place ≡ Some p
    → n + 1 ≡ length (kept slots ++ text_nodes (kept slots) open_nodes text place)
count_text slots open_nodes text place p n all is =
    let node = node_behind (kept slots) open_nodes kinds.Text None text p.byte in
    let e : n + 1 ≡ length (kept slots ++ node ∷ []) = omega (arith, kept_length slots, length_push (kept slots) node) in
    rw is e

pub count_none : (slots : List Slot) (open_nodes text : List ℕ) (place : Option Place) (n : ℕ) → n ≡ length slots → place ≡ None
    → n ≡ length (kept slots ++ text_nodes (kept slots) open_nodes text place)
count_none slots open_nodes text place n all is = let e : n ≡ length (kept slots ++ []) =
    omega (arith, kept_length slots, ap length (append-nil (kept slots))) in rw is e

-- the place of the last node
pub last_place-kept : (slots : List Slot) (slot : Slot) → 0 < length slots → slot ≡ get_or slots (length slots - 1) slot
    → slot.place.byte ≡ last_place (kept slots)
last_place-kept slots slot some is =
    let last = length slots - 1 in
    sym (last_place-at (kept slots) last (omega (arith, kept_length slots))
    ∙ ap (λ (node : Placed). node.place) (kept-at slots last slot (omega arith) is))

-- the document's own node, as it is kept
module _ (nodes new : List Slot) (slot : Slot) (none : nodes ≡ []) (pushed : new ≡ nodes ++ slot ∷ []) (kind : slot.kind ≡ kinds.Document) where
  alone : new ≡ slot ∷ []
  alone = pushed ∙ ap (λ (before : List Slot). before ++ slot ∷ []) none

  document_kept : slot.name ≡ None → slot.text.now ≡ [] → slot.place.byte ≡ 0 → kept (slot ∷ []) ≡ document_node ∷ []
  unfolding kept
  document_kept name text place =
      ap (λ k. node_behind [] (cond (is_inner k) (path [] slot.parent) []) k slot.name (chars slot.text.now) slot.place.byte ∷ []) kind
      ∙ (ap (λ n. node_behind [] [] kinds.Document n (chars slot.text.now) slot.place.byte ∷ []) name
      ∙ (ap (λ t. node_behind [] [] kinds.Document None t slot.place.byte ∷ []) (ap chars text ∙ chars-nil)
      ∙ ap (λ p. node_behind [] [] kinds.Document None [] p ∷ []) place))

  pub begun_kept : slot.name ≡ None → slot.text.now ≡ [] → slot.place.byte ≡ 0 → as_built (kept new ++ []) (path (kept new) 0) false ≡ begun
  begun_kept name text place =
      ap (λ all. as_built (all ++ []) (path all 0) false) (ap kept alone ∙ document_kept name text place)

  begun_ends : (n : ℕ) → n < 1 → cond (is_among n (path (kept (slot ∷ [])) 0)) 0 (get_or (0 ∷ []) n 0) ≡ last_kept (kept (slot ∷ [])) n
  unfolding kept last_kept
  begun_ends zero h = refl
  begun_ends (suc n) h = absurd (omega arith)

  begun_below : is_inner slot.kind ≡ true → slot.parent < 0
  begun_below inner = absurd (false≢true (sym (ap is_inner kind) ∙ inner))

  pub begun_growing : (old_ends more_ends : List ℕ) → old_ends ≡ [] → more_ends ≡ old_ends ++ 0 ∷ [] → IsGrowing new more_ends 0
  begun_growing old_ends more_ends no_ends ended_by =
      let first : more_ends ≡ 0 ∷ [] = ended_by ∙ ap (λ e. e ++ 0 ∷ []) no_ends in
      rw (alone, first) (record { here = omega arith; below = (begun_below, tt); long = refl; ends_are = begun_ends })
