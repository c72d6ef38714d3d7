-- Nodes as they are kept, and as they are seen.
use Rattle.std.proofs.Common.{◌≡◌, ℕ, zero, suc, ◌+◌, ◌<◌, Bool, true, false, cond, List, [], ◌∷◌, ◌++◌, length, take, get_or, Option, None, IfSome, subst}
use Rattle.std.proofs.Common.{⊎_elim, refl, ap, sym, ◌∙◌, append_assoc, append-nil, length-append, arith}
use Rattle.std.proofs.lemmas.List.{get_or-take, get_or_default}
use Rattle.std.proofs.lemmas.Bool.{cases_Bool}
use Rattle.std.proofs.lemmas.Option.{IfSome_then}
use Rattle.node_arena.specs.Moves.{nearest}
use Rattle.node_arena.specs.Document.{Placed, document_node, node_at, AreNumbered}
use Rattle.node_arena.specs.Slots.{is_inner, path, placed, kept_behind, kept, AreBelow}
use Rattle.node_arena.specs.declared.slot.Slot.{Slot}

kept_behind-push : (before : List Placed) (slots : List Slot) (slot : Slot)
    → kept_behind before (slots ++ slot ∷ []) ≡ kept_behind before slots ++ placed (before ++ kept_behind before slots) slot ∷ []
kept_behind-push before [] slot = ap (λ nodes. placed nodes slot ∷ []) (sym (append-nil before))
kept_behind-push before (s ∷ slots) slot =
    let node = placed before s in
    let more = kept_behind (before ++ node ∷ []) slots in
    ap (λ nodes. node ∷ nodes) (kept_behind-push (before ++ node ∷ []) slots slot
    ∙ ap (λ nodes. more ++ placed nodes slot ∷ []) (append_assoc before (node ∷ []) more))

pub kept-push : (slots : List Slot) (slot : Slot) → kept (slots ++ slot ∷ []) ≡ kept slots ++ placed (kept slots) slot ∷ []
unfolding kept
kept-push slots slot = kept_behind-push [] slots slot

length-kept_behind : (before : List Placed) (slots : List Slot) → length (kept_behind before slots) ≡ length slots
length-kept_behind before [] = refl
length-kept_behind before (slot ∷ slots) = ap suc (length-kept_behind (before ++ placed before slot ∷ []) slots)

pub kept_length : (slots : List Slot) → length (kept slots) ≡ length slots
unfolding kept
kept_length slots = length-kept_behind [] slots

-- The node of a number is the one that is kept there.
kept_behind-at : (before : List Placed) (slots : List Slot) (k : ℕ) (s : Slot) → k < length slots
    → get_or (kept_behind before slots) k document_node ≡ placed (before ++ take k (kept_behind before slots)) (get_or slots k s)
kept_behind-at before [] k s h = absurd (omega arith)
kept_behind-at before (slot ∷ slots) zero s h = ap (λ nodes. placed nodes slot) (sym (append-nil before))
kept_behind-at before (slot ∷ slots) (suc k) s h =
    let node = placed before slot in
    let more = kept_behind (before ++ node ∷ []) slots in
    kept_behind-at (before ++ node ∷ []) slots k s (omega arith)
    ∙ ap (λ nodes. placed nodes (get_or slots k s)) (append_assoc before (node ∷ []) (take k more))

pub kept-at : (slots : List Slot) (k : ℕ) (slot : Slot) → k < length slots → slot ≡ get_or slots k slot
    → node_at (kept slots) k ≡ placed (take k (kept slots)) slot
unfolding kept
kept-at slots k slot h is = kept_behind-at [] slots k slot h ∙ ap (λ s. placed (take k (kept_behind [] slots)) s) (sym is)

below_at : (n : ℕ) (slots : List Slot) (k : ℕ) (s : Slot) → AreBelow n slots → k < length slots → is_inner (get_or slots k s).kind ≡ true
    → (get_or slots k s).parent < n + k
below_at n [] k s below h inner = absurd (omega arith)
below_at n (slot ∷ slots) zero s below h inner = omega (arith, below.0 inner)
below_at n (slot ∷ slots) (suc k) s below h inner = omega (arith, below_at (n + 1) slots k s below.1 (omega arith) inner)

pub parent_before : (slots : List Slot) (k : ℕ) (slot : Slot) → AreBelow 0 slots → k < length slots → slot ≡ get_or slots k slot
    → is_inner slot.kind ≡ true → slot.parent < k
parent_before slots k slot below h is inner =
    let at : (get_or slots k slot).parent < 0 + k = below_at 0 slots k slot below h (ap (λ (s : Slot). is_inner s.kind) (sym is) ∙ inner) in
    let same : slot.parent ≡ (get_or slots k slot).parent = ap (λ (s : Slot). s.parent) is in
    omega (arith, at, same)

-- what is around a node
pub above_at : (slots : List Slot) (k : ℕ) (slot : Slot) → AreBelow 0 slots → k < length slots → slot ≡ get_or slots k slot
    → is_inner slot.kind ≡ true → (node_at (kept slots) k).above ≡ path (kept slots) slot.parent
above_at slots k slot below h is inner =
    let earlier : slot.parent < k = parent_before slots k slot below h is inner in
    ap (λ (node : Placed). node.above) (kept-at slots k slot h is)
    ∙ (ap (λ b. cond b (path (take k (kept slots)) slot.parent) []) inner
    ∙ ap (λ (node : Placed). slot.parent ∷ node.above) (get_or-take k (kept slots) slot.parent document_node earlier))

pub above_document : (slots : List Slot) (k : ℕ) (slot : Slot) → k < length slots → slot ≡ get_or slots k slot
    → is_inner slot.kind ≡ false → (node_at (kept slots) k).above ≡ []
above_document slots k slot h is inner =
    ap (λ (node : Placed). node.above) (kept-at slots k slot h is)
    ∙ ap (λ b. cond b (path (take k (kept slots)) slot.parent) []) inner

-- The node around a node is before it.
below_of_slot : (slots : List Slot) (n : ℕ) (slot : Slot) → AreBelow 0 slots → n < length slots → slot ≡ get_or slots n slot
    → IfSome (nearest (node_at (kept slots) n).above) (λ parent. parent < n)
below_of_slot slots n slot below h is = ⊎_elim
    (λ inner. subst (λ above. IfSome (nearest above) (λ parent. parent < n)) (sym (above_at slots n slot below h is inner))
    (parent_before slots n slot below h is inner))
    (λ outer. subst (λ above. IfSome (nearest above) (λ parent. parent < n)) (sym (above_document slots n slot h is outer)) tt)
    (cases_Bool (is_inner slot.kind))

pub parent_below : (slots : List Slot) (n : ℕ) → AreBelow 0 slots → n < length slots → IfSome (nearest (node_at (kept slots) n).above) (λ parent. parent < n)
parent_below [] n below h = absurd (omega arith)
parent_below (s ∷ slots) n below h = below_of_slot (s ∷ slots) n (get_or (s ∷ slots) n s) below h (get_or_default (s ∷ slots) n s (get_or (s ∷ slots) n s) h)

pub parent_within : (slots : List Slot) (n : ℕ) → AreBelow 0 slots → n < length slots
    → IfSome (nearest (node_at (kept slots) n).above) (λ parent. parent < length slots)
parent_within slots n below h =
    IfSome_then (nearest (node_at (kept slots) n).above) (parent_below slots n below h) (λ parent before. omega (arith, before, h))

pub if_not : (b : Bool) (o : Option ℕ) (count : ℕ) → IfSome o (λ n. n < count) → IfSome (cond b None o) (λ n. n < count)
if_not true o count h = tt
if_not false o count h = h

pub if_so : (b : Bool) (o : Option ℕ) (count : ℕ) → IfSome o (λ n. n < count) → IfSome (cond b o None) (λ n. n < count)
if_so true o count h = h
if_so false o count h = tt

numbers_behind : (before : List Placed) (slots : List Slot) (n : ℕ) → n ≡ length before → AreNumbered n (kept_behind before slots)
numbers_behind before [] n h = tt
numbers_behind before (slot ∷ slots) n h =
    let node = placed before slot in
    let longer = length-append before (node ∷ []) in
    (sym h, numbers_behind (before ++ node ∷ []) slots (n + 1) (omega (arith, h, longer)))

pub kept_numbers : (slots : List Slot) → AreNumbered 0 (kept slots)
unfolding kept
kept_numbers slots = numbers_behind [] slots 0 refl

pub kept_few : (slots : List Slot) (more : List Placed) (count : ℕ) → length (kept slots ++ more) < count → length slots < count
kept_few slots more count few =
    let parts = length-append (kept slots) more in
    omega (arith, few, parts, kept_length slots)
