-- Nodes while they are built.
use Rattle.std.proofs.Common.{◌≡◌, ℕ, ◌+◌, ◌-◌, ◌<◌, ◌≤◌, Bool, true, false, cond, ◌||◌, ◌==◌, List, [], ◌∷◌, ◌++◌, length, drop, set, get_or, refl, ap, sym}
use Rattle.std.proofs.Common.{◌∙◌, length-append, arith, ⊎_elim}
use Rattle.std.proofs.lemmas.List.{get_or_append_left, get_or_push, length_push, drop-append-le, drop_all, length-set, get_or-set_same, get_or-set_other}
use Rattle.std.proofs.lemmas.Bool.{eq-eqb, ne_eqb, cases_eq, cases_lt}
use Rattle.inv_base.specs.Tree.{is_among}
use Rattle.node_arena.specs.Document.{Placed, document_node, node_at, ended}
use Rattle.node_arena.specs.Slots.{is_inner, path, placed, kept, AreBelow, last_among, last_kept, IsGrowing}
use Rattle.node_arena.specs.Linked.{AreEnds}
use Rattle.node_arena.specs.declared.slot.Slot.{Slot}
use Rattle.node_arena.proofs.KeptLemmas.{kept-push, kept_length}

-- more nodes
last_among-push : (n last : ℕ) (nodes : List Placed) (node : Placed)
    → last_among n last (nodes ++ node ∷ []) ≡ cond (is_among n node.above) node.number (last_among n last nodes)
last_among-push n last [] node = refl
last_among-push n last (first ∷ nodes) node = last_among-push n (cond (is_among n first.above) first.number last) nodes node

last_kept-push : (nodes : List Placed) (node : Placed) (n : ℕ) → n < length nodes
    → last_kept (nodes ++ node ∷ []) n ≡ cond (is_among n node.above) node.number (last_kept nodes n)
unfolding last_kept
last_kept-push nodes node n h =
    ap (last_among n n) (drop-append-le (n + 1) nodes (node ∷ []) (omega arith)) ∙ last_among-push n n (drop (n + 1) nodes) node

last_kept-last : (nodes : List Placed) (node : Placed) (n : ℕ) → n ≡ length nodes → last_kept (nodes ++ node ∷ []) n ≡ n
unfolding last_kept
last_kept-last nodes node n h =
    let long = length-append nodes (node ∷ []) in
    ap (last_among n n) (drop_all (n + 1) (nodes ++ node ∷ []) (omega (arith, long)))

pub path-push : (nodes : List Placed) (node : Placed) (n : ℕ) → n < length nodes → path (nodes ++ node ∷ []) n ≡ path nodes n
path-push nodes node n h = ap (λ (at : Placed). n ∷ at.above) (get_or_append_left nodes (node ∷ []) document_node n h)

pub path-last : (nodes : List Placed) (node : Placed) (n : ℕ) → n ≡ length nodes → path (nodes ++ node ∷ []) n ≡ n ∷ node.above
path-last nodes node n h = ap (λ (at : Placed). n ∷ at.above) (get_or_push nodes node document_node n (sym h))

below-push : (n : ℕ) (slots : List Slot) (slot : Slot) → AreBelow n slots → slot.parent < n + length slots → AreBelow n (slots ++ slot ∷ [])
below-push n [] slot below h = (λ inner. omega arith, tt)
below-push n (s ∷ slots) slot below h = (below.0, below-push (n + 1) slots slot below.1 (omega arith))

-- What holds of each open node holds still, and of the others too.
more_open : (b : Bool) (before new kept_end last : ℕ) → cond b before kept_end ≡ last → cond b new kept_end ≡ cond b new last
more_open true before new kept_end last e = refl
more_open false before new kept_end last e = e

same_either : (b : Bool) (m : ℕ) → cond b m m ≡ m
same_either true m = refl
same_either false m = refl

module _ (slots : List Slot) (ends : List ℕ) (slot : Slot) (growing : IsGrowing slots ends slot.parent) (inner : is_inner slot.kind ≡ true) where
  node : Placed
  node = placed (kept slots) slot

  above : node.above ≡ path (kept slots) slot.parent
  unfolding node
  above = ap (λ b. cond b (path (kept slots) slot.parent) []) inner

  pub pushed_path : path (kept (slots ++ slot ∷ [])) slot.parent ≡ path (kept slots) slot.parent
  pushed_path =
      let here = growing.here in
      ap (λ nodes. path nodes slot.parent) (kept-push slots slot) ∙
      path-push (kept slots) (placed (kept slots) slot) slot.parent (omega (arith, here, kept_length slots))

  pub opened_path : (n : ℕ) → n ≡ length slots → path (kept (slots ++ slot ∷ [])) n ≡ n ∷ path (kept slots) slot.parent
  unfolding node
  opened_path n at =
      ap (λ nodes. path nodes n) (kept-push slots slot)
      ∙ (path-last (kept slots) (placed (kept slots) slot) n (omega (arith, at, kept_length slots)) ∙ ap (λ numbers. n ∷ numbers) above)

  -- the last node inside each, where those of the path are open
  ends_at : (open_nodes : List ℕ) (n : ℕ) → ((m : ℕ) → m < length slots → is_among m open_nodes ≡ is_among m (path (kept slots) slot.parent)) →
      n < length slots + 1
      → cond (is_among n open_nodes) (length slots) (get_or (ends ++ length slots ∷ []) n 0) ≡ last_kept (kept (slots ++ slot ∷ [])) n
  unfolding node
  ends_at open_nodes n same h =
      let new = placed (kept slots) slot in
      let long = growing.long in
      let count = kept_length slots in
      let pushed : last_kept (kept (slots ++ slot ∷ [])) n ≡ last_kept (kept slots ++ new ∷ []) n = ap (λ nodes. last_kept nodes n) (kept-push slots slot) in
      ⊎_elim
      (λ (within : n < length slots).
      let earlier : last_kept (kept slots ++ new ∷ []) n ≡ cond (is_among n (path (kept slots) slot.parent)) (length slots) (last_kept (kept slots) n) =
      last_kept-push (kept slots) new n (omega (arith, within, count))
      ∙ (ap (λ numbers. cond (is_among n numbers) (length (kept slots)) (last_kept (kept slots) n)) above
      ∙ ap (λ m. cond (is_among n (path (kept slots) slot.parent)) m (last_kept (kept slots) n)) count) in
      let ending : get_or (ends ++ length slots ∷ []) n 0 ≡ get_or ends n 0 = get_or_append_left ends (length slots ∷ []) 0 n (omega (arith, within, long)) in
      ap (λ b. cond b (length slots) (get_or (ends ++ length slots ∷ []) n 0)) (same n within)
      ∙ (ap (λ e. cond (is_among n (path (kept slots) slot.parent)) (length slots) e) ending
      ∙ (more_open (is_among n (path (kept slots) slot.parent)) (length slots - 1) (length slots) (get_or ends n 0) (last_kept (kept slots) n)
      (growing.ends_are n within)
      ∙ (sym earlier ∙ sym pushed))))
      (λ (past : length slots ≤ n).
      let at : n ≡ length slots = omega (arith, past, h) in
      let ending : get_or (ends ++ length slots ∷ []) n 0 ≡ length slots = get_or_push ends (length slots) 0 n (omega (arith, long, at)) in
      ap (λ e. cond (is_among n open_nodes) (length slots) e) ending
      ∙ (same_either (is_among n open_nodes) (length slots) ∙ (sym at ∙ (sym (last_kept-last (kept slots) new n (omega (arith, at, count))) ∙ sym pushed))))
      (cases_lt n (length slots))

  less_one : length (slots ++ slot ∷ []) - 1 ≡ length slots
  less_one = omega (arith, length_push slots slot)

  pub growing-push : IsGrowing (slots ++ slot ∷ []) (ends ++ length slots ∷ []) slot.parent
  growing-push =
      let more = length_push slots slot in
      let more_ends = length_push ends (length slots) in
      record {
        here = omega (arith, growing.here, more);
        below = below-push 0 slots slot growing.below (omega (arith, growing.here));
        long = omega (arith, growing.long, more, more_ends);
        ends_are = λ n h. ap (λ last. cond (is_among n (path (kept (slots ++ slot ∷ [])) slot.parent)) last (get_or (ends ++ length slots ∷ []) n 0)) less_one
            ∙ ends_at (path (kept (slots ++ slot ∷ [])) slot.parent) n (λ m within. ap (is_among m) pushed_path) (omega (arith, h, more));
      }

  pub growing-open : (n : ℕ) → n ≡ length slots → IsGrowing (slots ++ slot ∷ []) (ends ++ length slots ∷ []) n
  growing-open at is =
      let more = length_push slots slot in
      let pushed = growing-push in
      let open_nodes = path (kept (slots ++ slot ∷ [])) at in
      record {
        here = omega (arith, is, more);
        below = pushed.below;
        long = pushed.long;
        ends_are = λ n h. ap (λ last. cond (is_among n open_nodes) last (get_or (ends ++ length slots ∷ []) n 0)) less_one
            ∙ ends_at open_nodes n (λ m within. ap (is_among m) (opened_path at is)
            ∙ ap (λ b. b || is_among m (path (kept slots) slot.parent)) (ne_eqb m at (λ e. omega (arith, e, within, is)))) (omega (arith, h, more));
      }

-- the innermost open node ends
closed_ends : (numbers ends : List ℕ) (current last n end : ℕ) → n < length ends → current < length ends
    → cond ((n == current) || is_among n numbers) last (get_or ends n 0) ≡ end
    → cond (is_among n numbers) last (get_or (set ends current last) n 0) ≡ end
closed_ends numbers ends current last n end h here is = ⊎_elim
    (λ (same : n ≡ current).
    let ending : get_or (set ends current last) n 0 ≡ last = ap (λ m. get_or (set ends current last) m 0) same ∙ get_or-set_same ends current last 0 here in
    let old : last ≡ end = ap (λ b. cond (b || is_among n numbers) last (get_or ends n 0)) (sym (eq-eqb n current same)) ∙ is in
    ap (λ e. cond (is_among n numbers) last e) ending ∙ (same_either (is_among n numbers) last ∙ old))
    (λ other.
    let ending : get_or (set ends current last) n 0 ≡ get_or ends n 0 = get_or-set_other ends current n last 0 other in
    ap (λ e. cond (is_among n numbers) last e) ending
    ∙ (ap (λ b. cond (b || is_among n numbers) last (get_or ends n 0)) (sym (ne_eqb n current other)) ∙ is))
    (cases_eq n current)

module _ (slots : List Slot) (ends : List ℕ) (current : ℕ) (growing : IsGrowing slots ends current) where
  pub growing-close : (parent : ℕ) → parent < current → (node_at (kept slots) current).above ≡ path (kept slots) parent
      → IsGrowing slots (set ends current (length slots - 1)) parent
  growing-close parent earlier above = record {
    here = omega (arith, growing.here);
    below = growing.below;
    long = length-set ends current (length slots - 1) ∙ growing.long;
    ends_are = λ n h. closed_ends (path (kept slots) parent) ends current (length slots - 1) n (last_kept (kept slots) n) (omega (arith, h, growing.long))
        (omega (arith, growing.here, growing.long))
        (ap (λ numbers. cond ((n == current) || is_among n numbers) (length slots - 1) (get_or ends n 0)) (sym above) ∙ growing.ends_are n h);
  }

  pub growing-ended : (node_at (kept slots) current).above ≡ [] → AreEnds slots (set ends current (length slots - 1))
  growing-ended above = λ n h. closed_ends [] ends current (length slots - 1) n (last_kept (kept slots) n) (omega (arith, h, growing.long))
      (omega (arith, growing.here, growing.long))
      (ap (λ numbers. cond ((n == current) || is_among n numbers) (length slots - 1) (get_or ends n 0)) (sym above) ∙ growing.ends_are n h)

-- the path of the node around, where the innermost ends
pub ended_path : (nodes : List Placed) (n m : ℕ) → (node_at nodes n).above ≡ path nodes m → path nodes m ≡ ended (path nodes n)
ended_path nodes n m above = sym (ap (λ numbers. ended (n ∷ numbers)) above)

pub ended_document : (nodes : List Placed) (n : ℕ) → (node_at nodes n).above ≡ [] → path nodes n ≡ ended (path nodes n)
ended_document nodes n above = ap (λ numbers. n ∷ numbers) above ∙ sym (ap (λ numbers. ended (n ∷ numbers)) above)

-- a node more, as a call adds it
module _ (old new : List Slot) (ends more_ends : List ℕ) (slot : Slot) (number : ℕ) (growing : IsGrowing old ends slot.parent)
    (inner : is_inner slot.kind ≡ true)
    (pushed : new ≡ old ++ slot ∷ []) (ended_by : more_ends ≡ ends ++ number ∷ []) (is : number ≡ length old) where
  ends_same : more_ends ≡ ends ++ length old ∷ []
  ends_same = ended_by ∙ ap (λ n. ends ++ n ∷ []) is

  pub growing-more : IsGrowing new more_ends slot.parent
  growing-more = rw (pushed, ends_same) (growing-push old ends slot growing inner)

  pub growing-opened : IsGrowing new more_ends number
  growing-opened = rw (pushed, ends_same) (growing-open old ends slot growing inner number is)

  pub path-more : path (kept new) slot.parent ≡ path (kept old) slot.parent
  path-more = ap (λ slots. path (kept slots) slot.parent) pushed ∙ pushed_path old ends slot growing inner

  pub path-opened : path (kept new) number ≡ number ∷ path (kept old) slot.parent
  path-opened = ap (λ slots. path (kept slots) number) pushed ∙ opened_path old ends slot growing inner number is

  pub kept-more : kept new ≡ kept old ++ placed (kept old) slot ∷ []
  kept-more = ap kept pushed ∙ kept-push old slot
