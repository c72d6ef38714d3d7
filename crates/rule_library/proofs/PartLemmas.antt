-- Parts: the files that are being put in, the file behind others, what is dropped, and what is gone over then.
use Rattle.std.proofs.Common.{◌≡◌, ℕ, zero, suc, ◌+◌, ◌-◌, ◌<◌, ◌≤◌, ◌⊎◌, inl, inr, Bool, true, false, not, List, [], ◌∷◌, ◌++◌, length, drop, take, get_or}
use Rattle.std.proofs.Common.{Option, Some, None, refl, sym, ap, subst, ◌∙◌, arith}
use Rattle.std.specs.Prelude.{◌||◌, bytes_eq}
use Rattle.std.specs.Option.{ForSome}
use Rattle.std.proofs.lemmas.Bool.{cases_lt, false≢true}
use Rattle.std.proofs.lemmas.Bool.Decides.{nat_tests}
use Rattle.std.proofs.lemmas.List.{take_more}
use Rattle.std.proofs.Math.ListN.{drop_of_length-le}
use Rattle.inv_base.specs.Tree.{is_among}
use Rattle.node_arena.specs.Document.{Placed, Document, node_at, AreNumbered}
use Rattle.node_arena.specs.Moves.{tree_nodes, tree_node, is_inside, is_between}
use Rattle.rule_library.specs.Readings.{File, State, Readings, file_at, total}
use Rattle.rule_library.specs.Walk.{Next, Enter, Way, at_node, closed_for, going, entered, is_in, is_unfit, same_names, element_name, parent_name}
use Rattle.rule_library.specs.Turns.{Open, from, stack_of, opened, all_opened, enter_in, goes_on, state_of, outer_of, top_of, rest_of, node_in, asking}
use Rattle.rule_library.specs.Turns.{behind_part, fit_rest, IsOpen, AreOpen, Stands, IsBehind, Descends}
use Rattle.rule_library.specs.declared.walk.Frame.{Frame}
use Rattle.rule_library.specs.declared.walk.Walk.{Walk}
use Rattle.rule_library.proofs.NodeLemmas.{from_node, tree_node-above}
use Rattle.rule_library.proofs.TurnLemmas.{rest_by, all_opened-more, AreOpen-push}

-- ---- what is dropped

-- Which nodes are inside the n-th: those behind it up to the last.
abbrev Insides : Document → ℕ → ℕ → Type 0
Insides document n last = (k : ℕ) → k < length document.nodes → is_among n (node_at document.nodes k).above ≡ is_between n last k

-- a node by whether it is dropped
abbrev going_by : Enter → Way → Placed → List Placed → Next → Option ℕ → State → Bool → Readings
going_by enter w node nodes next dropped s b = elim b [
  | true ↦ going enter w nodes next dropped s
  | false ↦ at_node enter w node nodes (going enter w nodes next) (closed_for w node s)
]

dropped : (document : Document) (n last : ℕ) → Insides document n last → (enter : Enter) (w : Way) (next : Next) (s : State) (m k : ℕ)
    → n < k → k + m ≡ last + 1 → last < length document.nodes
    → going enter w (drop k document.nodes) next (Some n) s ≡ going enter w (drop (k + m) document.nodes) next (Some n) s
dropped document n last insides enter w next s zero k after count within =
    let e : k ≡ k + zero = omega arith in ap (λ i. going enter w (drop i document.nodes) next (Some n) s) e
dropped document n last insides enter w next s (suc m) k after count within =
    let here : k < length document.nodes = omega arith in
    let inside : is_among n (node_at document.nodes k).above ≡ true = insides k here ∙ between n last k after (omega arith) in
    let step : going enter w (drop k document.nodes) next (Some n) s ≡ going enter w (drop (k + 1) document.nodes) next (Some n) s =
    ap (λ (nodes : List Placed). going enter w nodes next (Some n) s) (from_node document.nodes k here) ∙
    dropped_one enter w (node_at document.nodes k) (drop (k + 1) document.nodes) next n s inside in
    let e : k + 1 + m ≡ k + suc m = omega arith in
    step ∙ (dropped document n last insides enter w next s m (k + 1) (omega arith) (omega arith) within ∙
    ap (λ i. going enter w (drop i document.nodes) next (Some n) s) e)
  where
    dropped_one : (enter : Enter) (w : Way) (node : Placed) (nodes : List Placed) (next : Next) (n : ℕ) (s : State) → is_among n node.above ≡ true
        → going enter w (node ∷ nodes) next (Some n) s ≡ going enter w nodes next (Some n) s
    dropped_one enter w node nodes next n s e = ap (going_by enter w node nodes next (Some n) s) e

    between : (n last k : ℕ) → n < k → k ≤ last → is_between n last k ≡ true
    between n last k a b = grind (arith, nat_tests)

kept : (enter : Enter) (w : Way) (node : Placed) (nodes : List Placed) (next : Next) (n : ℕ) (s : State) → is_among n node.above ≡ false
    → going enter w (node ∷ nodes) next (Some n) s ≡ going enter w (node ∷ nodes) next None s
kept enter w node nodes next n s e = ap (going_by enter w node nodes next (Some n) s) e

past_last : (n last : ℕ) → is_between n last (last + 1) ≡ false
past_last n last = grind (arith, nat_tests)

none_left : (document : Document) (n last : ℕ) → Insides document n last → (enter : Enter) (w : Way) (next : Next) (s : State) →
    (last + 1 < length document.nodes) ⊎ (length document.nodes ≤ last + 1)
    → going enter w (drop (last + 1) document.nodes) next (Some n) s ≡ going enter w (drop (last + 1) document.nodes) next None s
none_left document n last insides enter w next s (inl here) =
    let out : is_among n (node_at document.nodes (last + 1)).above ≡ false = insides (last + 1) here ∙ past_last n last in
    let e = from_node document.nodes (last + 1) here in
    ap (λ (nodes : List Placed). going enter w nodes next (Some n) s) e
    ∙ (kept enter w (node_at document.nodes (last + 1)) (drop (last + 1 + 1) document.nodes) next n s out ∙
    sym (ap (λ (nodes : List Placed). going enter w nodes next None s) e))
none_left document n last insides enter w next s (inr past) =
    let e = drop_of_length-le document.nodes past in
    ap (λ (nodes : List Placed). going enter w nodes next (Some n) s) e ∙ sym (ap (λ (nodes : List Placed). going enter w nodes next None s) e)

number-at : (nodes : List Placed) (first n : ℕ) → AreNumbered first nodes → n < length nodes → (node_at nodes n).number ≡ first + n
number-at [] first n h l = absurd (omega arith)
number-at (node ∷ nodes) first zero h l = let e : first ≡ first + zero = omega arith in h.0 ∙ e
number-at (node ∷ nodes) first (suc n) h l = let e : first + 1 + n ≡ first + suc n = omega arith in number-at nodes (first + 1) n h.1 (omega arith) ∙ e

pub is_behind : (document : Document) (n last : ℕ) (rest : List Placed) → n < length document.nodes → n ≤ last → last < length document.nodes →
    AreNumbered 0 document.nodes
    → ((k : ℕ) → k < length document.nodes → is_inside n (tree_node (tree_nodes document) k) ≡ is_between n last k)
    → rest ≡ drop (last + 1) document.nodes → IsBehind document n rest
is_behind document n last rest here low within numbered law e enter w next s =
    let insides : Insides document n last = λ k l. ap (is_among n) (sym (tree_node-above document k)) ∙ law k l in
    let number : (node_at document.nodes n).number ≡ n = number-at document.nodes 0 n numbered here ∙ omega arith in
    let count : n + 1 + (last - n) ≡ last + 1 = omega arith in
    ap (λ k. going enter w (drop (n + 1) document.nodes) next (Some k) s) number
    ∙ (dropped document n last insides enter w next s (last - n) (n + 1) (omega arith) count within
    ∙ (ap (λ k. going enter w (drop k document.nodes) next (Some n) s) count
    ∙ (none_left document n last insides enter w next s (either (last + 1) (length document.nodes))
    ∙ ap (λ (nodes : List Placed). going enter w nodes next None s) (sym e))))
  where
    either : (a b : ℕ) → (a < b) ⊎ (b ≤ a)
    either a b = cases_lt a b

-- ---- what may give its inside

pub fits-whole : (w : Walk) (n k : ℕ) (bare : Bool) → bare ≡ false → false ≡ is_unfit (asking (top_of w) n bare) (file_at k w.files.items)
fits-whole w n k true e = absurd (false≢true (sym e))
fits-whole w n k false e = refl

pub fits-inside : (w : Walk) (n k : ℕ) (bare fits : Bool) → bare ≡ true
    → fits ≡ same_names (element_name (file_at k w.files.items).document 1) (parent_name (top_of w).way.file.document (node_in (top_of w) n))
    → not fits ≡ is_unfit (asking (top_of w) n bare) (file_at k w.files.items)
fits-inside w n k true fits e is = ap not is
fits-inside w n k false fits e is = absurd (false≢true e)

-- ---- one more file in the stack

pub stack_length : (files : List File) (outer : List Open) (frames : List Frame) →
    length (stack_of (all_opened files outer frames)) ≡ length frames + length (stack_of outer)
stack_length files outer [] = omega arith
stack_length files outer (frame ∷ frames) = omega (arith, stack_length files (opened files outer frame ∷ outer) frames)

-- Behind 64 files inside one another the part is passed by.
pub enters-none : (w : Walk) (n : ℕ) (bare : Bool) (k parts : ℕ) (at : Option ℕ) →
    IsBehind (top_of w).way.file.document n (from at (top_of w).way.file.document.nodes)
    → 64 ≤ length w.outer.items + 1
    → rest_of (record w { parts = parts; top = record w.top { at = at } }) ≡ fit_rest w n bare k
unfolding entered
enters-none w n bare k parts at behind full =
    let room : 64 - length (top_of w).way.stack ≡ 0 = omega (arith, stack_length w.files.items [] w.outer.items) in
    sym (ap (λ room. entered room (top_of w).way.stack true (file_at k w.files.items) bare (behind_part (top_of w) (outer_of w) n) (state_of w)) room
    ∙ behind (enter_in (top_of w).way) (top_of w).way (goes_on (outer_of w)) (state_of w))

-- what is still to be done where the walk stands in a part, behind which it goes on in the file around it
pub enters : (w : Walk) (n : ℕ) (bare : Bool) (k parts : ℕ) (at : Option ℕ) (frames : List Frame) (base : ℕ) →
    IsBehind (top_of w).way.file.document n (from at (top_of w).way.file.document.nodes)
    → length w.outer.items + 1 < 64 → base ≡ length w.joined.built.open_nodes
    → frames ≡ w.outer.items ++ record w.top { at = at } ∷ []
    → goes_on (opened w.files.items (all_opened w.files.items [] frames) (record { file = k; bare = bare; base = base; at = Some 0 }) ∷ all_opened w.files.items
    [] frames) (state_of w)
    ≡ fit_rest w n bare k
unfolding entered
enters w n bare k parts at frames base behind few base_is pushed =
    let file : File = file_at k w.files.items in
    let stack : List (List ℕ) = (top_of w).way.stack in
    let within : Open = opened w.files.items (outer_of w) (record w.top { at = at }) in
    let room : 64 - length stack ≡ suc (64 - length (file.name ∷ stack)) = omega (arith, stack_length w.files.items [] w.outer.items) in
    let next : behind_part (top_of w) (outer_of w) n ≡ goes_on (within ∷ outer_of w) =
    λ i s. behind (enter_in (top_of w).way) (top_of w).way (goes_on (outer_of w)) s i in
    ap (λ (around : List Open). goes_on (opened w.files.items around (record { file = k; bare = bare; base = base; at = Some 0 }) ∷ around) (state_of w))
    (ap (all_opened w.files.items []) pushed ∙ all_opened-more w.files.items [] w.outer.items (record w.top { at = at }))
    ∙ (ap (λ b. goes_on (opened w.files.items (within ∷ outer_of w) (record { file = k; bare = bare; base = b; at = Some 0 }) ∷ (within ∷ outer_of w))
    (state_of w)) base_is
    ∙ (ap (λ (f : Next). entered (suc (64 - length (file.name ∷ stack))) stack true file bare f (state_of w)) (sym next)
    ∙ ap (λ r. entered r stack true file bare (behind_part (top_of w) (outer_of w) n) (state_of w)) (sym room)))

-- The walk goes over the part, and behind it on in the file around it.
pub descends : (w v : Walk) (n : ℕ) (bare : Bool) (k : ℕ) (at : Option ℕ) → IsBehind (top_of w).way.file.document n (from at (top_of w).way.file.document.nodes)
    → length w.outer.items + 1 < 64 → Descends at bare k w v → rest_of v ≡ fit_rest w n bare k
descends w v n bare k at behind few d =
    (λ i. rest_by (d.files i) (d.top i) (d.outer i) (d.joined i))
    ∙ enters w n bare k 0 at (w.outer.items ++ record w.top { at = at } ∷ []) (length w.joined.built.open_nodes) behind few refl refl

pub stands_below : (w v : Walk) (bare : Bool) (k : ℕ) (at : Option ℕ) → Stands w →
    ForSome at (λ m. m < length (file_at w.top.file w.files.items).document.nodes)
    → k < length w.files.items → Descends at bare k w v → Stands v
stands_below w v bare k at h within low d = record {
  top = subst (λ (frame : Frame). IsOpen v.files.items frame) (sym d.top)
      (subst (λ (files : List File). IsOpen files (record { file = k; bare = bare; base = length w.joined.built.open_nodes; at = Some 0 })) (sym d.files)
      (record { file = low; base = d.some; at = λ n e. first n e }));
  outer = subst (λ (frames : List Frame). AreOpen v.files.items frames) (sym d.outer)
      (subst (λ (files : List File). AreOpen files (w.outer.items ++ record w.top { at = at } ∷ [])) (sym d.files)
      (AreOpen-push w.files.items w.outer.items (record w.top { at = at }) h.outer (record { file = h.top.file; base = h.top.base; at = within })));
  long = d.long ∙ (h.long ∙ ap total (sym d.files));
  few = subst (λ (files : List File). length files ≤ 64) (sym d.files) h.few;
}
  where
    first : (n : ℕ) → Some 0 ≡ Some n → n < length (file_at k w.files.items).document.nodes
    first n e = let same : 0 ≡ n = cc in subst (λ m. m < length (file_at k w.files.items).document.nodes) same d.begun

-- ---- the files that are being put in

pub open_at : (files : List File) (frames : List Frame) (k : ℕ) (frame : Frame) → AreOpen files frames → k < length frames → frame ≡ get_or frames k frame →
    IsOpen files frame
open_at files [] k frame h l e = absurd (omega arith)
open_at files (other ∷ frames) zero frame h l e = subst (λ (f : Frame). IsOpen files f) (sym e) h.0
open_at files (other ∷ frames) (suc k) frame h l e = open_at files frames k frame h.1 (omega arith) e

pub one_around : (name : List ℕ) (files : List File) (frames : List Frame) (k : ℕ) (frame : Frame) (found has : Bool) →
    found ≡ is_in name (stack_of (all_opened files [] (take k frames)))
    → k < length frames → frame ≡ get_or frames k frame → has ≡ bytes_eq (file_at frame.file files).name name
    → (has || found) ≡ is_in name (stack_of (all_opened files [] (take (k + 1) frames)))
one_around name files frames k frame found has f l e h =
    let more = take_more frames k frame l ∙ ap (λ (other : Frame). take k frames ++ other ∷ []) (sym e) in
    (λ i. h i || f i) ∙ sym (ap (λ (l : List Frame). is_in name (stack_of (all_opened files [] l))) more ∙
    ap (λ (l : List Open). is_in name (stack_of l)) (all_opened-more files [] (take k frames) frame))
