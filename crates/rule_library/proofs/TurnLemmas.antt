-- What is still to be done where a walk stands.
use Rattle.std.proofs.Common.{◌≡◌, ℕ, suc, ◌+◌, ◌-◌, ◌<◌, ◌≤◌, ◌⊎◌, inl, inr, Bool, true, false, not, List, [], ◌∷◌, ◌++◌, length, drop, Option, Some, None}
use Rattle.std.proofs.Common.{Result, Ok, Err, refl, sym, ap, subst, ◌∙◌, arith, length-append}
use Rattle.std.specs.Prelude.{nat_le, nat_lt, ◌==◌, if◌then◌else◌}
use Rattle.std.proofs.lemmas.Bool.Decides.{nat_tests}
use Rattle.std.specs.Option.{ForSome}
use Rattle.std.proofs.Math.ListN.{get_or-append}
use Rattle.inv_base.specs.declared.tree.Kind.{Kind}
use Rattle.inv_base.specs.declared.tree.Kind.TheVariants as nodes_are
use Rattle.xml_state.specs.Sizes.{rule_limits}
use Rattle.node_arena.specs.Document.{Placed}
use Rattle.rule_library.specs.Readings.{File, Joined, State, Readings, gives, file_at, no_file}
use Rattle.rule_library.specs.Asked.{Asked, stays, asked}
use Rattle.rule_library.specs.Joining.{closed_to, with_text, with_element, passed_limit}
use Rattle.rule_library.specs.Walk.{going, around, at_kind, unless_passed, stays_by, is_left_out, own_name, parent_name, checked_by, is_unfit, put_by, is_in}
use Rattle.rule_library.specs.Walk.{found_or_read, read_by, file_of}
use Rattle.rule_library.specs.Asked.{given_at}
use Rattle.rule_library.specs.Turns.{Open, from, is_part, opened_file, opened, all_opened, enter_in, goes_on, state_of, outer_of, top_of, rest_of, going_behind}
use Rattle.rule_library.specs.Turns.{node_in, passed, settled, at_rest, node_rest, asked_rest, asking, behind_part, part_rest, other_rest, new_rest, found_rest}
use Rattle.rule_library.specs.Turns.{fit_rest, IsOpen, AreOpen, Stands, StandsAt, fault_at}
use Rattle.rule_library.specs.Turns.{Turns, TurnsTo}
use Rattle.rule_library.specs.Leads.{Reaches}
use Rattle.rule_library.specs.Faults.{IsOfANode}
use Rattle.std.specs.Prelude.{IfOk}
use Rattle.inv_base.specs.Outside.{ShelfView}
use Rattle.rule_library.specs.declared.walk.Turn.{Turn}
use Rattle.rule_library.specs.declared.walk.Turn.TheVariants as turn_kinds
use Rattle.rule_library.specs.declared.faults.LoadKind.{LoadKind}
use Rattle.rule_library.specs.declared.faults.LoadKind.TheVariants as kinds
use Rattle.rule_library.specs.declared.faults.LoadFault.{LoadFault}
use Rattle.rule_library.specs.declared.walk.Frame.{Frame}
use Rattle.rule_library.specs.declared.walk.Walk.{Walk}
use Rattle.rule_library.proofs.NodeLemmas.{from_node}
use Rattle.rule_library.proofs.LeadsLemmas.{reaches_same}

-- what is still to be done, by what a walk has
abbrev pub rest_by : List File → Frame → List Frame → Joined → Readings
rest_by files top outer joined = goes_on (opened files (all_opened files [] outer) top ∷ all_opened files [] outer) (record { files = files; joined = joined })

-- ---- one frame more, one file more

pub all_opened-more : (files : List File) (outer : List Open) (frames : List Frame) (frame : Frame)
    → all_opened files outer (frames ++ frame ∷ []) ≡ opened files (all_opened files outer frames) frame ∷ all_opened files outer frames
all_opened-more files outer [] frame = refl
all_opened-more files outer (other ∷ frames) frame = all_opened-more files (opened files outer other ∷ outer) frames frame

pub file_at-more : (files more : List File) (k : ℕ) → k < length files → file_at k (files ++ more) ≡ file_at k files
file_at-more files more k h = get_or-append files more no_file k h

pub opened-more_files : (files more : List File) (outer : List Open) (frame : Frame) → frame.file < length files →
    opened (files ++ more) outer frame ≡ opened files outer frame
opened-more_files files more outer frame h = ap (λ (file : File). opened_file file outer frame) (file_at-more files more frame.file h)

pub all_opened-more_files : (files more : List File) (outer : List Open) (frames : List Frame) → AreOpen files frames
    → all_opened (files ++ more) outer frames ≡ all_opened files outer frames
all_opened-more_files files more outer [] h = refl
all_opened-more_files files more outer (frame ∷ frames) h =
    ap (λ (o : Open). all_opened (files ++ more) (o ∷ outer) frames) (opened-more_files files more outer frame h.0.file)
    ∙ all_opened-more_files files more (opened files outer frame ∷ outer) frames h.1

pub IsOpen-more : (files more : List File) (frame : Frame) → IsOpen files frame → IsOpen (files ++ more) frame
IsOpen-more files more frame h = record {
  file = omega (arith, length-append files more, h.file);
  base = h.base;
  at = subst (λ (file : File). ForSome frame.at (λ n. n < length file.document.nodes)) (sym (file_at-more files more frame.file h.file)) h.at;
}

pub AreOpen-more : (files more : List File) (frames : List Frame) → AreOpen files frames → AreOpen (files ++ more) frames
AreOpen-more files more [] h = tt
AreOpen-more files more (frame ∷ frames) h = (IsOpen-more files more frame h.0, AreOpen-more files more frames h.1)

pub AreOpen-push : (files : List File) (frames : List Frame) (frame : Frame) → AreOpen files frames → IsOpen files frame → AreOpen files (frames ++ frame ∷ [])
AreOpen-push files [] frame h k = (k, tt)
AreOpen-push files (other ∷ frames) frame h k = (h.0, AreOpen-push files frames frame h.1 k)

pub AreOpen-last : (files : List File) (frames : List Frame) (frame : Frame) → AreOpen files (frames ++ frame ∷ []) → IsOpen files frame
AreOpen-last files [] frame h = h.0
AreOpen-last files (other ∷ frames) frame h = AreOpen-last files frames frame h.1

pub AreOpen-front : (files : List File) (frames : List Frame) (frame : Frame) → AreOpen files (frames ++ frame ∷ []) → AreOpen files frames
AreOpen-front files [] frame h = tt
AreOpen-front files (other ∷ frames) frame h = (h.0, AreOpen-front files frames frame h.1)

part_inside : (files : List File) (o : Open) (outer : List Open) (frames : List Frame) → is_part (all_opened files (o ∷ outer) frames) ≡ true
part_inside files o outer [] = refl
part_inside files o outer (frame ∷ frames) = part_inside files (opened files (o ∷ outer) frame) (o ∷ outer) frames

some_length : (n : ℕ) → not (suc n == 0) ≡ true
some_length n = grind (arith, nat_tests)

pub is_part-of : (files : List File) (frames : List Frame) → not (length frames == 0) ≡ is_part (all_opened files [] frames)
is_part-of files [] = refl
is_part-of files (frame ∷ frames) = some_length (length frames) ∙ sym (part_inside files (opened files [] frame) [] frames)

-- ---- at a node

-- Its inside isn't dropped, so what isn't around it is closed, and it is looked at.
pub at_rest_of : (o : Open) (outer : List Open) (s : State) (n : ℕ) → n < length o.way.file.document.nodes → o.nodes ≡ drop n o.way.file.document.nodes
    → goes_on (o ∷ outer) s ≡ at_rest o outer
    (record { files = s.files; joined = closed_to (o.way.base + (length (node_in o n).above - around o.way.bare)) s.joined }) n
at_rest_of o outer s n h e = ap (λ (nodes : List Placed). going (enter_in o.way) o.way nodes (goes_on outer) None s)
    (e ∙ from_node o.way.file.document.nodes n h)

pub closes : (w : Walk) (n : ℕ) (joined : Joined) → StandsAt w n →
    joined ≡ closed_to (w.top.base + (length (node_in (top_of w) n).above - around w.top.bare)) w.joined
    → node_rest (record w { joined = joined }) n ≡ rest_of w
closes w n joined at e =
    ap (λ (j : Joined). at_rest (top_of w) (outer_of w) (record { files = w.files.items; joined = j }) n) e
    ∙ sym (at_rest_of (top_of w) (outer_of w) (state_of w) n at.within (ap (λ place. from place (top_of w).way.file.document.nodes) at.here))

pub passes : (w : Walk) (n : ℕ) (at : Option ℕ) → from at (top_of w).way.file.document.nodes ≡ drop (n + 1) (top_of w).way.file.document.nodes
    → rest_of (record w { top = record w.top { at = at } }) ≡ passed w n
passes w n at e = ap (λ (nodes : List Placed). going (enter_in (top_of w).way) (top_of w).way nodes (goes_on (outer_of w)) None (state_of w)) e

pub stands_passed : (w : Walk) (at : Option ℕ) → Stands w → ForSome at (λ m. m < length (file_at w.top.file w.files.items).document.nodes)
    → Stands (record w { top = record w.top { at = at } })
stands_passed w at h within = record { top = record { file = h.top.file; base = h.top.base; at = within }; outer = h.outer; long = h.long; few = h.few }

pub settled-none : (w : Walk) (n : ℕ) → None ≡ passed_limit (is_part (outer_of w)) w.joined → settled w n ≡ passed w n
settled-none w n e = ap (λ limit. unless_passed limit (top_of w).way (node_in (top_of w) n) (going_behind (top_of w) (outer_of w) n None) (state_of w)) (sym e)

pub settled-some : (w : Walk) (n : ℕ) (kind : LoadKind) → Some kind ≡ passed_limit (is_part (outer_of w)) w.joined →
    settled w n ≡ gives (Err (fault_at w n kind))
settled-some w n kind e = ap (λ limit. unless_passed limit (top_of w).way (node_in (top_of w) n) (going_behind (top_of w) (outer_of w) n None) (state_of w))
    (sym e)

limit_kind : (a b c : Bool) (kind : LoadKind) →
    (if a then Some kinds.TooDeep else (if b then Some kinds.TooManyNodes else (if c then Some kinds.TooManyNames else None))) ≡ Some kind
    → IsOfANode kind
limit_kind true b c kind e = let same : kinds.TooDeep ≡ kind = cc in subst IsOfANode same tt
limit_kind false true c kind e = let same : kinds.TooManyNodes ≡ kind = cc in subst IsOfANode same tt
limit_kind false false true kind e = let same : kinds.TooManyNames ≡ kind = cc in subst IsOfANode same tt
limit_kind false false false kind e = cc

-- What passes a limit is a node.
pub passes-node : (part : Bool) (j : Joined) (kind : LoadKind) → passed_limit part j ≡ Some kind → IsOfANode kind
passes-node false j kind e = cc
passes-node true j kind e = limit_kind (nat_lt (rule_limits.depth + 1) (length j.built.open_nodes)) (nat_lt rule_limits.nodes (length j.built.nodes))
    (nat_lt rule_limits.names (length j.names)) kind e

-- a node of a kind
abbrev kind_rest : Walk → ℕ → Kind → Readings
kind_rest w n kind = at_kind (enter_in (top_of w).way) (top_of w).way (node_in (top_of w) n) (drop (n + 1) (top_of w).way.file.document.nodes)
    (going_behind (top_of w) (outer_of w) n) (state_of w) kind

at_document : (w : Walk) (n : ℕ) → (node_in (top_of w) n).kind ≡ nodes_are.Document → node_rest w n ≡ passed w n
at_document w n e = ap (kind_rest w n) e

at_attribute : (w : Walk) (n : ℕ) → (node_in (top_of w) n).kind ≡ nodes_are.Attribute → node_rest w n ≡ passed w n
at_attribute w n e = ap (kind_rest w n) e

-- The document's node, or an attribute.
pub at_other : (w : Walk) (n : ℕ) (kind : Kind) → kind ≡ (node_in (top_of w) n).kind → (kind ≡ nodes_are.Document) ⊎ (kind ≡ nodes_are.Attribute) →
    node_rest w n ≡ passed w n
at_other w n kind e (inl is) = at_document w n (sym e ∙ is)
at_other w n kind e (inr is) = at_attribute w n (sym e ∙ is)

pub at_text : (w : Walk) (n : ℕ) (joined : Joined) → (node_in (top_of w) n).kind ≡ nodes_are.Text
    → joined ≡ with_text (node_in (top_of w) n).text ((node_in (top_of w) n).place + (top_of w).way.file.start) w.joined
    → node_rest w n ≡ settled (record w { joined = joined }) n
at_text w n joined e is = ap (kind_rest w n) e ∙ ap (λ (j : Joined). settled (record w { joined = j }) n) (sym is)

pub at_element : (w : Walk) (n : ℕ) (a : Asked) → (node_in (top_of w) n).kind ≡ nodes_are.Element
    → a ≡ asked (parent_name (top_of w).way.file.document (node_in (top_of w) n)) (own_name (top_of w).way.file.document (node_in (top_of w) n))
    (given_at (top_of w).way.file.document.names (drop (n + 1) (top_of w).way.file.document.nodes))
    → asked_rest w n a ≡ node_rest w n
at_element w n a e is = ap (asked_rest w n) is ∙ sym (ap (kind_rest w n) e)

pub left_out : (w : Walk) (n : ℕ) → is_left_out (top_of w).way (node_in (top_of w) n) ≡ true → asked_rest w n stays ≡ passed w n
left_out w n e = ap (stays_by (top_of w).way (node_in (top_of w) n) (own_name (top_of w).way.file.document (node_in (top_of w) n))
    (given_at (top_of w).way.file.document.names (drop (n + 1) (top_of w).way.file.document.nodes)) (going_behind (top_of w) (outer_of w) n) (state_of w)) e

pub put_in_place : (w : Walk) (n : ℕ) (joined : Joined) → is_left_out (top_of w).way (node_in (top_of w) n) ≡ false
    → joined ≡ with_element (own_name (top_of w).way.file.document (node_in (top_of w) n))
    (given_at (top_of w).way.file.document.names (drop (n + 1) (top_of w).way.file.document.nodes))
    ((node_in (top_of w) n).place + (top_of w).way.file.start) w.joined
    → asked_rest w n stays ≡ settled (record w { joined = joined }) n
put_in_place w n joined e is =
    ap (stays_by (top_of w).way (node_in (top_of w) n) (own_name (top_of w).way.file.document (node_in (top_of w) n))
    (given_at (top_of w).way.file.document.names (drop (n + 1) (top_of w).way.file.document.nodes)) (going_behind (top_of w) (outer_of w) n) (state_of w)) e
    ∙ ap (λ (j : Joined). settled (record w { joined = j }) n) (sym is)

-- ---- parts

pub part-cycle : (w : Walk) (n : ℕ) (bare : Bool) (name : List ℕ) → is_in name (top_of w).way.stack ≡ true →
    part_rest w n bare name ≡ gives (Err (fault_at w n kinds.IncludeCycle))
part-cycle w n bare name e = ap (put_by (enter_in (top_of w).way) (asking (top_of w) n bare) name (behind_part (top_of w) (outer_of w) n) (state_of w)) e

pub part-other : (w : Walk) (n : ℕ) (bare : Bool) (name : List ℕ) → is_in name (top_of w).way.stack ≡ false → part_rest w n bare name ≡ other_rest w n bare name
part-other w n bare name e = ap (put_by (enter_in (top_of w).way) (asking (top_of w) n bare) name (behind_part (top_of w) (outer_of w) n) (state_of w)) e

pub other-found : (w : Walk) (n : ℕ) (bare : Bool) (name : List ℕ) (k : ℕ) → Some (file_at k w.files.items) ≡ file_of name w.files.items →
    other_rest w n bare name ≡ found_rest w n bare k
other-found w n bare name k e = ap (found_or_read (enter_in (top_of w).way) (asking (top_of w) n bare) name (behind_part (top_of w) (outer_of w) n)
    (state_of w)) (sym e)

pub other-new : (w : Walk) (n : ℕ) (bare : Bool) (name : List ℕ) → None ≡ file_of name w.files.items → other_rest w n bare name ≡ new_rest w n bare name
other-new w n bare name e = ap (found_or_read (enter_in (top_of w).way) (asking (top_of w) n bare) name (behind_part (top_of w) (outer_of w) n) (state_of w))
    (sym e)

pub new-many : (w : Walk) (n : ℕ) (bare : Bool) (name : List ℕ) → nat_le 64 (length w.files.items) ≡ true →
    new_rest w n bare name ≡ gives (Err (fault_at w n kinds.TooManyFiles))
new-many w n bare name e = ap (read_by (enter_in (top_of w).way) (asking (top_of w) n bare) name (behind_part (top_of w) (outer_of w) n) (state_of w)) e

pub found-unfit : (w : Walk) (n : ℕ) (bare : Bool) (k : ℕ) → is_unfit (asking (top_of w) n bare) (file_at k w.files.items) ≡ true →
    found_rest w n bare k ≡ gives (Err (fault_at w n kinds.NotSame))
found-unfit w n bare k e = ap (checked_by (enter_in (top_of w).way) (asking (top_of w) n bare) (behind_part (top_of w) (outer_of w) n) (state_of w)
    (file_at k w.files.items)) e

pub found-fit : (w : Walk) (n : ℕ) (bare : Bool) (k : ℕ) → is_unfit (asking (top_of w) n bare) (file_at k w.files.items) ≡ false →
    found_rest w n bare k ≡ fit_rest w n bare k
found-fit w n bare k e = ap (checked_by (enter_in (top_of w).way) (asking (top_of w) n bare) (behind_part (top_of w) (outer_of w) n) (state_of w)
    (file_at k w.files.items)) e

-- ---- turns

-- The last node is passed: what was open in the file is closed, and the one around it goes on.
pub leaves-in : (w : Walk) (frames : List Frame) (frame : Frame) (joined : Joined) → w.top.at ≡ None → w.outer.items ≡ frames ++ frame ∷ [] →
    joined ≡ closed_to w.top.base w.joined
    → rest_of w ≡ rest_by w.files.items frame frames joined
leaves-in w frames frame joined none outer closed =
    ap (λ (at : Option ℕ). goes_on (opened w.files.items (outer_of w) (record w.top { at = at }) ∷ outer_of w) (state_of w)) none
    ∙ (ap (λ (around : List Open). goes_on around (record { files = w.files.items; joined = closed_to w.top.base w.joined }))
    (ap (all_opened w.files.items []) outer ∙ all_opened-more w.files.items [] frames frame)
    ∙ ap (λ (j : Joined). rest_by w.files.items frame frames j) (sym closed))

pub leaves-all : (w : Walk) (joined : Joined) → w.top.at ≡ None → w.outer.items ≡ [] → joined ≡ closed_to w.top.base w.joined
    → rest_of w ≡ gives (Ok (record { files = w.files.items; joined = joined }))
leaves-all w joined none outer closed =
    ap (λ (at : Option ℕ). goes_on (opened w.files.items (outer_of w) (record w.top { at = at }) ∷ outer_of w) (state_of w)) none
    ∙ (ap (λ (around : List Open). goes_on around (record { files = w.files.items; joined = closed_to w.top.base w.joined }))
    (ap (all_opened w.files.items []) outer)
    ∙ ap (λ (j : Joined). gives (Ok (record { files = w.files.items; joined = j }))) (sym closed))

pub stands_at : (w : Walk) (n : ℕ) → Stands w → w.top.at ≡ Some n → StandsAt w n
stands_at w n h e = record { stands = h; here = e; within = h.top.at n e }

pub turns_quiet : (r : Result Turn LoadFault) (first : Readings) (w : Walk) (v : ShelfView) → IfOk r (λ turn. TurnsTo turn first w) →
    IfOk r (λ turn. Turns turn first w v v)
turns_quiet (Ok turn_kinds.Goes) first w v e = reaches_same first (rest_of w) v e
turns_quiet (Ok turn_kinds.Done) first w v e = reaches_same first (gives (Ok (state_of w))) v e
turns_quiet (Err f) first w v e = e

pub turned : (turn : Turn) (first : Readings) (w : Walk) (a b : ShelfView) → turn ≡ turn_kinds.Goes → Turns turn first w a b → Reaches first (rest_of w) a b
turned turn first w a b e h = subst (λ t. Turns t first w a b) e h

pub turned_last : (turn : Turn) (first : Readings) (w : Walk) (a b : ShelfView) → turn ≡ turn_kinds.Done → Turns turn first w a b →
    Reaches first (gives (Ok (state_of w))) a b
turned_last turn first w a b e h = subst (λ t. Turns t first w a b) e h

pub le_true : (a b : ℕ) (r : Bool) → r ≡ nat_le a b → r ≡ true → a ≤ b
le_true a b r e h = let test : nat_le a b ≡ true = sym e ∙ h in grind (arith, nat_tests)

pub le_false : (a b : ℕ) (r : Bool) → r ≡ nat_le a b → r ≡ false → b < a
le_false a b r e h = let test : nat_le a b ≡ false = sym e ∙ h in grind (arith, nat_tests)
