-- One context after another: what is missing in it, and which were seen.
use Rattle.std.proofs.Common.{◌≡◌, ℕ, zero, suc, ◌+◌, ◌<◌, ◌≤◌, Bool, true, false, not, ◌||◌, List, [], ◌∷◌, ◌++◌, length, get_or, take, map, filter, flat_map}
use Rattle.std.proofs.Common.{Option, Some, None, is_some, refl, sym, ap, ◌∙◌, subst, append_assoc, arith, Ordering}
use Rattle.std.specs.Prelude.{◌==◌, is_none}
use Rattle.std.specs.List.{list_any}
use Rattle.std.specs.Ordering.{nat_cmp, is_eq, match_ordering}
use Rattle.std.specs.declared.cmp.Ordering.TheVariants.{Less, Equal, Greater}
use Rattle.std.specs.Cmp.Lexicographic.{slice_cmp}
use Rattle.std.specs.BTreeSet.{insert_key}
use Rattle.std.proofs.lemmas.Bool.{false≢true, eqb-true}
use Rattle.std.proofs.lemmas.List.{take_more}
use Rattle.inv_base.specs.Tree.{Node}
use Rattle.term_table.specs.declared.contexts.Slot.{Slot}
use Rattle.term_table.specs.declared.contexts.Context.{Context}
use Rattle.term_table.specs.declared.contexts.Seat.{Seat}
use Rattle.term_table.specs.Contexts.{is_inside, outer_context}
use Rattle.term_table.specs.Runs.{IsNested}
use Rattle.node_arena.specs.Moves.{last_inside}
use Rattle.inv_terms.specs.declared.violations.ModelViolation.{ModelViolation}
use Rattle.inv_terms.specs.Lacking.{all_missing}
use Rattle.bind_meaning.specs.declared.picked.Seated.{Seated}
use Rattle.bind_meaning.specs.declared.picked.PlacedPick.{PlacedPick}
use Rattle.bind_meaning.specs.Kept.{all_kept_placed}
use Rattle.bind_meaning.specs.Seats.{Placed, Room, whole, slot_of, each_once, rooms}
use Rattle.bind_meaning.specs.Judging.{Found}
use Rattle.bind_meaning.specs.Faults.{violations_in}
use Rattle.bind_terms.specs.declared.firsts.First.{First}
use Rattle.bind_terms.specs.Faults.{Puts}
use Rattle.bind_terms.specs.Telling.{seat_of_first, context_in}
use Rattle.bind_terms.specs.Rooms.{room_at, room_key, pick_rooms, has_key, missing_found, AreKeysOf, once_if, SeesMore, Seen}
use Rattle.bind_terms.proofs.Tolds.{append-nil, puts-both, puts-none, puts-same}
use Rattle.bind_terms.proofs.Holding.{place-is}
use Rattle.reading_laws.proofs.MissingLemmas.{map-filter}
use Rattle.bind_terms.proofs.Once.{keys-more, all-rooms}

-- ---- one context

module _ (nodes : List Node) (firsts run : List First) (context : Context) (element : ℕ) (violations : List ModelViolation)
    (run_is : run ≡ filter (λ item. is_inside context (seat_of_first item).context) firsts)
    (lacks_are : violations ≡ all_missing (map seat_of_first run) context) where
  in-room : violations ≡ all_missing (filter (λ (seat : Seat). is_inside context seat.context) (map seat_of_first firsts)) context
  in-room = lacks_are ∙ ap (λ l. all_missing l context) (ap (map seat_of_first) run_is
      ∙ map-filter seat_of_first (λ (seat : Seat). is_inside context seat.context) firsts)

  found-in : map (missing_found context element (last_inside nodes element)) violations ≡ violations_in nodes (map seat_of_first firsts) (room_at context
      element)
  found-in = ap (map (missing_found context element (last_inside nodes element))) in-room

  pub violation-none : (given : List Found → Type 0) → violations ≡ [] → Puts given given (violations_in nodes (map seat_of_first firsts) (room_at context
      element))
  violation-none given none = puts-same given given _ _ (ap (map (missing_found context element (last_inside nodes element))) (sym none) ∙ found-in)
      (puts-none given)

  pub violation-some : (was given : List Found → Type 0) (last : ℕ) → last ≡ last_inside nodes element
      → Puts was given (map (missing_found context element last) violations)
      → Puts was given (violations_in nodes (map seat_of_first firsts) (room_at context element))
  violation-some was given last last_is put = puts-same was given _ _ (ap (λ n. map (missing_found context element n) violations) last_is ∙ found-in) put

pub none-left : (violations : List ModelViolation) → (length violations == 0) ≡ true → violations ≡ []
none-left [] e = refl
none-left (violation ∷ violations) e = let h = eqb-true (length (violation ∷ violations)) 0 e in absurd (omega arith)

-- the lacks up to one were given
pub record Lacked (context : Context) (element last : ℕ) (violations : List ModelViolation) (first : List Found → Type 0) (count : ℕ)
    (given : List Found → Type 0) : Type 0 where
  pub puts : Puts first given (map (missing_found context element last) (take count violations))

pub lacked-none : (context : Context) (element last : ℕ) (violations : List ModelViolation) (first : List Found → Type 0)
    → Lacked context element last violations first 0 first
lacked-none context element last violations first = record { puts = puts-none first }

map-append : (f : ModelViolation → Found) (xs ys : List ModelViolation) → map f (xs ++ ys) ≡ map f xs ++ map f ys
map-append f [] ys = refl
map-append f (x ∷ xs) ys = ap (λ l. f x ∷ l) (map-append f xs ys)

pub lacked-more : (context : Context) (element last : ℕ) (violations : List ModelViolation) (first : List Found → Type 0) (count : ℕ) (was given : List Found
    → Type 0)
    (violation : ModelViolation) (one : Found)
    → count < length violations → violation ≡ get_or violations count violation → one ≡ missing_found context element last violation
    → Lacked context element last violations first count was
    → Puts was given (one ∷ [])
    → Lacked context element last violations first (count + 1) given
lacked-more context element last violations first count was given violation one below at one_is before put = record {
  puts = puts-same first given _ _
      (sym (ap (map (missing_found context element last)) (take_more violations count violation below ∙ ap (λ x. take count violations ++ x ∷ []) (sym at))
      ∙ (map-append (missing_found context element last) (take count violations) (violation ∷ [])
      ∙ ap (λ x. map (missing_found context element last) (take count violations) ++ x ∷ []) (sym one_is))))
      (puts-both first was given (map (missing_found context element last) (take count violations)) (one ∷ []) before.puts put);
}

all-violations : (xs : List ModelViolation) (n : ℕ) → length xs ≤ n → take n xs ≡ xs
all-violations [] zero h = refl
all-violations [] (suc n) h = refl
all-violations (x ∷ xs) zero h = absurd (omega arith)
all-violations (x ∷ xs) (suc n) h = ap (λ l. x ∷ l) (all-violations xs n (omega arith))

pub lacked-all : (context : Context) (element last : ℕ) (violations : List ModelViolation) (first : List Found → Type 0) (count : ℕ) (given : List Found
    → Type 0)
    → length violations ≤ count
    → Lacked context element last violations first count given → Puts first given (map (missing_found context element last) violations)
lacked-all context element last violations first count given past h =
    puts-same first given _ _ (ap (map (missing_found context element last)) (all-violations violations count past)) h.puts

-- ---- nested contexts

pub outer-nested : (c : Context) → IsNested (outer_context c)
outer-nested c = go c.outer
  where
    go : (o : Option Slot) → (is_some o || true) ≡ true
    go None = refl
    go (Some s) = refl

pub pick-nested : (pick : PlacedPick) → (is_some pick.outer || is_none pick.inner) ≡ true → IsNested (context_in pick)
pick-nested pick h = go pick.outer pick.inner h
  where
    go : (o i : Option Seated) → (is_some o || is_none i) ≡ true → (is_some (slot_of o) || is_none (slot_of i)) ≡ true
    go None None h = refl
    go None (Some t) h = h
    go (Some s) i h = refl

-- ---- keys

key-step : (o : Ordering) (q : List ℕ → Bool) (key x : List ℕ) (keys later : List (List ℕ)) → (o ≡ Equal → ⊥) → list_any q later ≡ (q key || list_any q keys)
    → list_any q (match_ordering o (key ∷ (x ∷ keys)) (x ∷ keys) (x ∷ later)) ≡ (q key || list_any q (x ∷ keys))
key-step Less q key x keys later apart h = refl
key-step Equal q key x keys later apart h = absurd (apart refl)
key-step Greater q key x keys later apart h = ap (λ b. q x || b) h ∙ swap (q x) (q key) (list_any q keys)
  where
    swap : (a b c : Bool) → (a || (b || c)) ≡ (b || (a || c))
    swap true true c = refl
    swap true false c = refl
    swap false b c = refl

not-equal : (o : Ordering) (rest : Bool) → (is_eq o || rest) ≡ false → (o ≡ Equal → ⊥) × (rest ≡ false)
not-equal Less rest h = (λ e. absurd (let k : Less ≡ Equal = e in cc), h)
not-equal Equal rest h = absurd (false≢true (sym h))
not-equal Greater rest h = (λ e. absurd (let k : Greater ≡ Equal = e in cc), h)

any-key : (q : List ℕ → Bool) (keys : List (List ℕ)) (key : List ℕ) → has_key keys key ≡ false
    → list_any q (insert_key (slice_cmp nat_cmp) keys key) ≡ (q key || list_any q keys)
any-key q [] key h = refl
any-key q (x ∷ keys) key h =
    let k = not-equal (slice_cmp nat_cmp key x) (has_key keys key) h in
    key-step (slice_cmp nat_cmp key x) q key x keys (insert_key (slice_cmp nat_cmp) keys key) k.0 (any-key q keys key k.1)

pub key-added : (keys more : List (List ℕ)) (key : List ℕ) → has_key keys key ≡ false → more ≡ insert_key (slice_cmp nat_cmp) keys key
    → (q : List ℕ) → has_key more q ≡ (is_eq (slice_cmp nat_cmp q key) || has_key keys q)
key-added keys more key h e q = ap (λ l. has_key l q) e ∙ any-key (λ other. is_eq (slice_cmp nat_cmp q other)) keys key h

pub key-there : (keys more : List (List ℕ)) (key : List ℕ) → has_key keys key ≡ true → more ≡ keys → (q : List ℕ)
    → has_key more q ≡ (is_eq (slice_cmp nat_cmp q key) || has_key keys q)
key-there keys more key h e q = ap (λ l. has_key l q) e ∙ go (is_eq (slice_cmp nat_cmp q key)) refl
  where
    go : (b : Bool) → is_eq (slice_cmp nat_cmp q key) ≡ b → has_key keys q ≡ (b || has_key keys q)
    go true same = ap (has_key keys) (place-is q key same) ∙ h
    go false apart = refl

-- ---- a context that has an element, or none

not-false : (a b : Bool) → a ≡ not b → a ≡ true → b ≡ false
not-false a true e h = absurd (false≢true (sym e ∙ h))
not-false a false e h = refl

not-true : (a b : Bool) → a ≡ not b → a ≡ false → b ≡ true
not-true a true e h = refl
not-true a false e h = absurd (false≢true (sym h ∙ e))

module _ (nodes : List Node) (seats : List Seat) (context : Context) (seat : Option Seated) (s : Seated) (is : seat ≡ Some s) (keys more : List (List ℕ))
    (added : Bool)
    (told : added ≡ not (has_key keys (room_key context))) where
  pub room-new : (was given : List Found → Type 0) → added ≡ true → more ≡ insert_key (slice_cmp nat_cmp) keys (room_key context)
      → Puts was given (violations_in nodes seats (room_at context s.element)) → (before : List Room) → AreKeysOf before keys
      → SeesMore nodes seats before context seat more was given
  room-new was given is_added keys_are fault before known =
      let fresh = not-false added (has_key keys (room_key context)) told is_added in
      subst (λ x. SeesMore nodes seats before context x more was given) (sym is) (record {
        keys_are = keys-more before keys more (room_at context s.element) known (key-added keys more (room_key context) fresh keys_are);
        puts = puts-same was given _ _ (sym (append-nil (violations_in nodes seats (room_at context s.element)))
            ∙ ap (λ b. flat_map (violations_in nodes seats) (once_if b (room_at context s.element))) (sym fresh ∙ known context)) fault;
      })

  pub room-old : (was : List Found → Type 0) → added ≡ false → more ≡ keys → (before : List Room) → AreKeysOf before keys
      → SeesMore nodes seats before context seat more was was
  room-old was not_added keys_are before known =
      let there = not-true added (has_key keys (room_key context)) told not_added in
      subst (λ x. SeesMore nodes seats before context x more was was) (sym is) (record {
        keys_are = keys-more before keys more (room_at context s.element) known (key-there keys more (room_key context) there keys_are);
        puts = puts-same was was _ _ (ap (λ b. flat_map (violations_in nodes seats) (once_if b (room_at context s.element))) (sym there ∙ known context))
            (puts-none was);
      })

pub room-none : (nodes : List Node) (seats : List Seat) (context : Context) (seat : Option Seated) (keys : List (List ℕ)) (given : List Found → Type 0)
    → seat ≡ None
    → (before : List Room) → AreKeysOf before keys → SeesMore nodes seats before context seat keys given given
room-none nodes seats context seat keys given is before known =
    subst (λ x. SeesMore nodes seats before context x keys given given) (sym is)
    (record { keys_are = subst (λ l. AreKeysOf l keys) (sym (append-nil before)) known; puts = puts-none given })

-- ---- all picks

append-rooms : (xs ys : List PlacedPick) → flat_map pick_rooms (xs ++ ys) ≡ flat_map pick_rooms xs ++ flat_map pick_rooms ys
append-rooms [] ys = refl
append-rooms (x ∷ xs) ys = ap (λ l. pick_rooms x ++ l) (append-rooms xs ys)
    ∙ sym (append_assoc (pick_rooms x) (flat_map pick_rooms xs) (flat_map pick_rooms ys))

pub rooms-more : (picks : List PlacedPick) (count : ℕ) (pick : PlacedPick) → count < length picks → pick ≡ get_or picks count pick
    → flat_map pick_rooms (take count picks) ++ pick_rooms pick ≡ flat_map pick_rooms (take (count + 1) picks)
rooms-more picks count pick below at =
    sym (ap (flat_map pick_rooms) (take_more picks count pick below ∙ ap (λ k. take count picks ++ k ∷ []) (sym at))
    ∙ (append-rooms (take count picks) (pick ∷ []) ∙ ap (λ l. flat_map pick_rooms (take count picks) ++ l) (append-nil (pick_rooms pick))))

all : (xs : List PlacedPick) (n : ℕ) → length xs ≤ n → take n xs ≡ xs
all [] zero h = refl
all [] (suc n) h = refl
all (x ∷ xs) zero h = absurd (omega arith)
all (x ∷ xs) (suc n) h = ap (λ l. x ∷ l) (all xs n (omega arith))

pub seen-all : (nodes : List Node) (seats : List Seat) (was first : List Found → Type 0) (picks : List PlacedPick) (count : ℕ) (keys : List (List ℕ))
    (given : List Found → Type 0)
    → length picks ≤ count → Puts was first (violations_in nodes seats whole) → Seen nodes seats first (flat_map pick_rooms (take count picks)) keys given
    → (ps : List Placed) → picks ≡ all_kept_placed ps → Puts was given (flat_map (violations_in nodes seats) (rooms ps))
seen-all nodes seats was first picks count keys given past whole_puts seen ps e =
    puts-both was first given (violations_in nodes seats whole) _ whole_puts
    (puts-same first given _ _ (ap (λ l. flat_map (violations_in nodes seats) (each_once l))
    (ap (flat_map pick_rooms) (all picks count past ∙ e) ∙ sym (all-rooms ps))) seen.puts)
