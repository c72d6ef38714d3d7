-- Each fault of a document as an invoice stands at one of its nodes, and none is want of memory.
use Rattle.std.proofs.Common.{◌≡◌, ℕ, ◌<◌, Bool, true, false, not, List, [], ◌∷◌, ◌++◌, length, map, filter, flat_map, All, Option, Some, None, Err, refl, sym}
use Rattle.std.proofs.Common.{subst, arith, Ordering}
use Rattle.std.specs.Prelude.{◌≢◌, slice_get}
use Rattle.std.specs.declared.cmp.Ordering.TheVariants.{Less, Equal, Greater}
use Rattle.std.specs.Option.{ForSome}
use Rattle.std.specs.Ordering.{nat_cmp, is_lt}
use Rattle.std.proofs.lemmas.Option.{same_Some}
use Rattle.std.specs.Cmp.Lexicographic.{slice_cmp}
use Rattle.std.proofs.lemmas.List.Elements.{All-nil, All-cons, All-head, All-tail, All-append, All-map, All-filter, All-weaker}
use Rattle.inv_base.specs.Tree.{Node}
use Rattle.code_lists.specs.CodeFiles.{Lists}
use Rattle.term_table.specs.declared.terms.Term.{Term}
use Rattle.term_table.specs.declared.contexts.Seat.{Seat}
use Rattle.term_table.specs.Contexts.{same_context, outer_context}
use Rattle.inv_terms.specs.declared.violations.ModelViolation.{ModelViolation}
use Rattle.inv_terms.specs.Lacking.{all_missing}
use Rattle.node_arena.specs.Document.{Document, AreNumbered}
use Rattle.node_arena.specs.Moves.{tree_nodes}
use Rattle.node_arena.proofs.FoundLemmas.{AreInOrder}
use Rattle.bind_terms.proofs.NodeLists.{ordered, long}
use Rattle.bind_rows.specs.declared.rows.Row.{Row}
use Rattle.bind_rows.specs.declared.rows.Check.{Check}
use Rattle.bind_rows.specs.declared.rows.Check.TheVariants as checks
use Rattle.bind_meaning.specs.declared.fault.BindFault.{BindFault}
use Rattle.bind_meaning.specs.declared.fault.BindKind.{BindKind}
use Rattle.bind_meaning.specs.declared.fault.BindKind.TheVariants as kinds
use Rattle.bind_meaning.specs.declared.picked.Seated.{Seated}
use Rattle.inv_terms.specs.declared.violations.Name.TheVariants as names
use Rattle.bind_meaning.specs.Elements.{string_at, is_one_of}
use Rattle.inv_terms.specs.Values.{trimmed}
use Rattle.bind_meaning.specs.Picks.{Pick, has_any_term}
use Rattle.bind_meaning.specs.Currencies.{Currencies, currencies}
use Rattle.bind_meaning.specs.Kept.{kept_placed}
use Rattle.bind_meaning.specs.Seats.{Placed, Room, whole, outer_room, inner_room, each_once, rooms, context_of}
use Rattle.bind_meaning.specs.Values.{ParsedValue}
use Rattle.bind_meaning.specs.Judging.{Found, found, Told, told_by, parsed_by, first_before, Cause, first_cause, causes, place_at, fault_of, faults_behind}
use Rattle.bind_meaning.specs.Judging.{words}
use Rattle.bind_meaning.specs.Judging.{wrong_word, seat_of, earlier}
use Rattle.bind_meaning.specs.Faults.{violation_found, violations_in, every_fault_with, spot, put_fault, put_faults, in_fault_order, faults_in}
use Rattle.term_table.specs.Contexts.{is_inside}
use Rattle.bind_meaning.specs.Terms.{term_picks, constant_picks, place_all, told, terms_of}
use Rattle.bind_terms.specs.Steps.{IsWithin}
use Rattle.bind_terms.proofs.Listing.{Each}
use Rattle.bind_terms.proofs.FirstFault.{first-of-all}
use Rattle.bind_terms.proofs.Sound.{all-flat_map, IsSound, terms-sound, unordered-sound, seated-within}

-- ---- kinds

first-holds : (P : BindKind → Type 0) (cs : List Cause) → Each (λ (c : Cause). P c.kind) cs → (kind : BindKind) → first_cause cs ≡ Some kind → P kind
first-holds P [] h kind e = absurd (let k : ◌≡◌ {A = Option BindKind} None (Some kind) = e in cc)
first-holds P (c ∷ cs) h kind e = go (c.holds tt) e (first-holds P cs h.1 kind)
  where
    go : (b : Bool) → ◌≡◌ {A = Option BindKind} (elim b [ true ↦ Some c.kind | false ↦ first_cause cs ]) (Some kind) → (first_cause cs ≡ Some kind → P kind)
        → P kind
    go true e rest = subst P (same_Some _ _ e) h.0
    go false e rest = rest e

abbrev IsNoMemory : BindKind → Type 0
IsNoMemory kind = kind ≢ kinds.Memory

no-memory : (nodes : List Node) (lists : Lists) (c : Currencies) (before : Option Told) (t : Told) (kind : BindKind)
    → first_cause (causes nodes lists c before t) ≡ Some kind → IsNoMemory kind
no-memory nodes lists c before t kind e =
    first-holds IsNoMemory (causes nodes lists c before t) (
      λ k. let x : kinds.Excess ≡ kinds.Memory = k in cc,
      (
        λ k. let x : kinds.ElementInValue ≡ kinds.Memory = k in cc,
        (
          λ k. let x : kinds.BadValue ≡ kinds.Memory = k in cc,
          (
            λ k. let x : kinds.CodeNotListed ≡ kinds.Memory = k in cc,
            (
              λ k. let x : kinds.CurrencyDiffers ≡ kinds.Memory = k in cc,
              (λ k. let x : kinds.Disagree ≡ kinds.Memory = k in cc, tt),
            ),
          ),
        ),
      ),
    ) kind e

bad-value : IsNoMemory kinds.BadValue
bad-value k = let x : kinds.BadValue ≡ kinds.Memory = k in cc

missing : IsNoMemory kinds.Missing
missing k = let x : kinds.Missing ≡ kinds.Memory = k in cc

-- ---- nodes

module _ (count : ℕ) where
  abbrev pub is_at : Found → Type 0
  is_at f = (f.fault.node < count) × (f.fault.kind ≢ kinds.Memory)

  abbrev is_told_at : Told → Type 0
  is_told_at t = t.placed.pick.node < count

  fault-at : (nodes : List Node) (lists : Lists) (c : Currencies) (before : Option Told) (t : Told) → is_told_at t → All is_at (fault_of nodes lists c before t)
  fault-at nodes lists c before t p = go (first_cause (causes nodes lists c before t)) (no-memory nodes lists c before t)
    where
      go : (o : Option BindKind) → ((kind : BindKind) → o ≡ Some kind → IsNoMemory kind)
          → All is_at (elim o [ None ↦ [] | Some kind ↦ found (place_at t.placed.pick kind) kind (names.Term t.parsed.term) t.placed.pick.node ∷ [] ])
      go None h = All-nil is_at
      go (Some kind) h = All-cons is_at (found (place_at t.placed.pick kind) kind (names.Term t.parsed.term) t.placed.pick.node) [] (p, h kind refl)
          (All-nil is_at)

  faults-at : (nodes : List Node) (lists : Lists) (c : Currencies) (before ts : List Told) → All is_told_at ts
      → All is_at (faults_behind nodes lists c before ts)
  faults-at nodes lists c before [] all = All-nil is_at
  faults-at nodes lists c before (t ∷ ts) all =
      All-append is_at (fault_of nodes lists c (first_before before t) t) (faults_behind nodes lists c (before ++ (t ∷ [])) ts)
      (fault-at nodes lists c (first_before before t) t (All-head is_told_at t ts all))
      (faults-at nodes lists c (before ++ (t ∷ [])) ts (All-tail is_told_at t ts all))

  told-at : (nodes : List Node) (ps : List Placed) → All (λ (p : Placed). p.pick.node < count) ps → All is_told_at (told nodes ps)
  told-at nodes ps all =
      all-flat_map is_told_at (λ (p : Placed). p.pick.node < count) (told_by nodes)
      (λ p h. All-map is_told_at (λ (s : ParsedValue). record { placed = p; parsed = s }) (parsed_by nodes p) (all-so p h (parsed_by nodes p))) ps all
    where
      all-so : (p : Placed) → p.pick.node < count → (ss : List ParsedValue) → All (λ s. is_told_at (record { placed = p; parsed = s })) ss
      all-so p h ss k d = λ _. h

  wrong-at : (nodes : List Node) (pick : Pick) → pick.node < count → All is_at (wrong_word nodes pick)
  wrong-at nodes pick p = go pick.row.check
    where
      by_word : (term : Term) (b : Bool) → All is_at (elim b [
        | true ↦ []
        | false ↦ found (place_at pick kinds.BadValue) kinds.BadValue
            (names.Term term) pick.node ∷ []
      ])
      by_word term true = All-nil is_at
      by_word term false = All-cons is_at (found (place_at pick kinds.BadValue) kinds.BadValue (names.Term term) pick.node) [] (p, bad-value) (All-nil is_at)

      go : (check : Check) → All is_at (elim check [
        | (checks.Indicator term) ↦ elim (is_one_of words (trimmed (string_at nodes pick.node))) [
          | true ↦ []
          | false ↦ found
              (place_at pick kinds.BadValue) kinds.BadValue (names.Term term) pick.node ∷ []
        ]
        | _ ↦ []
      ])
      go checks.Nothing = All-nil is_at
      go checks.Scheme = All-nil is_at
      go checks.Format = All-nil is_at
      go (checks.Indicator term) = by_word term (is_one_of words (trimmed (string_at nodes pick.node)))

  abbrev is_room_at : Room → Type 0
  is_room_at room = room.element < count

  violations-at : (nodes : List Node) (seats : List Seat) (room : Room) → is_room_at room → All is_at (violations_in nodes seats room)
  violations-at nodes seats room p = All-map is_at (violation_found nodes room) (all_missing
      (filter (λ (seat : Seat). is_inside room.context seat.context) seats) room.context) (each _)
    where
      each : (violations : List ModelViolation) → All (λ l. is_at (violation_found nodes room l)) violations
      each violations k d = λ _. (p, missing)

  each_once-at : (rs : List Room) → All is_room_at rs → All is_room_at (each_once rs)
  each_once-at [] all = All-nil is_room_at
  each_once-at (room ∷ rs) all =
      All-cons is_room_at room (filter (λ (other : Room). not (same_context room.context other.context)) (each_once rs)) (All-head is_room_at room rs all)
      (All-filter (λ (other : Room). not (same_context room.context other.context)) is_room_at (each_once rs)
      (each_once-at rs (All-tail is_room_at room rs all)))

  outer_room-at : (p : Placed) → IsWithin count (kept_placed p) → All is_room_at (outer_room p)
  outer_room-at p within = go p.outer within.outer
    where
      go : (seat : Option Seated) → ForSome seat (λ (s : Seated). s.element < count)
          → All is_room_at (elim seat [ None ↦ [] | Some seat ↦ record { context = outer_context (context_of p); element = seat.element } ∷ [] ])
      go None h = All-nil is_room_at
      go (Some seat) h = All-cons is_room_at (record { context = outer_context (context_of p); element = seat.element }) [] (h seat refl) (All-nil is_room_at)

  inner_room-at : (p : Placed) → IsWithin count (kept_placed p) → All is_room_at (inner_room p)
  inner_room-at p within = go p.inner within.inner
    where
      go : (seat : Option Seated) → ForSome seat (λ (s : Seated). s.element < count)
          → All is_room_at (elim seat [ None ↦ [] | Some seat ↦ record { context = context_of p; element = seat.element } ∷ [] ])
      go None h = All-nil is_room_at
      go (Some seat) h = All-cons is_room_at (record { context = context_of p; element = seat.element }) [] (h seat refl) (All-nil is_room_at)

  rooms-at : (ps : List Placed) → 1 < count → All (λ p. IsWithin count (kept_placed p)) ps → All is_room_at (rooms ps)
  rooms-at ps some all =
      All-cons is_room_at whole (each_once (flat_map (λ p. outer_room p ++ inner_room p) ps)) some
      (each_once-at (flat_map (λ p. outer_room p ++ inner_room p) ps)
      (all-flat_map is_room_at (λ p. IsWithin count (kept_placed p)) (λ p. outer_room p ++ inner_room p)
      (λ p h. All-append is_room_at (outer_room p) (inner_room p) (outer_room-at p h) (inner_room-at p h)) ps all))

-- ---- in their order

module _ (P : Found → Type 0) where
  earlier-holds : (a b : Found) → P a → P b → P (earlier a b)
  earlier-holds a b p q = go (is_lt (slice_cmp nat_cmp b.place a.place))
    where
      go : (t : Bool) → P (elim t [ true ↦ b | false ↦ a ])
      go true = q
      go false = p

  put-holds : (f : Found) (kept : List Found) → P f → All P kept → All P (put_fault f kept)
  put-holds f [] p all = All-cons P f [] p all
  put-holds f (g ∷ gs) p all = go (slice_cmp nat_cmp (spot f.place) (spot g.place)) (put-holds f gs p (All-tail P g gs all))
    where
      go : (o : Ordering) → All P (put_fault f gs) → All P (elim o [ Less ↦ f ∷ (g ∷ gs) | Equal ↦ earlier g f ∷ gs | Greater ↦ g ∷ put_fault f gs ])
      go Less rest = All-cons P f (g ∷ gs) p all
      go Equal rest = All-cons P (earlier g f) gs (earlier-holds g f (All-head P g gs all) p) (All-tail P g gs all)
      go Greater rest = All-cons P g (put_fault f gs) (All-head P g gs all) rest

  puts-hold : (kept fs : List Found) → All P kept → All P fs → All P (put_faults kept fs)
  puts-hold kept [] all more = all
  puts-hold kept (f ∷ fs) all more = puts-hold (put_fault f kept) fs (put-holds f kept (All-head P f fs more) all) (All-tail P f fs more)

abbrev pub IsProper : ℕ → BindFault → Type 0
IsProper count fault = (fault.node < count) × (fault.kind ≢ kinds.Memory)

-- what holds of each image holds of each by the function
all-of_map : {X Y : Type 0} (P : Y → Type 0) (f : X → Y) (xs : List X) → All P (map f xs) → All (λ x. P (f x)) xs
all-of_map P f [] all = All-nil (λ x. P (f x))
all-of_map P f (x ∷ xs) all = All-cons (λ x. P (f x)) x xs (All-head P (f x) (map f xs) all) (all-of_map P f xs (All-tail P (f x) (map f xs) all))

module _ (nodes : List Node) (order : AreInOrder nodes) (some : 1 < length nodes) (lists : Lists) (rows : List Row) where
  few : 0 < length nodes
  few = omega (arith, some)

  faults-within : (c : Currencies) → All (is_at (length nodes)) (every_fault_with nodes rows lists c)
  faults-within c =
      let count = length nodes in
      let ps = place_all nodes (term_picks nodes c rows) in
      let within = all-of_map (IsWithin count) kept_placed ps (seated-within nodes order few rows (term_picks nodes c rows)
      (terms-sound nodes order few rows c)) in
      All-append (is_at count) (faults_behind nodes lists c [] (told nodes ps)) _
      (faults-at count nodes lists c [] (told nodes ps) (told-at count nodes ps
      (All-weaker (λ p. IsWithin count (kept_placed p)) (λ (p : Placed). p.pick.node < count) (λ p h. h.node) ps within)))
      (All-append (is_at count) (flat_map (wrong_word nodes) (constant_picks nodes rows)) _
      (all-flat_map (is_at count) (λ (pick : Pick). pick.node < count) (wrong_word nodes) (wrong-at count nodes) (constant_picks nodes rows)
      (All-weaker (IsSound nodes order few rows) (λ (pick : Pick). pick.node < count) (λ pick h. h.node) (constant_picks nodes rows)
      (unordered-sound nodes order few rows (λ (row : Row). not (has_any_term row)))))
      (all-flat_map (is_at count) (is_room_at count) (violations_in nodes (map seat_of (told nodes ps))) (violations-at count nodes (map seat_of (told nodes
      ps)))
      (rooms ps) (rooms-at count ps some within)))

  -- Each of all faults stands at a node, and none is want of memory.
  pub all-proper : All (IsProper (length nodes)) (faults_in nodes rows lists)
  unfolding faults_in
  all-proper =
      All-map (IsProper (length nodes)) (λ (f : Found). f.fault) (in_fault_order (every_fault_with nodes rows lists (currencies nodes rows)))
      (puts-hold (is_at (length nodes)) [] (every_fault_with nodes rows lists (currencies nodes rows)) (All-nil (is_at (length nodes)))
      (faults-within (currencies nodes rows)))

  pub first-proper : (fault : BindFault) → terms_of nodes rows lists ≡ Err fault → IsProper (length nodes) fault
  first-proper fault is = head (faults_in nodes rows lists) all-proper ((first-of-all nodes rows lists fault).1 is)
    where
      head : (xs : List BindFault) → All (IsProper (length nodes)) xs → slice_get xs 0 ≡ Some fault → IsProper (length nodes) fault
      head [] all e = absurd (let k : None ≡ Some fault = e in cc)
      head (x ∷ xs) all e = subst (IsProper (length nodes)) (same_Some _ _ e) (All-head (IsProper (length nodes)) x xs all)

-- the same of a document
module _ (document : Document) (numbers : AreNumbered 0 document.nodes) (rooted : 1 < length document.nodes) (lists : Lists) (rows : List Row) where
  some-nodes : 1 < length (tree_nodes document)
  some-nodes = subst (λ n. 1 < n) (sym (long document)) rooted

  pub document-faults : All (λ (fault : BindFault). fault.node < length document.nodes) (faults_in (tree_nodes document) rows lists)
  document-faults =
      All-weaker (IsProper (length (tree_nodes document))) (λ (fault : BindFault). fault.node < length document.nodes)
      (λ fault h. subst (λ n. fault.node < n) (long document) h.0) (faults_in (tree_nodes document) rows lists)
      (all-proper (tree_nodes document) (ordered document numbers) some-nodes lists rows)

  pub document-first : (fault : BindFault) → terms_of (tree_nodes document) rows lists ≡ Err fault
      → (fault.node < length document.nodes) × (fault.kind ≢ kinds.Memory)
  document-first fault is =
      let h = first-proper (tree_nodes document) (ordered document numbers) some-nodes lists rows fault is in
      (subst (λ n. fault.node < n) (long document) h.0, h.1)
