-- The first of all faults is the first fault: what is missing later in a context doesn't come before what is missing first.
use Rattle.std.proofs.Common.{◌≡◌, suc, ◌-◌, Bool, true, false, List, [], ◌∷◌, ◌++◌, map, filter, flat_map, All, Option, Some, None, option_map, Result, Ok}
use Rattle.std.proofs.Common.{Err, inl, inr, refl, sym, ap, ◌∙◌, arith}
use Rattle.std.specs.Prelude.{◌↔◌, slice_get, is_ok}
use Rattle.std.specs.List.{AllPairs}
use Rattle.std.specs.Ordering.{nat_cmp, is_lt}
use Rattle.std.specs.Cmp.Lexicographic.{slice_cmp}
use Rattle.std.proofs.lemmas.Bool.{false≢true}
use Rattle.std.proofs.lemmas.Option.{same_Some}
use Rattle.std.proofs.lemmas.List.Elements.{All-head, All-tail, All-map, All-weaker}
use Rattle.inv_base.specs.Tree.{Node}
use Rattle.code_lists.specs.CodeFiles.{Lists}
use Rattle.term_table.specs.declared.contexts.Seat.{Seat}
use Rattle.term_table.specs.Contexts.{is_inside}
use Rattle.term_table.specs.Places.{precedes}
use Rattle.term_table.proofs.RunLemmas.{not_less, not_both_ways, same_ahead}
use Rattle.inv_terms.specs.declared.violations.ModelViolation.{ModelViolation}
use Rattle.inv_terms.specs.Lacking.{all_missing}
use Rattle.inv_terms.proofs.AllLemmas.{first-is, in-order}
use Rattle.node_arena.specs.Moves.{last_inside}
use Rattle.bind_rows.specs.declared.rows.Row.{Row}
use Rattle.bind_meaning.specs.declared.fault.BindFault.{BindFault}
use Rattle.bind_meaning.specs.declared.fault.BindKind.TheVariants as kinds
use Rattle.bind_meaning.specs.Currencies.{Currencies, currencies}
use Rattle.bind_meaning.specs.Seats.{Placed, Room, rooms}
use Rattle.bind_meaning.specs.Judging.{Found, found, earlier, faults_behind, wrong_word, missing_in, missing_place, name_of, depth, seat_of, least}
use Rattle.bind_meaning.specs.Faults.{violation_found, violations_in, every_fault, in_fault_order, faults_of, every_fault_with, faults_in}
use Rattle.bind_meaning.specs.Terms.{constant_picks, term_picks, place_all, told, all_faults, entries, passed_over, Read, terms_of}
use Rattle.bind_terms.specs.Faults.{least_of}
use Rattle.bind_terms.proofs.Tolds.{bool_cases, least-append}
use Rattle.bind_terms.proofs.FaultOrder.{heads}
use Rattle.bind_terms.proofs.Least.{least-is}

-- ---- faults that don't come before the first

stays : (h : Found) (xs : List Found) → All (λ (x : Found). precedes x.place h.place ≡ false) xs → least_of (Some h) xs ≡ Some h
stays h [] all = refl
stays h (x ∷ xs) all =
    ap (λ b. least_of (Some (elim b [ true ↦ x | false ↦ h ])) xs) (All-head (λ (y : Found). precedes y.place h.place ≡ false) x xs all)
    ∙ stays h xs (All-tail (λ (y : Found). precedes y.place h.place ≡ false) x xs all)

abbrev chosen : Bool → Found → Found → Found
chosen b g a = elim b [ true ↦ g | false ↦ a ]

not-before : (a g x : Found) → precedes x.place g.place ≡ false → precedes x.place (earlier a g).place ≡ false
not-before a g x h = go (is_lt (slice_cmp nat_cmp g.place a.place)) refl
  where
    go : (b : Bool) → precedes g.place a.place ≡ b → precedes x.place (chosen b g a).place ≡ false
    go true e = h
    go false e = elim (bool_cases (precedes x.place a.place)) [
      | inl xa ↦ absurd (false≢true (sym e ∙ not_less g.place x.place a.place h xa))
      | inr out ↦ out
    ]

first-alone : (o : Option Found) (g : Found) (xs : List Found) → All (λ (x : Found). precedes x.place g.place ≡ false) xs
    → least_of o (g ∷ xs) ≡ least_of o (g ∷ [])
first-alone None g xs all = stays g xs all
first-alone (Some a) g xs all =
    stays (earlier a g) xs (All-weaker (λ (x : Found). precedes x.place g.place ≡ false) (λ (x : Found). precedes x.place (earlier a g).place ≡ false)
    (not-before a g) xs all)

-- ---- what is missing in a context

module _ (nodes : List Node) (room : Room) where
  abbrev IsBefore : ModelViolation → ModelViolation → Type 0
  IsBefore a b = precedes a.place b.place ≡ true

  behind-violation : (a b : ModelViolation) → IsBefore a b → precedes (missing_place nodes room b.place) (missing_place nodes room a.place) ≡ false
  behind-violation a b h =
      same_ahead (last_inside nodes room.element) (last_inside nodes room.element) (1 ∷ ((2 - depth room.context) ∷ b.place))
      (1 ∷ ((2 - depth room.context) ∷ a.place)) refl
      ∙ (same_ahead 1 1 ((2 - depth room.context) ∷ b.place) ((2 - depth room.context) ∷ a.place) refl
      ∙ (same_ahead (2 - depth room.context) (2 - depth room.context) b.place a.place refl ∙ not_both_ways a.place b.place h))

  behind-first : (violation : ModelViolation) (violations : List ModelViolation) → AllPairs IsBefore (violation ∷ violations)
      → All (IsBefore violation) violations
  behind-first violation violations pairs k d below = pairs 0 (suc k) d (omega arith) (omega arith)

  violations-least : (o : Option Found) (violations : List ModelViolation) → AllPairs IsBefore violations
      → least_of o (map (violation_found nodes room) violations)
      ≡ least_of o (elim (slice_get violations 0) [
        | None ↦ []
        | Some violation ↦ found (missing_place nodes room violation.place) kinds.Missing
            (name_of violation.fault) room.element ∷ []
      ])
  violations-least o [] pairs = refl
  violations-least o (violation ∷ violations) pairs =
      first-alone o (violation_found nodes room violation) (map (violation_found nodes room) violations)
      (All-map (λ (x : Found). precedes x.place (missing_place nodes room violation.place) ≡ false) (violation_found nodes room) violations
      (All-weaker (IsBefore violation) (λ (b : ModelViolation). precedes (missing_place nodes room b.place) (missing_place nodes room violation.place) ≡ false)
      (λ b h. behind-violation violation b h) violations
      (behind-first violation violations pairs)))

  room-least : (seats : List Seat) (o : Option Found) → least_of o (violations_in nodes seats room) ≡ least_of o (missing_in nodes seats room)
  room-least seats o =
      let here = filter (λ (seat : Seat). is_inside room.context seat.context) seats in
      violations-least o (all_missing here room.context) (in-order here room.context)
      ∙ ap (λ x. least_of o (elim x [
        | None ↦ []
        | Some violation ↦ found (missing_place nodes room violation.place) kinds.Missing
            (name_of violation.fault) room.element ∷ []
      ]))
      (sym (first-is here room.context))

pub rooms-least : (nodes : List Node) (seats : List Seat) (rs : List Room) (o : Option Found)
    → least_of o (flat_map (violations_in nodes seats) rs) ≡ least_of o (flat_map (missing_in nodes seats) rs)
rooms-least nodes seats [] o = refl
rooms-least nodes seats (r ∷ rs) o =
    least-append o (violations_in nodes seats r) (flat_map (violations_in nodes seats) rs)
    ∙ (ap (λ x. least_of x (flat_map (violations_in nodes seats) rs)) (room-least nodes r seats o)
    ∙ (rooms-least nodes seats rs (least_of o (missing_in nodes seats r))
    ∙ sym (least-append o (missing_in nodes seats r) (flat_map (missing_in nodes seats) rs))))

pub every-least : (nodes : List Node) (lists : Lists) (c : Currencies) (rows : List Row) (ps : List Placed)
    → least_of None (every_fault nodes lists c rows ps) ≡ least (all_faults nodes lists c rows ps)
every-least nodes lists c rows ps =
    let a = faults_behind nodes lists c [] (told nodes ps) in
    let w = flat_map (wrong_word nodes) (constant_picks nodes rows) in
    let seats = map seat_of (told nodes ps) in
    let d = flat_map (violations_in nodes seats) (rooms ps) in
    let m = flat_map (missing_in nodes seats) (rooms ps) in
    least-append None a (w ++ d)
    ∙ (least-append (least_of None a) w d
    ∙ (rooms-least nodes seats (rooms ps) (least_of (least_of None a) w)
    ∙ (sym (least-append (least_of None a) w m) ∙ (sym (least-append None a (w ++ m)) ∙ least-is (a ++ (w ++ m))))))

-- ---- the first of all

head-map : (xs : List Found) → slice_get (faults_of xs) 0 ≡ option_map (λ (f : Found). f.fault) (slice_get xs 0)
head-map [] = refl
head-map (x ∷ xs) = refl

module _ (nodes : List Node) (rows : List Row) (lists : Lists) where
  ps : List Placed
  ps = place_all nodes (term_picks nodes (currencies nodes rows) rows)

  abbrev answer : Option Found → Result Read BindFault
  answer o = elim o [ Some first ↦ Err first.fault | None ↦ Ok (record { entries = entries (told nodes ps); passed_over = passed_over nodes rows }) ]

  abbrev first_one : Option Found
  first_one = least (all_faults nodes lists (currencies nodes rows) rows ps)

  head-is : slice_get (faults_in nodes rows lists) 0 ≡ option_map (λ (f : Found). f.fault) first_one
  unfolding faults_in ps
  head-is =
      head-map (in_fault_order (every_fault_with nodes rows lists (currencies nodes rows)))
      ∙ ap (option_map (λ (f : Found). f.fault))
      (heads [] (every_fault_with nodes rows lists (currencies nodes rows)) ∙ every-least nodes lists (currencies nodes rows) rows ps)

  answer-is : terms_of nodes rows lists ≡ answer first_one
  unfolding terms_of ps
  answer-is = refl

  told-by : (o : Option Found) (fault : BindFault) → (option_map (λ (f : Found). f.fault) o ≡ Some fault) → answer o ≡ Err fault
  told-by None fault e = absurd (let k : None ≡ Some fault = e in cc)
  told-by (Some first) fault e = ap Err (same_Some _ _ e)

  first-by : (o : Option Found) (fault : BindFault) → answer o ≡ Err fault → option_map (λ (f : Found). f.fault) o ≡ Some fault
  first-by None fault e = absurd (let k : ◌≡◌ {A = Result Read BindFault}
      (Ok (record { entries = entries (told nodes ps); passed_over = passed_over nodes rows })) (Err fault) = e in cc)
  first-by (Some first) fault e = let k : first.fault ≡ fault = cc in ap Some k

  pub first-of-all : (fault : BindFault) → (slice_get (faults_in nodes rows lists) 0 ≡ Some fault) ↔ (terms_of nodes rows lists ≡ Err fault)
  first-of-all fault = (λ e. answer-is ∙ told-by first_one fault (sym head-is ∙ e), λ e. head-is ∙ first-by first_one fault (sym answer-is ∙ e))

  no-head : (xs : List BindFault) → slice_get xs 0 ≡ None → xs ≡ []
  no-head [] e = refl
  no-head (x ∷ xs) e = absurd (let k : Some x ≡ None = e in cc)

  fine-by : (o : Option Found) → option_map (λ (f : Found). f.fault) o ≡ None → is_ok (answer o) ≡ true
  fine-by None e = refl
  fine-by (Some first) e = absurd (let k : ◌≡◌ {A = Option BindFault} (Some first.fault) None = e in cc)

  none-by : (o : Option Found) → is_ok (answer o) ≡ true → option_map (λ (f : Found). f.fault) o ≡ None
  none-by None e = refl
  none-by (Some first) e = absurd (false≢true e)

  pub none-of-all : (faults_in nodes rows lists ≡ []) ↔ (is_ok (terms_of nodes rows lists) ≡ true)
  none-of-all = (
    λ e. ap is_ok answer-is ∙ fine-by first_one (sym head-is ∙ ap (λ l. slice_get l 0) e),
    λ e. no-head (faults_in nodes rows lists) (head-is ∙ none-by first_one (sym (ap is_ok answer-is) ∙ e)),
  )
