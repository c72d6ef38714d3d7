-- What the passes leave is the invoice that the document is, or its first fault.
use Rattle.std.proofs.Common.{◌≡◌, ℕ, zero, suc, ◌<◌, Bool, true, false, ◌||◌, List, [], ◌∷◌, ◌++◌, length, map, flat_map, All, Option, Some, None, is_some, Ok}
use Rattle.std.proofs.Common.{Err, refl, sym, ap, ◌∙◌, subst, append_assoc, arith}
use Rattle.std.specs.Prelude.{is_none}
use Rattle.std.specs.List.{list_any, AllPairs, AllByRecursion}
use Rattle.std.specs.List.Sorted.{IsStrictlySortedBy}
use Rattle.std.specs.Ordering.{nat_cmp, is_lt}
use Rattle.std.specs.declared.cmp.Ordering.TheVariants.{Less}
use Rattle.std.specs.Cmp.Lexicographic.{slice_cmp}
use Rattle.std.proofs.lemmas.Bool.{false≢true}
use Rattle.std.proofs.lemmas.List.Elements.{All-nil, All-cons, All-head, All-tail, All-map, All-weaker}
use Rattle.inv_base.specs.Tree.{Node}
use Rattle.code_lists.specs.CodeFiles.{Lists}
use Rattle.term_table.specs.declared.contexts.Seat.{Seat}
use Rattle.term_table.specs.Places.{seat_place}
use Rattle.term_table.specs.Runs.{MayFollow, IsInOrder}
use Rattle.term_table.proofs.RunLemmas.{not_both_ways}
use Rattle.inv_terms.specs.declared.entries.Entry.{Entry}
use Rattle.inv_terms.specs.declared.values.Value.{Value}
use Rattle.bind_rows.specs.declared.rows.Row.{Row}
use Rattle.bind_meaning.specs.declared.fault.BindKind.{BindKind}
use Rattle.bind_meaning.specs.declared.fault.BindKind.TheVariants as kinds
use Rattle.bind_meaning.specs.declared.picked.Picked.{Picked}
use Rattle.bind_meaning.specs.declared.picked.PlacedPick.{PlacedPick}
use Rattle.bind_meaning.specs.Currencies.{Currencies, currencies}
use Rattle.bind_meaning.specs.Kept.{kept, all_kept, kept_placed, all_kept_placed}
use Rattle.bind_meaning.specs.Picks.{Pick, numbered}
use Rattle.bind_meaning.specs.declared.fault.BindFault.{BindFault}
use Rattle.bind_meaning.specs.Faults.{violations_in, every_fault, put_faults, in_fault_order, faults_in}
use Rattle.bind_meaning.specs.Seats.{Placed, rooms}
use Rattle.bind_meaning.specs.Judging.{Found, Told, seat_of, first_before, Cause, first_cause, causes, fault_of, faults_behind, wrong_word, least, least_from}
use Rattle.bind_meaning.specs.Judging.{is_bad, is_excess, is_not_listed, is_foreign, is_disagreeing, breaks}
use Rattle.bind_meaning.specs.Elements.{has_element_inside}
use Rattle.bind_meaning.specs.Terms.{in_order, constant_picks, term_picks, all_faults, entries, passed_over, terms_of}
use Rattle.node_arena.proofs.FoundLemmas.{AreInOrder}
use Rattle.bind_terms.specs.declared.firsts.First.{First}
use Rattle.bind_terms.specs.declared.judging.Verdict.{Verdict}
use Rattle.bind_terms.specs.declared.judging.Verdict.TheVariants as verdicts
use Rattle.bind_terms.specs.Entries.{entries_of}
use Rattle.bind_terms.specs.Passes.{all_told, words_found, violations_found, found_at_picks, all_found, HasTold, HasFound, IsVerdict}
use Rattle.bind_terms.specs.declared.found.Spot.{Spot}
use Rattle.bind_terms.specs.Faults.{found_in, least_of, Puts}
use Rattle.bind_terms.specs.Reading.{indicator_picks, term_places, Answers, AreSorted}
use Rattle.bind_terms.specs.Telling.{seat_of_first, Entries, is_placed, IsAtItsPlace, Holds}
use Rattle.bind_terms.specs.Steps.{HasRow, IsOfRow, IsPickOfRow, IsWithin, SaysPlaced, TellsAll}
use Rattle.bind_terms.proofs.Tolds.{least-append, puts-same}
use Rattle.bind_terms.proofs.Listing.{Each, IsWhole, arranged-listed}
use Rattle.reading_laws.proofs.MissingLemmas.{rooms-same}
use Rattle.bind_terms.proofs.Indicating.{words-same, words-leave, words-enter, words-are-one, rows-words}
use Rattle.bind_terms.proofs.FaultOrder.{puts-rising, puts-append, in-any-order}
use Rattle.bind_terms.proofs.FirstFault.{every-least}
use Rattle.bind_terms.proofs.Gathering.{entries-fault}
use Rattle.bind_terms.proofs.Placing.{picks-say-placed}
use Rattle.bind_terms.proofs.Sound.{terms-sound, rows-sound, seated-within, seated-rows, kept-within, kept-rows}
use Rattle.bind_terms.specs.Reading.{has_indicator}

-- ---- lists without elements

least-none : (xs : List Found) → least xs ≡ None → xs ≡ []
least-none [] h = refl
least-none (x ∷ xs) h = absurd (let k : ◌≡◌ {A = Option Found} (Some (least_from x xs)) None = h in cc)

front-none : {X : Type 0} (xs ys : List X) → xs ++ ys ≡ [] → xs ≡ []
front-none [] ys h = refl
front-none (x ∷ xs) ys h = absurd (let k : x ∷ (xs ++ ys) ≡ [] = h in cc)

back-none : {X : Type 0} (xs ys : List X) → xs ++ ys ≡ [] → ys ≡ []
back-none [] ys h = h
back-none (x ∷ xs) ys h = absurd (let k : x ∷ (xs ++ ys) ≡ [] = h in cc)

-- ---- where there is no fault, each has a value

no-bad : (excess inside bad : Bool) (rest : Option BindKind)
    → ◌≡◌ {A = Option BindKind} (elim excess [
      | true ↦ Some kinds.Excess
      | false ↦ elim inside [ true ↦ Some kinds.ElementInValue | false ↦ elim bad [ true ↦ Some kinds.BadValue | false ↦ rest ] ]
    ]) None
    → bad ≡ false
no-bad true inside bad rest h = absurd (let k : ◌≡◌ {A = Option BindKind} (Some kinds.Excess) None = h in cc)
no-bad false true bad rest h = absurd (let k : ◌≡◌ {A = Option BindKind} (Some kinds.ElementInValue) None = h in cc)
no-bad false false true rest h = absurd (let k : ◌≡◌ {A = Option BindKind} (Some kinds.BadValue) None = h in cc)
no-bad false false false rest h = refl

no-kind : (o : Option BindKind) (f : BindKind → Found) → ◌≡◌ {A = List Found} (elim o [ None ↦ [] | Some kind ↦ f kind ∷ [] ]) [] → o ≡ None
no-kind None f h = refl
no-kind (Some k) f h = absurd (let e : f k ∷ [] ≡ [] = h in cc)

first-false : (a b : Bool) → (a || b) ≡ false → a ≡ false
first-false true b h = absurd (false≢true (sym h))
first-false false b h = refl

valued : (nodes : List Node) (lists : Lists) (c : Currencies) (before : Option Told) (t : Told) → fault_of nodes lists c before t ≡ []
    → is_none t.parsed.value ≡ false
valued nodes lists c before t h =
    let none = no-kind (first_cause (causes nodes lists c before t)) _ h in
    let rest : List Cause = record {
      kind = kinds.CodeNotListed;
      holds = λ _. is_not_listed lists t;
    } ∷ (record { kind = kinds.CurrencyDiffers; holds = λ _. is_foreign nodes c t }
    ∷ (record { kind = kinds.Disagree; holds = λ _. is_disagreeing before t } ∷ [])) in
    first-false (is_none t.parsed.value) (breaks nodes t.placed.pick.row.check t.placed.pick.node)
    (no-bad (is_excess before t) (has_element_inside nodes t.placed.pick.node) (is_bad nodes t) (first_cause rest) none)

some-value : (o : Option Value) → is_none o ≡ false → (v : Value) × (o ≡ Some v)
some-value None h = absurd (false≢true (sym h))
some-value (Some v) h = (v, refl)

some-place : (o : Option (List ℕ)) → is_some o ≡ true → (p : List ℕ) × (o ≡ Some p)
some-place None h = absurd (false≢true h)
some-place (Some p) h = (p, refl)

all-valued : (nodes : List Node) (lists : Lists) (c : Currencies) (pre ts : List Told) → faults_behind nodes lists c pre ts ≡ []
    → All (λ t. is_placed t ≡ true) ts → Each IsWhole ts
all-valued nodes lists c pre [] h placed = tt
all-valued nodes lists c pre (t ∷ ts) h placed =
    let v = some-value t.parsed.value (valued nodes lists c (first_before pre t) t
    (front-none (fault_of nodes lists c (first_before pre t) t) (faults_behind nodes lists c (pre ++ t ∷ []) ts) h)) in
    let p = some-place (seat_place (seat_of t)) (All-head (λ u. is_placed u ≡ true) t ts placed) in (
      record { place = p.0; value = v.0; placed = p.1; valued = v.1 },
      all-valued nodes lists c (pre ++ t ∷ []) ts (back-none (fault_of nodes lists c (first_before pre t) t) (faults_behind nodes lists c (pre ++ t ∷ []) ts) h)
          (All-tail (λ u. is_placed u ≡ true) t ts placed),
    )

-- ---- what is kept

any-map : {X Y : Type 0} (f : X → Y) (p : Y → Bool) (xs : List X) → list_any p (map f xs) ≡ list_any (λ x. p (f x)) xs
any-map f p [] = refl
any-map f p (x ∷ xs) = ap (λ b. p (f x) || b) (any-map f p xs)

abbrev kept_firsts : Entries → List First
kept_firsts entries = map (λ (e : List ℕ × First). e.1) entries

pairs-nil : {X : Type 0} (R : X → X → Type 0) → AllPairs R []
pairs-nil R i j d lt below = absurd (omega arith)

pairs-cons : {X : Type 0} (R : X → X → Type 0) (x : X) (xs : List X) → All (R x) xs → AllPairs R xs → AllPairs R (x ∷ xs)
pairs-cons R x xs all pairs zero zero d lt below = absurd (omega arith)
pairs-cons R x xs all pairs zero (suc j) d lt below = all j d (omega arith)
pairs-cons R x xs all pairs (suc i) zero d lt below = absurd (omega arith)
pairs-cons R x xs all pairs (suc i) (suc j) d lt below = pairs i j d (omega arith) (omega arith)

follow : (e f : List ℕ × First) → IsAtItsPlace e → IsAtItsPlace f → slice_cmp nat_cmp e.0 f.0 ≡ Less → MayFollow (seat_of_first e.1) (seat_of_first f.1)
follow e f at there less = record { first = e.0; second = f.0; first_is = at; second_is = there; order = not_both_ways e.0 f.0 (ap is_lt less) }

follow-all : (e : List ℕ × First) (es : Entries) → IsAtItsPlace e → All IsAtItsPlace es
    → AllByRecursion (λ y. slice_cmp nat_cmp e.0 y ≡ Less) (map (λ (x : List ℕ × First). x.0) es)
    → All (MayFollow (seat_of_first e.1)) (map seat_of_first (kept_firsts es))
follow-all e [] at all less = All-nil (MayFollow (seat_of_first e.1))
follow-all e (f ∷ es) at all less =
    All-cons (MayFollow (seat_of_first e.1)) (seat_of_first f.1) (map seat_of_first (kept_firsts es)) (follow e f at (All-head IsAtItsPlace f es all) less.0)
    (follow-all e es at (All-tail IsAtItsPlace f es all) less.1)

pairs-follow : (es : Entries) → All IsAtItsPlace es → AreSorted es → AllPairs MayFollow (map seat_of_first (kept_firsts es))
unfolding IsStrictlySortedBy
pairs-follow [] all sorted = pairs-nil MayFollow
pairs-follow (e ∷ es) all sorted =
    pairs-cons MayFollow (seat_of_first e.1) (map seat_of_first (kept_firsts es))
    (follow-all e es (All-head IsAtItsPlace e es all) (All-tail IsAtItsPlace e es all) sorted.0)
    (pairs-follow es (All-tail IsAtItsPlace e es all) sorted.1)

pub in-order : (es : Entries) (firsts : List First) → firsts ≡ map (λ (e : List ℕ × First). e.1) es → All IsAtItsPlace es → AreSorted es
    → IsInOrder (map seat_of_first firsts)
in-order es firsts e all sorted = subst (λ l. IsInOrder (map seat_of_first l)) (sym e) (record {
  placed = All-map (λ (seat : Seat). is_some (seat_place seat) ≡ true) seat_of_first (kept_firsts es)
      (All-map (λ (f : First). is_some (seat_place (seat_of_first f)) ≡ true) (λ (x : List ℕ × First). x.1) es
      (All-weaker IsAtItsPlace (λ (x : List ℕ × First). is_some (seat_place (seat_of_first x.1)) ≡ true) (λ x h. ap is_some h) es all));
  order = pairs-follow es all sorted;
})

-- ---- the answer

module _ (nodes : List Node) (order : AreInOrder nodes) (some : 0 < length nodes) (lists : Lists) (rows : List Row) where
  pub picks-within : (count : ℕ) (picks : List PlacedPick) → length nodes ≡ count → picks ≡ all_kept_placed (term_places nodes rows)
      → All (IsWithin count) picks
  picks-within count picks long e =
      subst (λ n. All (IsWithin n) picks) long (subst (All (IsWithin (length nodes))) (sym e)
      (seated-within nodes order some rows (term_picks nodes (currencies nodes rows) rows) (terms-sound nodes order some rows (currencies nodes rows))))

  pub indicators-within : (count : ℕ) (indicators : List Picked) → length nodes ≡ count → indicators ≡ all_kept (in_order nodes (indicator_picks nodes rows))
      → All (λ (p : Picked). p.node < count) indicators
  indicators-within count indicators long e =
      subst (λ n. All (λ (p : Picked). p.node < n) indicators) long (subst (All (λ (p : Picked). p.node < length nodes)) (sym e)
      (kept-within nodes order some rows (in_order nodes (indicator_picks nodes rows)) (rows-sound nodes order some rows has_indicator)))

  pub picks-rowed : (picks : List PlacedPick) → picks ≡ all_kept_placed (term_places nodes rows) → All (λ (p : PlacedPick). HasRow rows p.row) picks
  picks-rowed picks e =
      subst (All (λ (p : PlacedPick). HasRow rows p.row)) (sym e)
      (All-map (λ (p : PlacedPick). HasRow rows p.row) kept_placed (term_places nodes rows)
      (All-weaker (IsOfRow rows) (λ p. HasRow rows (kept_placed p).row) (λ p h. ap is_some h) (term_places nodes rows)
      (seated-rows nodes order some rows (term_picks nodes (currencies nodes rows) rows) (terms-sound nodes order some rows (currencies nodes rows)))))

  -- all that is told has a place, so all that each pick says
  pub picks-placed : (picks : List PlacedPick) → picks ≡ all_kept_placed (term_places nodes rows) → All (λ t. is_placed t ≡ true) (all_told nodes rows)
      → All (SaysPlaced nodes rows) picks
  picks-placed picks e placed =
      subst (All (SaysPlaced nodes rows)) (sym e)
      (picks-say-placed nodes rows (term_places nodes rows)
      (seated-rows nodes order some rows (term_picks nodes (currencies nodes rows) rows) (terms-sound nodes order some rows (currencies nodes rows))) placed)

  pub indicators-rowed : (indicators : List Picked) → indicators ≡ all_kept (in_order nodes (indicator_picks nodes rows))
      → All (λ (p : Picked). HasRow rows p.row) indicators
  indicators-rowed indicators e =
      subst (All (λ (p : Picked). HasRow rows p.row)) (sym e)
      (All-map (λ (p : Picked). HasRow rows p.row) kept (in_order nodes (indicator_picks nodes rows))
      (All-weaker (IsPickOfRow rows) (λ p. HasRow rows (kept p).row) (λ p h. ap is_some h) (in_order nodes (indicator_picks nodes rows))
      (kept-rows nodes order some rows (in_order nodes (indicator_picks nodes rows)) (rows-sound nodes order some rows has_indicator))))

  pub standing : (invoice : Option (List ℕ)) (picks : List PlacedPick) (es : Entries) (given : List Found → Type 0) → invoice ≡ (currencies nodes rows).invoice
      → picks ≡ all_kept_placed (term_places nodes rows) → TellsAll nodes lists invoice picks rows es given
      → Holds nodes lists (currencies nodes rows) (all_told nodes rows) es given
  standing invoice picks es given currency picks_are tells =
      tells (term_places nodes rows) (currencies nodes rows) (sym currency) picks_are
      (seated-rows nodes order some rows (term_picks nodes (currencies nodes rows) rows) (terms-sound nodes order some rows (currencies nodes rows)))

  -- the faults of the indicators are given behind those of what the picks say
  pub told-words : (invoice : Option (List ℕ)) (picks : List PlacedPick) (indicators : List Picked) (es : Entries) (was given : List Found → Type 0)
      → invoice ≡ (currencies nodes rows).invoice
      → picks ≡ all_kept_placed (term_places nodes rows) → indicators ≡ all_kept (in_order nodes (indicator_picks nodes rows))
      → TellsAll nodes lists invoice picks rows es was
      → ((qs : List Pick) → indicators ≡ all_kept qs → All (IsPickOfRow rows) qs → Puts was given (flat_map (wrong_word nodes) qs))
      → HasTold nodes lists rows es given
  told-words invoice picks indicators es was given currency picks_are indicators_are tells words =
      let h = standing invoice picks es was currency picks_are tells in
      let put = words (in_order nodes (indicator_picks nodes rows)) indicators_are
      (kept-rows nodes order some rows (in_order nodes (indicator_picks nodes rows)) (rows-sound nodes order some rows has_indicator)) in
      record {
        look_up = h.look_up;
        entries_are = h.entries_are;
        at_places = h.at_places;
        same_seats = h.same_seats;
        is_given = put (found_at_picks nodes lists rows) h.is_given;
        placed = h.placed;
      }

  module _ (picks : List PlacedPick) (es : Entries) (was given : List Found → Type 0) (firsts : List First) (h : HasTold nodes lists rows es was)
      (picks_are : picks ≡ all_kept_placed (term_places nodes rows)) (firsts_are : firsts ≡ map (λ (e : List ℕ × First). e.1) es)
      (violations : (qs : List Placed) → picks ≡ all_kept_placed qs → Puts was given (flat_map (violations_in nodes (map seat_of_first firsts)) (rooms qs)))
    where
      alike : (p : Seat → Bool) → list_any p (map seat_of_first firsts) ≡ list_any p (map seat_of (all_told nodes rows))
      alike p =
          any-map seat_of_first p firsts ∙ (ap (list_any (λ (f : First). p (seat_of_first f))) firsts_are
          ∙ (any-map (λ (e : List ℕ × First). e.1) (λ (f : First). p (seat_of_first f)) es ∙ (h.same_seats p ∙ sym (any-map seat_of p (all_told nodes rows)))))

      violations-put : Puts was given (violations_found nodes rows)
      violations-put =
          puts-same was given _ _ (rooms-same nodes (map seat_of_first firsts) (map seat_of (all_told nodes rows)) (rooms (term_places nodes rows)) alike)
          (violations (term_places nodes rows) picks_are)

      invoice-is : found_at_picks nodes lists rows ≡ [] → flat_map entries_of firsts ≡ entries (all_told nodes rows)
      invoice-is faultless =
          let whole = all-valued nodes lists (currencies nodes rows) [] (all_told nodes rows) faultless h.placed in
          ap (flat_map entries_of) (firsts_are ∙ ap kept_firsts h.entries_are) ∙ arranged-listed (all_told nodes rows) whole

      pub has-found : HasFound nodes lists rows firsts given
      has-found = record {
        is_given = violations-put (found_at_picks nodes lists rows ++ words_found nodes rows) h.is_given;
        entries_are = invoice-is;
      }

  -- ---- the first of all, and all in their order

  words_placed : List Found
  words_placed = flat_map (wrong_word nodes) (constant_picks nodes rows)

  pub found-least : least_of None (all_found nodes lists rows) ≡ least (all_faults nodes lists (currencies nodes rows) rows (term_places nodes rows))
  unfolding words_placed
  found-least =
      least-append None (found_at_picks nodes lists rows ++ words_found nodes rows) (violations_found nodes rows)
      ∙ (ap (λ o. least_of o (violations_found nodes rows))
      (least-append None (found_at_picks nodes lists rows) (words_found nodes rows)
      ∙ (words-same nodes order some rows (least_of None (found_at_picks nodes lists rows))
      ∙ sym (least-append None (found_at_picks nodes lists rows) words_placed)))
      ∙ (sym (least-append None (found_at_picks nodes lists rows ++ words_placed) (violations_found nodes rows))
      ∙ (ap (least_of None) (append_assoc (found_at_picks nodes lists rows) words_placed (violations_found nodes rows))
      ∙ every-least nodes lists (currencies nodes rows) rows (term_places nodes rows))))

  pub found-in-order : in_fault_order (all_found nodes lists rows) ≡ in_fault_order
      (every_fault nodes lists (currencies nodes rows) rows (term_places nodes rows))
  unfolding words_placed
  found-in-order =
      let a = found_at_picks nodes lists rows in
      let kept = put_faults [] a in
      let inner : put_faults kept (words_found nodes rows) ≡ put_faults kept words_placed =
      in-any-order kept (words_found nodes rows) (flat_map (wrong_word nodes) (indicator_picks nodes rows)) (puts-rising [] a tt)
      (words-leave nodes order some rows) (words-enter nodes order some rows)
      (words-are-one nodes order some rows)
      ∙ ap (put_faults kept) (rows-words nodes (numbered 1 rows)) in
      puts-append [] (a ++ words_found nodes rows) (violations_found nodes rows)
      ∙ (ap (λ l. put_faults l (violations_found nodes rows)) (puts-append [] a (words_found nodes rows) ∙ inner)
      ∙ (sym (puts-append kept words_placed (violations_found nodes rows)) ∙ sym (puts-append [] a (words_placed ++ violations_found nodes rows))))

  pub kept-faults : (es : List (Spot × BindFault)) → map found_in es ≡ in_fault_order (all_found nodes lists rows)
      → map (λ (e : Spot × BindFault). e.1) es ≡ faults_in nodes rows lists
  unfolding faults_in
  kept-faults es e = sym (entries-fault es _ (e ∙ found-in-order))

  module _ (firsts : List First) (last : Option Found) (h : HasFound nodes lists rows firsts (λ fs. last ≡ least_of None fs)) where
    whole-least : last ≡ least (all_faults nodes lists (currencies nodes rows) rows (term_places nodes rows))
    whole-least = h.is_given ∙ found-least

    told-fault : (fault : Found) → last ≡ Some fault → terms_of nodes rows lists ≡ Err fault.fault
    unfolding terms_of
    told-fault fault e =
        ap (λ (o : Option Found). elim o [
          | Some first ↦ Err first.fault
          | None ↦ Ok (record { entries = entries (all_told nodes rows); passed_over = passed_over nodes rows })
        ]) (sym whole-least ∙ e)

    told-invoice : (invoice : List Entry) → last ≡ None → invoice ≡ flat_map entries_of firsts
        → terms_of nodes rows lists ≡ Ok (record { entries = invoice; passed_over = passed_over nodes rows })
    unfolding terms_of
    told-invoice invoice e made =
        let none : least (all_faults nodes lists (currencies nodes rows) rows (term_places nodes rows)) ≡ None = sym whole-least ∙ e in
        let faultless = front-none (found_at_picks nodes lists rows) _ (least-none _ none) in
        let entries_are : invoice ≡ entries (all_told nodes rows) = made ∙ h.entries_are faultless in
        ap (λ (o : Option Found). elim o [
          | Some first ↦ Err first.fault
          | None ↦ Ok (record { entries = entries (all_told nodes rows); passed_over = passed_over nodes rows })
        ]) none
        ∙ (λ i. Ok (record { entries = (sym entries_are) i; passed_over = passed_over nodes rows }))

    -- Where no fault was found, what was told first is what is read.
    pub told-entries : last ≡ None → terms_of nodes rows lists ≡ Ok (record { entries = flat_map entries_of firsts; passed_over = passed_over nodes rows })
    told-entries e = told-invoice (flat_map entries_of firsts) e refl

    pub told-verdict : (v : Verdict) → IsVerdict firsts last v → Answers nodes lists rows v
    told-verdict v is = by last refl v is
      where
        by : (o : Option Found) → last ≡ o → (v : Verdict) → IsVerdict firsts o v → Answers nodes lists rows v
        by None e (verdicts.Invoice invoice) is = told-invoice invoice e is
        by None e (verdicts.Fault fault) is = absurd is
        by (Some found) e (verdicts.Invoice invoice) is = absurd is
        by (Some found) e (verdicts.Fault fault) is = told-fault found e ∙ ap Err (sym is)
