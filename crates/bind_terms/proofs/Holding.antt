-- What is kept of what was told stands for it, one after another.
use Rattle.std.proofs.Common.{◌≡◌, ℕ, Bool, true, false, ◌||◌, cond, List, [], ◌∷◌, ◌++◌, All, Option, Some, None, option_map, is_some, inl, inr, refl, sym, ap}
use Rattle.std.proofs.Common.{◌∙◌, subst, Ordering}
use Rattle.std.specs.Prelude.{unwrap_or}
use Rattle.std.specs.List.{list_any}
use Rattle.std.specs.Ordering.{nat_cmp, is_eq, is_lt, ordering_reverse, match_ordering}
use Rattle.std.specs.declared.cmp.Ordering.TheVariants.{Less, Equal, Greater}
use Rattle.std.specs.Cmp.Lexicographic.{slice_cmp}
use Rattle.std.specs.BTreeMap.{insert_entry}
use Rattle.std.proofs.lemmas.Bool.{false≢true}
use Rattle.std.proofs.lemmas.Option.{same_Some}
use Rattle.std.proofs.lemmas.Cmp.{nat_list_cmp_total, tied_itself}
use Rattle.std.proofs.lemmas.List.Elements.{All-nil, All-cons, All-head, All-tail, All-push}
use Rattle.std.proofs.lemmas.List.Folds.{list_any-append}
use Rattle.inv_base.specs.Tree.{Node}
use Rattle.code_lists.specs.CodeFiles.{Lists}
use Rattle.term_table.specs.declared.contexts.Seat.{Seat}
use Rattle.term_table.specs.Places.{seat_place}
use Rattle.term_table.proofs.RunLemmas.{neither_before}
use Rattle.term_table.proofs.SeatLemmas.{one_seat}
use Rattle.bind_meaning.specs.Currencies.{Currencies}
use Rattle.bind_meaning.specs.Judging.{Found, Told, is_of_seat, first_before, fault_of, faults_behind, seat_of}
use Rattle.bind_meaning.specs.Terms.{firsts_behind}
use Rattle.bind_terms.specs.declared.firsts.First.{First}
use Rattle.bind_terms.specs.Faults.{Puts}
use Rattle.bind_terms.specs.Telling.{seat_of_first, first_of, Entries, kept_at, told_place, arranged, is_placed, IsAtItsPlace, Holds}
use Rattle.bind_terms.specs.Steps.{put_entry, kept_behind}
use Rattle.reading_laws.proofs.SeatLemmas.{told-seat, seat-told}
use Rattle.bind_terms.proofs.Tolds.{bool_cases, or_else, first-append, first-same, one-true, other-more, known-more, append-nil, kept_if, firsts-more}
use Rattle.bind_terms.proofs.Tolds.{faults-more, any-first}

abbrev order : List ℕ → List ℕ → Ordering
order = slice_cmp nat_cmp

-- ---- places

equal-is : (o : Ordering) → is_eq o ≡ true → o ≡ Equal
equal-is Less h = absurd (false≢true h)
equal-is Equal h = refl
equal-is Greater h = absurd (false≢true h)

pub place-is : (p q : List ℕ) → is_eq (order p q) ≡ true → p ≡ q
place-is p q h =
    let e : order p q ≡ Equal = equal-is (order p q) h in
    let back : order q p ≡ Equal = nat_list_cmp_total.antisymm q p ∙ ap ordering_reverse e in
    neither_before p q (ap is_lt e) (ap is_lt back)

pub place-itself : (p : List ℕ) → is_eq (order p p) ≡ true
place-itself p = ap is_eq (tied_itself nat_list_cmp_total p)

-- ---- one more entry, at a place that none has yet

or-swap : (a b c : Bool) → (a || (b || c)) ≡ (b || (a || c))
or-swap true true c = refl
or-swap true false c = refl
or-swap false b c = refl

or-comm : (a b : Bool) → (a || b) ≡ (b || a)
or-comm true true = refl
or-comm true false = refl
or-comm false true = refl
or-comm false false = refl

or-false : (a : Bool) → (a || false) ≡ a
or-false true = refl
or-false false = refl

none-at : (o : Ordering) (x : First) (rest : Option First) → (cond (is_eq o) (Some x) rest) ≡ None → (o ≡ Equal → ⊥) × (rest ≡ None)
none-at Less x rest h = (λ e. absurd (let k : Less ≡ Equal = e in cc), h)
none-at Equal x rest h = absurd (let k : Some x ≡ None = h in cc)
none-at Greater x rest h = (λ e. absurd (let k : Greater ≡ Equal = e in cc), h)

any-step : (o : Ordering) (q : List ℕ × First → Bool) (new e same : List ℕ × First) (es later : Entries) → (o ≡ Equal → ⊥)
    → list_any q later ≡ (q new || list_any q es)
    → list_any q (match_ordering o (new ∷ (e ∷ es)) (same ∷ es) (e ∷ later)) ≡ (q new || list_any q (e ∷ es))
any-step Less q new e same es later apart h = refl
any-step Equal q new e same es later apart h = absurd (apart refl)
any-step Greater q new e same es later apart h = ap (λ b. q e || b) h ∙ or-swap (q e) (q new) (list_any q es)

pub any-insert : (q : List ℕ × First → Bool) (entries : Entries) (place : List ℕ) (f : First) → kept_at place entries ≡ None
    → list_any q (insert_entry order entries place f) ≡ (q (place, f) || list_any q entries)
any-insert q [] place f h = refl
any-insert q (e ∷ es) place f h =
    let k = none-at (order place e.0) e.1 (kept_at place es) h in
    any-step (order place e.0) q (place, f) e (e.0, f) es (insert_entry order es place f) k.0 (any-insert q es place f k.1)

all-step : (o : Ordering) (P : List ℕ × First → Type 0) (new e same : List ℕ × First) (es later : Entries) → (o ≡ Equal → ⊥) → P new → All P (e ∷ es)
    → All P later
    → All P (match_ordering o (new ∷ (e ∷ es)) (same ∷ es) (e ∷ later))
all-step Less P new e same es later apart p all h = All-cons P new (e ∷ es) p all
all-step Equal P new e same es later apart p all h = absurd (apart refl)
all-step Greater P new e same es later apart p all h = All-cons P e later (All-head P e es all) h

pub all-insert : (P : List ℕ × First → Type 0) (entries : Entries) (place : List ℕ) (f : First) → kept_at place entries ≡ None → P (place, f) → All P entries
    → All P (insert_entry order entries place f)
all-insert P [] place f h p all = All-cons P (place, f) [] p all
all-insert P (e ∷ es) place f h p all =
    let k = none-at (order place e.0) e.1 (kept_at place es) h in
    all-step (order place e.0) P (place, f) e (e.0, f) es (insert_entry order es place f) k.0 p all (all-insert P es place f k.1 p (All-tail P e es all))

pub arranged-append : (entries : Entries) (xs ys : List Told) → arranged entries (xs ++ ys) ≡ arranged (arranged entries xs) ys
arranged-append entries [] ys = refl
arranged-append entries (x ∷ xs) ys = arranged-append (insert_entry order entries (told_place x) (first_of x)) xs ys

-- ---- the beginning

pub holds-none : (nodes : List Node) (lists : Lists) (c : Currencies) (given : List Found → Type 0) → given [] → Holds nodes lists c [] [] given
holds-none nodes lists c given fresh = record {
  look_up = λ t place e. refl;
  entries_are = refl;
  at_places = All-nil IsAtItsPlace;
  same_seats = λ p. refl;
  is_given = fresh;
  placed = All-nil (λ t. is_placed t ≡ true);
}

-- ---- one more

none-first : (o : Option Told) → option_map first_of o ≡ None → o ≡ None
none-first None h = refl
none-first (Some f) h = absurd (let k : ◌≡◌ {A = Option First} (Some (first_of f)) None = h in cc)

some-first : (o : Option Told) (x : First) → option_map first_of o ≡ Some x → (f : Told) × (o ≡ Some f)
some-first None x h = absurd (let k : ◌≡◌ {A = Option First} None (Some x) = h in cc)
some-first (Some f) x h = (f, refl)

module _ (nodes : List Node) (lists : Lists) (c : Currencies) (before : List Told) (entries : Entries) (was : List Found → Type 0)
    (h : Holds nodes lists c before entries was)
    (t : Told) (place : List ℕ) (at : seat_place (seat_of t) ≡ Some place)
    (more : Entries) (is : List Found → Type 0) (fault : Puts was is (fault_of nodes lists c (first_before before t) t)) where
  place-told : told_place t ≡ place
  place-told = ap (λ o. unwrap_or o []) at

  placed-told : is_placed t ≡ true
  placed-told = ap is_some at

  given-more : is (faults_behind nodes lists c [] (before ++ t ∷ []))
  given-more = subst is (sym (faults-more nodes lists c [] before t)) (fault (faults_behind nodes lists c [] before) h.is_given)

  seats-more : (p : Seat → Bool) → list_any (λ u. p (seat_of u)) (before ++ t ∷ []) ≡ (list_any (λ u. p (seat_of u)) before || p (seat_of t))
  seats-more p = list_any-append (λ u. p (seat_of u)) before (t ∷ []) ∙ ap (λ b. list_any (λ u. p (seat_of u)) before || b) (or-false (p (seat_of t)))

  module _ (f : Told) (known : first_before before t ≡ Some f) (same : more ≡ entries) where
    absorbed : (p : Seat → Bool) (b : Bool) → p (seat_of t) ≡ b → (list_any (λ u. p (seat_of u)) before || b) ≡ list_any (λ u. p (seat_of u)) before
    absorbed p true e = rw (any-first p before t f known e) refl
    absorbed p false e = or-false (list_any (λ u. p (seat_of u)) before)

    pub holds-known : Holds nodes lists c (before ++ t ∷ []) more is
    holds-known = subst (λ x. Holds nodes lists c (before ++ t ∷ []) x is) (sym same) (record {
      look_up = λ u q e. h.look_up u q e ∙ ap (option_map first_of) (known-more before t f known u);
      entries_are = h.entries_are ∙ ap (arranged [])
          (sym (firsts-more [] [] before t (λ u. refl) ∙ (ap (λ o. firsts_behind [] before ++ kept_if o t) known ∙ append-nil (firsts_behind [] before))));
      at_places = h.at_places;
      same_seats = λ p. h.same_seats p ∙ sym (seats-more p ∙ absorbed p (p (seat_of t)) refl);
      is_given = given-more;
      placed = All-push (λ u. is_placed u ≡ true) before t h.placed placed-told;
    })

  module _ (none : first_before before t ≡ None) (absent : kept_at place entries ≡ None) (put : more ≡ insert_entry order entries place (first_of t))
      (looked : (q : List ℕ) → kept_at q more ≡ cond (is_eq (order place q)) (Some (first_of t)) (kept_at q entries)) where
    look : (u : Told) (q : List ℕ) (b : Bool) → seat_place (seat_of u) ≡ Some q → is_eq (order place q) ≡ b
        → cond b (Some (first_of t)) (kept_at q entries) ≡ option_map first_of (first_before (before ++ t ∷ []) u)
    look u q true e same =
        let one : seat_of t ≡ seat_of u = one_seat (seat_of t) (seat_of u) q (at ∙ ap Some (place-is place q same)) e in
        let fresh : first_before before u ≡ None = first-same before u t (sym one) ∙ none in
        ap (option_map first_of) (sym (first-append before (t ∷ []) u
        ∙ (ap (λ o. or_else o (first_before (t ∷ []) u)) fresh ∙ one-true t u (seat-told t u one))))
    look u q false e apart =
        let other : is_of_seat t u ≡ false = elim (bool_cases (is_of_seat t u)) [
          | inl one ↦
              let places : place ≡ q = same_Some _ _ (sym at ∙ (ap seat_place (told-seat t u one) ∙ e)) in
              absurd (false≢true (sym apart ∙ (ap (λ x. is_eq (order x q)) places ∙ place-itself q)))
          | inr apart_it ↦ apart_it
        ] in
        h.look_up u q e ∙ ap (option_map first_of) (sym (other-more before t u other))

    pub holds-new : Holds nodes lists c (before ++ t ∷ []) more is
    holds-new = record {
      look_up = λ u q e. looked q ∙ look u q (is_eq (order place q)) e refl;
      entries_are = put ∙ (ap (λ x. insert_entry order x place (first_of t)) h.entries_are
          ∙ (ap (λ x. insert_entry order (arranged [] (firsts_behind [] before)) x (first_of t)) (sym place-told)
          ∙ (sym (arranged-append [] (firsts_behind [] before) (t ∷ []))
          ∙ ap (arranged []) (sym (firsts-more [] [] before t (λ u. refl) ∙ ap (λ o. firsts_behind [] before ++ kept_if o t) none)))));
      at_places = subst (All IsAtItsPlace) (sym put) (all-insert IsAtItsPlace entries place (first_of t) absent at h.at_places);
      same_seats = λ p. ap (list_any (λ (e : List ℕ × First). p (seat_of_first e.1))) put
          ∙ (any-insert (λ (e : List ℕ × First). p (seat_of_first e.1)) entries place (first_of t) absent
          ∙ (or-comm (p (seat_of t)) _ ∙ (ap (λ b. b || p (seat_of t)) (h.same_seats p) ∙ sym (seats-more p))));
      is_given = given-more;
      placed = All-push (λ u. is_placed u ≡ true) before t h.placed placed-told;
    }

  pub holds-more : more ≡ put_entry entries place (first_of t) → ((q : List ℕ) → kept_at q more ≡ kept_behind q entries place (first_of t))
      → Holds nodes lists c (before ++ t ∷ []) more is
  holds-more put looked = go (kept_at place entries) refl put looked
    where
      go : (o : Option First) → kept_at place entries ≡ o → more ≡ (elim o [ None ↦ insert_entry order entries place (first_of t) | Some other ↦ entries ])
          → ((q : List ℕ) → kept_at q more ≡ (elim
          o [ None ↦ cond (is_eq (order place q)) (Some (first_of t)) (kept_at q entries) | Some other ↦ kept_at q entries ]))
          → Holds nodes lists c (before ++ t ∷ []) more is
      go None e put looked = holds-new (none-first (first_before before t) (sym (h.look_up t place at) ∙ e)) e put looked
      go (Some x) e put looked = let k = some-first (first_before before t) x (sym (h.look_up t place at) ∙ e) in holds-known k.0 k.1 put
