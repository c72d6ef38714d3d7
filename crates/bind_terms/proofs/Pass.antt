-- The steps of the pass over the picks.
use Rattle.std.proofs.Common.{◌≡◌, ℕ, zero, suc, ◌+◌, ◌<◌, ◌≤◌, List, [], ◌∷◌, ◌++◌, length, get_or, take, map, All, Option, Some, None, is_some, true}
use Rattle.std.proofs.Common.{option_map, Result, refl, sym, ap, ◌∙◌, subst, append_assoc, arith}
use Rattle.std.specs.Prelude.{cond, unwrap_or}
use Rattle.std.specs.Result.{OnOk}
use Rattle.std.specs.Ordering.{nat_cmp, is_eq}
use Rattle.std.specs.Cmp.Lexicographic.{slice_cmp}
use Rattle.std.proofs.lemmas.Result.{on_ok_weaker}
use Rattle.std.proofs.lemmas.Option.{same_Some}
use Rattle.std.proofs.lemmas.List.{length-map, get_or-map, take_more}
use Rattle.std.proofs.lemmas.List.Elements.{All-head, All-tail, All-get_or}
use Rattle.inv_base.specs.Tree.{Node}
use Rattle.code_lists.specs.CodeFiles.{Lists}
use Rattle.term_table.specs.declared.terms.Term.{Term}
use Rattle.term_table.specs.declared.contexts.Context.{Context}
use Rattle.term_table.specs.Rows.{row_of}
use Rattle.term_table.specs.Places.{place as row_place, place_of, seat_place}
use Rattle.bind_rows.specs.declared.rows.Row.{Row}
use Rattle.bind_rows.specs.declared.rows.Content.{Content}
use Rattle.bind_rows.specs.declared.rows.Content.TheVariants as contents
use Rattle.bind_meaning.specs.declared.fault.BindKind.{BindKind}
use Rattle.bind_meaning.specs.declared.picked.PlacedPick.{PlacedPick}
use Rattle.bind_meaning.specs.Elements.{string_at}
use Rattle.bind_meaning.specs.Picks.{term_in}
use Rattle.bind_meaning.specs.Currencies.{Currencies}
use Rattle.bind_meaning.specs.Kept.{kept_placed, all_kept_placed}
use Rattle.bind_meaning.specs.Seats.{Placed, context_of}
use Rattle.bind_meaning.specs.Values.{ParsedValue, parsed}
use Rattle.bind_meaning.specs.Judging.{Found, Told, told_by, parsed_by, first_before, first_cause, causes, fault_of, seat_of}
use Rattle.bind_meaning.specs.Terms.{told}
use Rattle.bind_terms.specs.declared.parsed_values.ParsedValue.{ParsedValue as Kept}
use Rattle.bind_terms.specs.declared.parsed_values.ParsedValues.{ParsedValues}
use Rattle.bind_terms.specs.declared.parsed_values.ParsedValues.TheVariants as all
use Rattle.bind_terms.specs.ParsedValues.{parsed_of, all_parsed}
use Rattle.bind_terms.specs.Kinds.{kind_of}
use Rattle.bind_terms.specs.declared.firsts.First.{First}
use Rattle.bind_terms.specs.Faults.{Puts}
use Rattle.bind_terms.specs.Telling.{first_of, parsed_first, context_in, Entries, kept_at, Holds}
use Rattle.bind_terms.specs.Steps.{row_numbered, IsOfRow, ArePlaced, parsed_by_row, told_at, put_entry, kept_behind, faults_at, Tells, TellsPick, TellsOf}
use Rattle.bind_terms.specs.Steps.{TellsAll, faults_again}
use Rattle.bind_terms.proofs.Tolds.{append-nil, puts-same}
use Rattle.bind_terms.proofs.Holding.{holds-none, holds-more}

-- ---- one value

causes-are : (nodes : List Node) (lists : Lists) (c : Currencies) (p : Placed) (s : ParsedValue) (before : Option Told)
    → kind_of nodes lists c.invoice p.pick.row p.pick.node (context_of p) (option_map (λ (f : Told). f.parsed) before) s
    ≡ first_cause (causes nodes lists c before (told_at p s))
causes-are nodes lists c p s None = refl
causes-are nodes lists c p s (Some f) = refl

kept-parsed : (o : Option Told) → option_map parsed_first (option_map first_of o) ≡ option_map (λ (f : Told). f.parsed) o
kept-parsed None = refl
kept-parsed (Some f) = refl

tells-one : (nodes : List Node) (lists : Lists) (invoice : Option (List ℕ)) (row : Row) (pick : PlacedPick) (one : Kept) (context : Context) (listed : ℕ)
    (kind : Option BindKind) (first : Option First)
    (old new : Entries) (was is : List Found → Type 0) → context ≡ context_in pick → Some listed ≡ row_of one.term context
    → first ≡ kept_at (row_place listed context) old
    → kind ≡ kind_of nodes lists invoice row pick.node (context_in pick) (option_map parsed_first first) (parsed_of one)
    → new ≡ put_entry old (row_place listed context) (record { context = context; row = listed; term = one.term; value = one.value })
    → ((q : List ℕ) → kept_at q new ≡ kept_behind q old (row_place listed context)
    (record { context = context; row = listed; term = one.term; value = one.value }))
    → Puts was is (faults_at kind pick.node pick.row one.term) → Tells nodes lists invoice pick row (parsed_of one ∷ []) old was new is
tells-one nodes lists invoice row pick one context listed kind first old new was is in_pick in_row firsts cause put looked fault before p c same_invoice
    same_pick same_row h =
    let s : ParsedValue = parsed_of one in
    let t : Told = told_at p s in
    let stands : context_of p ≡ context_in pick = ap context_in same_pick in
    let here : context_of p ≡ context = stands ∙ sym in_pick in
    let place : List ℕ = row_place listed context in
    let at : Some place ≡ place_of one.term context = ap (option_map (λ r. row_place r context)) in_row in
    let at_it : seat_place (seat_of t) ≡ Some place = ap (place_of one.term) here ∙ sym at in
    let row_is : listed ≡ unwrap_or (row_of one.term (context_of p)) 0 = ap (λ o. unwrap_or o 0) in_row
    ∙ ap (λ x. unwrap_or (row_of one.term x) 0) (sym here) in
    let kept_first : ◌≡◌ {A = First} (record { context = context; row = listed; term = one.term; value = one.value }) (first_of t) =
    λ i. record { context = (sym here) i; row = row_is i; term = one.term; value = one.value } in
    let first_is : option_map parsed_first first ≡ option_map (λ (f : Told). f.parsed) (first_before before t) =
    ap (option_map parsed_first) (firsts ∙ h.look_up t place at_it) ∙ kept-parsed (first_before before t) in
    let kind_is : kind ≡ first_cause (causes nodes lists c (first_before before t) t) =
    cause ∙ (ap (λ x. kind_of nodes lists x row pick.node (context_in pick) (option_map parsed_first first) s) (sym same_invoice)
    ∙ (ap (λ x. kind_of nodes lists c.invoice x pick.node (context_in pick) (option_map parsed_first first) s) (sym same_row)
    ∙ (ap (λ x. kind_of nodes lists c.invoice p.pick.row pick.node x (option_map parsed_first first) s) (sym stands)
    ∙ (ap (λ (x : PlacedPick). kind_of nodes lists c.invoice p.pick.row x.node (context_of p) (option_map parsed_first first) s) (sym same_pick)
    ∙ (ap (λ x. kind_of nodes lists c.invoice p.pick.row p.pick.node (context_of p) x s) first_is
    ∙ causes-are nodes lists c p s (first_before before t)))))) in
    let fault_is : faults_at kind pick.node pick.row one.term ≡ fault_of nodes lists c (first_before before t) t =
    ap (λ (x : PlacedPick). faults_at kind x.node x.row one.term) (sym same_pick) ∙ ap (λ x. faults_at x p.pick.node p.pick.place one.term) kind_is in
    holds-more nodes lists c before old was h t place at_it new is (puts-same was is _ _ fault_is fault)
    (put ∙ ap (put_entry old place) kept_first)
    (λ q. looked q ∙ ap (kept_behind q old place) kept_first)

abbrev first_from : Context → ℕ → Kept → First
first_from context listed one = record { context = context; row = listed; term = one.term; value = one.value }

none-kept : {X Y : Type 0} (f : X → Y) (o : Option X) → None ≡ option_map f o → None ≡ o
none-kept f None e = refl
none-kept f (Some x) e = absurd (let bad : None ≡ Some (f x) = e in cc)

kept-again : (o : Option First) (f back : First) (entries fresh : Option First) → Some back ≡ option_map (λ _. f) o
    → (back ≡ f) × ((elim o as (λ _. Option First) [ None ↦ fresh | Some other ↦ entries ]) ≡ entries)
kept-again None f back entries fresh e = absurd (let bad : Some back ≡ None = e in cc)
kept-again (Some x) f back entries fresh e = (same_Some back f e, refl)

-- the first of its term in its context
pub tells-first : (nodes : List Node) (lists : Lists) (invoice : Option (List ℕ)) (row : Row) (pick : PlacedPick) (one : Kept) (context : Context) (listed : ℕ)
    (kind : Option BindKind) (old new : Entries) (was is : List Found → Type 0) → context ≡ context_in pick → Some listed ≡ row_of one.term context
    → None ≡ option_map (λ _. first_from context listed one) (kept_at (row_place listed context) old)
    → kind ≡ kind_of nodes lists invoice row pick.node (context_in pick) None (parsed_of one)
    → new ≡ put_entry old (row_place listed context) (first_from context listed one)
    → ((q : List ℕ) → kept_at q new ≡ kept_behind q old (row_place listed context)
    (first_from context listed one))
    → Puts was is (faults_at kind pick.node pick.row one.term) → Tells nodes lists invoice pick row (parsed_of one ∷ []) old was new is
tells-first nodes lists invoice row pick one context listed kind old new was is in_pick in_row none cause put looked fault =
    tells-one nodes lists invoice row pick one context listed kind None old new was is in_pick in_row
    (none-kept (λ _. first_from context listed one) (kept_at (row_place listed context) old) none)
    cause put looked fault

-- another of its term in its context
pub tells-again : (nodes : List Node) (lists : Lists) (invoice : Option (List ℕ)) (row : Row) (pick : PlacedPick) (one : Kept) (context : Context) (listed : ℕ)
    (back : First) (old new : Entries) (was is : List Found → Type 0) → context ≡ context_in pick → Some listed ≡ row_of one.term context
    → Some back ≡ option_map (λ _. first_from context listed one) (kept_at (row_place listed context) old)
    → new ≡ put_entry old (row_place listed context) (first_from context listed one)
    → ((q : List ℕ) → kept_at q new ≡ kept_behind q old (row_place listed context)
    (first_from context listed one))
    → Puts was is (faults_again nodes lists invoice pick row back new) → Tells nodes lists invoice pick row (parsed_of one ∷ []) old was new is
tells-again nodes lists invoice row pick one context listed back old new was is in_pick in_row some put looked fault =
    let place : List ℕ = row_place listed context in
    let f : First = first_from context listed one in
    let w = kept-again (kept_at place old) f back (kept_at place old) (cond (is_eq (slice_cmp nat_cmp place place)) (Some f) (kept_at place old)) some in
    let same : faults_again nodes lists invoice pick row back new
    ≡ faults_at (kind_of nodes lists invoice row pick.node (context_in pick) (option_map parsed_first (kept_at place old)) (parsed_of one))
    pick.node pick.row one.term =
    ap (λ b. faults_again nodes lists invoice pick row b new) w.0
    ∙ ap (λ o. faults_at (kind_of nodes lists invoice row pick.node (context_in pick) (option_map parsed_first o) (parsed_of one)) pick.node pick.row one.term)
    (looked place ∙ w.1) in
    tells-one nodes lists invoice row pick one context listed _ (kept_at place old) old new was is in_pick in_row refl refl put looked
    (puts-same was is _ _ same fault)

-- ---- all of a pick

pub tells-two : (nodes : List Node) (lists : Lists) (invoice : Option (List ℕ)) (pick : PlacedPick) (row : Row) (a b : ParsedValue) (old middle new : Entries)
    (was middling is : List Found → Type 0)
    → Tells nodes lists invoice pick row (a ∷ []) old was middle middling → Tells nodes lists invoice pick row (b ∷ []) middle middling new is
    → Tells nodes lists invoice pick row (a ∷ (b ∷ [])) old was new is
tells-two nodes lists invoice pick row a b old middle new was middling is first second before p c same_invoice same_pick same_row h =
    let one = first before p c same_invoice same_pick same_row h in
    let two = second (before ++ told_at p a ∷ []) p c same_invoice same_pick same_row one in
    subst (λ l. Holds nodes lists c l new is) (append_assoc before (told_at p a ∷ []) (told_at p b ∷ [])) two

parsed-by-row : (nodes : List Node) (p : Placed) (content : Content) (term : Term) → content ≡ contents.Term term
    → (elim (term_in content) [ None ↦ [] | Some t ↦ parsed p.pick.row.form t (string_at nodes p.pick.node) ])
    ≡ parsed p.pick.row.form term (string_at nodes p.pick.node)
parsed-by-row nodes p content term e = ap (λ x. elim (term_in x) [ None ↦ [] | Some t ↦ parsed p.pick.row.form t (string_at nodes p.pick.node) ]) e

pub tells-row : (nodes : List Node) (lists : Lists) (invoice : Option (List ℕ)) (pick : PlacedPick) (row : Row) (term : Term) (all : List ParsedValue)
    (string : List ℕ) (old new : Entries) (was is : List Found → Type 0)
    → row.content ≡ contents.Term term → all ≡ parsed row.form term string → string ≡ string_at nodes pick.node
    → Tells nodes lists invoice pick row all old was new is → TellsPick nodes lists invoice pick row old was new is
tells-row nodes lists invoice pick row term all string old new was is content parsed_values string_is step before p c same_invoice same_pick same_row h =
    let all_is : all ≡ parsed_by nodes p =
    parsed_values ∙ (ap (λ (x : Row). parsed x.form term string) (sym same_row)
    ∙ (ap (parsed p.pick.row.form term) (string_is ∙ ap (λ (x : PlacedPick). string_at nodes x.node) (sym same_pick))
    ∙ sym (parsed-by-row nodes p p.pick.row.content term (ap (λ (x : Row). x.content) same_row ∙ content)))) in
    subst (λ l. Holds nodes lists c (before ++ map (told_at p) l) new is) all_is
    (step before p c same_invoice same_pick same_row h)

no-term : (nodes : List Node) (p : Placed) (content : Content) (text : List ℕ) → content ≡ contents.Constant text
    → ◌≡◌ {A = List ParsedValue} (elim (term_in content) [ None ↦ [] | Some t ↦ parsed p.pick.row.form t (string_at nodes p.pick.node) ]) []
no-term nodes p content text e = ap (λ x. elim (term_in x) [ None ↦ [] | Some t ↦ parsed p.pick.row.form t (string_at nodes p.pick.node) ]) e

pub tells-nothing : (nodes : List Node) (lists : Lists) (invoice : Option (List ℕ)) (pick : PlacedPick) (row : Row) (text : List ℕ) (entries : Entries)
    (was : List Found → Type 0)
    → row.content ≡ contents.Constant text → TellsPick nodes lists invoice pick row entries was entries was
tells-nothing nodes lists invoice pick row text entries was content before p c same_invoice same_pick same_row h =
    subst (λ l. Holds nodes lists c l entries was)
    (sym (ap (λ l. before ++ map (told_at p) l) (no-term nodes p p.pick.row.content text (ap (λ (x : Row). x.content) same_row ∙ content))
    ∙ append-nil before)) h

pub tells-of : (nodes : List Node) (lists : Lists) (invoice : Option (List ℕ)) (pick : PlacedPick) (rows : List Row) (row : Row) (old new : Entries)
    (was is : List Found → Type 0)
    → Some row ≡ row_numbered rows pick.row → TellsPick nodes lists invoice pick row old was new is
    → TellsOf nodes lists invoice pick rows old was new is
tells-of nodes lists invoice pick rows row old new was is at step before p c same_invoice same_pick of_row h =
    step before p c same_invoice same_pick (same_Some _ _ (sym of_row ∙ (ap (λ (x : PlacedPick). row_numbered rows x.row) same_pick ∙ sym at))) h

-- what a string says of the row's term is what the pick says
pub parsed_values-placed : (nodes : List Node) (pick : PlacedPick) (row : Row) (term : Term) (all : List ParsedValue) (string : List ℕ)
    → row.content ≡ contents.Term term → all ≡ parsed row.form term string → string ≡ string_at nodes pick.node
    → ArePlaced (context_in pick) (parsed_by_row nodes pick row) → ArePlaced (context_in pick) all
parsed_values-placed nodes pick row term all string content parsed_values string_is placed =
    let same : parsed_by_row nodes pick row ≡ all =
    ap (λ x. elim (term_in x) [ None ↦ [] | Some t ↦ parsed row.form t (string_at nodes pick.node) ]) content
    ∙ sym (parsed_values ∙ ap (parsed row.form term) string_is) in
    subst (ArePlaced (context_in pick)) same placed

one-placed : (context : Context) (all : List ParsedValue) (a : ParsedValue) (others : List ParsedValue) → ArePlaced context all → all ≡ a ∷ others
    → is_some (place_of a.term context) ≡ true
one-placed context all a others h e =
    All-head (λ (s : ParsedValue). is_some (place_of s.term context) ≡ true) a others (subst (ArePlaced context) e h)

module _ (context : Context) (parsed_values : ParsedValues) (placed : ArePlaced context (all_parsed parsed_values)) where
  pub alone-placed : (one : Kept) → parsed_values ≡ all.One one → is_some (place_of one.term context) ≡ true
  alone-placed one e = one-placed context (all_parsed parsed_values) (parsed_of one) [] placed (ap all_parsed e)

  pub first-placed : (one other : Kept) → parsed_values ≡ all.Two one other → is_some (place_of one.term context) ≡ true
  first-placed one other e = one-placed context (all_parsed parsed_values) (parsed_of one) (parsed_of other ∷ []) placed (ap all_parsed e)

  pub second-placed : (one other : Kept) → parsed_values ≡ all.Two one other → is_some (place_of other.term context) ≡ true
  second-placed one other e =
      one-placed context (parsed_of other ∷ []) (parsed_of other) []
      (All-tail (λ (s : ParsedValue). is_some (place_of s.term context) ≡ true) (parsed_of one) (parsed_of other ∷ [])
      (subst (ArePlaced context) (ap all_parsed e) placed)) refl

-- the same of a call's result
module _ {X E : Type 0} (r : Result X E) (nodes : List Node) (lists : Lists) (invoice : Option (List ℕ)) (pick : PlacedPick) (row : Row) where
  pub tells-same : (told all : List ParsedValue) (old new : Entries) (was is : List Found → Type 0) → told ≡ all
      → OnOk r (Tells nodes lists invoice pick row told old was new is)
      → OnOk r (Tells nodes lists invoice pick row all old was new is)
  tells-same told all old new was is e h = subst (λ l. OnOk r (Tells nodes lists invoice pick row l old was new is)) e h

  pub tells-both : (a b : ParsedValue) (all : List ParsedValue) (old middle new : Entries) (was middling is : List Found → Type 0) → (a ∷ (b ∷ [])) ≡ all
      → Tells nodes lists invoice pick row (a ∷ []) old was middle middling
      → OnOk r (Tells nodes lists invoice pick row (b ∷ []) middle middling new is) → OnOk r (Tells nodes lists invoice pick row all old was new is)
  tells-both a b all old middle new was middling is e first h =
      tells-same (a ∷ (b ∷ [])) all old new was is e (on_ok_weaker r (λ k. tells-two nodes lists invoice pick row a b old middle new was middling is first k) h)

  pub tells-by-row : (term : Term) (all : List ParsedValue) (string : List ℕ) (old new : Entries) (was is : List Found → Type 0) → row.content
      ≡ contents.Term term
      → all ≡ parsed row.form term string → string ≡ string_at nodes pick.node
      → OnOk r (Tells nodes lists invoice pick row all old was new is) → OnOk r (TellsPick nodes lists invoice pick row old was new is)
  tells-by-row term all string old new was is content parsed_values string_is h =
      on_ok_weaker r (λ k. tells-row nodes lists invoice pick row term all string old new was is content parsed_values string_is k) h

  pub tells-by-table : (rows : List Row) (old new : Entries) (was is : List Found → Type 0) → Some row ≡ row_numbered rows pick.row
      → OnOk r (TellsPick nodes lists invoice pick row old was new is) → OnOk r (TellsOf nodes lists invoice pick rows old was new is)
  tells-by-table rows old new was is at h = on_ok_weaker r (λ k. tells-of nodes lists invoice pick rows row old new was is at k) h

-- ---- all picks

-- the picks up to one were told
pub record Passed (nodes : List Node) (lists : Lists) (invoice : Option (List ℕ)) (picks : List PlacedPick) (rows : List Row) (count : ℕ) (entries : Entries)
    (was : List Found → Type 0) : Type 0 where
  pub holds : (ps : List Placed) (c : Currencies) → c.invoice ≡ invoice → picks ≡ all_kept_placed ps → All (IsOfRow rows) ps
      → Holds nodes lists c (told nodes (take count ps)) entries was

pub passed-none : (nodes : List Node) (lists : Lists) (invoice : Option (List ℕ)) (picks : List PlacedPick) (rows : List Row) (entries : Entries)
    (given : List Found → Type 0)
    → entries ≡ [] → given [] → Passed nodes lists invoice picks rows 0 entries given
passed-none nodes lists invoice picks rows entries given e fresh = record {
  holds = λ ps c a b d. subst (λ x. Holds nodes lists c [] x given) (sym e) (holds-none nodes lists c given fresh);
}

flat_map-append : (nodes : List Node) (xs ys : List Placed) → told nodes (xs ++ ys) ≡ told nodes xs ++ told nodes ys
flat_map-append nodes [] ys = refl
flat_map-append nodes (x ∷ xs) ys = ap (λ l. told_by nodes x ++ l) (flat_map-append nodes xs ys)
    ∙ sym (append_assoc (told_by nodes x) (told nodes xs) (told nodes ys))

take-next : (ps : List Placed) (count : ℕ) (d : Placed) → count < length ps → take (count + 1) ps ≡ take count ps ++ get_or ps count d ∷ []
take-next ps count d h = take_more ps count d h

first-of : (ps : List Placed) (count : ℕ) → count < length ps → Placed
first-of [] count h = absurd (omega arith)
first-of (p ∷ ps) count h = p

pub passed-more : (nodes : List Node) (lists : Lists) (invoice : Option (List ℕ)) (picks : List PlacedPick) (rows : List Row) (count : ℕ) (old new : Entries)
    (was is : List Found → Type 0) (pick : PlacedPick)
    → count < length picks → pick ≡ get_or picks count pick → Passed nodes lists invoice picks rows count old was
    → TellsOf nodes lists invoice pick rows old was new is
    → Passed nodes lists invoice picks rows (count + 1) new is
passed-more nodes lists invoice picks rows count old new was is pick below at before step = record {
  holds = λ ps c same_invoice same_picks of_rows.
      let long : count < length ps = omega (arith, below, ap length same_picks, length-map ps kept_placed) in
      let d : Placed = first-of ps count long in
      let p : Placed = get_or ps count d in
      let pick_is : kept_placed p ≡ pick = sym (get_or-map kept_placed ps count d pick long) ∙ (ap (λ l. get_or l count pick) (sym same_picks) ∙ sym at) in
      let one = before.holds ps c same_invoice same_picks of_rows in
      let other = step (told nodes (take count ps)) p c same_invoice pick_is (All-get_or (IsOfRow rows) ps count d long of_rows) one in
      subst (λ l. Holds nodes lists c l new is)
      (sym (ap (told nodes) (take-next ps count d long) ∙ (flat_map-append nodes (take count ps) (p ∷ [])
      ∙ ap (λ l. told nodes (take count ps) ++ l) (append-nil (told_by nodes p))))) other;
}

take-all : (ps : List Placed) (count : ℕ) → length ps ≤ count → take count ps ≡ ps
take-all [] zero h = refl
take-all [] (suc count) h = refl
take-all (p ∷ ps) zero h = absurd (omega arith)
take-all (p ∷ ps) (suc count) h = ap (λ l. p ∷ l) (take-all ps count (omega arith))

pub passed-all : (nodes : List Node) (lists : Lists) (invoice : Option (List ℕ)) (picks : List PlacedPick) (rows : List Row) (count : ℕ) (entries : Entries)
    (was : List Found → Type 0)
    → length picks ≤ count → Passed nodes lists invoice picks rows count entries was → TellsAll nodes lists invoice picks rows entries was
passed-all nodes lists invoice picks rows count entries was past h ps c same_invoice same_picks of_rows =
    subst (λ l. Holds nodes lists c (told nodes l) entries was) (take-all ps count (omega (arith, past, ap length same_picks, length-map ps kept_placed)))
    (h.holds ps c same_invoice same_picks of_rows)
