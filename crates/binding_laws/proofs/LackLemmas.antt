-- A valid invoice lacks nothing, whichever seats say its terms, and each of its codes is listed.
use Rattle.std.proofs.Common.{◌≡◌, ℕ, suc, ◌+◌, Bool, true, false, not, ◌&&◌, ◌||◌, List, [], ◌∷◌, Option, Some, None, inl, inr, refl, sym, ap, ◌∙◌, arith}
use Rattle.std.specs.Prelude.{◌==◌, if◌then◌else◌, is_some, option_map, slice_get}
use Rattle.std.specs.List.{list_any}
use Rattle.std.proofs.lemmas.Bool.{false≢true}
use Rattle.code_lists.specs.CodeFiles.{Lists}
use Rattle.term_table.specs.declared.groups.Group.{Group}
use Rattle.term_table.specs.declared.groups.Occurrence.TheVariants as occurs
use Rattle.term_table.specs.declared.terms.Mark.TheVariants as marks
use Rattle.term_table.specs.declared.terms.TermRow.{TermRow}
use Rattle.term_table.specs.declared.contexts.Context.{Context}
use Rattle.term_table.specs.declared.contexts.Seat.{Seat}
use Rattle.term_table.specs.SemanticModel.{same_term, terms}
use Rattle.term_table.specs.Groups.{parent_of, occurrence_of}
use Rattle.term_table.specs.Contexts.{has_context}
use Rattle.term_table.specs.Places.{place, place_of, first_row}
use Rattle.inv_terms.specs.declared.entries.Entry.{Entry}
use Rattle.inv_terms.specs.Listing.{is_placed}
use Rattle.inv_terms.specs.declared.violations.Name.{Name}
use Rattle.inv_terms.specs.declared.violations.Name.TheVariants as names
use Rattle.inv_terms.specs.declared.violations.TermFault.TheVariants as faults
use Rattle.inv_terms.specs.declared.violations.ModelViolation.{ModelViolation}
use Rattle.inv_terms.specs.Lacking.{is_at, is_around, shows_its_group, has_term, stands, decided, first_decided, is_there, whole_term, is_needed, is_slot_in}
use Rattle.inv_terms.specs.Lacking.{is_at_least_once, lacks_group, missing_at, missing_from}
use Rattle.inv_terms.specs.Validity.{is_unlisted}
use Rattle.inv_terms.specs.Whole.{IsContextOf, IsValid, IsViolation, seats_in}
use Rattle.inv_terms.proofs.FirstLemmas.{each_violation}
use Rattle.inv_terms.proofs.ValidLemmas.{valid}
use Rattle.binding_laws.proofs.ReachLemmas.{Among}
use Rattle.binding_laws.proofs.PlainLemmas.{among-contains}

-- ---- a valid invoice has no lack

module _ (es : List Entry) (lists : Lists) (is_valid : IsValid es lists) where
  no-violation : (m : ModelViolation) → IsViolation es lists m → ⊥
  no-violation m is =
      let w = each_violation es lists m is in
      let z : None ≡ Some w.0 = sym ((valid es lists).1 is_valid) ∙ w.1 in
      cc

  pub nothing-missing : (c : Context) → IsContextOf es c → (k : ℕ) (row : TermRow) → slice_get terms k ≡ Some row → missing_at (seats_in es c) c k row ≡ None
  nothing-missing c shown k row is_row = go (missing_at (seats_in es c) c k row) refl
    where
      go : (o : Option Name) → missing_at (seats_in es c) c k row ≡ o → o ≡ None
      go None e = refl
      go (Some name) e = absurd (no-violation (record { place = place k c; fault = faults.Missing name })
          (inl (record { context = c; is_context = shown; number = k; row = row; is_row = is_row; name = name; missing = e; violation_is = refl })))

  some-place : (o : Option (List ℕ)) → is_some o ≡ true → (p : List ℕ) × (o ≡ Some p)
  some-place None h = absurd (false≢true h)
  some-place (Some p) h = (p, refl)

  pub all-listed : (e : Entry) → Among e es → is_placed e ≡ true → is_unlisted lists e ≡ false
  all-listed e a placed = go (is_unlisted lists e) refl
    where
      go : (b : Bool) → is_unlisted lists e ≡ b → b ≡ false
      go false h = refl
      go true h =
          let w = some-place (place_of e.term e.context) placed in
          absurd (no-violation (record { place = w.0; fault = faults.CodeNotListed e.term })
          (inr (
            e,
            among-contains e es a,
            ap (λ b. if b then option_map (λ p. record { place = p; fault = faults.CodeNotListed e.term }) (place_of e.term e.context) else None) h
                ∙ ap (option_map (λ p. record { place = p; fault = faults.CodeNotListed e.term })) w.1,
          )))

-- ---- what is missing hangs on which seats there are

any-same : {X : Type 0} (f g : X → Bool) → ((x : X) → f x ≡ g x) → (xs : List X) → list_any f xs ≡ list_any g xs
any-same f g h [] = refl
any-same f g h (x ∷ xs) = λ i. h x i || any-same f g h xs i

module _ (xs ys : List Seat) (same : (p : Seat → Bool) → list_any p xs ≡ list_any p ys) (c : Context) where
  stands-same : (group : Group) → stands xs group ≡ stands ys group
  stands-same group =
      any-same (λ (row : TermRow). is_around group row.group && (shows_its_group row.term && has_term xs row.term))
      (λ (row : TermRow). is_around group row.group && (shows_its_group row.term && has_term ys row.term))
      (λ (row : TermRow). ap (λ b. is_around group row.group && (shows_its_group row.term && b)) (same (λ (s : Seat). same_term s.term row.term))) terms

  decided-same : (group : Group) → decided xs group ≡ decided ys group
  decided-same group = ap (λ b. elim (occurrence_of group) [
    | occurs.Once ↦ None
    | occurs.AtMostOnce ↦ Some b
    | occurs.AnyNumber ↦ Some true
    | occurs.AtLeastOnce ↦ Some true
  ]) (stands-same group)

  there-same : (group : Group) → is_there xs group ≡ is_there ys group
  there-same group = λ i. first_decided (decided-same group i ∷ (decided-same (parent_of group) i ∷ (decided-same (parent_of (parent_of group)) i ∷ [])))

  needed-same : (row : TermRow) → is_needed xs c row ≡ is_needed ys c row
  needed-same row = λ i. elim row.mark [ marks.One ↦ there-same row.group i | marks.Optional ↦ false | marks.After ↦ same (is_at c (whole_term row.term)) i ]

  violations-same : (k : ℕ) (row : TermRow) → lacks_group xs c k row ≡ lacks_group ys c k row
  violations-same k row =
      ap (λ b. is_at_least_once (occurrence_of row.group) && ((k == first_row row.group) && (has_context (parent_of row.group) c && not b)))
      (same (λ (s : Seat). is_slot_in row.group s.context.outer || is_slot_in row.group s.context.inner))

  pub missing-same : (k : ℕ) (row : TermRow) → missing_at xs c k row ≡ missing_at ys c k row
  missing-same k row = λ i. if has_context row.group c then (if needed-same row i && not (same (is_at c row.term) i) then Some (names.Term row.term) else None)
      else (if violations-same k row i then Some (names.Group row.group) else None)

pub missing-none : (seats : List Seat) (c : Context) (n : ℕ) (rows : List TermRow) →
    ((k : ℕ) (row : TermRow) → slice_get rows k ≡ Some row → missing_at seats c (n + k) row ≡ None) → missing_from seats c n rows ≡ None
missing-none seats c n [] f = refl
missing-none seats c n (row ∷ rows) f =
    let z : n ≡ n + 0 = omega arith in
    ap (λ o. elim o [ Some name ↦ Some (record { place = place n c; fault = faults.Missing name }) | None ↦ missing_from seats c (n + 1) rows ])
    (ap (λ i. missing_at seats c i row) z ∙ f 0 row refl)
    ∙ missing-none seats c (n + 1) rows (λ k r at. let y : n + 1 + k ≡ n + suc k = omega arith in ap (λ i. missing_at seats c i r) y ∙ f (suc k) r at)
