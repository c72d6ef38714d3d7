-- The lack that is told is one of the invoice's, and none of them comes before it.
use Rattle.std.proofs.Common.{◌≡◌, ℕ, ◌+◌, ◌<◌, ◌≤◌, zero, suc, Bool, true, false, List, [], ◌∷◌, ◌++◌, Option, Some, None, refl, sym, ap, ◌∙◌, subst, ◌⊎◌, inl}
use Rattle.std.proofs.Common.{inr, arith}
use Rattle.std.specs.Prelude.{fold, map, slice_get, if◌then◌else◌, Contains}
use Rattle.std.proofs.lemmas.Option.{same_Some}
use Rattle.std.proofs.lemmas.Bool.{false≢true}
use Rattle.std.proofs.lemmas.Bool.Decides.{nat_tests}
use Rattle.code_lists.specs.CodeFiles.{Lists}
use Rattle.term_table.specs.declared.terms.TermRow.{TermRow}
use Rattle.term_table.specs.declared.contexts.Slot.{Slot}
use Rattle.term_table.specs.declared.contexts.Context.{Context}
use Rattle.term_table.specs.declared.contexts.Seat.{Seat}
use Rattle.term_table.specs.SemanticModel.{terms}
use Rattle.term_table.specs.Places.{slot_place, place, precedes, first_row}
use Rattle.term_table.proofs.RunLemmas.{not_less, same_ahead, never_before_itself, not_both_ways}
use Rattle.inv_terms.specs.declared.entries.Entry.{Entry}
use Rattle.inv_terms.specs.declared.violations.Name.{Name}
use Rattle.inv_terms.specs.declared.violations.TermFault.TheVariants as faults
use Rattle.inv_terms.specs.declared.violations.ModelViolation.{ModelViolation}
use Rattle.inv_terms.specs.Lacking.{missing_at, missing_from}
use Rattle.inv_terms.specs.Validity.{missing_in, contexts, unlisted, earlier, first_violation}
use Rattle.inv_terms.specs.Whole.{IsContextOf, IsMissing, IsViolation, seats_in}
use Rattle.inv_terms.proofs.ContextLemmas.{here, there, member_cases, no_member, append_cases, append_front, append_back, context_shown, shown_context}

-- ---- the earliest of lacks

-- The first doesn't come before the second.
abbrev NotBefore : ModelViolation → ModelViolation → Type 0
NotBefore m l = precedes m.place l.place ≡ false

not_before-trans : (m x l : ModelViolation) → NotBefore m x → NotBefore x l → NotBefore m l
not_before-trans m x l h k = go (precedes m.place l.place) refl
  where
    go : (b : Bool) → precedes m.place l.place ≡ b → precedes m.place l.place ≡ false
    go false e = e
    go true e = absurd (false≢true (sym k ∙ not_less x.place m.place l.place h e))

earlier_told : (a o : Option ModelViolation) (l : ModelViolation) → earlier a o ≡ Some l → (a ≡ Some l) ⊎ (o ≡ Some l)
earlier_told None o l h = inr h
earlier_told (Some a) None l h = inl h
earlier_told (Some a) (Some b) l h = go (precedes b.place a.place) h
  where
    go : (t : Bool) → (if t then Some b else Some a) ≡ Some l → (Some a ≡ Some l) ⊎ (Some b ≡ Some l)
    go true k = inr k
    go false k = inl k

fold_told : (os : List (Option ModelViolation)) (a : Option ModelViolation) (l : ModelViolation) → fold earlier a os ≡ Some l → (a
    ≡ Some l) ⊎ Contains os (Some l)
fold_told [] a l h = inl h
fold_told (o ∷ os) a l h = elim (fold_told os (earlier a o) l h) [
  | inr m ↦ inr (there o (Some l) os m)
  | inl e ↦ elim (earlier_told a o l e) [ inl x ↦ inl x | inr y ↦ inr (subst (λ z. Contains (z ∷ os) (Some l)) (sym y) (here (Some l) os)) ]
]

-- what two lacks are set against, and the lack that is kept
earlier_first : (a o : Option ModelViolation) (m : ModelViolation) → (a ≡ Some m) ⊎ (o ≡ Some m) → (x : ModelViolation) × (earlier a o ≡ Some x) × NotBefore m x
earlier_first None o m (inl e) = absurd (let k : None ≡ Some m = e in cc)
earlier_first None o m (inr e) = (m, e, never_before_itself m.place)
earlier_first (Some a) None m (inl e) = (a, refl, ap (λ (x : ModelViolation). precedes x.place a.place) (sym (same_Some _ _ e)) ∙ never_before_itself a.place)
earlier_first (Some a) None m (inr e) = absurd (let k : None ≡ Some m = e in cc)
earlier_first (Some a) (Some b) m h = go (precedes b.place a.place) refl h
  where
    go : (t : Bool) → precedes b.place a.place ≡ t → (Some a ≡ Some m) ⊎ (Some b ≡ Some m) → (x : ModelViolation) × ((if t then Some b else Some a) ≡ Some x) ×
        NotBefore m x
    go true p (inl e) = (b, refl, ap (λ (x : ModelViolation). precedes x.place b.place) (sym (same_Some _ _ e)) ∙ not_both_ways b.place a.place p)
    go true p (inr e) = (b, refl, ap (λ (x : ModelViolation). precedes x.place b.place) (sym (same_Some _ _ e)) ∙ never_before_itself b.place)
    go false p (inl e) = (a, refl, ap (λ (x : ModelViolation). precedes x.place a.place) (sym (same_Some _ _ e)) ∙ never_before_itself a.place)
    go false p (inr e) = (a, refl, ap (λ (x : ModelViolation). precedes x.place a.place) (sym (same_Some _ _ e)) ∙ p)

fold_first : (os : List (Option ModelViolation)) (a : Option ModelViolation) (m : ModelViolation) → (a ≡ Some m) ⊎ Contains os (Some m) → (l : ModelViolation)
    × (fold earlier a os ≡ Some l) ×
    NotBefore m l
fold_first [] a m (inl e) = (m, e, never_before_itself m.place)
fold_first [] a m (inr w) = absurd (no_member (Some m) w)
fold_first (o ∷ os) a m (inl e) =
    let k = earlier_first a o m (inl e) in
    let w = fold_first os (earlier a o) k.0 (inl k.1) in
    (w.0, w.1, not_before-trans m k.0 w.0 k.2 w.2)
fold_first (o ∷ os) a m (inr w) = elim (member_cases o (Some m) os w) [
  | inl e ↦
      let k = earlier_first a o m (inr e) in
      let v = fold_first os (earlier a o) k.0 (inl k.1) in
      (v.0, v.1, not_before-trans m k.0 v.0 k.2 v.2)
  | inr later ↦ fold_first os (earlier a o) m (inr later)
]

-- ---- rows of a context

greater_first : (a b : ℕ) (p q : List ℕ) → b < a → precedes (a ∷ p) (b ∷ q) ≡ false
greater_first a b p q g = grind (arith, nat_tests)

rises : (outer inner : Option Slot) (j k : ℕ) → j < k
    → precedes (slot_place k outer ++ (slot_place k inner ++ k ∷ [])) (slot_place j outer ++ (slot_place j inner ++ j ∷ [])) ≡ false
rises None inner j k l = greater_first k j (0 ∷ (slot_place k inner ++ k ∷ [])) (0 ∷ (slot_place j inner ++ j ∷ [])) l
rises (Some s) None j k l =
    same_ahead (first_row s.group) (first_row s.group) (s.index ∷ k ∷ 0 ∷ k ∷ []) (s.index ∷ j ∷ 0 ∷ j ∷ []) refl
    ∙ (same_ahead s.index s.index (k ∷ 0 ∷ k ∷ []) (j ∷ 0 ∷ j ∷ []) refl ∙ greater_first k j (0 ∷ k ∷ []) (0 ∷ j ∷ []) l)
rises (Some s) (Some t) j k l =
    same_ahead (first_row s.group) (first_row s.group) (s.index ∷ first_row t.group ∷ t.index ∷ k ∷ []) (s.index ∷ first_row t.group ∷ t.index ∷ j ∷ []) refl
    ∙ (same_ahead s.index s.index (first_row t.group ∷ t.index ∷ k ∷ []) (first_row t.group ∷ t.index ∷ j ∷ []) refl
    ∙ (same_ahead (first_row t.group) (first_row t.group) (t.index ∷ k ∷ []) (t.index ∷ j ∷ []) refl
    ∙ (same_ahead t.index t.index (k ∷ []) (j ∷ []) refl ∙ greater_first k j [] [] l)))

later_row : (c : Context) (j k : ℕ) → j ≤ k → precedes (place k c) (place j c) ≡ false
later_row c j k l = elim (up_to j k l) [
  | inl e ↦ ap (λ i. precedes (place k c) (place i c)) e ∙ never_before_itself (place k c)
  | inr m ↦ rises c.outer c.inner j k m
]
  where
    up_to : (j k : ℕ) → j ≤ k → (j ≡ k) ⊎ (j < k)
    up_to j k l = grind arith

-- a lack at a row, as it is found
record At (seats : List Seat) (c : Context) (n : ℕ) (rows : List TermRow) (l : ModelViolation) : Type 0 where
  number : ℕ
  row : TermRow
  is_row : slice_get rows number ≡ Some row
  name : Name
  missing : missing_at seats c (n + number) row ≡ Some name
  violation_is : l ≡ record { place = place (n + number) c; fault = faults.Missing name }

name_cases : (o : Option Name) → ((name : Name) × (o ≡ Some name)) ⊎ (o ≡ None)
name_cases None = inr refl
name_cases (Some name) = inl (name, refl)

abbrev step : List Seat → Context → ℕ → List TermRow → Option Name → Option ModelViolation
step seats c n rows o = elim o [ Some name ↦ Some (record { place = place n c; fault = faults.Missing name }) | None ↦ missing_from seats c (n + 1) rows ]

told_at : (seats : List Seat) (c : Context) (n : ℕ) (rows : List TermRow) (l : ModelViolation) → missing_from seats c n rows ≡ Some l → At seats c n rows l
told_at seats c n [] l h = absurd (let k : None ≡ Some l = h in cc)
told_at seats c n (row ∷ rows) l h = elim (name_cases (missing_at seats c n row)) [
  | inl w ↦
      let k : step seats c n rows (Some w.0) ≡ Some l = ap (step seats c n rows) (sym w.1) ∙ h in
      let z : n + 0 ≡ n = omega arith in
      record {
        number = 0;
        row = row;
        is_row = refl;
        name = w.0;
        missing = ap (λ i. missing_at seats c i row) z ∙ w.1;
        violation_is = sym (same_Some _ _ k) ∙ ap (λ i. record { place = place i c; fault = faults.Missing w.0 }) (sym z);
      }
  | inr none ↦
      let k : step seats c n rows None ≡ Some l = ap (step seats c n rows) (sym none) ∙ h in
      let a = told_at seats c (n + 1) rows l k in
      let z : n + 1 + a.number ≡ n + suc a.number = omega arith in
      record {
        number = suc a.number;
        row = a.row;
        is_row = a.is_row;
        name = a.name;
        missing = ap (λ i. missing_at seats c i a.row) (sym z) ∙ a.missing;
        violation_is = a.violation_is ∙ ap (λ i. record { place = place i c; fault = faults.Missing a.name }) z;
      }
]

found_at : (seats : List Seat) (c : Context) (n : ℕ) (rows : List TermRow) (k : ℕ) (row : TermRow) (name : Name) → slice_get rows k ≡ Some row
    → missing_at seats c (n + k) row ≡ Some name → (l : ModelViolation) × (missing_from seats c n rows ≡ Some l) × (precedes (place (n + k) c) l.place ≡ false)
found_at seats c n [] zero row name at h = cc
found_at seats c n [] (suc k) row name at h = cc
found_at seats c n (r ∷ rows) zero row name at h =
    let same : r ≡ row = same_Some _ _ at in
    let z : n + 0 ≡ n = omega arith in
    let e : missing_at seats c n r ≡ Some name = ap (missing_at seats c n) same ∙ (ap (λ i. missing_at seats c i row) (sym z) ∙ h) in
    (record { place = place n c; fault = faults.Missing name }, ap (step seats c n rows) e, later_row c n (n + 0) (omega arith))
found_at seats c n (r ∷ rows) (suc k) row name at h = elim (name_cases (missing_at seats c n r)) [
  | inl w ↦ (record { place = place n c; fault = faults.Missing w.0 }, ap (step seats c n rows) w.1, later_row c n (n + suc k) (omega arith))
  | inr none ↦
      let z : n + 1 + k ≡ n + suc k = omega arith in
      let w = found_at seats c (n + 1) rows k row name at (ap (λ i. missing_at seats c i row) z ∙ h) in
      (w.0, ap (step seats c n rows) none ∙ w.1, ap (λ i. precedes (place i c) w.0.place) (sym z) ∙ w.2)
]

-- ---- lacks of an invoice

map_from : {X Y : Type 0} (f : X → Y) (xs : List X) (y : Y) → Contains (map f xs) y → (x : X) × Contains xs x × (f x ≡ y)
map_from f [] y w = absurd (no_member y w)
map_from f (x ∷ xs) y w = elim (member_cases (f x) y (map f xs) w) [
  | inl e ↦ (x, here x xs, e)
  | inr m ↦ (let v = map_from f xs y m in (v.0, there x v.0 xs v.1, v.2))
]

map_to : {X Y : Type 0} (f : X → Y) (xs : List X) (x : X) (y : Y) → Contains xs x → f x ≡ y → Contains (map f xs) y
map_to f [] x y w e = absurd (no_member x w)
map_to f (z ∷ xs) x y w e = elim (member_cases z x xs w) [
  | inl same ↦ subst (λ v. Contains (v ∷ map f xs) y) (sym (ap f same ∙ e)) (here y (map f xs))
  | inr m ↦ there (f z) y (map f xs) (map_to f xs x y m e)
]

zero_more : (k : ℕ) → 0 + k ≡ k
zero_more k = omega arith

missing_told : (es : List Entry) (c : Context) (l : ModelViolation) → IsContextOf es c → missing_in es c ≡ Some l → IsMissing es l
missing_told es c l shown h =
    let a = told_at (seats_in es c) c 0 terms l h in
    record {
      context = c;
      is_context = shown;
      number = a.number;
      row = a.row;
      is_row = a.is_row;
      name = a.name;
      missing = ap (λ i. missing_at (seats_in es c) c i a.row) (sym (zero_more a.number)) ∙ a.missing;
      violation_is = a.violation_is ∙ ap (λ i. record { place = place i c; fault = faults.Missing a.name }) (zero_more a.number);
    }

pub told : (es : List Entry) (lists : Lists) (l : ModelViolation) → first_violation es lists ≡ Some l → IsViolation es lists l
told es lists l h = elim (fold_told (map (missing_in es) (contexts es) ++ map (unlisted lists) es) None l h) [
  | inl e ↦ absurd (let k : None ≡ Some l = e in cc)
  | inr w ↦ elim (append_cases (Some l) (map (missing_in es) (contexts es)) (map (unlisted lists) es) w) [
    | inl a ↦ (let m = map_from (missing_in es) (contexts es) (Some l) a in inl (missing_told es m.0 l (context_shown es m.0 m.1) m.2))
    | inr b ↦ (let m = map_from (unlisted lists) es (Some l) b in inr (m.0, m.1, m.2))
  ]
]

-- Each lack is one that isn't before the one that is told.
pub each_violation : (es : List Entry) (lists : Lists) (m : ModelViolation) → IsViolation es lists m → (l : ModelViolation) × (first_violation es lists
    ≡ Some l) × NotBefore m l
each_violation es lists m (inl w) =
    let a = found_at (seats_in es w.context) w.context 0 terms w.number w.row w.name w.is_row
    (ap (λ i. missing_at (seats_in es w.context) w.context i w.row) (zero_more w.number) ∙ w.missing) in
    let v = fold_first (map (missing_in es) (contexts es) ++ map (unlisted lists) es) None a.0
    (inr (append_front (Some a.0) (map (missing_in es) (contexts es)) (map (unlisted lists) es)
    (map_to (missing_in es) (contexts es) w.context (Some a.0) (shown_context es w.context w.is_context) a.1))) in
    let first : NotBefore m a.0 = ap (λ (x : ModelViolation). precedes x.place a.0.place) w.violation_is ∙
    (ap (λ i. precedes (place i w.context) a.0.place) (sym (zero_more w.number)) ∙ a.2) in
    (v.0, v.1, not_before-trans m a.0 v.0 first v.2)
each_violation es lists m (inr w) =
    fold_first (map (missing_in es) (contexts es) ++ map (unlisted lists) es) None m
    (inr (append_back (Some m) (map (missing_in es) (contexts es)) (map (unlisted lists) es) (map_to (unlisted lists) es w.0 (Some m) w.1 w.2)))

pub first : (es : List Entry) (lists : Lists) (l m : ModelViolation) → first_violation es lists ≡ Some l → IsViolation es lists m → precedes m.place l.place
    ≡ false
first es lists l m h k =
    let w = each_violation es lists m k in
    let same : w.0 ≡ l = same_Some _ _ (sym w.1 ∙ h) in
    subst (λ (x : ModelViolation). precedes m.place x.place ≡ false) same w.2
