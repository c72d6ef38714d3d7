-- All that is missing in a context: its first is what is missing first, and each comes before those behind it.
use Rattle.std.proofs.Common.{◌≡◌, ℕ, ◌+◌, ◌<◌, true, List, [], ◌∷◌, ◌++◌, All, Option, Some, None, refl, ◌∙◌, arith}
use Rattle.std.specs.Prelude.{slice_get}
use Rattle.std.specs.List.{AllPairs}
use Rattle.std.proofs.lemmas.Bool.Decides.{nat_tests}
use Rattle.std.proofs.lemmas.List.Elements.{All-nil, All-cons}
use Rattle.std.proofs.lemmas.List.Kept.{AllPairs-cons}
use Rattle.term_table.specs.declared.terms.TermRow.{TermRow}
use Rattle.term_table.specs.declared.contexts.Slot.{Slot}
use Rattle.term_table.specs.declared.contexts.Context.{Context}
use Rattle.term_table.specs.declared.contexts.Seat.{Seat}
use Rattle.term_table.specs.SemanticModel.{terms}
use Rattle.term_table.specs.Places.{slot_place, place, precedes, first_row}
use Rattle.term_table.proofs.RunLemmas.{same_ahead}
use Rattle.inv_terms.specs.declared.violations.Name.{Name}
use Rattle.inv_terms.specs.declared.violations.TermFault.TheVariants as faults
use Rattle.inv_terms.specs.declared.violations.ModelViolation.{ModelViolation}
use Rattle.inv_terms.specs.Lacking.{missing_at, missing_from, first_missing, all_missing_from, all_missing}

-- ---- the first

abbrev violation_at : Context → ℕ → Name → ModelViolation
violation_at c k name = record { place = place k c; fault = faults.Missing name }

first-by : (seats : List Seat) (c : Context) (k : ℕ) (rows : List TermRow) (o : Option Name)
    → missing_from seats c (k + 1) rows ≡ slice_get (all_missing_from seats c (k + 1) rows) 0
    → (elim o [ Some name ↦ Some (violation_at c k name) | None ↦ missing_from seats c (k + 1) rows ])
    ≡ slice_get (elim o [ Some name ↦ violation_at c k name ∷ all_missing_from seats c (k + 1) rows | None ↦ all_missing_from seats c (k + 1) rows ]) 0
first-by seats c k rows (Some name) h = refl
first-by seats c k rows None h = h

first-from : (seats : List Seat) (c : Context) (k : ℕ) (rows : List TermRow) → missing_from seats c k rows ≡ slice_get (all_missing_from seats c k rows) 0
first-from seats c k [] = refl
first-from seats c k (row ∷ rows) = first-by seats c k rows (missing_at seats c k row) (first-from seats c (k + 1) rows)

pub first-is : (seats : List Seat) (c : Context) → first_missing seats c ≡ slice_get (all_missing seats c) 0
first-is seats c = first-from seats c 0 terms

-- ---- their order

less_first : (a b : ℕ) (p q : List ℕ) → a < b → precedes (a ∷ p) (b ∷ q) ≡ true
less_first a b p q g = grind (arith, nat_tests)

before : (outer inner : Option Slot) (j k : ℕ) → j < k
    → precedes (slot_place j outer ++ (slot_place j inner ++ j ∷ [])) (slot_place k outer ++ (slot_place k inner ++ k ∷ [])) ≡ true
before None inner j k l = less_first j k (0 ∷ (slot_place j inner ++ j ∷ [])) (0 ∷ (slot_place k inner ++ k ∷ [])) l
before (Some s) None j k l =
    same_ahead (first_row s.group) (first_row s.group) (s.index ∷ j ∷ 0 ∷ j ∷ []) (s.index ∷ k ∷ 0 ∷ k ∷ []) refl
    ∙ (same_ahead s.index s.index (j ∷ 0 ∷ j ∷ []) (k ∷ 0 ∷ k ∷ []) refl ∙ less_first j k (0 ∷ j ∷ []) (0 ∷ k ∷ []) l)
before (Some s) (Some t) j k l =
    same_ahead (first_row s.group) (first_row s.group) (s.index ∷ first_row t.group ∷ t.index ∷ j ∷ []) (s.index ∷ first_row t.group ∷ t.index ∷ k ∷ []) refl
    ∙ (same_ahead s.index s.index (first_row t.group ∷ t.index ∷ j ∷ []) (first_row t.group ∷ t.index ∷ k ∷ []) refl
    ∙ (same_ahead (first_row t.group) (first_row t.group) (t.index ∷ j ∷ []) (t.index ∷ k ∷ []) refl
    ∙ (same_ahead t.index t.index (j ∷ []) (k ∷ []) refl ∙ less_first j k [] [] l)))

abbrev IsBefore : ModelViolation → ModelViolation → Type 0
IsBefore a b = precedes a.place b.place ≡ true

behind-by : (seats : List Seat) (c : Context) (k : ℕ) (rows : List TermRow) (one : ModelViolation) (o : Option Name) → precedes one.place (place k c) ≡ true
    → All (IsBefore one) (all_missing_from seats c (k + 1) rows)
    → All (IsBefore one) (elim o [ Some name ↦ violation_at c k name ∷ all_missing_from seats c (k + 1) rows | None ↦ all_missing_from seats c (k + 1) rows ])
behind-by seats c k rows one (Some name) e h = All-cons (IsBefore one) (violation_at c k name) (all_missing_from seats c (k + 1) rows) e h
behind-by seats c k rows one None e h = h

behind-from : (seats : List Seat) (c : Context) (j k : ℕ) (name : Name) (rows : List TermRow) → j < k →
    All (IsBefore (violation_at c j name)) (all_missing_from seats c k rows)
behind-from seats c j k name [] l = All-nil (IsBefore (violation_at c j name))
behind-from seats c j k name (row ∷ rows) l =
    behind-by seats c k rows (violation_at c j name) (missing_at seats c k row) (before c.outer c.inner j k l)
    (behind-from seats c j (k + 1) name rows (omega (arith, l)))

pairs-by : (seats : List Seat) (c : Context) (k : ℕ) (rows : List TermRow) (o : Option Name) → AllPairs IsBefore (all_missing_from seats c (k + 1) rows)
    → AllPairs IsBefore (elim o [ Some name ↦ violation_at c k name ∷ all_missing_from seats c (k + 1) rows | None ↦ all_missing_from seats c (k + 1) rows ])
pairs-by seats c k rows (Some name) h = AllPairs-cons IsBefore (violation_at c k name) (all_missing_from seats c (k + 1) rows)
    (behind-from seats c k (k + 1) name rows (omega arith)) h
pairs-by seats c k rows None h = h

pairs-nil : AllPairs IsBefore []
pairs-nil i j d lt below = absurd (omega arith)

pairs-from : (seats : List Seat) (c : Context) (k : ℕ) (rows : List TermRow) → AllPairs IsBefore (all_missing_from seats c k rows)
pairs-from seats c k [] = pairs-nil
pairs-from seats c k (row ∷ rows) = pairs-by seats c k rows (missing_at seats c k row) (pairs-from seats c (k + 1) rows)

pub in-order : (seats : List Seat) (c : Context) → AllPairs IsBefore (all_missing seats c)
in-order seats c = pairs-from seats c 0 terms
