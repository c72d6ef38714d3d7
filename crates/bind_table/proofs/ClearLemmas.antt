-- In a well-formed table the path of an added row parts from each other row's by a name.
use Rattle.std.proofs.Common.{◌≡◌, ℕ, zero, suc, ◌+◌, ◌<◌, Bool, true, false, ◌&&◌, ◌||◌, List, [], ◌∷◌, length, Option, Some, None, Ok, refl, sym, ap, ◌∙◌}
use Rattle.std.proofs.Common.{subst, arith}
use Rattle.std.specs.Prelude.{◌==◌, nat_lt, slice_get}
use Rattle.std.proofs.lemmas.Bool.{eqb-true, ltb-true, false≢true}
use Rattle.std.proofs.lemmas.Option.{same_Some}
use Rattle.bind_rows.specs.declared.names.ElementName.{ElementName}
use Rattle.bind_rows.specs.declared.rows.Row.{Row}
use Rattle.bind_rows.specs.declared.rows.Step.{Step}
use Rattle.bind_rows.specs.Added.{is_added, built}
use Rattle.bind_rows.specs.Same.{same_name, same_step, choose}
use Rattle.bind_table.specs.declared.judging.TableKind.{TableKind}
use Rattle.bind_table.specs.declared.judging.TableKind.TheVariants as kinds
use Rattle.bind_table.specs.Crossings.{part_by_name, is_front, is_proper_front}
use Rattle.bind_table.specs.WellFormed.{is_in_context, stands_clear, parts_from, is_held, added_fault, first_fault}
use Rattle.bind_table.proofs.PathLemmas.{name-itself}
use Rattle.bind_table.proofs.SameLemmas.{name-sound}
use Rattle.bind_table.proofs.SoundLemmas.{both, added-at}

-- ---- a front doesn't part

name-back : (a b : ElementName) → same_name a b ≡ true → same_name b a ≡ true
name-back a b h = ap (same_name b) (name-sound a b h) ∙ name-itself b

front-stays : (p q : List Step) → is_front p q ≡ true → part_by_name q p ≡ false
front-stays [] [] h = refl
front-stays [] (t ∷ q) h = refl
front-stays (s ∷ p) [] h = cc
front-stays (s ∷ p) (t ∷ q) h = by (same_name s.name t.name) refl h (front-stays p q)
  where
    inside : (b : Bool) → part_by_name q p ≡ false → choose b (λ _. part_by_name q p) (λ _. false) ≡ false
    inside true k = k
    inside false k = refl

    by : (b : Bool) → same_name s.name t.name ≡ b → choose b (λ _. is_front p q) (λ _. false) ≡ true → (is_front p q ≡ true → part_by_name q p ≡ false)
        → part_by_name (t ∷ q) (s ∷ p) ≡ false
    by true e h f =
        ap (λ b. choose b (λ _. choose (same_step t s) (λ _. part_by_name q p) (λ _. false)) (λ _. true)) (name-back s.name t.name e)
        ∙ inside (same_step t s) (f h)
    by false e h f = absurd (false≢true h)

-- ---- one row beside another

clear-at : (row : Row) (k : ℕ) (others : List Row) (n j : ℕ) (other : Row) → parts_from others n k row ≡ true → slice_get others j ≡ Some other
    → (n + j ≡ k → ⊥) → stands_clear row other ≡ true
clear-at row k [] n j other h at differ = cc
clear-at row k (r ∷ others) n zero other h at differ = by (n == k) refl (both ((n == k) || stands_clear row r) (parts_from others (n + 1) k row) h).0
  where
    by : (b : Bool) → (n == k) ≡ b → (b || stands_clear row r) ≡ true → stands_clear row other ≡ true
    by true e h = absurd (differ (let m = eqb-true n k e in omega (arith, m)))
    by false e h = subst (λ (x : Row). stands_clear row x ≡ true) (same_Some _ _ at) h
clear-at row k (r ∷ others) n (suc j) other h at differ =
    clear-at row k others (n + 1) j other (both ((n == k) || stands_clear row r) (parts_from others (n + 1) k row) h).1 at (λ e. differ (omega (arith, e)))

parts-true : (rows own : List Row) (k : ℕ) (row : Row) → added_fault rows own k row ≡ None → parts_from rows 0 k row ≡ true
parts-true rows own k row h = by (is_in_context own row) (parts_from rows 0 k row) h
  where
    by : (a b : Bool) → choose {A = Option TableKind} a
        (λ _. choose b (λ _. choose (is_held own row) (λ _. None) (λ _. Some kinds.Ambiguous)) (λ _. Some kinds.Ambiguous))
        (λ _. Some kinds.OutsideContext) ≡ None → b ≡ true
    by true true h = refl
    by true false h = cc
    by false b h = cc

or-cases : (a b : Bool) → (a || b) ≡ true → (a ≡ false → b ≡ true)
or-cases true b h e = absurd (false≢true (sym e))
or-cases false b h e = h

pub added-parts-from : (rows : List Row) (j k : ℕ) (row other : Row) → first_fault rows ≡ Ok tt → slice_get rows j ≡ Some row → slice_get rows k ≡ Some other
    → (j ≡ k → ⊥) → is_added row ≡ true
    → part_by_name row.path other.path ≡ true
added-parts-from rows j k row other fine at_j at_k differ added = by (part_by_name row.path other.path) refl
  where
    clear : (i l : ℕ) (a b : Row) → slice_get rows i ≡ Some a → slice_get rows l ≡ Some b → (i ≡ l → ⊥) → is_added a ≡ true → stands_clear a b ≡ true
    clear i l a b at_i at_l differ own = clear-at a i rows 0 l b (parts-true rows (built rows) i a (added-at rows i a fine at_i own)) at_l
        (λ e. differ (omega (arith, e)))

    by : (b : Bool) → part_by_name row.path other.path ≡ b → b ≡ true
    by true e = refl
    by false e =
        let behind = both (is_added other) (is_proper_front row.path other.path)
        (or-cases (part_by_name row.path other.path) _ (clear j k row other at_j at_k differ added) e) in
        let front = both (is_front row.path other.path) (nat_lt (length row.path) (length other.path)) behind.1 in
        let apart = front-stays row.path other.path front.0 in
        let back = both (is_added row) (is_proper_front other.path row.path)
        (or-cases (part_by_name other.path row.path) _ (clear k j other row at_k at_j (λ e. differ (sym e)) behind.0) apart) in
        let further = (both (is_front other.path row.path) (nat_lt (length other.path) (length row.path)) back.1).1 in
        let less = ltb-true (length row.path) (length other.path) front.1 in
        let more = ltb-true (length other.path) (length row.path) further in
        absurd (omega (arith, less, more))
