-- No row ahead of those of an invoice line can miss in a line.
use Rattle.std.proofs.Common.{◌≡◌, ℕ, zero, suc, ◌+◌, ◌≤◌, ◌==◌, Bool, true, false, not, ◌&&◌, List, [], ◌∷◌, length, take, drop, Option, Some, None, refl}
use Rattle.std.proofs.Common.{ap, sym, ◌∙◌, arith, if◌then◌else◌}
use Rattle.std.specs.List.{list_all}
use Rattle.term_table.specs.declared.groups.Group.{Group}
use Rattle.term_table.specs.declared.groups.Group.TheVariants as groups
use Rattle.term_table.specs.declared.contexts.Slot.{Slot}
use Rattle.term_table.specs.declared.contexts.Context.{Context}
use Rattle.term_table.specs.declared.contexts.Seat.{Seat}
use Rattle.term_table.specs.declared.terms.TermRow.{TermRow}
use Rattle.term_table.specs.SemanticModel.{terms}
use Rattle.term_table.specs.Groups.{same_group, parent_of, occurrence_of}
use Rattle.term_table.specs.Contexts.{outer_group, same_groups, has_context}
use Rattle.term_table.proofs.GroupLemmas.{both, same_group_is}
use Rattle.term_table.specs.Places.{first_row, place}
use Rattle.inv_terms.specs.declared.violations.Name.{Name}
use Rattle.inv_terms.specs.declared.violations.TermFault.TheVariants as faults
use Rattle.inv_terms.specs.Lacking as spec
use Rattle.inv_terms.specs.LineRows.{first_for, first_row_in}

-- Neither the row's group nor the one around it stands in a line.
is_outside : TermRow → Bool
is_outside row = not (same_groups (Some groups.InvoiceLine) (outer_group row.group)) &&
    not (same_groups (Some groups.InvoiceLine) (outer_group (parent_of row.group)))

front_is : list_all is_outside (take 141 terms) ≡ true
unfolding is_outside terms parent_of occurrence_of
front_is = refl

pub model_length : length terms ≡ 181
unfolding terms
model_length = refl

not_so : (b : Bool) → not b ≡ true → b ≡ false
not_so false h = refl
not_so true h = absurd (cc)

module _ (seats : List Seat) (c : Context) (slot : Slot) (outer : c.outer ≡ Some slot) (line : slot.group ≡ groups.InvoiceLine) where
  away : (group : Group) → not (same_groups (Some groups.InvoiceLine) (outer_group group)) ≡ true → has_context group c ≡ false
  away group h =
      rw (outer, line, not_so (same_groups (Some groups.InvoiceLine) (outer_group group)) h) refl

  none_at : (k : ℕ) (row : TermRow) → is_outside row ≡ true → spec.missing_at seats c k row ≡ None
  unfolding is_outside
  none_at k row h =
      let p = both (not (same_groups (Some groups.InvoiceLine) (outer_group row.group))) _ h in
      rw (away row.group p.0, away (parent_of row.group) p.1) (none_told (spec.is_at_least_once (occurrence_of row.group)) (k == first_row row.group)
      (not (spec.has_occurrence seats row.group)) _)
    where
      none_told : (x y z : Bool) (b : Option Name) → (if (x && (y && (false && z))) then b else None) ≡ None
      none_told true true z b = refl
      none_told true false z b = refl
      none_told false y z b = refl

  skipped : (n k : ℕ) (rows : List TermRow) → list_all is_outside (take n rows) ≡ true →
      spec.all_missing_from seats c (k + n) (drop n rows) ≡ spec.all_missing_from seats c k rows
  skipped zero k rows h = ap (λ m. spec.all_missing_from seats c m rows) (let e : k + 0 ≡ k = omega arith in e)
  skipped (suc n) k [] h = refl
  skipped (suc n) k (row ∷ rows) h =
      let p = both (is_outside row) (list_all is_outside (take n rows)) h in
      ap (λ m. spec.all_missing_from seats c m (drop n rows)) (let e : k + suc n ≡ (k + 1) + n = omega arith in e) ∙
      (skipped n (k + 1) rows p.1 ∙ sym (passed (none_at k row p.0)))
    where
      passed : spec.missing_at seats c k row ≡ None → spec.all_missing_from seats c k (row ∷ rows) ≡ spec.all_missing_from seats c (k + 1) rows
      passed e = ap (λ (o : Option Name). elim o [
        | Some name ↦ record { place = place k c; fault = faults.Missing name } ∷ spec.all_missing_from seats c (k + 1) rows
        | None ↦ spec.all_missing_from seats c (k + 1) rows
      ]) e

pub few : (c : Context) → first_row_in c ≤ 141
few c = by c.outer
  where
    by : (o : Option Slot) → first_for o ≤ 141
    by None = omega arith
    by (Some slot) = of (same_group slot.group groups.InvoiceLine)
      where
        of : (b : Bool) → elim b [ true ↦ 141 | false ↦ 0 ] ≤ 141
        of true = omega arith
        of false = omega arith

pub from_first : (seats : List Seat) (c : Context) →
    spec.all_missing_from seats c (first_row_in c) (drop (first_row_in c) terms) ≡ spec.all_missing seats c
from_first seats c = by c.outer refl
  where
    by : (o : Option Slot) → c.outer ≡ o → spec.all_missing_from seats c (first_for o) (drop (first_for o) terms) ≡ spec.all_missing seats c
    by None e = refl
    by (Some slot) e = of (same_group slot.group groups.InvoiceLine) refl
      where
        of : (b : Bool) → same_group slot.group groups.InvoiceLine ≡ b
            → spec.all_missing_from seats c (elim b [ true ↦ 141 | false ↦ 0 ]) (drop (elim b [ true ↦ 141 | false ↦ 0 ]) terms) ≡ spec.all_missing seats c
        of true same = skipped seats c slot e (same_group_is slot.group groups.InvoiceLine same) 141 0 terms front_is
        of false same = refl
