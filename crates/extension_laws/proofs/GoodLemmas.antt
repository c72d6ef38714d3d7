-- What a well-formed table says of the rows that its last terms added.
use Rattle.std.proofs.Common.{◌≡◌, ℕ, suc, ◌<◌, Bool, true, false, List, [], ◌∷◌, ◌++◌, length, Option, Some, None, Ok, inl, inr, refl, sym, ap, ◌∙◌, arith}
use Rattle.std.proofs.Common.{append_assoc}
use Rattle.std.specs.Prelude.{slice_get}
use Rattle.std.specs.List.{list_all}
use Rattle.bind_rows.specs.declared.rows.Row.{Row}
use Rattle.bind_rows.specs.declared.tables.DocumentType.{DocumentType}
use Rattle.bind_rows.specs.Added.{is_added, built}
use Rattle.bind_rows.specs.Same.{choose}
use Rattle.bind_table.specs.Crossings.{part_by_name}
use Rattle.bind_table.specs.Extending.{added_row, extended}
use Rattle.bind_table.specs.WellFormed.{is_rooted, begins_there, carries_only, is_in_context, parts_from, is_held, added_fault, first_fault}
use Rattle.bind_table.specs.declared.extending.AddedTerm.{AddedTerm}
use Rattle.bind_table.specs.declared.judging.TableKind.{TableKind}
use Rattle.bind_table.specs.declared.judging.TableKind.TheVariants as kinds
use Rattle.bind_table.proofs.ClearLemmas.{added-parts-from}
use Rattle.bind_table.proofs.SoundLemmas.{sound-at, added-at}
use Rattle.binding_laws.proofs.ReachLemmas.{Among}
use Rattle.carrying_laws.proofs.ModelLemmas.{each-all}
use Rattle.extension_laws.proofs.AddLemmas.{both}

-- ---- where it stands in the whole table

pub record Front (rows whole : List Row) : Type 0 where
  pub back : List Row
  pub is : whole ≡ rows ++ back

pub extended-front : (table : DocumentType) (terms : List AddedTerm) (rows : List Row) → Front rows (extended table rows terms)
extended-front table [] rows = record { back = []; is = sym (nothing-behind rows) }
  where
    nothing-behind : (xs : List Row) → xs ++ [] ≡ xs
    nothing-behind [] = refl
    nothing-behind (x ∷ xs) = ap (λ l. x ∷ l) (nothing-behind xs)
extended-front table (a ∷ terms) rows =
    let row = added_row table rows a in
    let f = extended-front table terms (rows ++ row ∷ []) in
    record { back = row ∷ f.back; is = f.is ∙ append_assoc rows (row ∷ []) f.back }

at-end : (rows back : List Row) (row : Row) → slice_get (rows ++ row ∷ back) (length rows) ≡ Some row
at-end [] back row = refl
at-end (r ∷ rows) back row = at-end rows back row

pub record Place (r : Row) (rows back : List Row) : Type 0 where
  pub at : ℕ
  pub low : at < length rows
  pub is : slice_get (rows ++ back) at ≡ Some r

place-among : (r : Row) (rows back : List Row) → Among r rows → Place r rows back
place-among r [] back a = absurd a
place-among r (x ∷ rows) back (inl e) = record { at = 0; low = let z : 0 < suc (length rows) = omega arith in z; is = ap Some e }
place-among r (x ∷ rows) back (inr a) =
    let p = place-among r rows back a in
    let low = p.low in
    record { at = suc p.at; low = let z : suc p.at < suc (length rows) = omega (arith, low) in z; is = p.is }

-- ---- a good row

in-context : (rows own : List Row) (k : ℕ) (row : Row) → added_fault rows own k row ≡ None → is_in_context own row ≡ true
in-context rows own k row h = by (is_in_context own row) h
  where
    by : (a : Bool)
        → choose {A = Option TableKind} a (λ _. choose (parts_from rows 0 k row) (λ _. choose (is_held own row) (λ _. None) (λ _. Some kinds.Ambiguous))
        (λ _. Some kinds.Ambiguous)) (λ _. Some kinds.OutsideContext) ≡ None
        → a ≡ true
    by true h = refl
    by false h = cc

module _ (rows back : List Row) (row : Row) (fine : first_fault (rows ++ row ∷ back) ≡ Ok tt) (added : is_added row ≡ true) where
  pub good-parts : list_all (λ (other : Row). part_by_name row.path other.path) rows ≡ true
  good-parts = each-all (λ (other : Row). part_by_name row.path other.path) rows (λ r a.
      let p = place-among r rows (row ∷ back) a in
      let low = p.low in
      added-parts-from (rows ++ row ∷ back) (length rows) p.at row r fine (at-end rows back row) p.is (λ e. omega (arith, low, e)) added)

  pub good-through : carries_only row.outer row.path ≡ true
  good-through =
      let c = in-context (rows ++ row ∷ back) (built (rows ++ row ∷ back)) (length rows) row
      (added-at (rows ++ row ∷ back) (length rows) row fine (at-end rows back row) added) in
      let b = both (is_rooted (built (rows ++ row ∷ back)) row) _ c in
      let d = both (begins_there (built (rows ++ row ∷ back)) row row.outer) _ b.1 in
      (both (carries_only row.outer row.path) _ d.1).0

  rooted-front : (first : Row) (others : List Row) → is_rooted (first ∷ others) row ≡ is_rooted (first ∷ []) row
  rooted-front first others = refl

pub good-rooted : (first : Row) (rows back : List Row) (row : Row) → first_fault ((first ∷ rows) ++ row ∷ back) ≡ Ok tt → is_rooted (first ∷ rows) row ≡ true
good-rooted first rows back row fine = (sound-at ((first ∷ rows) ++ row ∷ back) (length (first ∷ rows)) row fine (at-end (first ∷ rows) back row)).rooted
