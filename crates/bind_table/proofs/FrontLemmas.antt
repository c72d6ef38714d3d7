-- In a well-formed table one element carries a group, and rows have terms of the semantic model.
use Rattle.std.proofs.Common.{◌≡◌, ℕ, zero, suc, ◌+◌, ◌<◌, Bool, true, false, not, ◌&&◌, ◌||◌, ◌⊎◌, inl, inr, List, [], ◌∷◌, ◌++◌, length, take, Option, Some}
use Rattle.std.proofs.Common.{None, Result, Ok, Err, refl, sym, ap, ◌∙◌, subst, arith, append_assoc}
use Rattle.std.specs.Prelude.{nat_lt, slice_get, is_none}
use Rattle.std.specs.List.{list_all}
use Rattle.std.proofs.lemmas.Bool.{lt-ltb, ltb-true}
use Rattle.std.proofs.lemmas.Option.{same_Some}
use Rattle.term_table.specs.declared.groups.Group.{Group}
use Rattle.term_table.specs.declared.terms.Term.{Term}
use Rattle.term_table.specs.SemanticModel.{is_extension}
use Rattle.term_table.specs.Rows.{row_in}
use Rattle.bind_rows.specs.declared.rows.Row.{Row}
use Rattle.bind_rows.specs.declared.rows.Step.{Step}
use Rattle.bind_rows.specs.declared.rows.Content.TheVariants as contents
use Rattle.bind_rows.specs.Added.{is_added}
use Rattle.bind_rows.specs.Same.{same_step, choose}
use Rattle.bind_table.specs.declared.judging.TableKind.{TableKind}
use Rattle.bind_table.specs.declared.judging.TableKind.TheVariants as kinds
use Rattle.bind_table.specs.declared.judging.TableFault.{TableFault}
use Rattle.bind_table.specs.WellFormed.{carries, carriers, same_path, depth_of, is_carried, first_carrier, all_are, is_carried_once, is_placed, is_nested}
use Rattle.bind_table.specs.WellFormed.{is_rooted, is_outside, is_ambiguous, is_unknown, fault_of, told, first_fault_from, first_fault}
use Rattle.bind_table.specs.Fronts.{HasGroup, front_of}
use Rattle.bind_table.specs.Sound.{IsSoundRow}
use Rattle.bind_table.proofs.SameLemmas.{pointwise-sound, step-sound}
use Rattle.bind_table.proofs.SoundLemmas.{both, are, front-is, Found, sound-at}

placed-at : (rows : List Row) (row : Row) (group : Group) (slot : Option Group) → slot ≡ Some group → is_placed rows row slot ≡ true
    → (is_carried group row ≡ true) × (is_carried_once group rows ≡ true)
placed-at rows row group slot e h = both (is_carried group row) (is_carried_once group rows) (ap (is_placed rows row) (sym e) ∙ h)

has-placed : (rows : List Row) (row : Row) (group : Group) → IsSoundRow rows row → HasGroup group row
    → (is_carried group row ≡ true) × (is_carried_once group rows ≡ true)
has-placed rows row group s (inl e) = placed-at rows row group row.outer e s.outer
has-placed rows row group s (inr e) = placed-at rows row group row.inner e s.inner

list_all-at : {A : Type 0} (p : A → Bool) (xs : List A) (j : ℕ) (x : A) → list_all p xs ≡ true → slice_get xs j ≡ Some x → p x ≡ true
list_all-at p [] j x h at = cc
list_all-at {A = A} p (y ∷ ys) zero x h at = let P : A → Type 0 = λ y. p y ≡ true in subst P (same_Some _ _ at) (both (p y) (list_all p ys) h).0
list_all-at p (y ∷ ys) (suc j) x h at = list_all-at p ys j x (both (p y) (list_all p ys) h).1 at

found : (group : Group) (rows : List Row) (j : ℕ) (row : Row) → slice_get rows j ≡ Some row → is_carried group row ≡ true → Found group rows
found group [] j row at h = cc
found group (r ∷ rows) zero row at h =
    let P : Row → Type 0 = λ r. is_carried group r ≡ true in
    record {
      front = _;
      is = ap (λ b. choose b (λ _. Some (take (depth_of group r.path + 1) r.path)) (λ _. first_carrier group rows))
          (subst P (sym (same_Some _ _ at)) h);
    }
found group (r ∷ rows) (suc j) row at h = let f = by (is_carried group r) (found group rows j row at h) in record { front = f.0; is = f.1 }
  where
    by : (b : Bool) → Found group rows → (front : List Step)
        × (choose b (λ _. Some (take (depth_of group r.path + 1) r.path)) (λ _. first_carrier group rows) ≡ Some front)
    by true f = (_, refl)
    by false f = (f.front, f.is)

front-at : (group : Group) (rows : List Row) (front : List Step) (j : ℕ) (row : Row) → list_all (are front group) rows ≡ true → slice_get rows j ≡ Some row
    → is_carried group row ≡ true
    → front ≡ front_of group row
front-at group rows front j row all at h = front-is group front row (list_all-at (are front group) rows j row all at) h

pub one-element : (rows : List Row) (group : Group) (i j : ℕ) (row other : Row) → first_fault rows ≡ Ok tt → slice_get rows i ≡ Some row
    → slice_get rows j ≡ Some other → HasGroup group row
    → is_carried group other ≡ true → (is_carried group row ≡ true) × (front_of group row ≡ front_of group other)
one-element rows group i j row other fine at_i at_j has carried =
    let p = has-placed rows row group (sound-at rows i row fine at_i) has in
    let f = found group rows j other at_j carried in
    let all = ap (all_are group rows) (sym f.is) ∙ p.1 in
    (p.0, sym (front-at group rows f.front i row all at_i p.0) ∙ front-at group rows f.front j other all at_j carried)

-- ---- terms of rows

first-false : (a b : Bool) → (a || b) ≡ false → a ≡ false
first-false true b e = cc
first-false false b e = refl

-- A row of a well-formed table that nobody added has a term of the semantic model, if it has one.
pub modelled-row : (rows : List Row) (j : ℕ) (row : Row) (term : Term) → first_fault rows ≡ Ok tt → slice_get rows j ≡ Some row → is_added row ≡ false
    → row.content ≡ contents.Term term
    → is_extension term ≡ false
modelled-row rows j row term fine at own content =
    let known = (sound-at rows j row fine at).modelled own in
    first-false (is_extension term) (is_none (row_in term row.outer row.inner)) (ap (is_unknown row) (sym content) ∙ known)
