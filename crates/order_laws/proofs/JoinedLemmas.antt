-- A table in order stays so with a row that joins it, and with those of all terms of an extension.
use Rattle.std.proofs.Common.{◌≡◌, ℕ, ◌+◌, ◌<◌, Bool, true, false, not, List, [], ◌∷◌, ◌++◌, length, inl, inr, refl, sym, ap, ◌∙◌, subst, arith}
use Rattle.std.specs.Prelude.{if◌then◌else◌}
use Rattle.std.specs.List.{list_all}
use Rattle.std.proofs.lemmas.List.Elements.{filter-append}
use Rattle.bind_rows.specs.declared.rows.Row.{Row}
use Rattle.bind_rows.specs.declared.rows.Step.{Step}
use Rattle.bind_rows.specs.declared.tables.DocumentType.{DocumentType}
use Rattle.bind_rows.specs.Added.{is_added, is_built, built}
use Rattle.bind_table.specs.declared.extending.AddedTerm.{AddedTerm}
use Rattle.bind_table.specs.Crossings.{part_by_name}
use Rattle.bind_table.specs.Extending.{added_row, extended}
use Rattle.bind_table.specs.Laid.{element_numbers}
use Rattle.bind_table.specs.Lines.{Cell, plan_of}
use Rattle.binding_laws.proofs.TreeLemmas.{Each}
use Rattle.binding_laws.proofs.ReachLemmas.{Among}
use Rattle.extension_laws.specs.Joins.{Joins, JoinEach}
use Rattle.extension_laws.specs.Ways.{finds, all_below}
use Rattle.extension_laws.proofs.FindLemmas.{plan-more}
use Rattle.extension_laws.proofs.FoundLemmas.{found-row}
use Rattle.order_laws.specs.Order.{rise, paths_of, is_in_order}
use Rattle.order_laws.proofs.ListLemmas.{both}
use Rattle.order_laws.proofs.JoinLemmas.{IsLow, Parts, rise-add, found-low}

-- ---- the paths of the rows before it

each-among : {X : Type 0} (P : X → Type 0) (xs : List X) → ((x : X) → Among x xs → P x) → Each P xs
each-among P [] f = tt
each-among P (x ∷ xs) f = (f x (inl refl), each-among P xs (λ y a. f y (inr a)))

low-path : (top : ℕ) (rows : List Row) (row : Row) → Among row rows → all_below top (element_numbers (plan_of rows)) ≡ true → (path : List Step)
    → row.path ≡ path → IsLow top path
low-path top rows row a below [] e = tt
low-path top rows row a below (s ∷ path) e =
    let long : 0 < length (s ∷ path) = omega arith in
    let there = found-row rows row a (subst (λ p. 0 < length p) (sym e) long) in
    found-low top (s ∷ path) (plan_of rows) (subst (λ p. finds p (plan_of rows) ≡ true) e there) below

built-parts : (top : ℕ) (row : Row) (rows : List Row) → list_all (λ (other : Row). part_by_name row.path other.path) rows ≡ true
    → Each (λ (other : Row). IsLow top other.path) rows → Parts top row.path (paths_of (built rows))
built-parts top row [] h low = tt
built-parts top row (r ∷ rows) h low =
    let w = both (part_by_name row.path r.path) (list_all (λ (other : Row). part_by_name row.path other.path) rows) h in
    by w.0 (is_built r) (built-parts top row rows w.1 low.1)
  where
    by : part_by_name row.path r.path ≡ true → (b : Bool) → Parts top row.path (paths_of (built rows))
        → Parts top row.path (paths_of (if b then r ∷ built rows else built rows))
    by p true later = ((p, low.0), later)
    by p false later = later

-- ---- the table with it

append-nil : {X : Type 0} (xs : List X) → xs ++ [] ≡ xs
append-nil [] = refl
append-nil (x ∷ xs) = ap (λ l. x ∷ l) (append-nil xs)

same-built : (rows : List Row) (row : Row) → is_added row ≡ true → built (rows ++ row ∷ []) ≡ built rows
same-built rows row e =
    filter-append is_built rows (row ∷ []) ∙ (ap (λ b. built rows ++ (if not b then row ∷ [] else [])) e ∙ append-nil (built rows))

pub order-more : (rows : List Row) (row : Row) → Joins rows row → is_in_order rows ≡ true → is_in_order (rows ++ row ∷ []) ≡ true
order-more rows row joins h =
    let cell : Cell = record { number = 0 + length rows; row = row } in
    let low = each-among (λ (r : Row). IsLow joins.top r.path) rows (λ r a. low-path joins.top rows r a joins.below r.path refl) in
    (λ i. rise (paths_of (same-built rows row joins.added i)) 0 (plan-more rows row i))
    ∙ rise-add joins.top cell row.path (paths_of (built rows)) 0 (plan_of rows) (built-parts joins.top row rows joins.parts low) joins.fresh h

pub order-extended : (table : DocumentType) (rows : List Row) (terms : List AddedTerm) → JoinEach table rows terms → is_in_order rows ≡ true
    → is_in_order (extended table rows terms) ≡ true
order-extended table rows [] joins h = h
order-extended table rows (a ∷ terms) joins h =
    order-extended table (rows ++ added_row table rows a ∷ []) terms joins.1 (order-more rows (added_row table rows a) joins.0 h)
