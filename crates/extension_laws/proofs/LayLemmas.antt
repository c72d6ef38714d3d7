-- A laid table stays laid where a row joins it.
use Rattle.std.proofs.Common.{◌≡◌, ◌+◌, ◌<◌, Bool, true, ◌&&◌, List, [], ◌∷◌, ◌++◌, length, All, refl, sym, ap, ◌∙◌, subst}
use Rattle.std.specs.List.{list_all}
use Rattle.bind_rows.specs.declared.names.Namespace.{Namespace}
use Rattle.bind_rows.specs.declared.rows.Step.{Step}
use Rattle.bind_rows.specs.declared.rows.Row.{Row}
use Rattle.bind_table.specs.Laid.{element_numbers, are_distinct, end_apart, is_ncname, is_declared, is_writable_leaf, is_writable_plan, is_writable}
use Rattle.bind_table.specs.Lines.{Cell, Plan, nothing, a_line, own_cells, add, plan_of}
use Rattle.bind_write.specs.Documents.{namespace_of}
use Rattle.binding_laws.proofs.ListLemmas.{append-nil}
use Rattle.carrying_laws.proofs.Disjuncts.{and-true}
use Rattle.written_laws.specs.Readable.{all_lines, is_one_root}
use Rattle.extension_laws.specs.Joins.{Joins, are_writable}
use Rattle.extension_laws.specs.Ways.{leaves_by_name}
use Rattle.extension_laws.proofs.AddLemmas.{both}
use Rattle.extension_laws.proofs.FindLemmas.{plan-more}
use Rattle.extension_laws.proofs.JoinLemmas.{is, leaves-lines}
use Rattle.extension_laws.proofs.LaidLemmas.{ends-lines, is_writable_line, writable-lines, distinct-add}
use Rattle.extension_laws.proofs.ReadableLemmas.{AreFine, lines-add}
use Rattle.extension_laws.proofs.ShowLemmas.{rooted-more}

abbrev ends_test : Step → List Cell → Bool
ends_test s cells = end_apart cells

ends-fine : (cell : Cell) (q : List Step) → AreFine ends_test cell q
ends-fine cell [] = tt
ends-fine cell (s ∷ []) = (refl, tt)
ends-fine cell (s ∷ u ∷ q) = (refl, ends-fine cell (u ∷ q))

abbrev can_be_written : Namespace → Step → Bool
can_be_written root s = is_ncname s.name.local && is_declared root s.name.namespace

writable-fine : (root : Namespace) (cell : Cell) → is_writable_leaf cell.row.leaf ≡ true → (q : List Step) → list_all (can_be_written root) q ≡ true
    → AreFine (is_writable_line root) cell q
writable-fine root cell leaf [] h = tt
writable-fine root cell leaf (s ∷ []) h =
    (and-true (can_be_written root s) (is_writable_leaf cell.row.leaf && true) (both (can_be_written root s) true h).0 (ap (λ b. b && true) leaf), tt)
writable-fine root cell leaf (s ∷ u ∷ q) h =
    let w = both (can_be_written root s) (list_all (can_be_written root) (u ∷ q)) h in
    (and-true (can_be_written root s) true w.0 refl, writable-fine root cell leaf (u ∷ q) w.1)

laid-is : (s : Step) (cells : List Cell) (inside : Plan) → is_writable_plan (a_line s cells inside nothing)
    ≡ (are_distinct (element_numbers (a_line s cells inside nothing)) &&
    (all_lines ends_test (a_line s cells inside nothing) && all_lines (is_writable_line s.name.namespace) (a_line s cells inside nothing)))
laid-is s cells inside = λ i.
    are_distinct (s.number ∷ sym (append-nil (element_numbers inside)) i)
    && (ends-lines (a_line s cells inside nothing) i && writable-lines s.name.namespace (a_line s cells inside nothing) i)

pub laid-more : (rows : List Row) (row : Row) (joins : Joins rows row) → All (λ (r : Row). 0 < length r.path) rows → is_one_root (plan_of rows) ≡ true
    → is_writable rows ≡ true → is_writable (rows ++ row ∷ []) ≡ true
laid-more rows row joins long one h =
    let r = rooted-more rows row joins long one in
    let cell : Cell = record { number = 0 + length rows; row = row } in
    let root = r.step.name.namespace in
    let now = plan_of (rows ++ row ∷ []) in
    let line : Plan = a_line r.step r.cells r.inside nothing in
    let was : (are_distinct (element_numbers (plan_of rows)) && (all_lines ends_test (plan_of rows) && all_lines (is_writable_line root) (plan_of rows))) ≡ true
    =
    (λ i. are_distinct (element_numbers (r.was i)) && (all_lines ends_test (r.was i) && all_lines (is_writable_line root) (r.was i)))
    ∙ (sym (laid-is r.step r.cells r.inside) ∙ (sym (ap is_writable_plan r.was) ∙ h)) in
    let a = both (are_distinct (element_numbers (plan_of rows))) (all_lines ends_test (plan_of rows) && all_lines (is_writable_line root) (plan_of rows)) was in
    let b = both (all_lines ends_test (plan_of rows)) (all_lines (is_writable_line root) (plan_of rows)) a.1 in
    let leaves = subst (λ p. leaves_by_name p (plan_of rows) ≡ true) r.path (leaves-lines rows row joins long) in
    let names : list_all (can_be_written root) row.path ≡ true = ap (λ o. are_writable o row.path) (sym (ap namespace_of r.was)) ∙ joins.writable in
    let leaf = ap is_writable_leaf (is rows row joins).leaf in
    let ends = lines-add ends_test r.step r.steps cell (ends-fine cell (r.step ∷ r.steps)) (plan_of rows) leaves b.0 in
    let written = lines-add (is_writable_line root) r.step r.steps cell
    (subst (λ p. AreFine (is_writable_line root) cell p) r.path (writable-fine root cell leaf row.path names)) (plan_of rows) leaves b.1 in
    let distinct = distinct-add joins.top row.path cell (plan_of rows) joins.fresh joins.below a.0 in
    let grown : now ≡ add row.path cell (plan_of rows) = plan-more rows row in
    let grown_so : now ≡ add (r.step ∷ r.steps) cell (plan_of rows) = grown ∙ ap (λ p. add p cell (plan_of rows)) r.path in
    ap is_writable_plan r.is
    ∙ (laid-is r.step (own_cells r.steps cell r.cells) (add r.steps cell r.inside)
    ∙ ((λ i. are_distinct (element_numbers (sym r.is i)) && (all_lines ends_test (sym r.is i) && all_lines (is_writable_line root) (sym r.is i)))
    ∙ and-true (are_distinct (element_numbers now)) (all_lines ends_test now && all_lines (is_writable_line root) now)
    (ap (λ plan. are_distinct (element_numbers plan)) grown ∙ distinct)
    (and-true (all_lines ends_test now) (all_lines (is_writable_line root) now) (ap (all_lines ends_test) grown_so ∙ ends)
    (ap (all_lines (is_writable_line root)) grown_so ∙ written))))
