-- What is asked of a tree of lines is asked of its lines in preorder.
use Rattle.std.proofs.Common.{◌≡◌, ℕ, ◌&&◌, ◌||◌, Bool, true, false, not, List, [], ◌∷◌, ◌++◌, length, Some, refl, ap, ◌∙◌, arith}
use Rattle.std.specs.Prelude.{◌==◌, slice_get}
use Rattle.std.specs.List.{list_any, list_all}
use Rattle.std.proofs.lemmas.Bool.{eq-eqb, ne_eqb}
use Rattle.std.proofs.lemmas.List.{map-append}
use Rattle.std.proofs.lemmas.List.Folds.{list_all-append}
use Rattle.std.proofs.lemmas.Grind.{common_steps}
use Rattle.bind_rows.specs.declared.names.Namespace.{Namespace}
use Rattle.bind_rows.specs.declared.rows.Row.{Row}
use Rattle.bind_rows.specs.Same.{same_leaf}
use Rattle.bind_table.specs.declared.lines.Line.{Line}
use Rattle.bind_table.specs.Lines.{Plan, Cell, nothing, a_line, flat, numbers, plan_of}
use Rattle.bind_table.specs.Laid.{element_numbers, are_distinct, end_apart, all_end_apart, is_ncname, is_declared}
use Rattle.bind_table.specs.Laid.{is_writable_leaf, all_writable, is_writable_plan, is_writable}
use Rattle.bind_write.specs.Holding.{AreCellsOf, HasRows}
use Rattle.bind_write.proofs.PlanLemmas.{table_rows}
use Rattle.laid_tables.specs.Lines.{line_numbers, end_alike, rows_end_apart, line_ends_apart, ends_writably, is_writable_line, are_laid}

numbers-flat : (plan : Plan) → line_numbers (flat plan) ≡ element_numbers plan
numbers-flat nothing = refl
numbers-flat (a_line s cells inside rest) =
    ap (λ x. s.number ∷ x) (map-append (λ (line : Line). line.step.number) (flat inside) (flat rest)
    ∙ (ap (λ x. x ++ line_numbers (flat rest)) (numbers-flat inside) ∙ ap (λ x. element_numbers inside ++ x) (numbers-flat rest)))

-- ---- the rows of a line

alike-cells : (rows : List Row) (row : Row) (cells : List Cell) → AreCellsOf rows cells
    → list_any (λ m. end_alike (Some row) (slice_get rows m)) (numbers cells) ≡ list_any (λ (other : Cell). same_leaf row.leaf other.row.leaf) cells
alike-cells rows row [] a = refl
alike-cells rows row (cell ∷ cells) a =
    ap (λ x. end_alike (Some row) x || list_any (λ m. end_alike (Some row) (slice_get rows m)) (numbers cells)) a.0
    ∙ ap (λ b. same_leaf row.leaf cell.row.leaf || b) (alike-cells rows row cells a.1)

apart-cells : (rows : List Row) (cells : List Cell) → AreCellsOf rows cells → rows_end_apart rows (numbers cells) ≡ end_apart cells
apart-cells rows [] a = refl
apart-cells rows (cell ∷ cells) a =
    ap (λ x. not (list_any (λ m. end_alike x (slice_get rows m)) (numbers cells)) && rows_end_apart rows (numbers cells)) a.0
    ∙ (ap (λ x. not x && rows_end_apart rows (numbers cells)) (alike-cells rows cell.row cells a.1)
    ∙ ap (λ x. not (list_any (λ (other : Cell). same_leaf cell.row.leaf other.row.leaf) cells) && x) (apart-cells rows cells a.1))

writable-cells : (rows : List Row) (cells : List Cell) → AreCellsOf rows cells
    → list_all (λ n. ends_writably (slice_get rows n)) (numbers cells) ≡ list_all (λ (cell : Cell). is_writable_leaf cell.row.leaf) cells
writable-cells rows [] a = refl
writable-cells rows (cell ∷ cells) a =
    ap (λ x. ends_writably x && list_all (λ n. ends_writably (slice_get rows n)) (numbers cells)) a.0
    ∙ ap (λ x. is_writable_leaf cell.row.leaf && x) (writable-cells rows cells a.1)

-- ---- all lines

both-parts : (p : Line → Bool) (inside rest : List Line) (a b : Bool) → list_all p inside ≡ a → list_all p rest ≡ b → list_all p (inside ++ rest) ≡ (a && b)
both-parts p inside rest a b i r = list_all-append p inside rest ∙ (ap (λ x. x && list_all p rest) i ∙ ap (λ x. a && x) r)

apart-flat : (rows : List Row) (plan : Plan) → HasRows rows plan → list_all (line_ends_apart rows) (flat plan) ≡ all_end_apart plan
apart-flat rows nothing h = refl
apart-flat rows (a_line s cells inside rest) h =
    ap (λ x. x && list_all (line_ends_apart rows) (flat inside ++ flat rest)) (apart-cells rows cells h.0)
    ∙ ap (λ x. end_apart cells && x)
    (both-parts (line_ends_apart rows) (flat inside) (flat rest) (all_end_apart inside) (all_end_apart rest)
    (apart-flat rows inside h.1.0) (apart-flat rows rest h.1.1))

and-assoc : (a b c : Bool) → ((a && b) && c) ≡ (a && (b && c))
and-assoc true b c = refl
and-assoc false b c = refl

writable-flat : (rows : List Row) (root : Namespace) (plan : Plan) → HasRows rows plan
    → list_all (is_writable_line rows root) (flat plan) ≡ all_writable root plan
writable-flat rows root nothing h = refl
writable-flat rows root (a_line s cells inside rest) h =
    let name : Bool = is_ncname s.name.local && is_declared root s.name.namespace in
    ap (λ x. (name && x) && list_all (is_writable_line rows root) (flat inside ++ flat rest)) (writable-cells rows cells h.0)
    ∙ (and-assoc name (list_all (λ (cell : Cell). is_writable_leaf cell.row.leaf) cells) (list_all (is_writable_line rows root) (flat inside ++ flat rest))
    ∙ ap (λ x. name && (list_all (λ (cell : Cell). is_writable_leaf cell.row.leaf) cells && x))
    (both-parts (is_writable_line rows root) (flat inside) (flat rest) (all_writable root inside) (all_writable root rest)
    (writable-flat rows root inside h.1.0) (writable-flat rows root rest h.1.1)))

-- ---- one root

rotate : (a b c : Bool) → (a && (b && c)) ≡ (c && (a && b))
rotate true true true = refl
rotate true true false = refl
rotate true false true = refl
rotate true false false = refl
rotate false b true = refl
rotate false b false = refl

whole-inside : (xs : List Line) → (length xs == length (xs ++ [])) ≡ true
whole-inside xs = eq-eqb (length xs) (length (xs ++ [])) (grind (arith, common_steps))

shorter-inside : (xs : List Line) (y : Line) (ys : List Line) → (length xs == length (xs ++ y ∷ ys)) ≡ false
shorter-inside xs y ys = ne_eqb (length xs) (length (xs ++ y ∷ ys)) (λ e. grind (arith, common_steps))

laid-lines : (rows : List Row) (plan : Plan) → HasRows rows plan → are_laid rows (flat plan) ≡ is_writable_plan plan
laid-lines rows nothing h = refl
laid-lines rows (a_line s cells inside (a_line t cells' inside' rest)) h =
    let all : List Line = flat (a_line s cells inside (a_line t cells' inside' rest)) in
    ap (λ x. x && (list_all (line_ends_apart rows) all && (list_all (is_writable_line rows s.name.namespace) all && are_distinct (line_numbers all))))
    (shorter-inside (flat inside) (record { step = t; rows = numbers cells'; size = length (flat inside') }) (flat inside' ++ flat rest))
laid-lines rows (a_line s cells inside nothing) h =
    let plan : Plan = a_line s cells inside nothing in
    let root : Namespace = s.name.namespace in
    let all : List Line = flat plan in
    ap (λ x. x && (list_all (line_ends_apart rows) all && (list_all (is_writable_line rows root) all && are_distinct (line_numbers all))))
    (whole-inside (flat inside))
    ∙ (ap (λ x. x && (list_all (is_writable_line rows root) (flat plan) && are_distinct (line_numbers (flat plan)))) (apart-flat rows plan h)
    ∙ (ap (λ x. all_end_apart plan && (x && are_distinct (line_numbers (flat plan)))) (writable-flat rows root plan h)
    ∙ (ap (λ x. all_end_apart plan && (all_writable root plan && are_distinct x)) (numbers-flat plan ∙ append-nothing s.number (element_numbers inside))
    ∙ rotate (all_end_apart plan) (all_writable root plan) (are_distinct (s.number ∷ element_numbers inside)))))
  where
    append-nothing : (n : ℕ) (ns : List ℕ) → n ∷ (ns ++ []) ≡ n ∷ ns
    append-nothing n [] = refl
    append-nothing n (m ∷ ns) = ap (λ x. n ∷ x) (append-nothing m ns)

-- a table's own lines
pub laid-table : (rows : List Row) (lines : List Line) → lines ≡ flat (plan_of rows) → are_laid rows lines ≡ is_writable rows
laid-table rows lines e = ap (are_laid rows) e ∙ laid-lines rows (plan_of rows) (table_rows rows)
