-- The lines that are kept are those of the tree of lines, with the rows of the table.
use Rattle.std.proofs.Common.{◌≡◌, ℕ, ◌+◌, Bool, true, false, List, [], ◌∷◌, ◌++◌, length, Option, Some, refl, ap, sym, ◌∙◌, append_assoc, length-append, arith}
use Rattle.std.specs.Prelude.{◌||◌, map, nat_lt, slice_get}
use Rattle.std.specs.List.{flat_map, list_any}
use Rattle.std.proofs.lemmas.List.{append-nil, take_at}
use Rattle.std.proofs.lemmas.List.Folds.{list_any-append}
use Rattle.node_arena.specs.Document.{Document}
use Rattle.bind_rows.specs.declared.rows.Row.{Row}
use Rattle.bind_rows.specs.declared.rows.Step.{Step}
use Rattle.bind_rows.specs.Same.{same_step, choose}
use Rattle.bind_table.specs.declared.lines.Line.{Line}
use Rattle.bind_table.specs.Lines.{Cell, Plan, nothing, a_line, into, own_cells, add, grown, numbers, flat, plan_of}
use Rattle.bind_walk.specs.declared.lines.FoundLine.{FoundLine}
use Rattle.bind_walk.specs.declared.lines.FoundRow.{FoundRow}
use Rattle.bind_walk.specs.Found.{found_element, found_guard}
use Rattle.bind_walk.specs.Lines.{found_cell, found_at, row_at, is_built_one, is_built_at, has_built, place_if, line_place, found_line, found_lines}
use Rattle.bind_walk.specs.Lines.{cell_built, some_built, own_place, lined}
use Rattle.bind_walk.proofs.SortLemmas.{Every, every-append}

-- ---- what holds of all cells of lines

module _ (P : Cell → Type 0) where
  abbrev Cells : Plan → Type 0
  Cells nothing = Unit {0}
  Cells (a_line s cells inside rest) = Every P cells × (Cells inside × Cells rest)

  module _ (s : Step) (own : List Cell → List Cell) (deeper : Plan → Plan) (owns : (cells : List Cell) → Every P cells → Every P (own cells))
      (deepens : (plan : Plan) → Cells plan → Cells (deeper plan)) where
    into-by : (t : Step) (cells : List Cell) (inside rest : Plan) (a b : Bool) → Cells (a_line t cells inside rest) → Cells (into s own deeper rest)
        → Cells (choose a (λ _. a_line t (own cells) (deeper inside) rest)
        (λ _. choose b (λ _. a_line s (own []) (deeper nothing) (a_line t cells inside rest)) (λ _. a_line t cells inside (into s own deeper rest))))
    into-by t cells inside rest true b h others = (owns cells h.0, (deepens inside h.1.0, h.1.1))
    into-by t cells inside rest false true h others = (owns [] tt, (deepens nothing tt, h))
    into-by t cells inside rest false false h others = (h.0, (h.1.0, others))

    into-cells : (plan : Plan) → Cells plan → Cells (into s own deeper plan)
    into-cells nothing h = (owns [] tt, (deepens nothing tt, tt))
    into-cells (a_line t cells inside rest) h =
        into-by t cells inside rest (same_step s t) (nat_lt s.number t.number) h (into-cells rest h.1.1)

  own-cells : (steps : List Step) (cell : Cell) → P cell → (cells : List Cell) → Every P cells → Every P (own_cells steps cell cells)
  own-cells [] cell p cells h = every-append P cells (cell ∷ []) h (p, tt)
  own-cells (s ∷ steps) cell p cells h = h

  add-cells : (steps : List Step) (cell : Cell) → P cell → (plan : Plan) → Cells plan → Cells (add steps cell plan)
  add-cells [] cell p plan h = h
  add-cells (s ∷ steps) cell p plan h = into-cells s (own_cells steps cell) (add steps cell) (own-cells steps cell p) (add-cells steps cell p) plan h

module _ (d : Document) (rows : List Row) where
  -- The cell has the row of its number.
  abbrev HasRow : Cell → Type 0
  HasRow cell = slice_get rows cell.number ≡ Some cell.row

  get-seam : (front : List Row) (row : Row) (rest : List Row) → slice_get (front ++ row ∷ rest) (length front) ≡ Some row
  get-seam [] row rest = refl
  get-seam (r ∷ front) row rest = get-seam front row rest

  grown-cells : (front rest : List Row) (n : ℕ) (plan : Plan) → rows ≡ front ++ rest → length front ≡ n → Cells HasRow plan → Cells HasRow (grown plan n rest)
  grown-cells front [] n plan e long h = h
  grown-cells front (row ∷ rest) n plan e long h =
      let cell : Cell = record { number = n; row = row } in
      let there : HasRow cell =
      ap (λ k. slice_get rows k) (sym long) ∙ (ap (λ rs. slice_get rs (length front)) e ∙ get-seam front row rest) in
      grown-cells (front ++ row ∷ []) rest (n + 1) (add row.path cell plan) (e ∙ sym (append_assoc front (row ∷ []) rest))
      (length-append front (row ∷ []) ∙ ap (λ k. k + 1) long) (add-cells HasRow row.path cell there plan h)

  cells-are : (cells : List Cell) → Every HasRow cells → flat_map (found_at d rows) (numbers cells) ≡ flat_map (found_cell d) cells
  cells-are [] h = refl
  cells-are (cell ∷ cells) h =
      ap (λ o. row_at d cell.number o ++ flat_map (found_at d rows) (numbers cells)) h.0 ∙ ap (λ xs. found_cell d cell ++ xs) (cells-are cells h.1)

  cells-built : (cells : List Cell) → Every HasRow cells → list_any (is_built_at rows) (numbers cells) ≡ list_any cell_built cells
  cells-built [] h = refl
  cells-built (cell ∷ cells) h =
      ap (λ o. is_built_one o || list_any (is_built_at rows) (numbers cells)) h.0 ∙ ap (λ b. cell_built cell || b) (cells-built cells h.1)

  lines-built : (plan : Plan) → Cells HasRow plan → list_any (has_built rows) (flat plan) ≡ some_built plan
  lines-built nothing h = refl
  lines-built (a_line s cells inside rest) h =
      ap (λ b. b || list_any (has_built rows) (flat inside ++ flat rest)) (cells-built cells h.0)
      ∙ ap (λ b. list_any cell_built cells || b)
      (list_any-append (has_built rows) (flat inside) (flat rest)
      ∙ (ap (λ b. b || list_any (has_built rows) (flat rest)) (lines-built inside h.1.0) ∙ ap (λ b. some_built inside || b) (lines-built rest h.1.1)))

  abbrev one_line : Step → List Cell → Plan → Line
  one_line s cells inside = record { step = s; rows = numbers cells; size = length (flat inside) }

  place-is : (s : Step) (cells : List Cell) (inside : Plan) (behind : List Line) → Every HasRow cells → Cells HasRow inside
      → line_place rows (one_line s cells inside) (flat inside ++ behind) ≡ own_place s cells inside
  place-is s cells inside behind h k =
      ap (λ ls. place_if (list_any (is_built_at rows) (numbers cells) || list_any (has_built rows) ls) s.number)
      (take_at (flat inside) behind (length (flat inside)) refl)
      ∙ (ap (λ b. place_if (b || list_any (has_built rows) (flat inside)) s.number) (cells-built cells h)
      ∙ ap (λ b. place_if (list_any cell_built cells || b) s.number) (lines-built inside k))

  flat-long : (plan : Plan) → length (flat plan) ≡ length (lined d plan)
  flat-long nothing = refl
  flat-long (a_line s cells inside rest) =
      let lines = length-append (flat inside) (flat rest) in
      let found = length-append (lined d inside) (lined d rest) in
      let first = flat-long inside in
      let second = flat-long rest in
      omega (arith, lines, found, first, second)

  lines-are : (plan : Plan) (behind : List Line) → Cells HasRow plan → found_lines d rows (flat plan ++ behind) ≡ lined d plan ++ found_lines d rows behind
  lines-are nothing behind h = refl
  lines-are (a_line s cells inside rest) behind h =
      let make : List FoundRow → Option ℕ → ℕ → FoundLine =
      λ rs p n. record { name = found_element d s.name; guards = map (found_guard d) s.guards; group = s.group; rows = rs; place = p; size = n } in
      let more : List Line = flat rest ++ behind in
      let tail : found_lines d rows (flat inside ++ more) ≡ lined d inside ++ (lined d rest ++ found_lines d rows behind) =
      lines-are inside more h.1.0 ∙ ap (λ xs. lined d inside ++ xs) (lines-are rest behind h.1.1) in
      let first : FoundLine = found_line d rows (one_line s cells inside) (line_place rows (one_line s cells inside) (flat inside ++ more)) in
      let first_is : first ≡ make (flat_map (found_cell d) cells) (own_place s cells inside) (length (lined d inside)) =
      ap (λ rs. make rs (line_place rows (one_line s cells inside) (flat inside ++ more)) (length (flat inside))) (cells-are cells h.0)
      ∙ (ap (λ p. make (flat_map (found_cell d) cells) p (length (flat inside))) (place-is s cells inside more h.0 h.1.0)
      ∙ ap (make (flat_map (found_cell d) cells) (own_place s cells inside)) (flat-long inside)) in
      ap (λ ls. found_lines d rows (one_line s cells inside ∷ ls)) (append_assoc (flat inside) (flat rest) behind)
      ∙ (ap (λ l. l ∷ found_lines d rows (flat inside ++ more)) first_is
      ∙ ap (λ ls. make (flat_map (found_cell d) cells) (own_place s cells inside) (length (lined d inside)) ∷ ls)
      (tail ∙ sym (append_assoc (lined d inside) (lined d rest) (found_lines d rows behind))))

  pub lines-of : found_lines d rows (flat (plan_of rows)) ≡ lined d (plan_of rows)
  lines-of =
      ap (found_lines d rows) (sym (append-nil (flat (plan_of rows))))
      ∙ (lines-are (plan_of rows) [] (grown-cells [] rows 0 nothing refl refl tt) ∙ append-nil (lined d (plan_of rows)))

  -- ---- line by line

  pub find_more : (found more : List FoundLine) (left behind : List Line) (line : Line) (place : Option ℕ) (one : FoundLine) (whole : List FoundLine)
      → (found ++ found_lines d rows left) ≡ whole → left ≡ line ∷ behind → place ≡ line_place rows line behind → one ≡ found_line d rows line place
      → more ≡ found ++ one ∷ [] → (more ++ found_lines d rows behind) ≡ whole
  find_more found more left behind line place one whole c left_is place_is one_is more_is =
      ap (λ xs. xs ++ found_lines d rows behind) more_is
      ∙ (append_assoc found (one ∷ []) (found_lines d rows behind)
      ∙ (ap (λ x. found ++ (x ∷ found_lines d rows behind)) (one_is ∙ ap (found_line d rows line) place_is)
      ∙ (ap (λ ls. found ++ found_lines d rows ls) (sym left_is) ∙ c)))

  pub find_end : (found : List FoundLine) (left : List Line) (whole : List FoundLine) → (found ++ found_lines d rows left) ≡ whole → left ≡ [] → found ≡ whole
  find_end found left whole c left_is = sym (append-nil found) ∙ (ap (λ ls. found ++ found_lines d rows ls) (sym left_is) ∙ c)
