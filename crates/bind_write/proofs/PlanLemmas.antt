-- The tree of lines of a table, and its lines in preorder.
use Rattle.std.proofs.Common.{◌≡◌, ℕ, ◌+◌, ◌≤◌, Bool, true, false, List, [], ◌∷◌, ◌++◌, length, take, drop, Some, refl, ap, sym, ◌∙◌, arith, append_assoc}
use Rattle.std.specs.Prelude.{nat_lt, slice_get}
use Rattle.std.proofs.lemmas.Grind.{common_steps}
use Rattle.bind_rows.specs.declared.rows.Row.{Row}
use Rattle.bind_rows.specs.declared.rows.Step.{Step}
use Rattle.bind_rows.specs.Same.{same_step, choose}
use Rattle.bind_table.specs.declared.lines.Line.{Line}
use Rattle.bind_table.specs.Lines.{Plan, Cell, nothing, a_line, flat, numbers, plan_of, grown, add, own_cells, into}
use Rattle.bind_table.specs.Growing.{AreLines}
use Rattle.bind_write.specs.Holding.{IsCellOf, AreCellsOf, HasRows, IsPlanOf, IsLineOf}

-- ---- the cells of a table are its rows

either_way : {A : Type 0} (P : A → Type 0) (b : Bool) (f g : Unit {0} → A) → P (f tt) → P (g tt) → P (choose b f g)
either_way P true f g p q = p
either_way P false f g p q = q

cells-append : (rows : List Row) (cells : List Cell) (cell : Cell) → AreCellsOf rows cells → IsCellOf rows cell → AreCellsOf rows (cells ++ cell ∷ [])
cells-append rows [] cell a i = (i, tt)
cells-append rows (c ∷ cells) cell a i = (a.0, cells-append rows cells cell a.1 i)

into-rows : (rows : List Row) (s : Step) (own : List Cell → List Cell) (deeper : Plan → Plan) →
    ((cells : List Cell) → AreCellsOf rows cells → AreCellsOf rows (own cells))
    → ((plan : Plan) → HasRows rows plan → HasRows rows (deeper plan)) → (plan : Plan) → HasRows rows plan → HasRows rows (into s own deeper plan)
into-rows rows s own deeper o d nothing h = (o [] tt, (d nothing tt, tt))
into-rows rows s own deeper o d (a_line t cells inside rest) h =
    either_way (HasRows rows) (same_step s t) (λ _. a_line t (own cells) (deeper inside) rest)
    (λ _. choose (nat_lt s.number t.number) (λ _. a_line s (own []) (deeper nothing) (a_line t cells inside rest))
    (λ _. a_line t cells inside (into s own deeper rest)))
    (o cells h.0, (d inside h.1.0, h.1.1))
    (either_way (HasRows rows) (nat_lt s.number t.number) (λ _. a_line s (own []) (deeper nothing) (a_line t cells inside rest))
    (λ _. a_line t cells inside (into s own deeper rest))
    (o [] tt, (d nothing tt, h))
    (h.0, (h.1.0, into-rows rows s own deeper o d rest h.1.1)))

own-rows : (rows : List Row) (steps : List Step) (cell : Cell) → IsCellOf rows cell → (cells : List Cell) → AreCellsOf rows cells →
    AreCellsOf rows (own_cells steps cell cells)
own-rows rows [] cell i cells a = cells-append rows cells cell a i
own-rows rows (s ∷ steps) cell i cells a = a

add-rows : (rows : List Row) (steps : List Step) (cell : Cell) → IsCellOf rows cell → (plan : Plan) → HasRows rows plan → HasRows rows (add steps cell plan)
add-rows rows [] cell i plan h = h
add-rows rows (s ∷ steps) cell i plan h = into-rows rows s (own_cells steps cell) (add steps cell) (own-rows rows steps cell i)
    (add-rows rows steps cell i) plan h

got-behind : (front rows : List Row) (row : Row) → slice_get (front ++ row ∷ rows) (length front) ≡ Some row
got-behind [] rows row = refl
got-behind (x ∷ front) rows row = got-behind front rows row

grown-rows : (all front rows : List Row) (n : ℕ) (plan : Plan) → all ≡ front ++ rows → n ≡ length front → HasRows all plan → HasRows all (grown plan n rows)
grown-rows all front [] n plan e m h = h
grown-rows all front (row ∷ rows) n plan e m h =
    grown-rows all (front ++ row ∷ []) rows (n + 1) (add row.path (record { number = n; row = row }) plan) (e ∙ sym (append_assoc front (row ∷ []) rows))
    (grind (arith, common_steps))
    (add-rows all row.path (record { number = n; row = row })
    (ap (λ k. slice_get all k) m ∙ (ap (λ l. slice_get l (length front)) e ∙ got-behind front rows row)) plan h)

pub table_rows : (rows : List Row) → HasRows rows (plan_of rows)
table_rows rows = grown-rows rows [] rows 0 nothing refl refl tt

-- ---- lines that are opened

-- The first line with what is inside it, and the lines beside it.
pub record Opened (rows : List Row) (line : Line) (inside further : List Line) (plan : Plan) : Type 0 where
  pub cells : List Cell
  pub within : Plan
  pub rest : Plan
  pub plan_is : plan ≡ a_line line.step cells within rest
  pub line_is : IsLineOf rows line inside cells within
  pub rest_is : IsPlanOf rows further rest

first_of : {A : Type 0} (x y : A) (xs ys : List A) → x ∷ xs ≡ y ∷ ys → x ≡ y
first_of x y xs ys e = cc

others_of : {A : Type 0} (x y : A) (xs ys : List A) → x ∷ xs ≡ y ∷ ys → xs ≡ ys
others_of x y xs ys e = cc

take-front : {A : Type 0} (xs ys : List A) (n : ℕ) → n ≡ length xs → take n (xs ++ ys) ≡ xs
take-front xs ys n h = grind (arith, common_steps)

drop-front : {A : Type 0} (xs ys : List A) (n : ℕ) → n ≡ length xs → drop n (xs ++ ys) ≡ ys
drop-front xs ys n h = grind (arith, common_steps)

pub opened : (rows : List Row) (lines : List Line) (line : Line) (behind inside further : List Line) (plan : Plan) → lines ≡ line ∷ behind →
    inside ≡ take line.size behind → further ≡ drop line.size behind
    → IsPlanOf rows lines plan → Opened rows line inside further plan
opened rows lines line behind inside further nothing e i f p = let x = p.lines_are in cc
opened rows lines line behind inside further (a_line s cells within rest) e i f p =
    let first : Line = record { step = s; rows = numbers cells; size = length (flat within) } in
    let same : line ≡ first = first_of line first behind (flat within ++ flat rest) (sym e ∙ p.lines_are) in
    let others : behind ≡ flat within ++ flat rest = others_of line first behind (flat within ++ flat rest) (sym e ∙ p.lines_are) in
    let size : line.size ≡ length (flat within) = ap (λ (x : Line). x.size) same in
    record {
      cells = cells;
      within = within;
      rest = rest;
      plan_is = ap (λ x. a_line x cells within rest) (sym (ap (λ (x : Line). x.step) same));
      line_is = record {
        numbers_are = ap (λ (x : Line). x.rows) same;
        own_cells = p.cells_are.0;
        inside_is = record { lines_are = i ∙ (ap (take line.size) others ∙ take-front (flat within) (flat rest) line.size size); cells_are = p.cells_are.1.0 };
      };
      rest_is = record { lines_are = f ∙ (ap (drop line.size) others ∙ drop-front (flat within) (flat rest) line.size size); cells_are = p.cells_are.1.1 };
    }

-- what is known of lines alone
pub record OpenedLines (line : Line) (behind : List Line) : Type 0 where
  pub fits : line.size ≤ length behind
  pub inside : AreLines (take line.size behind)
  pub further : AreLines (drop line.size behind)

opened_plan : (line : Line) (behind : List Line) (plan : Plan) → line ∷ behind ≡ flat plan → OpenedLines line behind
opened_plan line behind nothing e = cc
opened_plan line behind (a_line s cells within rest) e =
    let first : Line = record { step = s; rows = numbers cells; size = length (flat within) } in
    let same : line ≡ first = first_of line first behind (flat within ++ flat rest) e in
    let others : behind ≡ flat within ++ flat rest = others_of line first behind (flat within ++ flat rest) e in
    let size : line.size ≡ length (flat within) = ap (λ (x : Line). x.size) same in
    let long : length behind ≡ length (flat within ++ flat rest) = ap length others in
    record {
      fits = grind (arith, common_steps);
      inside = record { plan = within; is = ap (take line.size) others ∙ take-front (flat within) (flat rest) line.size size };
      further = record { plan = rest; is = ap (drop line.size) others ∙ drop-front (flat within) (flat rest) line.size size };
    }

pub opened_lines : (lines : List Line) (line : Line) (behind : List Line) → lines ≡ line ∷ behind → AreLines lines → OpenedLines line behind
opened_lines lines line behind e a = opened_plan line behind a.plan (sym e ∙ a.is)

pub no_lines : (rows : List Row) (lines : List Line) (plan : Plan) → lines ≡ [] → IsPlanOf rows lines plan → plan ≡ nothing
no_lines rows lines nothing e p = refl
no_lines rows lines (a_line s cells within rest) e p = let x = p.lines_are in cc

pub nothing_left : (lines : List Line) → length lines ≡ 0 → lines ≡ []
nothing_left [] e = refl
nothing_left (line ∷ lines) e = absurd (omega arith)
