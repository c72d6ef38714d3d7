-- The whole page visits the seat of each entry of an invoice once.
use Rattle.std.proofs.Common.{◌≡◌, ◌≢◌, ℕ, ◌≤◌, false, List, ◌++◌, refl, sym, ◌∙◌}
use Rattle.std.specs.Prelude.{Option, Some, None, flat_map}
use Rattle.std.proofs.lemmas.Bool.{and_left}
use Rattle.term_table.specs.declared.groups.Group.{Group}
use Rattle.term_table.specs.declared.terms.Term.{Term}
use Rattle.term_table.specs.declared.contexts.Context.{Context}
use Rattle.term_table.specs.declared.contexts.Seat.{Seat}
use Rattle.term_table.specs.Contexts.{slot_group, same_groups}
use Rattle.page_tables.specs.declared.forms.Holds.{Holds}
use Rattle.page_tables.specs.declared.forms.Holds.TheVariants as holds
use Rattle.page_tables.specs.Tables.{Part, Item, Cell, Row, Section, Table}
use Rattle.page_tables.specs.Tables as tables
use Rattle.page_tables.specs.Standing.{Standing}
use Rattle.page_values.specs.Places.{Place, numbers_to, count_in, occurrence}
use Rattle.invoice_page.specs.Page.{bt}
use Rattle.page_laws.specs.Visits.{of_term, of_item, of_held, of_cell, of_cells, of_row, of_section, of_table, visits_of}
use Rattle.page_laws.proofs.StandingLemmas.{term_standings, item_standings, held_standings, cells_standings, row_standings, section_standings}
use Rattle.page_laws.proofs.StandingLemmas.{table_standings, page_standings}
use Rattle.page_laws.proofs.TallyLemmas.{tally, tally-none, tally-numbers, tally-both, tally-row}
use Rattle.page_laws.proofs.VisitLemmas.{visit, stands, IsOff, AreApart, IsWay, off-parts, off-one, apart-parts, apart-one, term-tally, part-tally}
use Rattle.page_laws.proofs.VisitLemmas.{layout-tally}

module _ (own : Term) (c : Context) where
  -- ---- cells

  -- Neither the place nor an occurrence in it is the seat's.
  pub record IsOffWhole (place : Place) : Type 0 where
    pub here : IsOff own c place
    pub inside : (group : Group) (k : ℕ) → IsOff own c (occurrence place group k)

  module _ (place : Place) (off : IsOffWhole place) where
    off-item : (item : Item) → tally (visit own c) (of_item place item) ≡ 0
    off-item item = by item.0
      where
        by : (o : Option Group)
            → tally (visit own c) (of_item place (o, item.1, item.2, item.3)) ≡ 0
        by None = off-one own c place off.here item
        by (Some group) =
            tally-none (visit own c) _ (λ k. off-one own c (occurrence place group k) (off.inside group k) item) (numbers_to (count_in place group))

    off-held : (kind : Holds) (parts : List Part) (items : List Item) → tally (visit own c) (of_held place kind parts items) ≡ 0
    off-held holds.Words parts items = refl
    off-held holds.Parts parts items = off-parts own c place off.here parts
    off-held holds.Layout parts items = tally-none (visit own c) (of_item place) off-item items

    off-cells : (cells : List Cell) → tally (visit own c) (of_cells place cells) ≡ 0
    off-cells cells = tally-none (visit own c) (of_cell place) (λ (cell : Cell). off-held cell.1 cell.3 cell.4) cells

  -- standings in occurrences of another outer group
  module _ (outer : Group) (apart : same_groups (Some outer) (slot_group c.outer) ≡ false) where
    apart-with : (inner : Option Group) → AreApart own c (Some outer) inner
    apart-with inner = and_left (same_groups (Some outer) (slot_group c.outer)) _ apart

    apart-item : (item : Item) → tally (stands own c) (item_standings own (Some outer) item) ≡ 0
    apart-item item = by item.0
      where
        by : (o : Option Group) → tally (stands own c) (item_standings own (Some outer) (o, item.1, item.2, item.3)) ≡ 0
        by None = apart-one own c (Some outer) None (apart-with None) item
        by (Some group) = apart-one own c (Some outer) (Some group) (apart-with (Some group)) item

    apart-held : (kind : Holds) (parts : List Part) (items : List Item) → tally (stands own c) (held_standings own (Some outer) kind parts items) ≡ 0
    apart-held holds.Words parts items = refl
    apart-held holds.Parts parts items = apart-parts own c (Some outer) None (apart-with None) parts
    apart-held holds.Layout parts items = tally-none (stands own c) (item_standings own (Some outer)) apart-item items

    apart-cells : (cells : List Cell) → tally (stands own c) (cells_standings own (Some outer) cells) ≡ 0
    apart-cells cells =
        tally-none (stands own c) (λ (cell : Cell). held_standings own (Some outer) cell.1 cell.3 cell.4)
        (λ (cell : Cell). apart-held cell.1 cell.3 cell.4) cells

  module _ (place : Place) (outer : Option Group) (way : IsWay own c place outer) where
    held-tally : (kind : Holds) (parts : List Part) (items : List Item)
        → tally (visit own c) (of_held place kind parts items) ≡ tally (stands own c) (held_standings own outer kind parts items)
    held-tally holds.Words parts items = refl
    held-tally holds.Parts parts items = part-tally own c place outer None way.here parts
    held-tally holds.Layout parts items = layout-tally own c place outer way items

    cells-tally : (cells : List Cell) → tally (visit own c) (of_cells place cells) ≡ tally (stands own c) (cells_standings own outer cells)
    cells-tally cells =
        tally-both (visit own c) (stands own c) (of_cell place) (λ (cell : Cell). held_standings own outer cell.1 cell.3 cell.4)
        (λ (cell : Cell). held-tally cell.1 cell.3 cell.4) cells

  -- ---- rows of tables

  pub data IsRowIn (place : Place) (group : Group) : Type 0 where
    row_among : (k : ℕ) → 1 ≤ k → k ≤ count_in place group → IsWay own c (occurrence place group k) (Some group)
        → ((j : ℕ) → j ≢ k → IsOffWhole (occurrence place group j)) → IsRowIn place group
    row_elsewhere : ((j : ℕ) → IsOffWhole (occurrence place group j)) → same_groups (Some group) (slot_group c.outer) ≡ false → IsRowIn place group

  row-tally : (place : Place) (row : Row) → IsRowIn place row.0 → tally (visit own c) (of_row place row) ≡ tally (stands own c) (row_standings own row)
  row-tally place row (row_among k first last way others) =
      tally-numbers (visit own c) (λ j. of_cells (occurrence place row.0 j) row.1) (count_in place row.0) k first last
      (λ j h. off-cells (occurrence place row.0 j) (others j h) row.1)
      ∙ cells-tally (occurrence place row.0 k) (Some row.0) way row.1
  row-tally place row (row_elsewhere off apart) =
      tally-none (visit own c) (λ j. of_cells (occurrence place row.0 j) row.1) (λ j. off-cells (occurrence place row.0 j) (off j) row.1)
      (numbers_to (count_in place row.0))
      ∙ sym (apart-cells row.0 apart row.1)

  -- ---- the page

  record Agrees (seats : List Seat) (standings : List Standing) : Type 0 where
    same : tally (visit own c) seats ≡ tally (stands own c) standings

  agree : (seats : List Seat) (standings : List Standing) → tally (visit own c) seats ≡ tally (stands own c) standings → Agrees seats standings
  agree seats standings h = record { same = h }

  agree-row : (a b : List Seat) (d e : List Standing) → Agrees a d → Agrees b e → Agrees (a ++ b) (d ++ e)
  agree-row a b d e h k = record { same = tally-row (visit own c) (stands own c) a b d e h.same k.same }

  module _ (place : Place) (way : IsWay own c place None) (rows : (group : Group) → IsRowIn place group) where
    section-tally : (section : Section) → tally (visit own c) (of_section place section) ≡ tally (stands own c) (section_standings own section)
    section-tally section = layout-tally own c place None way section.2

    table-tally : (table : Table) → tally (visit own c) (of_table place table) ≡ tally (stands own c) (table_standings own table)
    table-tally table = tally-both (visit own c) (stands own c) (of_row place) (row_standings own) (λ (row : Row). row-tally place row (rows row.0)) table.3

    section-agrees : (section : Section) → Agrees (of_section place section) (section_standings own section)
    section-agrees section = agree (of_section place section) (section_standings own section) (section-tally section)

    table-agrees : (table : Table) → Agrees (of_table place table) (table_standings own table)
    table-agrees table = agree (of_table place table) (table_standings own table) (table-tally table)

    sections-agree : (list : List Section) → Agrees (flat_map (of_section place) list) (flat_map (section_standings own) list)
    sections-agree list =
        agree (flat_map (of_section place) list) (flat_map (section_standings own) list)
        (tally-both (visit own c) (stands own c) (of_section place) (section_standings own) section-tally list)

    head-agrees : Agrees (of_term place (bt 1)) (term_standings None None (bt 1))
    head-agrees = agree (of_term place (bt 1)) (term_standings None None (bt 1)) (term-tally own c place None None way.here (bt 1))

    page-agrees : Agrees (visits_of place) (page_standings own)
    page-agrees =
        agree-row _ _ _ _ head-agrees
        (agree-row _ _ _ _ (section-agrees tables.facts)
        (agree-row _ _ _ _ (sections-agree tables.parties)
        (agree-row _ _ _ _ (table-agrees tables.lines)
        (agree-row _ _ _ _ (table-agrees tables.extras)
        (agree-row _ _ _ _ (table-agrees tables.vat)
        (agree-row _ _ _ _ (section-agrees tables.totals)
        (sections-agree tables.rest)))))))

    pub page-tally : tally (visit own c) (visits_of place) ≡ tally (stands own c) (page_standings own)
    page-tally = page-agrees.same
