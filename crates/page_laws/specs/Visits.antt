-- Where the page shows values: the term and the context of each, in the page's order, by the tables that the page goes over. The texts
-- of three terms stand in the head besides, without their terms; they don't count.
use Rattle.std.specs.Prelude.{ℕ, Bool, ◌&&◌, List, [], ◌∷◌, ◌++◌, map, filter, flat_map, length, Some, None, is_some, if◌then◌else◌}
use Rattle.term_table.specs.declared.terms.Term.{Term}
use Rattle.term_table.specs.declared.contexts.Seat.{Seat}
use Rattle.term_table.specs.Contexts.{same_context}
use Rattle.term_table.specs.SemanticModel.{same_term}
use Rattle.inv_terms.specs.declared.entries.Entry.{Entry}
use Rattle.inv_terms.specs.Listing.{seat_of}
use Rattle.page_tables.specs.declared.forms.Form.{Form}
use Rattle.page_tables.specs.declared.forms.Form.TheVariants as forms
use Rattle.page_tables.specs.declared.forms.Holds.{Holds}
use Rattle.page_tables.specs.declared.forms.Holds.TheVariants as holds
use Rattle.page_tables.specs.Tables.{Part, Item, Cell, Row, Section, Table}
use Rattle.page_tables.specs.Tables as tables
use Rattle.page_values.specs.Places.{Place, numbers_to, count_in, occurrence, value_at, invoice_place}
use Rattle.page_layouts.specs.Layouts.{is_added}
use Rattle.invoice_page.specs.Page.{bt}

-- a term in a place, where it has a value there
abbrev pub of_term : Place → Term → List Seat
of_term place term = if is_some (value_at place term) then record { term = term; context = place.context } ∷ [] else []

abbrev pub of_parts : Place → List Part → List Seat
of_parts place parts = flat_map (λ (part : Part). of_term place part.1) parts

-- the terms of the place that a user's table adds
abbrev pub of_added : Place → List Seat
of_added place = map seat_of (filter (is_added place) place.entries)

abbrev pub of_form : Place → Form → List Part → List Seat
of_form place forms.Row parts = of_parts place parts
of_form place (forms.RowOf term) parts = of_term place term ++ of_parts place parts
of_form place forms.Paragraph parts = of_parts place parts
of_form place forms.Added parts = of_added place

abbrev pub of_one : Place → Item → List Seat
of_one place item = of_form place item.1 item.3

abbrev pub of_item : Place → Item → List Seat
of_item place item = elim item.0 [
  | None ↦ of_one place item
  | Some group ↦ flat_map (λ k. of_one (occurrence place group k) item) (numbers_to (count_in place group))
]

abbrev pub of_layout : Place → List Item → List Seat
of_layout place items = flat_map (of_item place) items

abbrev pub of_held : Place → Holds → List Part → List Item → List Seat
of_held place holds.Words parts items = []
of_held place holds.Parts parts items = of_parts place parts
of_held place holds.Layout parts items = of_layout place items

abbrev pub of_cell : Place → Cell → List Seat
of_cell place cell = of_held place cell.1 cell.3 cell.4

abbrev pub of_cells : Place → List Cell → List Seat
of_cells place cells = flat_map (of_cell place) cells

abbrev pub of_row : Place → Row → List Seat
of_row place row = flat_map (λ k. of_cells (occurrence place row.0 k) row.1) (numbers_to (count_in place row.0))

abbrev pub of_section : Place → Section → List Seat
of_section place section = of_layout place section.2

abbrev pub of_table : Place → Table → List Seat
of_table place table = flat_map (of_row place) table.3

-- the invoice's number in the head, and the sections
abbrev pub visits_of : Place → List Seat
visits_of place =
    of_term place (bt 1) ++ (of_section place tables.facts ++ (flat_map (of_section place) tables.parties ++ (of_table place tables.lines ++ (of_table place
    tables.extras ++ (of_table place tables.vat ++ (of_section place tables.totals ++ flat_map (of_section place) tables.rest))))))

unfoldable pub visits : List Entry → List Seat
visits es = visits_of (invoice_place es)

-- ---- how often

abbrev pub is_seat : Seat → Seat → Bool
is_seat seat other = same_term other.term seat.term && same_context other.context seat.context

abbrev pub times : Seat → List Seat → ℕ
times seat seats = length (filter (is_seat seat) seats)
