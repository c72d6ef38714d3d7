-- Where a term stands on the page by its tables, terms that a user's table adds among them, and that it does so once.
use Rattle.std.proofs.Common.{◌≡◌, Bool, true, List, [], ◌∷◌, ◌++◌, refl, ◌∙◌}
use Rattle.std.specs.Prelude.{Option, Some, None, nat_eq, flat_map, Contains, if◌then◌else◌}
use Rattle.std.specs.List.{list_all}
use Rattle.std.proofs.lemmas.Bool.{and_from, eqb-true}
use Rattle.std.proofs.lemmas.List.Folds.{list_all-append}
use Rattle.term_table.specs.declared.groups.Group.{Group}
use Rattle.term_table.specs.declared.terms.Term.{Term}
use Rattle.term_table.specs.declared.terms.TermRow.{TermRow}
use Rattle.term_table.specs.Groups.{parent_of, occurrence_of}
use Rattle.term_table.specs.Contexts.{outer_group, inner_group}
use Rattle.term_table.specs.SemanticModel.{terms, is_extension, extension_rows, listing_rows}
use Rattle.page_tables.specs.declared.forms.Form.{Form}
use Rattle.page_tables.specs.declared.forms.Form.TheVariants as forms
use Rattle.page_tables.specs.declared.forms.Holds.{Holds}
use Rattle.page_tables.specs.declared.forms.Holds.TheVariants as holds
use Rattle.page_tables.specs.Tables.{Part, Item, Cell, Row, Section, Table}
use Rattle.page_tables.specs.Tables as tables
use Rattle.page_tables.specs.Standing.{Standing, standing, is_at}
use Rattle.invoice_page.specs.Page.{bt}
use Rattle.page_laws.proofs.MemberLemmas.{all-member}
use Rattle.page_laws.proofs.TallyLemmas.{tally}

abbrev pub term_standings : Option Group → Option Group → Term → List Standing
term_standings outer inner term = standing outer inner term ∷ []

abbrev pub part_standings : Option Group → Option Group → List Part → List Standing
part_standings outer inner parts = flat_map (λ (part : Part). term_standings outer inner part.1) parts

-- what one term, if a table adds it, finds in the rows of such terms
abbrev pub added_standings : Term → Option Group → Option Group → List Standing
added_standings term outer inner = if is_extension term then term_standings outer inner term else []

abbrev pub form_standings : Term → Option Group → Option Group → Form → List Part → List Standing
form_standings own outer inner forms.Row parts = part_standings outer inner parts
form_standings own outer inner (forms.RowOf term) parts = term_standings outer inner term ++ part_standings outer inner parts
form_standings own outer inner forms.Paragraph parts = part_standings outer inner parts
form_standings own outer inner forms.Added parts = added_standings own outer inner

abbrev pub one_standings : Term → Option Group → Option Group → Item → List Standing
one_standings own outer inner item = form_standings own outer inner item.1 item.3

-- in the invoice, or in an occurrence of the group
abbrev pub in_group : Option Group → Group → Option Group
in_group None group = Some group
in_group (Some outer) group = Some outer

abbrev pub inside_group : Option Group → Group → Option Group
inside_group None group = None
inside_group (Some outer) group = Some group

abbrev pub item_standings : Term → Option Group → Item → List Standing
item_standings own outer item = elim item.0 [
  | None ↦ one_standings own outer None item
  | Some group ↦ one_standings own (in_group outer group) (inside_group outer group) item
]

abbrev pub layout_standings : Term → Option Group → List Item → List Standing
layout_standings own outer items = flat_map (item_standings own outer) items

abbrev pub held_standings : Term → Option Group → Holds → List Part → List Item → List Standing
held_standings own outer holds.Words parts items = []
held_standings own outer holds.Parts parts items = part_standings outer None parts
held_standings own outer holds.Layout parts items = layout_standings own outer items

abbrev pub cells_standings : Term → Option Group → List Cell → List Standing
cells_standings own outer cells = flat_map (λ (cell : Cell). held_standings own outer cell.1 cell.3 cell.4) cells

abbrev pub row_standings : Term → Row → List Standing
row_standings own row = cells_standings own (Some row.0) row.1

abbrev pub section_standings : Term → Section → List Standing
section_standings own section = layout_standings own None section.2

abbrev pub table_standings : Term → Table → List Standing
table_standings own table = flat_map (row_standings own) table.3

abbrev pub page_standings : Term → List Standing
page_standings own =
    term_standings None None (bt 1) ++ (section_standings own tables.facts ++ (flat_map (section_standings own) tables.parties ++ (table_standings own
    tables.lines ++ (table_standings own tables.extras ++ (table_standings own tables.vat ++ (section_standings own tables.totals ++ flat_map (section_standings
    own) tables.rest))))))

-- The row's term stands once where its group's terms do.
stands_once : TermRow → Bool
stands_once row = nat_eq (tally (is_at (outer_group row.group) (inner_group row.group) row.term) (page_standings row.term)) 1

modelled-once : list_all stands_once terms ≡ true
unfolding stands_once terms parent_of occurrence_of
modelled-once = refl

added-once : list_all stands_once extension_rows ≡ true
unfolding stands_once extension_rows parent_of occurrence_of
added-once = refl

pub standing-once : (row : TermRow) → Contains listing_rows row
    → tally (is_at (outer_group row.group) (inner_group row.group) row.term) (page_standings row.term) ≡ 1
unfolding stands_once listing_rows
standing-once row m =
    let all : list_all stands_once (terms ++ extension_rows) ≡ true =
    list_all-append stands_once terms extension_rows ∙ and_from _ _ modelled-once added-once in
    eqb-true _ 1 (all-member stands_once (terms ++ extension_rows) row all m)
