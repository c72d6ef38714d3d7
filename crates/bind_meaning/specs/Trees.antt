-- The document of an invoice by the lines of a table (CEN/TS 16931-3-2 and 16931-3-3): one leaf for each entry, the constants of the elements
-- that hold an entry, elements in the order of the table, and one element of a group for each of its occurrences.
use Rattle.std.specs.Prelude.{ℕ, Bool, true, false, not, ◌&&◌, ◌||◌, List, [], ◌∷◌, ◌++◌, flat_map, fold, map, max, Option, Some, None, is_some}
use Rattle.std.specs.List.{list_any, range_with_len}
use Rattle.inv_base.specs.Tree.{Forest, no_more, a_text, an_element, Name, Attribute}
use Rattle.term_table.specs.declared.groups.Group.{Group}
use Rattle.term_table.specs.declared.terms.DataType.TheVariants as data_types
use Rattle.term_table.specs.declared.terms.Term.{Term}
use Rattle.term_table.specs.declared.contexts.Slot.{Slot}
use Rattle.term_table.specs.declared.contexts.Context.{Context}
use Rattle.inv_terms.specs.declared.entries.Entry.{Entry}
use Rattle.term_table.specs.Contexts.{root_context, same_slot}
use Rattle.term_table.specs.Groups.{same_group}
use Rattle.inv_terms.specs.Values.{spelled}
use Rattle.inv_terms.specs.Listing.{value_in}
use Rattle.bind_rows.specs.declared.names.Namespace.{Namespace}
use Rattle.bind_rows.specs.declared.names.Namespace.TheVariants as spaces
use Rattle.bind_rows.specs.declared.names.ElementName.{ElementName}
use Rattle.bind_rows.specs.declared.names.Leaf.TheVariants as leaves
use Rattle.bind_rows.specs.declared.rows.Step.{Step}
use Rattle.bind_rows.specs.declared.rows.Row.{Row}
use Rattle.bind_rows.specs.declared.rows.Content.TheVariants as contents
use Rattle.bind_rows.specs.declared.rows.Written.{Written}
use Rattle.bind_rows.specs.declared.rows.Written.TheVariants as written
use Rattle.bind_table.specs.Lines.{Plan, Cell, nothing, a_line, plan_of}
use Rattle.bind_rows.specs.Namespaces.{uri_of}
use Rattle.bind_meaning.specs.Values.{form_for, type_of}
use Rattle.bind_meaning.specs.Picks.{has_any_term, term_in}
use Rattle.bind_meaning.specs.Currencies.{invoice_currency, accounting_currency, currency_id}
use Rattle.bind_meaning.specs.Writing.{row_text, writes_entry}

-- ---- where a line is written: once in a context, and one of a group once in each occurrence, or once where it has none

abbrev pub index_in : Group → Option Slot → ℕ
index_in group None = 0
index_in group (Some slot) = elim (same_group slot.group group) [ true ↦ slot.index | false ↦ 0 ]

-- how many occurrences of the group there are in the invoice, and in an occurrence of another
abbrev pub outer_count : List Entry → Group → ℕ
outer_count es group = fold max 0 (map (λ (e : Entry). index_in group e.context.outer) es)

abbrev pub inner_count : List Entry → Slot → Group → ℕ
inner_count es outer group = fold max 0
    (map (λ (e : Entry). elim (same_slot e.context.outer (Some outer)) [ true ↦ index_in group e.context.inner | false ↦ 0 ]) es)

abbrev pub outer_spots : Group → ℕ → List Context
outer_spots group n = map (λ k. record { outer = Some (record { group = group; index = k }); inner = None }) (range_with_len 1 n)

abbrev pub inner_spots : Slot → Group → ℕ → List Context
inner_spots outer group n = map (λ k. record { outer = Some outer; inner = Some (record { group = group; index = k }) }) (range_with_len 1 n)

abbrev pub spots_of : List Entry → Context → Group → List Context
spots_of es c group = elim c.outer [ None ↦ outer_spots group (outer_count es group) | Some outer ↦ inner_spots outer group (inner_count es outer group) ]

abbrev pub or_here : Context → List Context → List Context
or_here c [] = c ∷ []
or_here c (d ∷ ds) = d ∷ ds

abbrev pub spots : List Entry → Context → Option Group → List Context
spots es c None = c ∷ []
spots es c (Some group) = or_here c (spots_of es c group)

-- ---- what holds an entry

abbrev pub cells_hold : List Entry → List Cell → Context → Bool
cells_hold es cells c = list_any (λ (cell : Cell). writes_entry cell.row es c) cells

abbrev pub either : Bool → (Unit {0} → Bool) → Bool
either true b = true
either false b = b tt

-- some line of these holds an entry in the context
abbrev pub holds : List Entry → Plan → Context → Bool
holds es nothing c = false
holds es (a_line s cells inside rest) c =
    either (list_any (λ d. either (cells_hold es cells d) (λ _. holds es inside d)) (spots es c s.group)) (λ _. holds es rest c)

-- some row of these lines has a term
abbrev pub has_terms : Plan → Bool
has_terms nothing = false
has_terms (a_line s cells inside rest) = list_any (λ (cell : Cell). has_any_term cell.row) cells || (has_terms inside || has_terms rest)

-- ---- a line as an element

abbrev pub name_of : ElementName → Name
name_of name = record { uri = uri_of name.namespace; local = name.local }

abbrev pub is_ubl : Namespace → Bool
is_ubl spaces.UblInvoice = true
is_ubl spaces.UblCreditNote = true
is_ubl spaces.UblAggregate = true
is_ubl spaces.UblBasic = true
is_ubl _ = false

abbrev pub is_vat_total : Written → Bool
is_vat_total written.VatTotal = true
is_vat_total written.AccountingVatTotal = true
is_vat_total _ = false

abbrev pub is_amount : Row → Bool
is_amount row = elim (term_in row.content) [ None ↦ false | Some term ↦ elim (type_of (form_for row.form term) term) [ Some data_types.A ↦ true | _ ↦ false ] ]

-- UBL writes each amount with its currency, CII the VAT totals alone
abbrev pub shows_currency : Step → Row → Bool
shows_currency s row = is_amount row && (is_ubl s.name.namespace || is_vat_total row.written)

abbrev pub currency_term : Written → Term
currency_term written.AccountingVatTotal = accounting_currency
currency_term _ = invoice_currency

abbrev pub attribute : List ℕ → List ℕ → Attribute
attribute local value = record { name = record { uri = []; local = local }; value = value }

abbrev pub currency_attribute : List Entry → Row → List Attribute
currency_attribute es row = elim (value_in es (currency_term row.written) root_context) [ None ↦ [] | Some value ↦ attribute currency_id (spelled value) ∷ [] ]

abbrev pub is_at_element : Cell → Bool
is_at_element cell = elim cell.row.leaf [ leaves.Element ↦ true | (leaves.Attribute local) ↦ false ]

abbrev pub currency_of_cell : List Entry → Step → Context → Cell → List Attribute
currency_of_cell es s c cell = elim (is_at_element cell && (shows_currency s cell.row && is_some (row_text cell.row es c)))
    [ true ↦ currency_attribute es cell.row | false ↦ [] ]

abbrev pub constant_or_text : List Entry → Context → Row → Option (List ℕ)
constant_or_text es c row = elim row.content [ (contents.Constant text) ↦ Some text | (contents.Term term) ↦ row_text row es c ]

abbrev pub attribute_of_cell : List Entry → Context → Cell → List Attribute
attribute_of_cell es c cell = elim cell.row.leaf [
  | leaves.Element ↦ []
  | (leaves.Attribute local) ↦ elim (constant_or_text es c cell.row) [ None ↦ [] | Some text ↦ attribute local text ∷ [] ]
]

abbrev pub attributes : List Entry → Step → List Cell → Context → List Attribute
attributes es s cells c = flat_map (currency_of_cell es s c) cells ++ flat_map (attribute_of_cell es c) cells

abbrev pub text_of_cell : List Entry → Context → Cell → List ℕ
text_of_cell es c cell = elim (is_at_element cell) [ true ↦ elim (constant_or_text es c cell.row) [ None ↦ [] | Some text ↦ text ] | false ↦ [] ]

abbrev pub with_text : List ℕ → Forest → Forest
with_text [] inside = inside
with_text (c ∷ text) inside = a_text (c ∷ text) inside

abbrev pub element_text : List Entry → List Cell → Context → List ℕ
element_text es cells c = flat_map (text_of_cell es c) cells

-- ---- which lines are written in a context: those that hold an entry, those that are always written, and constants in an element that holds one

abbrev pub has_constant : List Cell → Bool
has_constant cells = list_any (λ (cell : Cell). not (has_any_term cell.row)) cells

abbrev pub is_constant : List Cell → Plan → Bool
is_constant cells inside = not (list_any (λ (cell : Cell). has_any_term cell.row) cells || has_terms inside)

abbrev pub line_holds : List Entry → List Cell → Plan → Context → Bool
line_holds es cells inside c = either (cells_hold es cells c) (λ _. holds es inside c)

-- the element above it holds an entry, and the line is a constant of it
abbrev pub is_due : Bool → List Cell → Plan → Bool
is_due held cells inside = held && (has_constant cells || is_constant cells inside)

abbrev pub is_emitted : List Entry → Step → List Cell → Plan → Bool → Context → Bool
is_emitted es s cells inside held c = either (line_holds es cells inside c) (λ _. s.always || is_due held cells inside)

abbrev pub holds_further : List Entry → List Cell → Plan → Bool → Context → Bool
holds_further es cells inside held c = either (line_holds es cells inside c) (λ _. held && is_constant cells inside)

-- elements before others, one for each spot
abbrev pub elements : (Context → Bool) → (Context → Forest → Forest) → List Context → Forest → Forest
elements is_there make [] rest = rest
elements is_there make (c ∷ cs) rest = elim (is_there c) [ true ↦ make c (elements is_there make cs rest) | false ↦ elements is_there make cs rest ]

-- these lines in a context; `held` says whether the element above holds an entry
abbrev pub written_lines : List Entry → Plan → Bool → Context → Forest
written_lines es nothing held c = no_more
written_lines es (a_line s cells inside rest) held c =
    elements (is_emitted es s cells inside held)
    (λ d. an_element (name_of s.name) (attributes es s cells d)
    (with_text (element_text es cells d) (written_lines es inside (holds_further es cells inside held d) d)))
    (spots es c s.group)
    (written_lines es rest held c)

-- the tree of the invoice's document
unfoldable pub document_of : List Row → List Entry → Forest
document_of rows es = written_lines es (plan_of rows) false root_context
