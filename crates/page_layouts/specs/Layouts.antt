-- What the items of a layout give: rows, paragraphs, and these in each occurrence of a group.
use Rattle.std.specs.Prelude.{ℕ, Bool, ◌||◌, ◌&&◌, List, [], ◌∷◌, ◌++◌, flat_map, codes, Some, None, is_some, if◌then◌else◌}
use Rattle.term_table.specs.declared.groups.Group.{Group}
use Rattle.term_table.specs.declared.terms.Term.{Term}
use Rattle.term_table.specs.Contexts.{same_context}
use Rattle.term_table.specs.SemanticModel.{is_extension}
use Rattle.inv_terms.specs.declared.entries.Entry.{Entry}
use Rattle.inv_listing.specs.Listing.{term_text}
use Rattle.page_tables.specs.declared.forms.Form.{Form}
use Rattle.page_tables.specs.declared.forms.Form.TheVariants as forms
use Rattle.page_tables.specs.declared.forms.Meanings.TheVariants as meanings
use Rattle.page_tables.specs.Tables.{Part, Item}
use Rattle.page_values.specs.Places.{Place, numbers_to, count_in, occurrence, value_at}
use Rattle.page_values.specs.Values.{value_of, plain}
use Rattle.page_values.specs.Parts.{any_stands, parts_text}

-- ---- rows and paragraphs

abbrev pub row : List ℕ → List ℕ → List ℕ
row label text = codes "<dl><dt>" ++ (label ++ (codes "</dt><dd>" ++ (text ++ codes "</dd></dl>\n")))

-- how a paragraph begins, by its class
abbrev pub paragraph_start : List ℕ → List ℕ
paragraph_start [] = codes "<p>"
paragraph_start (c ∷ class) = codes "<p class=\"" ++ ((c ∷ class) ++ codes "\">")

abbrev pub paragraph : List ℕ → List ℕ → List ℕ
paragraph class text = paragraph_start class ++ (text ++ codes "</p>\n")

-- ---- terms that a user's table adds

abbrev pub is_added : Place → Entry → Bool
is_added place e = is_extension e.term && same_context e.context place.context

abbrev pub added_row : Entry → List ℕ
added_row e = row (term_text e.term) (plain e.term meanings.None e.value)

abbrev pub added_text : Place → Entry → List ℕ
added_text place e = if is_added place e then added_row e else []

abbrev pub added_rows : Place → List ℕ
added_rows place = flat_map (added_text place) place.entries

-- ---- items

-- a row whose label is the value of a term, where that or any of its parts stands
abbrev pub stands_of : Place → Term → List Part → Bool
stands_of place term parts = is_some (value_at place term) || any_stands place parts

abbrev pub labelled_row : Place → Term → List Part → List ℕ
labelled_row place term parts = row (value_of place term meanings.None) (parts_text place parts)

abbrev pub labelled : Place → Term → List Part → List ℕ
labelled place term parts = if stands_of place term parts then labelled_row place term parts else []

-- an item where it stands
abbrev pub item_in : Place → Form → List ℕ → List Part → List ℕ
item_in place forms.Row label parts = if any_stands place parts then row label (parts_text place parts) else []
item_in place (forms.RowOf term) label parts = labelled place term parts
item_in place forms.Paragraph class parts = if any_stands place parts then paragraph class (parts_text place parts) else []
item_in place forms.Added label parts = added_rows place

abbrev pub one_in : Place → Item → List ℕ
one_in place item = item_in place item.1 item.2 item.3

-- an item in each occurrence of a group
abbrev pub in_each : Place → Group → Item → List ℕ
in_each place group item = flat_map (λ k. one_in (occurrence place group k) item) (numbers_to (count_in place group))

abbrev pub item_text : Place → Item → List ℕ
item_text place item = elim item.0 [ None ↦ one_in place item | Some group ↦ in_each place group item ]

abbrev pub layout : Place → List Item → List ℕ
layout place items = flat_map (item_text place) items
