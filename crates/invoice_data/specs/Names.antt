-- What the members of an object are named: terms that stand in it, and arrays of the groups that may be repeated in it.
use Rattle.std.specs.Prelude.{ℕ, ◌+◌, ◌-◌, Bool, false, ◌&&◌, List, [], ◌∷◌, ◌++◌, map, find, Option, Some, None, option_map, option_and_then, codes, bytes_eq}
use Rattle.std.specs.Prelude.{if◌then◌else◌, unwrap_or}
use Rattle.std.specs.Option.{option_or}
use Rattle.std.specs.List.{list_any}
use Rattle.std.specs.Str.{is_utf8}
use Rattle.json_reading.specs.Texts.{text_of, between}
use Rattle.json_reading.specs.declared.item.Item.{Item}
use Rattle.json_reading.specs.declared.item.Span.{Span}
use Rattle.code_lists.specs.CodeFiles.{Lists}
use Rattle.term_table.specs.declared.groups.Group.{Group}
use Rattle.term_table.specs.declared.groups.Group.TheVariants as groups
use Rattle.term_table.specs.declared.terms.Mark.TheVariants as marks
use Rattle.term_table.specs.declared.terms.TermRow.{TermRow}
use Rattle.term_table.specs.SemanticModel.{same_term, terms}
use Rattle.term_table.specs.Groups.{same_group}
use Rattle.term_table.specs.Contexts.{slot_group, has_context}
use Rattle.extension_files.specs.declared.terms.ExtPlace.{ExtPlace}
use Rattle.extension_files.specs.declared.terms.ExtPlace.TheVariants as places
use Rattle.extension_files.specs.declared.terms.ExtTerm.{ExtTerm}
use Rattle.inv_listing.specs.Listing.{term_text}
use Rattle.invoice_json.specs.InvoiceJson.{array_name}
use Rattle.invoice_data.specs.declared.names.Member.{Member}
use Rattle.invoice_data.specs.declared.names.Member.TheVariants as members
use Rattle.invoice_data.specs.declared.names.Room.{Room}

-- What members are read by: the bytes of the text, the terms that a user's table adds, and the code lists.
pub record Source : Type 0 where
  pub bytes : List ℕ
  pub added : List ExtTerm
  pub lists : Lists

-- ---- terms

abbrev pub group_at : ExtPlace → Group
group_at places.Root = groups.Root
group_at places.Line = groups.InvoiceLine

-- the row of a term that a table adds
abbrev pub added_row : ExtTerm → TermRow
added_row e = record {
  term = record { number = 1000 + e.number; part = 0 };
  group = group_at e.place;
  data_type = e.data_type;
  mark = marks.Optional;
  list
      = None;
}

abbrev pub rows_of : Source → List TermRow
rows_of source = terms ++ map added_row source.added

-- The row's term stands in the object, and reads as the name.
abbrev pub is_row_named : Room → List ℕ → TermRow → Bool
is_row_named room name row =
    bytes_eq (term_text row.term) name && has_context row.group room.place

-- the term of the object that reads as the name, with what the tables say of it
unfoldable pub row_named : Source → Room → List ℕ → Option TermRow
row_named source room name = find (is_row_named room name) (rows_of source)

-- ---- arrays. That of BT-29 is P-29S, of whose terms those of P-29 are some.

abbrev pub outer_arrays : List Group
outer_arrays = groups.InvoiceNote ∷ groups.PrecedingInvoice ∷ groups.SellerSchemedIdentifier ∷ groups.CreditTransfer ∷ groups.DocumentAllowance
    ∷ groups.DocumentCharge ∷ groups.VatBreakdown ∷ groups.SupportingDocument ∷ groups.InvoiceLine ∷ []

abbrev pub line_arrays : List Group
line_arrays = groups.LineAllowance ∷ groups.LineCharge ∷ groups.ItemClassification ∷ groups.ItemAttribute ∷ []

abbrev pub arrays_inside : Option Group → Option Group → List Group
arrays_inside None inner = outer_arrays
arrays_inside (Some outer) None = if same_group outer groups.InvoiceLine then line_arrays else []
arrays_inside (Some outer) (Some inner) = []

-- the groups that may be repeated in an object
abbrev pub arrays_in : Room → List Group
arrays_in room = arrays_inside (slot_group room.place.outer) (slot_group room.place.inner)

unfoldable pub array_named : Room → List ℕ → Option Group
array_named room name = find (λ group. bytes_eq (array_name group) name) (arrays_in room)

-- ---- members

-- how many elements of a document were passed over, which the outermost object alone may tell
abbrev pub passed_named_in : Option Group → List ℕ → Option Member
passed_named_in None name = if bytes_eq (codes "passed_over") name then Some members.PassedOver else None
passed_named_in (Some outer) name = None

abbrev pub passed_named : Room → List ℕ → Option Member
passed_named room name = passed_named_in (slot_group room.place.outer) name

-- what a name names in an object
unfoldable pub member_named : Source → Room → List ℕ → Option Member
member_named source room name =
    option_or (option_map members.Term (row_named source room name))
    (option_or (option_map members.Array (array_named room name)) (passed_named room name))

-- where a member's name is spelled; each member of an object has a name
abbrev pub name_span : Item → Span
name_span item = unwrap_or item.name item.value

abbrev pub checked : List ℕ → Option (List ℕ)
checked text = if is_utf8 text then Some text else None

-- the text, in UTF-8, that a name or a string says; none where half a surrogate pair stands by itself in it
unfoldable pub text_at : List ℕ → Span → Option (List ℕ)
text_at bytes span = option_and_then checked (text_of (between (span.at + 1) (span.end - 1) bytes))

-- what an item is in an object: names are compared as they read
unfoldable pub member_of : Source → Room → Item → Option Member
member_of source room item = option_and_then (member_named source room) (text_at source.bytes (name_span item))

-- Both are one member, if each stands in the same object. Two members that tell how many elements were passed over say nothing.
abbrev pub same_member : Member → Member → Bool
same_member (members.Term a) (members.Term b) = same_term a.term b.term
same_member (members.Array a) (members.Array b) = same_group a b
same_member _ _ = false

abbrev pub stands_before : List Member → Member → Bool
stands_before seen m = list_any (same_member m) seen
