-- The row of a term in a context: its place in the table of terms, its type and its list of codes.
use Rattle.std.specs.Prelude.{◌≡◌, ℕ, Bool, true, false, ◌&&◌, Option, Some, find, position, slice_get, option_map, option_and_then}
use Rattle.code_lists.specs.declared.names.List.{List as CodeList}
use Rattle.term_table.specs.declared.groups.Group.{Group}
use Rattle.term_table.specs.declared.terms.DataType.{DataType}
use Rattle.term_table.specs.declared.terms.DataType.TheVariants as data_types
use Rattle.term_table.specs.declared.terms.Term.{Term}
use Rattle.term_table.specs.declared.terms.TermRow.{TermRow}
use Rattle.term_table.specs.declared.contexts.Context.{Context}
use Rattle.term_table.specs.SemanticModel.{same_term, terms, is_extension, listing_rows}
use Rattle.term_table.specs.Contexts.{slot_group, stands_in}

abbrev pub is_row_in : Term → Option Group → Option Group → TermRow → Bool
is_row_in term outer inner row = same_term row.term term && stands_in row.group outer inner

-- the number of the row of a term in an occurrence of the outer group, and in one of the inner group inside it
abbrev pub row_in : Term → Option Group → Option Group → Option ℕ
row_in term outer inner = position (is_row_in term outer inner) listing_rows

-- the number of the row of a term in a context
abbrev pub row_of : Term → Context → Option ℕ
row_of term context = row_in term (slot_group context.outer) (slot_group context.inner)

-- the type of a term, which is one wherever the term stands: none of what is no business term
abbrev pub data_type_of : Term → Option DataType
data_type_of term = option_map (λ (row : TermRow). row.data_type) (find (λ (row : TermRow). same_term row.term term) terms)

-- the type of its value, and the list that it is from
abbrev pub data_type_in : Term → Option Group → Option Group → Option DataType
data_type_in term outer inner = option_map (λ (row : TermRow). row.data_type) (option_and_then (slice_get terms) (row_in term outer inner))

abbrev pub list_in : Term → Option Group → Option Group → Option CodeList
list_in term outer inner = option_and_then (λ (row : TermRow). row.list) (option_and_then (slice_get terms) (row_in term outer inner))

abbrev pub is_base64 : DataType → Bool
is_base64 data_types.B = true
is_base64 _ = false

-- The term has the type, wherever it stands: one of the semantic model has one type, and one that a table adds has any
-- but base64.
pub data HasType (term : Term) (data_type : DataType) : Type 0 where
  modelled : data_type_of term ≡ Some data_type → HasType term data_type
  added : is_extension term ≡ true → is_base64 data_type ≡ false → HasType term data_type
