-- Rows that a user adds to a table, where the semantic model is extended (CEN/TR 16931-5): each has a term that the model
-- lacks, in the invoice itself or in a line, and says its type. The other rows are the built-in part of the table.
use Rattle.std.specs.Prelude.{◌==◌, Bool, true, false, not, ◌&&◌, List, filter, length, Option, Some, None, is_some}
use Rattle.std.specs.List.{list_all}
use Rattle.term_table.specs.declared.groups.Group.{Group}
use Rattle.term_table.specs.declared.groups.Group.TheVariants as groups
use Rattle.term_table.specs.declared.terms.DataType.{DataType}
use Rattle.term_table.specs.declared.terms.DataType.TheVariants as data_types
use Rattle.term_table.specs.SemanticModel.{is_extension}
use Rattle.term_table.specs.Rows.{is_base64}
use Rattle.bind_rows.specs.declared.names.Leaf.{Leaf}
use Rattle.bind_rows.specs.declared.names.Leaf.TheVariants as leaves
use Rattle.bind_rows.specs.declared.rows.Check.{Check}
use Rattle.bind_rows.specs.declared.rows.Check.TheVariants as checks
use Rattle.bind_rows.specs.declared.rows.Content.{Content}
use Rattle.bind_rows.specs.declared.rows.Content.TheVariants as contents
use Rattle.bind_rows.specs.declared.rows.Form.{Form}
use Rattle.bind_rows.specs.declared.rows.Form.TheVariants as forms
use Rattle.bind_rows.specs.declared.rows.Repeats.{Repeats}
use Rattle.bind_rows.specs.declared.rows.Repeats.TheVariants as repeat
use Rattle.bind_rows.specs.declared.rows.Row.{Row}
use Rattle.bind_rows.specs.declared.rows.Step.{Step}
use Rattle.bind_rows.specs.declared.rows.Written.{Written}
use Rattle.bind_rows.specs.declared.rows.Written.TheVariants as written
use Rattle.bind_rows.specs.Same.{same_group, choose}

-- the type that the form itself says: that of a term which the semantic model doesn't have
abbrev pub data_type_of_form : Form → Option DataType
data_type_of_form (forms.Typed data_type) = Some data_type
data_type_of_form forms.TypedPlainDate = Some data_types.D
data_type_of_form forms.Model = None
data_type_of_form forms.PlainDate = None
data_type_of_form forms.DueDateTypeCode = None
data_type_of_form forms.CodedNote = None

abbrev pub is_typed : Form → Bool
is_typed form = is_some (data_type_of_form form)

-- The type is one that an added term may have.
abbrev pub is_added_type : Option DataType → Bool
is_added_type None = false
is_added_type (Some data_type) = not (is_base64 data_type)

abbrev pub adds_term : Content → Bool
adds_term (contents.Term term) = is_extension term
adds_term (contents.Constant text) = false

abbrev pub is_element : Leaf → Bool
is_element leaves.Element = true
is_element (leaves.Attribute name) = false

abbrev pub is_unguarded : Step → Bool
is_unguarded s = length s.guards == 0

abbrev pub is_once : Repeats → Bool
is_once repeat.Once = true
is_once _ = false

abbrev pub is_always : Written → Bool
is_always written.Always = true
is_always _ = false

abbrev pub is_unjudged : Check → Bool
is_unjudged checks.Nothing = true
is_unjudged _ = false

-- The context is the invoice itself, or a line of it.
abbrev pub is_root_or_line : Option Group → Option Group → Bool
is_root_or_line None None = true
is_root_or_line None (Some inner) = false
is_root_or_line (Some outer) None = same_group outer groups.InvoiceLine
is_root_or_line (Some outer) (Some inner) = false

-- It has no attribute, guard or mark, and has a type.
abbrev pub is_unmarked : Row → Bool
is_unmarked row =
    is_element row.leaf
    && (list_all is_unguarded row.path
    && (is_once row.repeats && (is_always row.written && (is_unjudged row.check && is_added_type (data_type_of_form row.form)))))

-- A user added the row.
abbrev pub is_added : Row → Bool
is_added row = choose (adds_term row.content) (λ _. is_root_or_line row.outer row.inner && is_unmarked row) (λ _. false)

abbrev pub is_built : Row → Bool
is_built row = not (is_added row)

-- the rows that nobody added, in their order
abbrev pub built : List Row → List Row
built rows = filter is_built rows
