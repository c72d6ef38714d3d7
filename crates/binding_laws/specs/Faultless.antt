-- Tables in whose documents reading finds no fault, where covered rows write all values of a valid invoice: each term is
-- told once in a context or may be told again; schemes, formats and currencies stand beside the values that ask for them;
-- and indicators are words that are read. All of it computes from the rows.
use Rattle.std.specs.Prelude.{ℕ, Bool, true, false, not, ◌&&◌, ◌||◌, List, [], ◌∷◌, ◌++◌, codes, Option}
use Rattle.std.specs.List.{list_all, list_any}
use Rattle.std.specs.Str.{bytes_eq}
use Rattle.std.specs.Cmp.Lexicographic.{pointwise}
use Rattle.term_table.specs.declared.groups.Group.{Group}
use Rattle.term_table.specs.declared.terms.Mark.TheVariants as marks
use Rattle.term_table.specs.declared.terms.Term.{Term}
use Rattle.term_table.specs.declared.terms.TermRow.{TermRow}
use Rattle.term_table.specs.Contexts.{stands_in}
use Rattle.term_table.specs.Groups.{same_group, is_repeated}
use Rattle.term_table.specs.SemanticModel.{same_term, terms}
use Rattle.inv_terms.specs.Values.{trimmed}
use Rattle.inv_terms.specs.Lacking.{whole_term}
use Rattle.bind_rows.specs.declared.rows.Content.TheVariants as contents
use Rattle.bind_rows.specs.declared.rows.Row.{Row}
use Rattle.bind_rows.specs.declared.rows.Form.{Form}
use Rattle.bind_rows.specs.declared.rows.Form.TheVariants as forms
use Rattle.bind_rows.specs.declared.rows.Written.{Written}
use Rattle.bind_rows.specs.declared.rows.Written.TheVariants as written
use Rattle.bind_rows.specs.declared.rows.Check.TheVariants as checks
use Rattle.bind_rows.specs.Same.{same_or_none}
use Rattle.bind_table.specs.Lines.{Plan, plan_of}
use Rattle.bind_meaning.specs.Currencies.{currency_id}
use Rattle.bind_meaning.specs.Elements.{is_one_of}
use Rattle.bind_meaning.specs.Judging.{may_repeat, words}
use Rattle.bind_meaning.specs.Picks.{has_term, has_any_term}
use Rattle.bind_meaning.specs.Trees.{is_at_element, is_amount, is_vat_total}
use Rattle.bind_meaning.specs.Values.{form_for}
use Rattle.bind_meaning.specs.Writing.{scheme_of}
use Rattle.binding_laws.specs.Apart.{is_attribute_named, is_at_attribute, unknown, is_apart}
use Rattle.binding_laws.specs.Plain.{rows_at, groups_of, listed, is_element, has_content, is_plain_attribute_in}

-- ---- each term is told once in a context, or may be told again

-- The row's path goes through one element for each group of its context, so that it is written once in each.
abbrev pub goes_through : Row → Bool
goes_through row = pointwise same_group (groups_of row.path) (listed row.outer ++ listed row.inner)

abbrev pub is_told_once : Row → Bool
is_told_once row = may_repeat row.repeats || goes_through row

-- Where the one rule has a value written, the other hasn't.
abbrev pub excludes : Written → Written → Bool
excludes written.IfIban written.IfNotIban = true
excludes written.IfNotIban written.IfIban = true
excludes written.IfScheme written.IfNoScheme = true
excludes written.IfNoScheme written.IfScheme = true
excludes _ _ = false

abbrev pub is_model : Form → Bool
is_model forms.Model = true
is_model forms.PlainDate = false
is_model forms.DueDateTypeCode = false
is_model forms.CodedNote = false
is_model (forms.Typed data_type) = false
is_model forms.TypedPlainDate = false

abbrev pub are_exclusive : Row → Row → Term → Bool
are_exclusive a b term = excludes a.written b.written && (is_model (form_for a.form term) && is_model (form_for b.form term))

-- The rows' values of one term may all be told again, or stand in other contexts, or only one row writes its value.
abbrev pub are_apart_at : Row → Row → Term → Bool
are_apart_at a b term = (may_repeat a.repeats && may_repeat b.repeats) ||
    (not (same_or_none a.outer b.outer && same_or_none a.inner b.inner) || are_exclusive a b term)

-- Two rows tell no term of one context twice between them, unless it may be told again.
abbrev pub are_apart : Row → Row → Bool
are_apart a b = elim a.content [
  | (contents.Term term) ↦ elim (has_term term b) [ true ↦ are_apart_at a b term | false ↦ true ]
  | (contents.Constant text) ↦ true
]

abbrev pub all_apart : List Row → Bool
all_apart [] = true
all_apart (row ∷ rows) = list_all (are_apart row) rows && all_apart rows

-- ---- schemes

abbrev pub is_if_scheme : Written → Bool
is_if_scheme written.IfScheme = true
is_if_scheme _ = false

-- The term's row in such a context is one that has to stand there where the other term does.
abbrev pub is_needed_beside : Term → TermRow → Bool
is_needed_beside term row = elim row.mark [ marks.One ↦ is_repeated row.group | marks.Optional ↦ false | marks.After ↦ same_term term (whole_term row.term) ]

abbrev pub is_needed_with : Term → Term → Option Group → Option Group → Bool
is_needed_with part term outer inner = list_any (λ (r : TermRow). same_term r.term part && (stands_in r.group outer inner && is_needed_beside term r)) terms

abbrev pub scheme_id : List ℕ
scheme_id = codes "schemeID"

-- The second row writes the term's scheme beside what the first one writes.
abbrev pub is_scheme_beside : Plan → Row → Term → Row → Bool
is_scheme_beside plan row term part = elim (has_content (scheme_of term) part.content) [
  | true ↦ is_attribute_named scheme_id part.leaf &&
      is_plain_attribute_in plan part (scheme_of term) row term
  | false ↦ false
]

abbrev pub has_scheme_of : Plan → List Row → Row → Term → Bool
has_scheme_of plan rows row term = (is_if_scheme row.written || is_needed_with (scheme_of term) term row.outer row.inner) &&
    list_any (is_scheme_beside plan row term) rows

-- Where reading asks for a scheme, the value's scheme stands and is written beside it.
abbrev pub has_scheme : Plan → List Row → Row → Bool
has_scheme plan rows row = elim row.check [
  | checks.Scheme ↦ elim row.content [ (contents.Term term) ↦ has_scheme_of plan rows row term | (contents.Constant text) ↦ true ]
  | _ ↦ true
]

-- ---- formats

abbrev pub format_name : List ℕ
format_name = codes "format"

abbrev pub is_format : Row → Bool
is_format row = elim row.content [ (contents.Term term) ↦ false | (contents.Constant text) ↦ bytes_eq (trimmed text) (codes "102") ]

abbrev pub are_format : List Row → Bool
are_format [] = false
are_format (row ∷ []) = is_format row
are_format (row ∷ (other ∷ rows)) = false

-- Where reading asks for a format, the one that it asks for is written.
abbrev pub has_format : Plan → Row → Bool
has_format plan row = elim row.check [ checks.Format ↦ is_element row.leaf && are_format (rows_at (is_at_attribute format_name) plan row.path) | _ ↦ true ]

-- ---- currencies

abbrev pub is_no_row : List Row → Bool
is_no_row [] = true
is_no_row (row ∷ rows) = false

-- The currency that such a row writes beside an amount is that of the invoice.
abbrev pub is_in_invoice_currency : Written → Bool
is_in_invoice_currency written.AccountingVatTotal = false
is_in_invoice_currency _ = true

-- The currency beside an amount is that of the invoice, or none.
abbrev pub shows_currency_there : Plan → Row → Bool
shows_currency_there plan row = is_element row.leaf && (list_all (λ (r : Row). is_in_invoice_currency r.written) (rows_at is_at_element plan row.path) &&
    is_no_row (rows_at (is_at_attribute currency_id) plan row.path))

abbrev pub shows_its_currency : Plan → Row → Bool
shows_its_currency plan row = elim row.content [
  | (contents.Term term) ↦ elim (is_amount row && not (is_vat_total row.written)) [ true ↦ shows_currency_there plan row | false ↦ true ]
  | (contents.Constant text) ↦ true
]

-- ---- indicators

abbrev pub is_word : Row → Bool
is_word row = elim row.content [ (contents.Term term) ↦ false | (contents.Constant text) ↦ is_one_of words (trimmed text) ]

abbrev pub are_word : List Row → Bool
are_word [] = false
are_word (row ∷ []) = is_word row
are_word (row ∷ (other ∷ rows)) = false

-- An indicator is one of the words, in an element of its own.
abbrev pub has_word : Plan → Row → Bool
has_word plan row = elim row.check [
  | (checks.Indicator term) ↦ has_any_term row || (is_apart unknown plan row.path && (is_element row.leaf && are_word (rows_at is_at_element plan row.path)))
  | _ ↦ true
]

-- ---- a table

abbrev pub is_fine : Plan → List Row → Row → Bool
is_fine plan rows row =
    is_told_once row && (has_scheme plan rows row && (has_format plan row && (shows_its_currency plan row && has_word plan row)))

abbrev pub is_faultless_in : Plan → List Row → Bool
is_faultless_in plan rows = all_apart rows && list_all (is_fine plan rows) rows

-- No row of the table writes what reading finds fault with.
abbrev pub is_faultless : List Row → Bool
is_faultless rows = is_faultless_in (plan_of rows) rows
