-- Which values of an invoice plain and spread rows of a table write, and those of the two VAT totals, and which terms are
-- left out: those that other rows of the table speak of, and those beside which a placeholder stands that isn't told from values.
use Rattle.std.specs.Prelude.{ℕ, ◌==◌, Bool, true, false, not, ◌&&◌, ◌||◌, List, [], ◌∷◌, ◌++◌, length, filter, flat_map, map, Option, Some, None, is_some}
use Rattle.std.specs.Prelude.{is_none, option_map}
use Rattle.std.specs.List.{list_all, list_any}
use Rattle.std.specs.Str.{bytes_eq}
use Rattle.term_table.specs.declared.terms.DataType.TheVariants as data_types
use Rattle.term_table.specs.declared.terms.Term.{Term}
use Rattle.term_table.specs.declared.terms.TermRow.{TermRow}
use Rattle.term_table.specs.SemanticModel.{same_term, terms}
use Rattle.term_table.specs.Contexts.{root_context}
use Rattle.term_table.specs.Rows.{data_type_of}
use Rattle.inv_terms.specs.declared.entries.Entry.{Entry}
use Rattle.inv_terms.specs.Values.{is_blank, trimmed, spelled}
use Rattle.inv_terms.specs.Listing.{value_in}
use Rattle.inv_terms.specs.declared.values.Value.{Value}
use Rattle.inv_terms.specs.declared.values.Value.TheVariants as values
use Rattle.bind_rows.specs.declared.names.Leaf.{Leaf}
use Rattle.bind_rows.specs.declared.names.Leaf.TheVariants as leaves
use Rattle.bind_rows.specs.declared.rows.Content.TheVariants as contents
use Rattle.bind_rows.specs.declared.rows.Step.{Step}
use Rattle.bind_rows.specs.declared.rows.Row.{Row}
use Rattle.bind_rows.specs.declared.rows.Placeholder.{Placeholder}
use Rattle.bind_rows.specs.declared.rows.Form.{Form}
use Rattle.bind_rows.specs.declared.rows.Form.TheVariants as forms
use Rattle.bind_rows.specs.declared.rows.Written.{Written}
use Rattle.bind_rows.specs.declared.rows.Written.TheVariants as written
use Rattle.bind_rows.specs.Same.{same_step}
use Rattle.bind_table.specs.Lines.{Cell, Plan, nothing, a_line, plan_of}
use Rattle.bind_meaning.specs.Currencies.{Currencies, invoice_currency, accounting_currency, currency_id}
use Rattle.bind_meaning.specs.Picks.{has_term, has_any_term}
use Rattle.bind_meaning.specs.Values.{Image, images, subject_code, note, is_subject_character, form_for}
use Rattle.bind_meaning.specs.Writing.{is_of_type}
use Rattle.bind_meaning.specs.Trees.{is_at_element, is_amount, is_vat_total}
use Rattle.binding_laws.specs.Apart.{is_called, is_nothing, is_at_attribute, rows_so, Known, without, unknown, holds_none, is_apart}
use Rattle.binding_laws.specs.Twins.{same_way, are_twins}
use Rattle.binding_laws.specs.Known.{is_trimmed, known_of, is_as_known}
use Rattle.binding_laws.specs.Faultless.{is_model, is_no_row}
use Rattle.binding_laws.specs.Plain.{rows_at, is_one, is_element, is_always, has_content, is_of_one_term, stands_there, is_plain_there, is_plain_in}
use Rattle.binding_laws.specs.Plain.{is_plain_with, is_plain_attribute_in, is_plain_attribute_with, is_spread_in, is_spread_with, is_spread_attribute_in}
use Rattle.binding_laws.specs.Plain.{is_written_by, is_plain_by, is_spread_by, is_plain_beside, is_spread_beside}

abbrev pub is_or_placeholder : Written → Bool
is_or_placeholder written.Always = false
is_or_placeholder written.Never = false
is_or_placeholder written.IfIban = false
is_or_placeholder written.IfNotIban = false
is_or_placeholder written.IfScheme = false
is_or_placeholder written.IfNoScheme = false
is_or_placeholder (written.OrPlaceholder placeholder) = true
is_or_placeholder written.VatTotal = false
is_or_placeholder written.AccountingVatTotal = false

abbrev pub is_filled_there : Plan → Row → Term → Bool
is_filled_there plan row term =
    is_apart unknown plan row.path
    && (is_one (rows_at is_at_element plan row.path)
    && (is_element row.leaf && (has_content term row.content &&
    (is_of_one_term (form_for row.form term) && (is_none row.outer && (is_none row.inner && stands_there term None None))))))

-- The row is spread, but for a placeholder that may stand in its place.
abbrev pub is_filled_in : Plan → Row → Term → Bool
is_filled_in plan row term = elim (is_or_placeholder row.written) [ true ↦ is_filled_there plan row term | false ↦ false ]

abbrev pub is_filled_by : Plan → Row → Bool
is_filled_by plan row = elim row.content [ (contents.Term term) ↦ is_filled_in plan row term | (contents.Constant text) ↦ false ]

-- ---- the VAT total, where the one in accounting currency isn't in the invoice

abbrev pub is_total_rule : Written → Bool
is_total_rule written.VatTotal = true
is_total_rule _ = false

abbrev pub is_accounting_rule : Written → Bool
is_accounting_rule written.AccountingVatTotal = true
is_accounting_rule _ = false

abbrev pub accounting_terms_of : Row → List Term
accounting_terms_of row = elim (is_accounting_rule row.written) [
  | true ↦ elim row.content [ (contents.Term term) ↦ term ∷ [] | (contents.Constant text) ↦ [] ]
  | false ↦ []
]

-- the terms of VAT totals in accounting currency
abbrev pub accounting_terms : List Row → List Term
accounting_terms rows = flat_map accounting_terms_of rows

abbrev pub total_terms_of : Row → List Term
total_terms_of row = elim (is_total_rule row.written) [
  | true ↦ elim row.content [ (contents.Term term) ↦ term ∷ [] | (contents.Constant text) ↦ [] ]
  | false ↦ []
]

-- the terms of VAT totals
abbrev pub total_terms : List Row → List Term
total_terms rows = flat_map total_terms_of rows

-- It is the row of a total of the invoice itself, alone at its element, and its path stands apart without these terms.
abbrev pub is_total_there : Plan → List Term → Row → Term → Bool
is_total_there plan gone row term =
    is_apart (without gone) plan row.path
    && (is_one (rows_at is_at_element plan row.path)
    && (is_element row.leaf
    && (has_content term row.content
    && (is_of_one_term (form_for row.form term) && (is_no_row (rows_at (is_at_attribute currency_id) plan row.path) &&
    (is_none row.outer && (is_none row.inner && stands_there term None None)))))))

-- ---- both VAT totals, which their currencies alone tell apart

-- the terms beside which a placeholder stands
abbrev pub beside_placeholder : Row → List Term
beside_placeholder row = elim row.written [ (written.OrPlaceholder placeholder) ↦ placeholder.beside ∷ [] | _ ↦ [] ]

-- It is the row of one of both totals: placed so without the terms of the other, of an amount beside which no placeholder stands.
abbrev pub is_half : Plan → List Row → List Term → Row → Bool
is_half plan rows others row = elim row.content [
  | (contents.Term term) ↦ is_total_there plan others row term && (is_amount row && not (list_any (λ t. has_term t row) (flat_map beside_placeholder rows)))
  | (contents.Constant text) ↦ false
]

abbrev pub are_pair_there : Plan → List Row → Row → Row → Bool
are_pair_there plan rows main twin =
    is_half plan rows (accounting_terms rows) main &&
    (is_half plan rows (total_terms rows) twin && (same_way main.path twin.path && are_twins plan main.path twin.path))

-- They are the rows of the VAT total and of the one in accounting currency, and both lead to the elements of both.
abbrev pub are_pair : Plan → List Row → Row → Row → Bool
are_pair plan rows main twin = elim (is_total_rule main.written) [
  | true ↦ elim (is_accounting_rule twin.written) [
    | true ↦ are_pair_there plan rows main twin
    | false ↦ false
  ]
  | false ↦ false
]

-- The row is one of two such.
abbrev pub is_of_pair : Plan → List Row → Row → Bool
is_of_pair plan rows row = elim (is_vat_total row.written) [
  | true ↦ list_any (λ other. are_pair plan rows row other || are_pair plan rows other row) rows
  | false ↦ false
]

abbrev pub is_pair_in : Plan → List Row → Row → Term → Bool
is_pair_in plan rows row term = elim (is_of_pair plan rows row) [ true ↦ has_content term row.content | false ↦ false ]

abbrev pub is_pair_by : Plan → List Row → Row → Bool
is_pair_by plan rows row = elim row.content [ (contents.Term term) ↦ is_pair_in plan rows row term | (contents.Constant text) ↦ false ]

-- the terms of VAT totals in accounting currency whose rows aren't so
abbrev pub unpaired_terms : Plan → List Row → List Term
unpaired_terms plan rows = flat_map (λ row. elim (is_of_pair plan rows row) [ true ↦ [] | false ↦ accounting_terms_of row ]) rows

-- It is the row of a VAT total, where none of such terms stands.
abbrev pub is_total_in : Plan → List Row → Row → Term → Bool
is_total_in plan rows row term = elim (is_total_rule row.written) [ true ↦ is_total_there plan (unpaired_terms plan rows) row term | false ↦ false ]

abbrev pub is_total_by : Plan → List Row → Row → Bool
is_total_by plan rows row = elim row.content [ (contents.Term term) ↦ is_total_in plan rows row term | (contents.Constant text) ↦ false ]

-- ---- placeholders that are told from values

-- Both paths end right inside one element, which is no occurrence of a group.
abbrev pub are_beside : List Step → List Step → Bool
are_beside [] other = false
are_beside (s ∷ path) [] = false
are_beside (s ∷ []) (v ∷ []) = true
are_beside (s ∷ []) (v ∷ (w ∷ other)) = false
are_beside (s ∷ (u ∷ path)) (v ∷ []) = false
are_beside (s ∷ (u ∷ path)) (v ∷ (w ∷ other)) = same_step s v && (is_none s.group && are_beside (u ∷ path) (w ∷ other))

-- The other row writes the term beside the placeholder, wherever it stands, in an element beside the placeholder's.
abbrev pub is_row_beside : Plan → Row → Placeholder → Row → Bool
is_row_beside plan row placeholder other = is_spread_in plan other placeholder.beside && (is_always other.written && are_beside row.path other.path)

abbrev pub is_told_placeholder : Plan → List Row → Row → Term → Placeholder → Bool
is_told_placeholder plan rows row term placeholder =
    list_any (is_row_beside plan row placeholder) rows
    && (bytes_eq (trimmed placeholder.text) placeholder.text
    && (is_model (form_for row.form term)
    && (is_trimmed (data_type_of term) && (not (has_term invoice_currency row || has_term accounting_currency row) &&
    not (list_any (λ t. has_term t row) (flat_map beside_placeholder rows))))))

-- What the row writes is told from its placeholder, since the term beside that is written next to it.
abbrev pub is_joined : Plan → List Row → Row → Bool
is_joined plan rows row = elim row.content [
  | (contents.Term term) ↦ elim row.written [ (written.OrPlaceholder placeholder) ↦ is_told_placeholder plan rows row term placeholder | _ ↦ false ]
  | (contents.Constant text) ↦ false
]

-- the terms beside placeholders that aren't
abbrev pub unjoined_terms : Plan → List Row → List Term
unjoined_terms plan rows = flat_map (λ row. elim (is_joined plan rows row) [ true ↦ [] | false ↦ beside_placeholder row ]) rows

-- The entry's value is the placeholder, and the term beside it stands too.
abbrev pub is_like_placeholder : Plan → List Row → List Entry → Entry → Row → Bool
is_like_placeholder plan rows es e row = elim row.written [
  | (written.OrPlaceholder placeholder) ↦ is_joined plan rows row &&
      (has_term e.term row && (bytes_eq placeholder.text (spelled e.value) && is_some (value_in es placeholder.beside e.context)))
  | _ ↦ false
]

-- ---- rows that values tell apart

-- The row is plain or spread, at an element or at an attribute of one, by what is known of the invoice.
abbrev pub is_known_beside : Known → Plan → Row → Row → Bool
is_known_beside known plan row main = elim row.content [
  | (contents.Term term) ↦ elim main.content [
    | (contents.Term main_term) ↦ is_plain_attribute_with known plan row term main main_term
    | (contents.Constant text) ↦ false
  ]
  | (contents.Constant text) ↦ false
]

abbrev pub is_known_by : Known → Plan → List Row → Row → Bool
is_known_by known plan rows row = elim row.content [
  | (contents.Term term) ↦ is_plain_with known plan row term || (is_spread_with known plan row term || list_any (is_known_beside known plan row) rows)
  | (contents.Constant text) ↦ false
]

abbrev pub writes_known_beside : Known → Plan → List Entry → Entry → Row → Row → Bool
writes_known_beside known plan es e row main = elim main.content [
  | (contents.Term main_term) ↦ is_plain_attribute_with known plan row e.term main main_term && is_written_by main main_term es e.context
  | (contents.Constant text) ↦ false
]

abbrev pub writes_known : Known → Plan → List Row → List Entry → Entry → Row → Bool
writes_known known plan rows es e row =
    (is_plain_with known plan row e.term && is_written_by row e.term es e.context)
    || ((is_spread_with known plan row e.term && is_written_by row e.term es e.context) || list_any (writes_known_beside known plan es e row) rows)

-- ---- notes with a subject code in front

abbrev pub is_coded : Form → Bool
is_coded forms.Model = false
is_coded forms.PlainDate = false
is_coded forms.DueDateTypeCode = false
is_coded forms.CodedNote = true
is_coded (forms.Typed data_type) = false
is_coded forms.TypedPlainDate = false

-- The row is plain, but for a subject code that it writes in front of its value, and no row has that term.
abbrev pub is_noted_in : Plan → List Row → Row → Term → Bool
is_noted_in plan rows row term = elim (is_coded (form_for row.form term)) [
  | true ↦ is_apart unknown plan row.path && (is_plain_there plan row term && not (list_any (has_term subject_code) rows))
  | false ↦ false
]

abbrev pub is_noted_by : Plan → List Row → Row → Bool
is_noted_by plan rows row = elim row.content [ (contents.Term term) ↦ is_noted_in plan rows row term | (contents.Constant text) ↦ false ]

-- The row writes the entry's value, a subject code, in front of its own.
abbrev pub writes_code : Plan → List Row → List Entry → Entry → Row → Bool
writes_code plan rows es e row = elim row.content [
  | (contents.Term term) ↦ same_term e.term subject_code && (is_noted_in plan rows row term && is_written_by row term es e.context)
  | (contents.Constant text) ↦ false
]

-- the term that the row writes in front of its value
abbrev pub code_terms_of : Row → List Term
code_terms_of row = elim row.content [
  | (contents.Term term) ↦ elim (is_coded (form_for row.form term)) [ true ↦ subject_code ∷ [] | false ↦ [] ]
  | (contents.Constant text) ↦ []
]

-- the same of all rows, if no row has that term
abbrev pub code_terms : List Row → List Term
code_terms rows = elim (list_any (has_term subject_code) rows) [ true ↦ [] | false ↦ flat_map code_terms_of rows ]

abbrev pub is_subject : List ℕ → Bool
is_subject (a ∷ (b ∷ (c ∷ []))) = list_all is_subject_character (a ∷ b ∷ c ∷ [])
is_subject _ = false

-- The text is read as a note behind a subject code.
abbrev pub is_coded_note : List ℕ → Bool
is_coded_note (first ∷ (a ∷ (b ∷ (c ∷ (last ∷ text))))) = (first == 35 && last == 35) && (list_all is_subject_character (a ∷ b ∷ c ∷ []) && not (is_blank text))
is_coded_note _ = false

-- A subject code that isn't one by its form, or a note that has the form of one behind a code, and has none.
abbrev pub is_misread_note : List Entry → Entry → Bool
is_misread_note es e =
    (same_term e.term subject_code && not (is_subject (spelled e.value))) ||
    (same_term e.term note && (is_none (value_in es subject_code e.context) && is_coded_note (spelled e.value)))

abbrev pub is_coded_row : Row → Bool
is_coded_row row = elim row.content [ (contents.Term term) ↦ is_coded (form_for row.form term) | (contents.Constant text) ↦ false ]

abbrev pub is_bad_note : List Row → List Entry → Entry → Bool
is_bad_note rows es e = list_any is_coded_row rows && is_misread_note es e

-- ---- rows that are covered

-- The row is plain or spread, at an element or at an attribute of one, or spread but for a placeholder, or that of a VAT total,
-- or values tell it apart, or it would be plain but for a subject code in front.
abbrev pub is_covered_in : Plan → List Row → Row → Bool
is_covered_in plan rows row =
    is_plain_by plan row
    || (is_spread_by plan row
    || (list_any (is_plain_beside plan row) rows
    || (list_any (is_spread_beside plan row) rows ||
    (is_filled_by plan row || (is_total_by plan rows row ||
    (is_pair_by plan rows row || (is_known_by (known_of rows) plan rows row || is_noted_by plan rows row)))))))

abbrev pub is_covered : List Row → Row → Bool
is_covered rows row = is_covered_in (plan_of rows) rows row

abbrev pub count_covered : List Row → ℕ
count_covered rows = length (filter (is_covered_in (plan_of rows) rows) rows)

-- ---- values that such rows write

-- The row is one of the entry's term at an attribute of the element in which the main row writes its own term.
abbrev pub writes_beside : Plan → List Entry → Entry → Row → Row → Bool
writes_beside plan es e row main = elim main.content [
  | (contents.Term main_term) ↦ (is_plain_attribute_in plan row e.term main main_term || is_spread_attribute_in plan row e.term main main_term) &&
      is_written_by main main_term es e.context
  | (contents.Constant text) ↦ false
]

abbrev pub writes_plainly : Plan → List Row → List Entry → Entry → Row → Bool
writes_plainly plan rows es e row =
    (is_plain_in plan row e.term && is_written_by row e.term es e.context)
    || ((is_spread_in plan row e.term && is_written_by row e.term es e.context)
    || (list_any (writes_beside plan es e row) rows
    || ((is_filled_in plan row e.term && is_written_by row e.term es e.context)
    || ((is_total_in plan rows row e.term && is_written_by row e.term es e.context)
    || ((is_pair_in plan rows row e.term && is_written_by row e.term es e.context)
    || (writes_known (known_of rows) plan rows es e row ||
    ((is_noted_in plan rows row e.term && is_written_by row e.term es e.context) || writes_code plan rows es e row)))))))

-- Such a row of the table writes the entry's value.
abbrev pub is_written_plainly_in : Plan → List Row → List Entry → Entry → Bool
is_written_plainly_in plan rows es e = list_any (writes_plainly plan rows es e) rows

abbrev pub is_written_plainly : List Row → List Entry → Entry → Bool
is_written_plainly rows es e = is_written_plainly_in (plan_of rows) rows es e

-- ---- values that are read back

-- the code is one that has another spelling
abbrev pub is_imaged : Value → Bool
is_imaged (values.Code code) = list_any (λ (image : Image). bytes_eq image.code code) images
is_imaged _ = false

-- A value that is written in the form is read as it: in a form of a type, one of that type.
abbrev pub is_read_back : Form → Value → Bool
is_read_back forms.Model value = true
is_read_back forms.PlainDate value = true
is_read_back forms.DueDateTypeCode value = is_imaged value
is_read_back forms.CodedNote value = true
is_read_back (forms.Typed data_type) value = is_of_type data_type value
is_read_back forms.TypedPlainDate value = is_of_type data_types.D value

-- Each row of the entry's term reads what it writes of its value as that value.
abbrev pub reads_back : List Row → Entry → Bool
reads_back rows e = list_all (λ row. not (has_term e.term row) || is_read_back (form_for row.form e.term) e.value) rows

-- ---- terms that are left out

-- the rows by which a row picks something at a line: those at its element or attribute, or, where a constant stands at the
-- attribute, those at the element, since an attribute of a blank element isn't picked
abbrev pub rows_at_line : Leaf → List Cell → List Row
rows_at_line leaves.Element cells = rows_so is_at_element cells
rows_at_line (leaves.Attribute local) cells = elim (list_all has_any_term (rows_so (is_at_attribute local) cells)) [
  | true ↦ rows_so (is_at_attribute local) cells
  | false ↦ rows_so is_at_element cells
]

-- the same at all lines where a path of names ends, whatever the guards are
abbrev pub rows_named : Leaf → Plan → List Step → List Row
rows_named leaf nothing path = []
rows_named leaf (a_line t cells inside rest) [] = []
rows_named leaf (a_line t cells inside rest) (s ∷ path) = elim (is_called s.name t.name) [
  | true ↦ (elim path [ [] ↦ rows_at_line leaf cells | (u ∷ further) ↦ rows_named leaf inside (u ∷ further) ]) ++ rows_named leaf rest (s ∷ path)
  | false ↦ rows_named leaf rest (s ∷ path)
]

-- No line is below the end of the path of names.
abbrev pub is_bare : Plan → List Step → Bool
is_bare nothing path = true
is_bare (a_line t cells inside rest) [] = false
is_bare (a_line t cells inside rest) (s ∷ path) = elim (is_called s.name t.name) [
  | true ↦ (elim path [ [] ↦ is_nothing inside | (u ∷ further) ↦ is_bare inside (u ∷ further) ]) && is_bare rest (s ∷ path)
  | false ↦ is_bare rest (s ∷ path)
]

abbrev pub rows_there : Plan → Row → List Row
rows_there plan row = rows_named row.leaf plan row.path

-- the terms whose values a row looks at
abbrev pub terms_in : Row → List Term
terms_in row = elim row.content [
  | (contents.Term term) ↦ term ∷ elim row.written [ (written.OrPlaceholder placeholder) ↦ placeholder.beside ∷ [] | _ ↦ [] ]
  | (contents.Constant text) ↦ []
]

-- The row is that of the VAT total in accounting currency, and leads to the elements of a VAT total that is told apart
-- without it.
abbrev pub is_shadowed : Plan → List Row → Row → Bool
is_shadowed plan rows row =
    is_accounting_rule row.written
    && (is_element row.leaf
    && (not (has_term invoice_currency row || has_term accounting_currency row)
    && (not (list_any (λ term. has_term term row) (flat_map beside_placeholder rows)) &&
    list_any (λ (main : Row). is_total_by plan rows main && same_way row.path main.path) rows)))

abbrev pub is_other : Plan → List Row → Row → Bool
is_other plan rows row = has_any_term row && (not (is_covered_in plan rows row) && not (is_shadowed plan rows row))

abbrev pub left_out_in : Plan → List Row → List Term
left_out_in plan rows = flat_map (λ row. flat_map terms_in (rows_there plan row)) (filter (is_other plan rows) rows) ++
    (unjoined_terms plan rows ++ unpaired_terms plan rows)

-- the terms that rows look at which end where rows end that aren't covered, those beside placeholders that aren't told from
-- values, and those of VAT totals in accounting currency whose rows aren't covered
abbrev pub left_out : List Row → List Term
left_out rows = left_out_in (plan_of rows) rows

-- The leaf is no currency of an amount.
abbrev pub is_no_currency : Leaf → Bool
is_no_currency leaves.Element = true
is_no_currency (leaves.Attribute local) = not (bytes_eq local currency_id)

abbrev pub is_settled_in : Plan → List Row → Bool
is_settled_in plan rows = list_all (λ row. not (is_other plan rows row) ||
    (list_all has_any_term (rows_there plan row) && (is_bare plan row.path && is_no_currency row.leaf))) rows

-- Where rows end that aren't covered, no constants stand and no lines are below.
abbrev pub is_settled : List Row → Bool
is_settled rows = is_settled_in (plan_of rows) rows

-- The term is left out.
abbrev pub is_left_out : List Row → Term → Bool
is_left_out rows term = list_any (same_term term) (left_out rows)

-- ---- invoices that such rows write

-- the currency in the invoice
abbrev pub currency_in : List Entry → Term → Option (List ℕ)
currency_in es term = option_map spelled (value_in es term root_context)

abbrev pub is_text : Option (List ℕ) → Option (List ℕ) → Bool
is_text None other = false
is_text (Some a) None = false
is_text (Some a) (Some b) = bytes_eq a b

abbrev pub is_other_text : Option (List ℕ) → Option (List ℕ) → Bool
is_other_text None other = false
is_other_text (Some a) None = false
is_other_text (Some a) (Some b) = not (bytes_eq a b)

-- Where a VAT total in accounting currency stands in the invoice, so do its two currencies, and they differ.
abbrev pub has_currencies : List Row → List Entry → Bool
has_currencies rows es = holds_none (accounting_terms rows) es || is_other_text (currency_in es invoice_currency) (currency_in es accounting_currency)

-- The entry isn't taken for something else, and nothing else for it.
abbrev pub is_unmistaken : Plan → List Row → List Entry → Entry → Bool
is_unmistaken plan rows es e = not (list_any (is_like_placeholder plan rows es e) rows) && (is_as_known (known_of rows) es e && not (is_bad_note rows es e))

-- No term that is left out stands in the invoice, each of its values is read back, and such a row writes it; none is taken
-- for something else.
abbrev pub holds_plainly_in : Plan → List Term → List Row → List Entry → Bool
holds_plainly_in plan left rows es =
    list_all (λ e. not (list_any (same_term e.term) left) && (reads_back rows e && is_written_plainly_in plan rows es e)) es &&
    (has_currencies rows es && list_all (is_unmistaken plan rows es) es)

abbrev pub holds_plainly : List Row → List Entry → Bool
holds_plainly rows es = holds_plainly_in (plan_of rows) (left_out rows) rows es

-- the numbers and parts of the terms that are left out, in listing order
abbrev pub left_out_terms : List Row → List Term
left_out_terms rows = map (λ (r : TermRow). r.term) (filter (λ (r : TermRow). list_any (same_term r.term) (left_out rows)) terms)

-- ---- currencies

-- The currency of the invoice that is read is that of the invoice, or none is read.
abbrev pub is_own_currency : List Entry → Option (List ℕ) → Bool
is_own_currency es None = true
is_own_currency es (Some text) = elim (value_in es invoice_currency root_context) [ None ↦ false | Some value ↦ bytes_eq text (trimmed (spelled value)) ]

-- the currency in the invoice, as it is read
abbrev pub currency_text : List Entry → Term → Option (List ℕ)
currency_text es term = option_map (λ value. trimmed (spelled value)) (value_in es term root_context)

-- So it is, and where a VAT total in accounting currency stands in the invoice, both currencies that are read are those of
-- the invoice.
abbrev pub are_own_currencies : List Row → List Entry → Currencies → Bool
are_own_currencies rows es c =
    is_own_currency es c.invoice
    && (holds_none (accounting_terms rows) es || (is_text c.invoice (currency_text es invoice_currency) &&
    is_text c.accounting (currency_text es accounting_currency)))
