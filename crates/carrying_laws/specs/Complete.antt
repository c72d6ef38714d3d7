-- Tables whose covered rows write each value of a valid invoice that they can carry: a test over the rows and over the
-- terms of the semantic model, each in the contexts that it has. All of it computes from the rows.
use Rattle.std.specs.Prelude.{Bool, true, false, not, ◌&&◌, ◌||◌, List, filter, codes, Option, Some, None}
use Rattle.std.specs.List.{list_all, list_any}
use Rattle.std.specs.Str.{bytes_eq}
use Rattle.std.specs.Cmp.Lexicographic.{pointwise}
use Rattle.term_table.specs.declared.groups.Group.{Group}
use Rattle.term_table.specs.declared.terms.Mark.{Mark}
use Rattle.term_table.specs.declared.terms.Mark.TheVariants as marks
use Rattle.term_table.specs.declared.terms.Term.{Term}
use Rattle.term_table.specs.declared.terms.TermRow.{TermRow}
use Rattle.term_table.specs.SemanticModel.{same_term, is_extension, terms}
use Rattle.term_table.specs.Groups.{is_repeated}
use Rattle.term_table.specs.Contexts.{same_groups, outer_group, inner_group, stands_in}
use Rattle.bind_rows.specs.declared.rows.Content.TheVariants as contents
use Rattle.bind_rows.specs.declared.rows.Row.{Row}
use Rattle.bind_rows.specs.declared.rows.Placeholder.{Placeholder}
use Rattle.bind_rows.specs.declared.rows.Form.{Form}
use Rattle.bind_rows.specs.declared.rows.Form.TheVariants as forms
use Rattle.bind_rows.specs.declared.rows.Written.{Written}
use Rattle.bind_rows.specs.declared.rows.Written.TheVariants as written
use Rattle.bind_rows.specs.Same.{same_step}
use Rattle.bind_rows.specs.Added.{is_added}
use Rattle.bind_table.specs.Lines.{Plan, plan_of}
use Rattle.bind_meaning.specs.Trees.{either}
use Rattle.bind_meaning.specs.Values.{subject_code, form_for}
use Rattle.bind_meaning.specs.Writing.{scheme_of}
use Rattle.binding_laws.specs.Apart.{Unlike, Together, Known}
use Rattle.binding_laws.specs.Known.{known_of}
use Rattle.binding_laws.specs.Plain.{is_one, has_content, stands_there, is_plain_in, is_plain_with, is_spread_in, is_spread_with, is_plain_attribute_in}
use Rattle.binding_laws.specs.Plain.{is_plain_attribute_with, is_spread_attribute_in}
use Rattle.binding_laws.specs.Covered.{is_filled_in, is_total_in, is_pair_in, is_noted_in, is_coded_row, accounting_terms, left_out}
use Rattle.binding_laws.specs.Faultless.{is_if_scheme, is_model}
use Rattle.bind_carrying.specs.Carrying.{bt, is_bt, main_term}
use Rattle.bind_carrying.specs.Tables.{document_type_of, is_ubl}

-- Both hold; the second isn't computed where the first doesn't.
abbrev pub also : Bool → (Unit {0} → Bool) → Bool
also true b = b tt
also false b = false

-- ---- rows that write a term at an element

-- The rule lets each value pass.
abbrev pub lets_all : Written → Bool
lets_all written.Always = true
lets_all written.Never = false
lets_all written.IfIban = false
lets_all written.IfNotIban = false
lets_all written.IfScheme = false
lets_all written.IfNoScheme = false
lets_all (written.OrPlaceholder placeholder) = true
lets_all written.VatTotal = true
lets_all written.AccountingVatTotal = true

abbrev pub is_if_iban : Written → Bool
is_if_iban written.IfIban = true
is_if_iban _ = false

abbrev pub is_if_not_iban : Written → Bool
is_if_not_iban written.IfNotIban = true
is_if_not_iban _ = false

abbrev pub is_if_no_scheme : Written → Bool
is_if_no_scheme written.IfNoScheme = true
is_if_no_scheme _ = false

-- The row writes the term at its element, as the model spells it.
abbrev pub is_as_modelled : Term → Row → Bool
is_as_modelled term row = is_model (form_for row.form term)

-- The row is one of these groups' contexts.
abbrev pub is_of : Option Group → Option Group → Row → Bool
is_of outer inner row = same_groups outer row.outer && same_groups inner row.inner

-- The row of the term is covered at its element.
abbrev pub is_covered_for : Plan → Known → List Row → Term → Row → Bool
is_covered_for plan known rows term row =
    either (is_plain_in plan row term) (λ _.
    either (is_spread_in plan row term) (λ _.
    either (is_filled_in plan row term) (λ _.
    either (is_total_in plan rows row term) (λ _.
    either (is_pair_in plan rows row term) (λ _.
    either (is_plain_with known plan row term) (λ _.
    either (is_spread_with known plan row term) (λ _. is_noted_in plan rows row term)))))))

abbrev pub is_writer : Plan → Known → List Row → Term → Option Group → Option Group → (Row → Bool) → Row → Bool
is_writer plan known rows term outer inner lets row = also (lets row && is_of outer inner row) (λ _. is_covered_for plan known rows term row)

-- Some covered row of the term in these groups is written where the rule says so.
abbrev pub has_writer : Plan → Known → List Row → Term → Option Group → Option Group → (Row → Bool) → List Row → Bool
has_writer plan known rows term outer inner lets own = list_any (is_writer plan known rows term outer inner lets) own

-- ---- terms that stand in the same context

abbrev pub is_mandatory_mark : Mark → Bool
is_mandatory_mark marks.One = true
is_mandatory_mark marks.Optional = false
is_mandatory_mark marks.After = false

abbrev pub is_mandatory_at : Term → Option Group → Option Group → TermRow → Bool
is_mandatory_at term outer inner r = also (same_term r.term term) (λ _. is_mandatory_mark r.mark && (is_repeated r.group && stands_in r.group outer inner))

-- The term is mandatory in each occurrence of these groups.
abbrev pub is_mandatory : Term → Option Group → Option Group → Bool
is_mandatory term outer inner = list_any (is_mandatory_at term outer inner) terms

-- The first term is the one without which the other can't be carried.
abbrev pub is_own_main : Bool → Term → Term → Bool
is_own_main ubl term main = elim (main_term ubl term) [ None ↦ false | Some t ↦ same_term t main ]

-- Where the term stands in these groups, so does its main term.
abbrev pub stands_with : Bool → Term → Option Group → Option Group → Term → Bool
stands_with ubl term outer inner main = either (is_own_main ubl term main) (λ _. is_mandatory main outer inner)

-- ---- rows that write a term at an attribute

-- Where the term stands, the rule lets each value of its main term pass.
abbrev pub lets_beside : Term → Term → Written → Bool
lets_beside term main rule = either (lets_all rule) (λ _. is_if_scheme rule && same_term (scheme_of main) term)

abbrev pub is_covered_beside : Plan → Known → Term → Row → Row → Term → Bool
is_covered_beside plan known term row main main_t =
    either (is_plain_attribute_in plan row term main main_t) (λ _.
    either (is_spread_attribute_in plan row term main main_t) (λ _. is_plain_attribute_with known plan row term main main_t))

abbrev pub is_main : Plan → Known → Bool → Term → Option Group → Option Group → Row → Row → Term → Bool
is_main plan known ubl term outer inner row main main_t =
    also (pointwise same_step row.path main.path) (λ _. also (is_of outer inner main && lets_beside term main_t main.written)
    (λ _. also (stands_with ubl term outer inner main_t) (λ _. is_covered_beside plan known term row main main_t)))

abbrev pub is_beside : Plan → Known → Bool → Term → Option Group → Option Group → Row → Row → Bool
is_beside plan known ubl term outer inner row main = elim main.content [
  | (contents.Term main_t) ↦ is_main plan known ubl term outer inner row main main_t
  | (contents.Constant text) ↦ false
]

-- Some row of the term is covered at an attribute, beside one that is written wherever the term stands in these groups.
abbrev pub has_attribute : Plan → Known → List Row → Bool → Term → Option Group → Option Group → List Row → Bool
has_attribute plan known rows ubl term outer inner own = list_any (λ row. list_any (is_beside plan known ubl term outer inner row) rows) own

-- ---- rows that write a subject code in front of their own value

-- Where the subject code stands in these groups, so does the term of such a row, which is written.
abbrev pub is_note_of : Plan → List Row → Bool → Term → Option Group → Option Group → Row → Term → Bool
is_note_of plan rows ubl term outer inner row main =
    also (lets_all row.written && is_of outer inner row) (λ _. also (stands_with ubl term outer inner main) (λ _. is_noted_in plan rows row main))

abbrev pub is_coder : Plan → List Row → Bool → Term → Option Group → Option Group → Row → Bool
is_coder plan rows ubl term outer inner row = elim row.content [
  | (contents.Term main) ↦ is_note_of plan rows ubl term outer inner row main
  | (contents.Constant text) ↦ false
]

-- The term is a subject code, and some row writes it in front of its own value wherever it stands in these groups.
abbrev pub has_coder : Plan → List Row → Bool → Term → Option Group → Option Group → Bool
has_coder plan rows ubl term outer inner = also (same_term term subject_code) (λ _. list_any (is_coder plan rows ubl term outer inner) rows)

-- ---- each term of the model

-- Each value of the term in these groups is written: by one row, by one of two that exclude one another, beside another
-- term or in front of one. Or the term is left out.
abbrev pub is_written_by_some : Plan → Known → List Term → List Row → Bool → Term → Option Group → Option Group → List Row → Bool
is_written_by_some plan known left rows ubl term outer inner own =
    either (list_any (same_term term) left) (λ _.
    either (has_writer plan known rows term outer inner (λ row. lets_all row.written) own) (λ _.
    either (also (has_writer plan known rows term outer inner (λ row. is_if_iban row.written && is_as_modelled term row) own)
    (λ _. has_writer plan known rows term outer inner (λ row. is_if_not_iban row.written && is_as_modelled term row) own)) (λ _.
    either (also (has_writer plan known rows term outer inner (λ row. is_if_scheme row.written) own)
    (λ _. has_writer plan known rows term outer inner (λ row. is_if_no_scheme row.written) own)) (λ _.
    either (has_attribute plan known rows ubl term outer inner own) (λ _. has_coder plan rows ubl term outer inner)))))

abbrev pub rows_with : Term → List Row → List Row
rows_with term rows = filter (λ row. has_content term row.content) rows

abbrev pub is_written_in : Plan → Known → List Term → List Row → Bool → Term → Option Group → Option Group → Bool
is_written_in plan known left rows ubl term outer inner = is_written_by_some plan known left rows ubl term outer inner (rows_with term rows)

abbrev pub writes_model : Plan → Known → List Term → List Row → Bool → Bool
writes_model plan known left rows ubl = list_all (λ (r : TermRow). is_written_in plan known left rows ubl r.term (outer_group r.group) (inner_group r.group))
    terms

-- ---- values that are read back

-- Each value of the term that can be carried is read back from the form. A form with a type is that of a term that a user
-- added: which values those are, condition 9 says.
abbrev pub is_readable : Form → Term → Bool
is_readable forms.Model term = true
is_readable forms.PlainDate term = true
is_readable forms.DueDateTypeCode term = is_bt 8 0 term
is_readable forms.CodedNote term = true
is_readable (forms.Typed data_type) term = is_extension term
is_readable forms.TypedPlainDate term = is_extension term

abbrev pub reads_term : List Term → Row → Bool
reads_term left row = elim row.content [
  | (contents.Term term) ↦ list_any (same_term term) left || is_readable (form_for row.form term) term
  | (contents.Constant text) ↦ true
]

-- ---- values that aren't taken for something else

-- The row's placeholder is told from values by condition 3, if any.
abbrev pub is_kept_placeholder : Bool → Term → Placeholder → Bool
is_kept_placeholder ubl term placeholder =
    ubl && ((is_bt 13 0 term && (bytes_eq placeholder.text (codes "NA") && same_term placeholder.beside (bt 14))) && stands_there term None None)

abbrev pub keeps_placeholder : Bool → Row → Bool
keeps_placeholder ubl row = elim row.written [
  | (written.OrPlaceholder placeholder) ↦ elim row.content [ (contents.Term term) ↦ is_kept_placeholder ubl term placeholder | (contents.Constant text) ↦ true ]
  | _ ↦ true
]

-- By condition 2 the text is no value of the term.
abbrev pub is_kept_unlike : Bool → Unlike → Bool
is_kept_unlike ubl u = ubl && ((is_bt 29 1 u.term || is_bt 60 1 u.term) && bytes_eq u.text (codes "SEPA"))

-- Where the first term stands in an occurrence of the group, so does the second.
abbrev pub keeps_together_at : Bool → Together → TermRow → Bool
keeps_together_at ubl x r =
    either (not (same_term r.term x.term && same_groups (outer_group r.group) (Some x.group)))
    (λ _. stands_with ubl r.term (outer_group r.group) (inner_group r.group) x.part)

abbrev pub keeps_together : Bool → Together → Bool
keeps_together ubl x = not (is_extension x.term) && list_all (keeps_together_at ubl x) terms

-- What has to be known of an invoice is so in each that can be carried.
abbrev pub keeps_known : Known → Bool → Bool
keeps_known known ubl = list_all (is_kept_unlike ubl) known.unlike && list_all (keeps_together ubl) known.together

-- By condition 4 no note is taken for another.
abbrev pub keeps_notes : List Row → Bool → Bool
keeps_notes rows ubl = ubl || not (list_any is_coded_row rows)

abbrev pub mistakes_none : Known → List Row → Bool → Bool
mistakes_none known rows ubl = list_all (keeps_placeholder ubl) rows && (keeps_known known ubl && keeps_notes rows ubl)

-- ---- rows that users added

abbrev pub is_plain_alone : Plan → List Row → Row → Bool
is_plain_alone plan rows row = elim row.content [
  | (contents.Term term) ↦ also (is_plain_in plan row term) (λ _. is_one (rows_with term rows))
  | (contents.Constant text) ↦ false
]

-- Each row that a user added is plain, and the only one of its term.
abbrev pub adds_plainly : Plan → List Row → Bool
adds_plainly plan rows = list_all (λ row. either (not (is_added row)) (λ _. is_plain_alone plan rows row)) rows

-- ---- the table

abbrev pub is_complete_in : Plan → Known → List Term → List Row → Bool → Bool
is_complete_in plan known left rows ubl =
    writes_model plan known left rows ubl && (list_all (reads_term left) rows &&
    (list_all (same_term (bt 111)) (accounting_terms rows) && (adds_plainly plan rows && mistakes_none known rows ubl)))

-- Each value of a valid invoice that the table can carry is written by a covered row, read back, and not taken for
-- something else, unless its term is left out; no VAT total is in accounting currency but BT-111; and rows that users added
-- are plain.
abbrev pub is_complete : List Row → Bool
is_complete rows = is_complete_in (plan_of rows) (known_of rows) (left_out rows) rows (is_ubl (document_type_of rows))
