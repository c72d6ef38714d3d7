-- Whether a table can carry an invoice: the least of nine conditions that fails, and the first entry in listing order at which it does. Reading the
-- document back isn't spoken of.
use Rattle.std.specs.Prelude.{ℕ, ◌+◌, ◌==◌, nat_lt, Bool, true, false, not, ◌&&◌, ◌||◌, List, [], ◌∷◌, codes, bytes_eq, encode_utf8_all, find, length, Option}
use Rattle.std.specs.Prelude.{Some, None, is_some, is_none, option_map, Result, Ok, Err, if◌then◌else◌}
use Rattle.std.specs.List.{list_any}
use Rattle.xml_tokens.specs.Beginnings.{greatest_tag}
use Rattle.xml_state.specs.Sizes.{document_limits}
use Rattle.term_table.specs.declared.terms.Term.{Term}
use Rattle.term_table.specs.SemanticModel.{is_extension}
use Rattle.term_table.specs.declared.contexts.Context.{Context}
use Rattle.term_table.specs.Contexts.{root_context, slot_group}
use Rattle.inv_terms.specs.declared.entries.Entry.{Entry}
use Rattle.inv_terms.specs.declared.values.Value.{Value}
use Rattle.inv_terms.specs.Values.{spelled, is_blank}
use Rattle.inv_terms.specs.Listing.{value_in}
use Rattle.xml_write.specs.Sizes.{canonical_tags, longest}
use Rattle.bind_rows.specs.declared.rows.Form.{Form}
use Rattle.bind_rows.specs.declared.rows.Row.{Row}
use Rattle.bind_rows.specs.Added.{is_added, data_type_of_form}
use Rattle.bind_rows.specs.Same.{same_or_none, choose}
use Rattle.bind_meaning.specs.Picks.{has_term}
use Rattle.bind_meaning.specs.Values.{is_subject_character}
use Rattle.bind_meaning.specs.Writing.{is_of_type}
use Rattle.bind_meaning.specs.Trees.{document_of}
use Rattle.bind_write.specs.Documents.{declarations_for, document_text, node_count}
use Rattle.bind_rows.specs.declared.tables.DocumentType.{DocumentType}
use Rattle.bind_rows.specs.declared.tables.DocumentType.TheVariants as document_type
use Rattle.bind_carrying.specs.declared.conditions.Condition.{Condition}
use Rattle.bind_carrying.specs.declared.conditions.Condition.TheVariants as conditions
use Rattle.bind_carrying.specs.declared.carrying.NotCarried.{NotCarried}
use Rattle.bind_carrying.specs.Tables.{document_type_of, is_ubl, is_credit_note}

abbrev pub bt : ℕ → Term
bt n = record { number = n; part = 0 }

-- It is the term of that number and part.
abbrev pub is_bt : ℕ → ℕ → Term → Bool
is_bt n part term = term.number == n && term.part == part

abbrev pub has_text : Entry → List ℕ → Bool
has_text e text = bytes_eq text (spelled e.value)

abbrev pub stands : List Entry → ℕ → Bool
stands es n = is_some (value_in es (bt n) root_context)

-- ---- 1: a part whose place is an attribute stands without its main term

abbrev pub is_first_part : ℕ → Bool
is_first_part n = n == 30 || (n == 34 || (n == 46 || (n == 47 || (n == 49 || (n == 60 || (n == 61 || (n == 71 || (n == 125 || n == 157))))))))

abbrev pub is_part : Bool → Term → Bool
is_part ubl term =
    (term.part == 1 && (is_first_part term.number || (ubl && (term.number == 18 || term.number == 128)))) || is_bt 125 2 term

-- the term at whose element a part is written as an attribute
abbrev pub main_term : Bool → Term → Option Term
main_term ubl term =
    if is_part ubl term then Some (bt term.number)
    else (if is_bt 150 0 term then Some (bt 149) else (if ubl && is_bt 82 0 term then Some (bt 81) else None))

abbrev pub lacks_main : List Entry → Entry → Option Term → Bool
lacks_main es e None = false
lacks_main es e (Some main) = is_none (value_in es main e.context)

abbrev pub stands_alone : DocumentType → List Entry → Entry → Bool
stands_alone table es e = lacks_main es e (main_term (is_ubl table) e.term)

-- ---- 2: a scheme in UBL is the one that marks a creditor identifier

abbrev pub marks_creditor : DocumentType → Entry → Bool
marks_creditor table e = is_ubl table && ((is_bt 29 1 e.term || is_bt 60 1 e.term) && has_text e (codes "SEPA"))

-- ---- 3: a purchase order reference in UBL is the placeholder beside a sales order reference

abbrev pub is_placeholder : DocumentType → List Entry → Entry → Bool
is_placeholder table es e = is_ubl table && (is_bt 13 0 e.term && (has_text e (codes "NA") && stands es 14))

-- ---- 4: in UBL a subject code isn't three of A-Z and 0-9, or a note without one has the form of a note with one

abbrev pub is_subject : List ℕ → Bool
is_subject (a ∷ (b ∷ (c ∷ []))) = is_subject_character a && (is_subject_character b && is_subject_character c)
is_subject _ = false

abbrev pub is_coded_note : List ℕ → Bool
is_coded_note (first ∷ (a ∷ (b ∷ (c ∷ (last ∷ text))))) = (first == 35 && last == 35) && (is_subject (a ∷ b ∷ c ∷ []) && not (is_blank text))
is_coded_note _ = false

abbrev pub is_misread_note : List Entry → Entry → Bool
is_misread_note es e =
    (is_bt 21 0 e.term && not (is_subject (spelled e.value))) ||
    (is_bt 22 0 e.term && (is_none (value_in es (bt 21) e.context) && is_coded_note (spelled e.value)))

abbrev pub is_bad_note : DocumentType → List Entry → Entry → Bool
is_bad_note table es e = is_ubl table && is_misread_note es e

-- ---- 5: the type isn't one of the table's documents, or a code of BT-8 has no image

abbrev pub is_other_type : DocumentType → List ℕ → Bool
is_other_type document_type.Invoice code = is_credit_note code
is_other_type document_type.CreditNote code = not (is_credit_note code)
is_other_type document_type.Cii code = false

abbrev pub has_image : List ℕ → Bool
has_image code = bytes_eq (codes "3") code || (bytes_eq (codes "35") code || bytes_eq (codes "432") code)

abbrev pub has_bad_code : DocumentType → Entry → Bool
has_bad_code table e = (is_bt 3 0 e.term && is_other_type table (spelled e.value)) || (is_bt 8 0 e.term && not (has_image (spelled e.value)))

-- ---- 6: a term whose only place in UBL is a PaymentMeans stands where no PaymentMeans is written

abbrev pub is_payment_term : ℕ → Bool
is_payment_term n = n == 82 || (n == 83 || (n == 87 || (n == 88 || (n == 89 || n == 91))))

abbrev pub needs_means : DocumentType → Term → Bool
needs_means document_type.Invoice term = term.part == 0 && is_payment_term term.number
needs_means document_type.CreditNote term = term.part == 0 && (is_payment_term term.number || term.number == 9)
needs_means document_type.Cii term = false

abbrev pub lacks_means : DocumentType → List Entry → Entry → Bool
lacks_means table es e = needs_means table e.term && not (stands es 81)

-- ---- 7: a VAT total in the accounting currency, and there is no such currency beside that of the invoice

abbrev pub same_text : Option Value → Option Value → Bool
same_text None other = false
same_text (Some a) None = false
same_text (Some a) (Some b) = bytes_eq (spelled a) (spelled b)

abbrev pub has_no_currency : List Entry → Entry → Bool
has_no_currency es e =
    is_bt 111 0 e.term && (not (stands es 6) || same_text (value_in es (bt 6) root_context) (value_in es (bt 5) root_context))

-- ---- 8: the document passes the limits on documents that are read: on bytes, on tags and on nodes

abbrev pub is_too_large : List Row → List Entry → Bool
is_too_large rows es =
    nat_lt document_limits.bytes (length (encode_utf8_all (document_text rows es)))
    || (nat_lt greatest_tag (longest (canonical_tags (declarations_for rows) (document_of rows es))) ||
    nat_lt document_limits.nodes (node_count (document_of rows es)))

-- ---- 9: a term that a user added, of which the table has no row of its context's groups and its value's type

-- The context is one of occurrences of the row's groups.
abbrev pub has_groups : Row → Context → Bool
has_groups row c = same_or_none row.outer (slot_group c.outer) && same_or_none row.inner (slot_group c.inner)

-- The form says the type itself, and it is the value's.
abbrev pub says_type : Form → Value → Bool
says_type form value = elim (data_type_of_form form) [ None ↦ false | Some data_type ↦ is_of_type data_type value ]

-- A user added the row for the entry's term, in its groups and with its type.
abbrev pub is_row_of : Entry → Row → Bool
is_row_of e row = is_added row && (has_term e.term row && (has_groups row e.context && says_type row.form e.value))

abbrev pub is_unplaced : List Row → Entry → Bool
is_unplaced rows e = choose (is_extension e.term) (λ _. not (list_any (is_row_of e) rows)) (λ _. false)

abbrev pub first_unplaced : List Row → List Entry → Option NotCarried
first_unplaced rows es = option_map (λ (e : Entry). record { condition = 9; term = Some e.term }) (find (is_unplaced rows) es)

-- ---- the least condition that fails, and its first entry

abbrev pub fails : Condition → DocumentType → List Entry → Entry → Bool
fails conditions.Part table es e = stands_alone table es e
fails conditions.Creditor table es e = marks_creditor table e
fails conditions.Placeholder table es e = is_placeholder table es e
fails conditions.Note table es e = is_bad_note table es e
fails conditions.Code table es e = has_bad_code table e
fails conditions.Means table es e = lacks_means table es e
fails conditions.Currency table es e = has_no_currency es e

abbrev pub number_of : Condition → ℕ
number_of conditions.Part = 1
number_of conditions.Creditor = 2
number_of conditions.Placeholder = 3
number_of conditions.Note = 4
number_of conditions.Code = 5
number_of conditions.Means = 6
number_of conditions.Currency = 7

abbrev pub all_conditions : List Condition
all_conditions = conditions.Part ∷ conditions.Creditor ∷ conditions.Placeholder ∷ conditions.Note ∷ conditions.Code ∷ conditions.Means ∷ conditions.Currency ∷
    []

-- the first entry at which the condition fails
abbrev pub first_at : Condition → DocumentType → List Entry → Option Entry
first_at condition table es = find (fails condition table es) es

abbrev pub first_term : Option Entry → Option Term
first_term e = option_map (λ (e : Entry). e.term) e

abbrev pub told : Condition → Option Term → Option NotCarried → Option NotCarried
told condition None others = others
told condition (Some term) others = Some (record { condition = number_of condition; term = Some term })

abbrev pub first_failing : List Condition → DocumentType → List Entry → Option NotCarried
first_failing [] table es = None
first_failing (condition ∷ conditions) table es = told condition (first_term (first_at condition table es)) (first_failing conditions table es)

-- What the entries show of conditions 1 to 7.
abbrev pub entries_fail : List Row → List Entry → Option NotCarried
entries_fail rows es = first_failing all_conditions (document_type_of rows) es

-- conditions 8 and 9
abbrev pub rest_carried : Bool → Option NotCarried → Result (Unit {0}) NotCarried
rest_carried true unplaced = Err (record { condition = 8; term = None })
rest_carried false (Some fault) = Err fault
rest_carried false None = Ok tt

abbrev pub answer : Option NotCarried → Bool → Option NotCarried → Result (Unit {0}) NotCarried
answer (Some fault) large unplaced = Err fault
answer None large unplaced = rest_carried large unplaced

-- Whether the entries keep all conditions but the eighth, on the size of the whole document.
abbrev pub entries_carried : List Row → List Entry → Result (Unit {0}) NotCarried
entries_carried rows es = answer (entries_fail rows es) false (first_unplaced rows es)

-- Whether the table carries the invoice.
abbrev pub carrying : List Row → List Entry → Result (Unit {0}) NotCarried
carrying rows es = answer (entries_fail rows es) (is_too_large rows es) (first_unplaced rows es)
