-- The business terms and groups of EN 16931-1, section 6: the semantic model, in the order of its table. A group's own
-- terms stand before the groups in it. P-29, P-29S and P-158 are groups of this program for the terms BT-29 and BT-158,
-- which the standard lets stand several times by themselves.
use Rattle.std.specs.Prelude.{ℕ, zero, suc, ◌+◌, Bool, ◌==◌, ◌&&◌, nat_le, List, [], ◌∷◌, ◌++◌, map, Option, Some, None}
use Rattle.std.specs.List.{flat_map}
use Rattle.code_lists.specs.declared.names.List.{List as CodeList}
use Rattle.code_lists.specs.declared.names.List.TheVariants as lists
use Rattle.term_table.specs.declared.groups.Group.{Group}
use Rattle.term_table.specs.declared.groups.Group.TheVariants as groups
use Rattle.term_table.specs.declared.groups.Occurrence.{Occurrence}
use Rattle.term_table.specs.declared.groups.Occurrence.TheVariants as occurs
use Rattle.term_table.specs.declared.terms.DataType.{DataType}
use Rattle.term_table.specs.declared.terms.DataType.TheVariants as data_types
use Rattle.term_table.specs.declared.terms.Mark.{Mark}
use Rattle.term_table.specs.declared.terms.Mark.TheVariants as marks
use Rattle.term_table.specs.declared.terms.Term.{Term}
use Rattle.term_table.specs.declared.terms.TermRow.{TermRow}

abbrev pub same_term : Term → Term → Bool
same_term a b = (a.number == b.number) && (a.part == b.part)

-- ---- how a line of the table is written

-- a term, once its group is known
abbrev pub Line : Type 0
Line = Group → TermRow

abbrev pub line : ℕ → ℕ → DataType → Mark → Option CodeList → Line
line number part data_type mark list group = record {
  term = record { number = number; part = part };
  group = group;
  data_type = data_type;
  mark = mark;
  list
      = list;
}

-- a term by its number, mandatory or optional in its group
abbrev pub needs : ℕ → DataType → Line
needs number data_type = line number 0 data_type marks.One None

abbrev pub may : ℕ → DataType → Line
may number data_type = line number 0 data_type marks.Optional None

-- the same for a code, with the list that it is from
abbrev pub needs_code : ℕ → CodeList → Line
needs_code number list = line number 0 data_types.C marks.One (Some list)

abbrev pub may_code : ℕ → CodeList → Line
may_code number list = line number 0 data_types.C marks.Optional (Some list)

-- the code in the first part of a term, such as the scheme of an identifier
abbrev pub part_code : ℕ → Mark → CodeList → Line
part_code number mark list = line number 1 data_types.C mark (Some list)

-- an address: three lines, city, post code, country subdivision, country
abbrev pub address : ℕ → ℕ → ℕ → ℕ → ℕ → ℕ → ℕ → List Line
address a b c d e f g = may a data_types.T ∷ may b data_types.T ∷ may c data_types.T ∷ may d data_types.T ∷ may e data_types.T ∷ may f data_types.T ∷
    needs_code g
    lists.Country ∷ []

-- an allowance or a charge begins with its amount, base amount and percentage, and ends with its reason and the
-- reason's code
abbrev pub sum_off : ℕ → ℕ → ℕ → List Line
sum_off a b c = needs a data_types.A ∷ may b data_types.A ∷ may c data_types.P ∷ []

abbrev pub reason : ℕ → ℕ → CodeList → List Line
reason a b list = may a data_types.T ∷ may_code b list ∷ []

-- one of a line has no more, and one of the document has the category and the rate of its VAT between them
abbrev pub line_sum_off : ℕ → ℕ → ℕ → ℕ → ℕ → CodeList → List Line
line_sum_off a b c d e list = sum_off a b c ++ reason d e list

abbrev pub document_sum_off : ℕ → ℕ → ℕ → ℕ → ℕ → ℕ → ℕ → CodeList → List Line
document_sum_off a b c d e f g list = sum_off a b c ++ needs_code d lists.Category ∷ may e data_types.P ∷ reason f g list

-- ---- the table

-- a group with the group around it, how often it stands there, and its own terms
pub record Section : Type 0 where
  pub group : Group
  pub parent : Group
  pub occurrence : Occurrence
  pub lines : List Line

abbrev pub section : Group → Group → Occurrence → List Line → Section
section group parent occurrence lines = record { group = group; parent = parent; occurrence = occurrence; lines = lines }

abbrev pub semantic_model : List Section
semantic_model =
    section groups.Root groups.Root occurs.Once
    (needs 1 data_types.I ∷ needs 2 data_types.D ∷ needs_code 3 lists.InvoiceType ∷ needs_code 5 lists.Currency ∷ may_code 6 lists.Currency
    ∷ may 7 data_types.D ∷ may_code 8 lists.Point ∷ may 9 data_types.D ∷ may 10 data_types.T ∷ may 11 data_types.I ∷ may 12 data_types.I ∷ may 13 data_types.I
    ∷ may 14 data_types.I ∷ may 15 data_types.I ∷ may 16 data_types.I ∷ may 17 data_types.I ∷ may 18 data_types.I ∷ part_code 18 marks.Optional lists.Object
    ∷ may 19 data_types.T ∷ may 20 data_types.T ∷ [])
    -- BG-1 to BG-3
    ∷ section groups.InvoiceNote groups.Root occurs.AnyNumber (may_code 21 lists.Subject ∷ needs 22 data_types.T ∷ [])
    ∷ section groups.ProcessControl groups.Root occurs.Once (may 23 data_types.T ∷ needs 24 data_types.I ∷ [])
    ∷ section groups.PrecedingInvoice groups.Root occurs.AnyNumber (needs 25 data_types.I ∷ may 26 data_types.D ∷ [])
    -- BG-4, with P-29, P-29S, BG-5 and BG-6 in it
    ∷ section groups.Seller groups.Root occurs.Once
    (needs 27 data_types.T ∷ may 28 data_types.T ∷ may 30 data_types.I ∷ part_code 30 marks.Optional lists.Scheme ∷ may 31 data_types.I ∷ may 32 data_types.I
    ∷ may 33 data_types.T ∷ may 34 data_types.I ∷ part_code 34 marks.After lists.Endpoint ∷ [])
    ∷ section groups.SellerIdentifier groups.Seller occurs.AnyNumber (needs 29 data_types.I ∷ [])
    ∷ section groups.SellerSchemedIdentifier groups.Seller occurs.AnyNumber (needs 29 data_types.I ∷ part_code 29 marks.One lists.Scheme ∷ [])
    ∷ section groups.SellerAddress groups.Seller occurs.Once (address 35 36 162 37 38 39 40)
    ∷ section groups.SellerContact groups.Seller occurs.AtMostOnce (may 41 data_types.T ∷ may 42 data_types.T ∷ may 43 data_types.T ∷ [])
    -- BG-7, with BG-8 and BG-9 in it
    ∷ section groups.Buyer groups.Root occurs.Once
    (needs 44 data_types.T ∷ may 45 data_types.T ∷ may 46 data_types.I ∷ part_code 46 marks.Optional lists.Scheme ∷ may 47 data_types.I
    ∷ part_code 47 marks.Optional lists.Scheme ∷ may 48 data_types.I ∷ may 49 data_types.I ∷ part_code 49 marks.After lists.Endpoint ∷ [])
    ∷ section groups.BuyerAddress groups.Buyer occurs.Once (address 50 51 163 52 53 54 55)
    ∷ section groups.BuyerContact groups.Buyer occurs.AtMostOnce (may 56 data_types.T ∷ may 57 data_types.T ∷ may 58 data_types.T ∷ [])
    -- BG-10
    ∷ section groups.Payee groups.Root occurs.AtMostOnce
    (needs 59 data_types.T ∷ may 60 data_types.I ∷ part_code 60 marks.Optional lists.Scheme ∷ may 61 data_types.I ∷ part_code 61 marks.Optional lists.Scheme ∷
    [])
    -- BG-11, with BG-12 in it
    ∷ section groups.TaxRepresentative groups.Root occurs.AtMostOnce (needs 62 data_types.T ∷ needs 63 data_types.I ∷ [])
    ∷ section groups.TaxRepresentativeAddress groups.TaxRepresentative occurs.Once (address 64 65 164 66 67 68 69)
    -- BG-13, with BG-14 and BG-15 in it
    ∷ section groups.Delivery groups.Root occurs.AtMostOnce
    (may 70 data_types.T ∷ may 71 data_types.I ∷ part_code 71 marks.Optional lists.Scheme ∷ may 72 data_types.D ∷ [])
    ∷ section groups.InvoicingPeriod groups.Delivery occurs.AtMostOnce (may 73 data_types.D ∷ may 74 data_types.D ∷ [])
    ∷ section groups.DeliveryAddress groups.Delivery occurs.AtMostOnce (address 75 76 165 77 78 79 80)
    -- BG-16, with BG-17 to BG-19 in it
    ∷ section groups.PaymentInstructions groups.Root occurs.AtMostOnce (needs_code 81 lists.Means ∷ may 82 data_types.T ∷ may 83 data_types.T ∷ [])
    ∷ section groups.CreditTransfer groups.PaymentInstructions occurs.AnyNumber (needs 84 data_types.I ∷ may 85 data_types.T ∷ may 86 data_types.I ∷ [])
    ∷ section groups.PaymentCard groups.PaymentInstructions occurs.AtMostOnce (needs 87 data_types.T ∷ may 88 data_types.T ∷ [])
    ∷ section groups.DirectDebit groups.PaymentInstructions occurs.AtMostOnce (may 89 data_types.I ∷ may 90 data_types.I ∷ may 91 data_types.I ∷ [])
    -- BG-20 to BG-24
    ∷ section groups.DocumentAllowance groups.Root occurs.AnyNumber (document_sum_off 92 93 94 95 96 97 98 lists.Allowance)
    ∷ section groups.DocumentCharge groups.Root occurs.AnyNumber (document_sum_off 99 100 101 102 103 104 105 lists.Charge)
    ∷ section groups.DocumentTotals groups.Root occurs.Once
    (needs 106 data_types.A ∷ may 107 data_types.A ∷ may 108 data_types.A ∷ needs 109 data_types.A ∷ may 110 data_types.A ∷ may 111 data_types.A ∷ needs 112
    data_types.A
    ∷ may 113 data_types.A ∷ may 114 data_types.A ∷ needs 115 data_types.A ∷ [])
    ∷ section groups.VatBreakdown groups.Root occurs.AtLeastOnce
    (needs 116 data_types.A ∷ needs 117 data_types.A ∷ needs_code 118 lists.Category ∷ may 119 data_types.P ∷ may 120 data_types.T ∷ may_code 121
    lists.Exemption ∷ [])
    ∷ section groups.SupportingDocument groups.Root occurs.AnyNumber
    (needs 122 data_types.I ∷ may 123 data_types.T ∷ may 124 data_types.T ∷ may 125 data_types.B ∷ part_code 125 marks.After lists.Mime
    ∷ line 125 2 data_types.T marks.After None ∷ [])
    -- BG-25, with all that follows in it
    ∷ section groups.InvoiceLine groups.Root occurs.AtLeastOnce
    (needs 126 data_types.I ∷ may 127 data_types.T ∷ may 128 data_types.I ∷ part_code 128 marks.Optional lists.Object ∷ needs 129 data_types.Q
    ∷ needs_code 130 lists.UnitOfMeasure ∷ needs 131 data_types.A ∷ may 132 data_types.I ∷ may 133 data_types.T ∷ [])
    ∷ section groups.LinePeriod groups.InvoiceLine occurs.AtMostOnce (may 134 data_types.D ∷ may 135 data_types.D ∷ [])
    ∷ section groups.LineAllowance groups.InvoiceLine occurs.AnyNumber (line_sum_off 136 137 138 139 140 lists.Allowance)
    ∷ section groups.LineCharge groups.InvoiceLine occurs.AnyNumber (line_sum_off 141 142 143 144 145 lists.Charge)
    ∷ section groups.PriceDetails groups.InvoiceLine occurs.Once
    (needs 146 data_types.A ∷ may 147 data_types.A ∷ may 148 data_types.A ∷ may 149 data_types.Q ∷ may_code 150 lists.UnitOfMeasure ∷ [])
    ∷ section groups.LineVat groups.InvoiceLine occurs.Once (needs_code 151 lists.Category ∷ may 152 data_types.P ∷ [])
    -- BG-31, with P-158 and BG-32 in it
    ∷ section groups.ItemInformation groups.InvoiceLine occurs.Once
    (needs 153 data_types.T ∷ may 154 data_types.T ∷ may 155 data_types.I ∷ may 156 data_types.I ∷ may 157 data_types.I ∷ part_code 157 marks.After lists.Scheme
    ∷ may_code 159 lists.Country ∷ [])
    ∷ section groups.ItemClassification groups.ItemInformation occurs.AnyNumber
    (needs 158 data_types.I ∷ part_code 158 marks.One lists.Classification ∷ line 158 2 data_types.T marks.Optional None ∷ [])
    ∷ section groups.ItemAttribute groups.ItemInformation occurs.AnyNumber (needs 160 data_types.T ∷ needs 161 data_types.T ∷ [])
    ∷ []

abbrev pub terms_of : Section → List TermRow
terms_of s = map (λ (l : Line). l s.group) s.lines

-- the business terms in the order in which they are listed
unfoldable pub terms : List TermRow
terms = flat_map terms_of semantic_model

-- ---- terms that a user's table adds: EXT-1 to EXT-99

-- Its number is that behind `EXT-`, from 1001 on.
abbrev pub is_extension : Term → Bool
is_extension term = (term.part == 0) && (nat_le 1001 term.number && nat_le term.number 1099)

-- Such a term may stand in a line and in the invoice itself. What its values are is said by the table that adds it, and
-- not here.
abbrev pub extension_line : ℕ → Group → TermRow
extension_line number group = line number 0 data_types.T marks.Optional None group

abbrev pub extension_rows_from : ℕ → ℕ → List TermRow
extension_rows_from zero number = []
extension_rows_from (suc m) number = extension_line number groups.InvoiceLine ∷ (extension_line number groups.Root ∷ extension_rows_from m (number + 1))

unfoldable pub extension_rows : List TermRow
extension_rows = extension_rows_from 99 1001

-- where terms stand: those of the semantic model, and behind all of them those that tables add
unfoldable pub listing_rows : List TermRow
listing_rows = terms ++ extension_rows
