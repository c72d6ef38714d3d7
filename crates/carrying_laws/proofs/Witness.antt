-- A small invoice that meets all premises of the laws: computed.
use Prim.Native.String.{String}
use Rattle.std.proofs.Common.{◌≡◌, ℕ, true, List, [], ◌∷◌, map, Option, Some, None, All, refl, sym, ap, ◌∙◌}
use Rattle.std.specs.Prelude.{is_some, option_and_then, codes, Ok}
use Rattle.std.specs.List.{list_all}
use Rattle.std.specs.Fmt.{digits}
use Rattle.std.specs.Str.{chars}
use Rattle.std.specs.Char.{encode_utf8}
use Rattle.std.proofs.lemmas.Bool.{false≢true}
use Rattle.std.proofs.lemmas.List.Elements.{All-nil, All-cons}
use Rattle.inv_base.specs.Characters.{is_char, is_white_space}
use Rattle.inv_decimal.specs.Digits.{last_digits}
use Rattle.inv_decimal.specs.WrittenNumber.{written_units, read_scaled, read_decimal, scaled_text, decimal_text}
use Rattle.inv_decimal.specs.WrittenDay.{day_from, read_dashed_day, read_plain_day, dashed_day_text, plain_day_text}
use Rattle.code_lists.specs.CodeFiles.{built_in_lists}
use Rattle.term_table.specs.declared.groups.Group.{Group}
use Rattle.term_table.specs.declared.groups.Group.TheVariants as groups
use Rattle.term_table.specs.declared.terms.DataType.{DataType}
use Rattle.term_table.specs.declared.terms.Term.{Term}
use Rattle.term_table.specs.declared.contexts.Context.{Context}
use Rattle.term_table.specs.SemanticModel.{terms, extension_rows, listing_rows}
use Rattle.term_table.specs.Rows.{modelled, data_type_of}
use Rattle.term_table.specs.Groups.{parent_of, occurrence_of}
use Rattle.term_table.specs.Places.{first_row}
use Rattle.term_table.specs.Contexts.{root_context}
use Rattle.inv_terms.specs.declared.values.Value.{Value}
use Rattle.inv_terms.specs.declared.values.Value.TheVariants as values
use Rattle.inv_terms.specs.declared.entries.Entry.{Entry}
use Rattle.inv_terms.specs.Values.{value_of}
use Rattle.inv_terms.specs.Listing.{Fits, IsInvoice, is_placed, is_listed, is_numbered, in_outer}
use Rattle.inv_terms.specs.Validity.{first_violation}
use Rattle.inv_terms.specs.Whole.{IsValid}
use Rattle.inv_terms.proofs.ValidLemmas.{valid}
use Rattle.xml_write.specs.Canonical.{declaration_line}
use Rattle.xml_write.specs.Escapes.{in_value, in_text}
use Rattle.bind_write.specs.Documents.{document_text}
use Rattle.ubl_binding.specs.Tables.{invoice_listing, invoice_rows}
use Rattle.cii_binding.specs.Table.{cii_listing, cii_rows}
use Rattle.bind_meaning.specs.Values.{by_type}
use Rattle.bind_meaning.specs.Trees.{document_of}
use Rattle.bind_carrying.specs.Carrying.{carrying}
use Rattle.binding_laws.proofs.ListLemmas.{both-true}

-- a term in a context with the string of its value
record Given : Type 0 where
  context : Context
  term : Term
  text : List ℕ

abbrev value_from : Option Value → Value
value_from None = values.Text []
value_from (Some v) = v

abbrev entry_of : Given → Entry
entry_of g = record { context = g.context; term = g.term; value = value_from (by_type g.term g.text) }

abbrev root : ℕ → ℕ → String → Given
root number part text = record { context = root_context; term = record { number = number; part = part }; text = codes text }

abbrev within_part : Group → ℕ → ℕ → String → Given
within_part group number part text = record {
  context = in_outer (record { group = group; index = 1 });
  term = record { number = number; part = part };
  text =
      codes text;
}

abbrev within : Group → ℕ → String → Given
within group number text = within_part group number 0 text

abbrev given : List Given
given =
    root 1 0 "1" ∷ root 2 0 "2024-01-31" ∷ root 3 0 "380" ∷ root 5 0 "EUR" ∷ root 6 0 "USD" ∷ root 8 0 "3" ∷ root 13 0 "A1" ∷ root 14 0 "B2"
    ∷ within groups.InvoiceNote 21 "AAI" ∷ within groups.InvoiceNote 22 "Note" ∷ root 24 0 "urn:cen.eu:en16931:2017"
    ∷ root 27 0 "Seller" ∷ within groups.SellerIdentifier 29 "7" ∷ within groups.SellerSchemedIdentifier 29 "5790000435968" ∷ within_part
    groups.SellerSchemedIdentifier 29 1 "0088"
    ∷ root 40 0 "DE" ∷ root 44 0 "Buyer" ∷ root 46 0 "5790000435968" ∷ root 46 1 "0088" ∷ root 55 0 "DE" ∷ root 59 0 "Payee" ∷ root 60 0 "5790000435975" ∷ root
    60 1 "0088"
    ∷ root 81 0 "30" ∷ within groups.CreditTransfer 84 "DE02120300000000202051" ∷ root 90 0 "DE98ZZZ09999999999"
    ∷ root 106 0 "1.00" ∷ root 109 0 "1.00" ∷ root 110 0 "0.19" ∷ root 111 0 "0.21" ∷ root 112 0 "1.19" ∷ root 115 0 "1.19"
    ∷ within groups.VatBreakdown 116 "1.00" ∷ within groups.VatBreakdown 117 "0.19" ∷ within groups.VatBreakdown 118 "S"
    ∷ within groups.InvoiceLine 126 "1" ∷ within groups.InvoiceLine 129 "1" ∷ within groups.InvoiceLine 130 "C62" ∷ within groups.InvoiceLine 131 "1.00"
    ∷ within groups.InvoiceLine 146 "1.00" ∷ within groups.InvoiceLine 151 "S" ∷ within groups.InvoiceLine 153 "Item" ∷ []

abbrev pub small_invoice : List Entry
small_invoice = map entry_of given

-- ---- its values fit

some-from : (o : Option Value) → is_some o ≡ true → o ≡ Some (value_from o)
some-from None h = absurd (false≢true h)
some-from (Some v) h = refl

fits-given : (g : Given) → is_some (by_type g.term g.text) ≡ true → Fits g.term (value_from (by_type g.term g.text))
fits-given g h = go (data_type_of g.term) refl h
  where
    go : (o : Option DataType) → data_type_of g.term ≡ o → is_some (option_and_then (λ data_type. value_of data_type g.text) o) ≡ true →
        Fits g.term (value_from (by_type g.term g.text))
    go None e k = absurd (false≢true k)
    go (Some data_type) e k = record {
      data_type = data_type;
      text = g.text;
      typed = modelled e;
      read = some-from (value_of data_type g.text) k ∙ ap (λ o. Some (value_from (option_and_then (λ l. value_of l g.text) o))) (sym e);
    }

fits-all : (gs : List Given) → list_all (λ (g : Given). is_some (by_type g.term g.text)) gs ≡ true → All (λ (e : Entry). Fits e.term e.value) (map entry_of gs)
fits-all [] h = All-nil (λ (e : Entry). Fits e.term e.value)
fits-all (g ∷ gs) h =
    let w = both-true (is_some (by_type g.term g.text)) (list_all (λ (x : Given). is_some (by_type x.term x.text)) gs) h in
    All-cons (λ (e : Entry). Fits e.term e.value) (entry_of g) (map entry_of gs) (fits-given g w.0) (fits-all gs w.1)

small-fits : list_all (λ (g : Given). is_some (by_type g.term g.text)) given ≡ true
unfolding value_of is_char is_white_space terms read_scaled written_units read_dashed_day day_from
small-fits = refl

small-placed : list_all is_placed small_invoice ≡ true
unfolding terms extension_rows listing_rows parent_of occurrence_of first_row
small-placed = refl

small-listed : is_listed small_invoice ≡ true
unfolding terms extension_rows listing_rows parent_of occurrence_of first_row
small-listed = refl

small-numbered : is_numbered small_invoice ≡ true
unfolding terms extension_rows listing_rows parent_of occurrence_of first_row
small-numbered = refl

pub small-invoice : IsInvoice small_invoice
small-invoice = record { placed = small-placed; fit = fits-all given small-fits; listed = small-listed; numbered = small-numbered }

-- ---- it is valid, and is carried

small-lacks : first_violation small_invoice built_in_lists ≡ None
unfolding value_of is_char is_white_space terms extension_rows listing_rows parent_of occurrence_of first_row read_scaled written_units read_dashed_day day_from
small-lacks = refl

pub small-valid : IsValid small_invoice built_in_lists
small-valid = (valid small_invoice built_in_lists).0 small-lacks

pub small-ubl : carrying invoice_rows small_invoice ≡ Ok tt
unfolding value_of is_char is_white_space terms extension_rows listing_rows parent_of occurrence_of first_row read_scaled written_units read_decimal
    read_dashed_day day_from read_plain_day scaled_text decimal_text dashed_day_text plain_day_text digits last_digits chars encode_utf8 invoice_listing
    invoice_rows document_of document_text declaration_line in_value in_text
small-ubl = refl

pub small-cii : carrying cii_rows small_invoice ≡ Ok tt
unfolding value_of is_char is_white_space terms extension_rows listing_rows parent_of occurrence_of first_row read_scaled written_units read_decimal
    read_dashed_day day_from read_plain_day scaled_text decimal_text dashed_day_text plain_day_text digits last_digits chars encode_utf8 cii_listing cii_rows
    document_of document_text declaration_line in_value in_text
small-cii = refl
