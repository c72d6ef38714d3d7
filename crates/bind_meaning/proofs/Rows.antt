-- Invoices with what is read of them, as lines, or their first fault, and with the documents that are written of them: the definitions
-- compute these.
use Rattle.std.specs.Prelude.{ℕ, suc, zero, ◌==◌, ◌≡◌, nat_lt, true, false, List, [], ◌∷◌, ◌++◌, length, filter, flat_map, codes, decimal, Some, None, Result}
use Rattle.std.specs.Prelude.{Ok, Err, refl}
use Rattle.std.specs.Str.{is_utf8, chars}
use Rattle.std.specs.Char.{encode_utf8}
use Rattle.inv_base.specs.Characters.{is_char, is_white_space, is_name_start, is_name_char}
use Rattle.inv_base.specs.Text.{quoted}
use Rattle.inv_base.specs.Tree.{Node, document_nodes}
use Rattle.xml_events.specs.Events.{Event, starts, tree_of_events}
use Rattle.xml_state.specs.declared.limits.Limits.{Limits}
use Rattle.xml_state.specs.Sizes.{document_limits}
use Rattle.xml_tokens.specs.Encoding.{character_at}
use Rattle.xml_tokens.specs.References.{referred, reference_at}
use Rattle.xml_tokens.specs.WrittenNames.{is_qname}
use Rattle.xml_tokens.specs.Markup.{comment, section, is_declaration, instruction}
use Rattle.xml_tokens.specs.Tags.{attribute_at, tag_inside, value_of as value_in_tag, start_tag, end_tag}
use Rattle.xml_tokens.specs.Beginnings.{extent, beginning}
use Rattle.xml_state.specs.States.{state_behind, events_of}
use Rattle.xml_state.specs.Admission.{fault_of}
use Rattle.xml_profile.specs.TokenByToken.{read, resume}
use Rattle.xml_profile.specs.Profile.{Document, document, tree_of, first_fault}
use Rattle.inv_decimal.specs.WrittenNumber.{read_scaled, read_decimal, scaled_text, decimal_text}
use Rattle.inv_decimal.specs.WrittenDay.{read_dashed_day, read_plain_day, dashed_day_text}
use Rattle.code_lists.specs.CodeFiles.{built_in_lists}
use Rattle.term_table.specs.declared.terms.Term.{Term}
use Rattle.term_table.specs.declared.contexts.Slot.{Slot}
use Rattle.term_table.specs.declared.contexts.Context.{Context}
use Rattle.inv_terms.specs.declared.entries.Entry.{Entry}
use Rattle.inv_terms.specs.declared.violations.Name.{Name as FaultName}
use Rattle.inv_terms.specs.declared.violations.Name.TheVariants as names
use Rattle.inv_terms.specs.Values.{value_of, spelled}
use Rattle.term_table.specs.SemanticModel.{terms, extension_rows, listing_rows}
use Rattle.term_table.specs.Groups.{occurrence_of, parent_of, label_of}
use Rattle.inv_decimal.specs.WrittenDay.{day_from}
use Rattle.inv_decimal.specs.WrittenNumber.{written_units}
use Rattle.std.specs.Fmt.{digits}
use Rattle.inv_decimal.specs.Digits.{last_digits}
use Rattle.term_table.specs.Places.{first_row}
use Rattle.node_arena.specs.Moves.{tree_node}
use Rattle.bind_rows.specs.declared.rows.Row.{Row}
use Rattle.bind_meaning.specs.declared.fault.BindKind.{BindKind}
use Rattle.bind_meaning.specs.declared.fault.BindKind.TheVariants as k
use Rattle.bind_meaning.specs.declared.fault.BindFault.{BindFault}
use Rattle.bind_meaning.specs.Elements.{is_element}
use Rattle.bind_meaning.specs.Terms.{Read, terms_of}
use Rattle.bind_meaning.specs.Trees.{document_of}
use Rattle.bind_rows.specs.declared.names.Namespace.{Namespace}
use Rattle.bind_rows.specs.declared.names.Namespace.TheVariants as spaces
use Rattle.bind_rows.specs.Namespaces.{declarations_of}
use Rattle.xml_write.specs.Canonical.{canonical_text, declaration_line}
use Rattle.xml_write.specs.Escapes.{in_value, in_text}
use Rattle.inv_decimal.specs.WrittenDay.{plain_day_text}
use Rattle.ubl_binding.specs.Tables.{invoice_rows, credit_note_rows, invoice_listing, credit_note_listing}
use Rattle.cii_binding.specs.Table.{cii_rows, cii_listing}

abbrev limits : Limits
limits = document_limits

abbrev term_text : Term → List ℕ
term_text t = codes "BT-" ++ (decimal t.number ++ (elim (t.part == 0) [ true ↦ [] | false ↦ codes "-" ++ decimal t.part ]))

abbrev slot_text : Slot → List ℕ
slot_text s = label_of s.group ++ (codes "[" ++ (decimal s.index ++ codes "]"))

abbrev context_text : Context → List ℕ
context_text c = elim c.outer [
  | None ↦ []
  | Some o ↦ elim c.inner [
    | None ↦ slot_text o ++ codes " "
    | Some i ↦ slot_text o ++
        (codes "/" ++ (slot_text i ++ codes " "))
  ]
]

abbrev entry_text : Entry → List ℕ
entry_text e = context_text e.context ++ (term_text e.term ++ (codes " " ++ (quoted (spelled e.value) ++ 10 ∷ [])))

abbrev listing : Read → List ℕ
listing r = flat_map entry_text r.entries ++ (codes "passed over " ++ (decimal r.passed_over ++ 10 ∷ []))

abbrev kind_text : BindKind → List ℕ
kind_text k.UnknownRoot = codes "UnknownRoot"
kind_text k.Excess = codes "Excess"
kind_text k.ElementInValue = codes "ElementInValue"
kind_text k.BadValue = codes "BadValue"
kind_text k.CodeNotListed = codes "CodeNotListed"
kind_text k.CurrencyDiffers = codes "CurrencyDiffers"
kind_text k.Disagree = codes "Disagree"
kind_text k.Missing = codes "Missing"
kind_text k.Memory = codes "Memory"

abbrev name_text : FaultName → List ℕ
name_text (names.Term t) = codes " " ++ term_text t
name_text (names.Group x) = codes " " ++ label_of x
name_text names.Nothing = []

-- places of elements
abbrev places : List Event → List ℕ
places [] = []
places (starts n p ∷ es) = p ∷ places es
places (_ ∷ es) = places es

abbrev nth : ℕ → List ℕ → ℕ
nth n [] = 0
nth zero (p ∷ ps) = p
nth (suc n) (p ∷ ps) = nth n ps

abbrev element_of : List Node → ℕ → ℕ
element_of nodes n = elim (is_element (tree_node nodes n)) [ true ↦ n | false ↦ elim (tree_node nodes n).above [ [] ↦ 0 | (m ∷ ms) ↦ m ] ]

abbrev place_of_node : List Node → List ℕ → ℕ → ℕ
place_of_node nodes ps n = nth (length (filter (λ (node : Node). elim (is_element node) [ true ↦ nat_lt node.number n | false ↦ false ]) nodes)) ps

abbrev fault_text : List Node → List ℕ → BindFault → List ℕ
fault_text nodes ps f = codes "einv: f: " ++
    (kind_text f.kind ++ (name_text f.name ++ (codes " at " ++ (decimal (place_of_node nodes ps (element_of nodes f.node)) ++ 10 ∷ []))))

abbrev answered : List Node → List ℕ → Result Read BindFault → List ℕ
answered nodes ps (Ok r) = listing r
answered nodes ps (Err f) = fault_text nodes ps f

abbrev shown_document : List Row → Document → List ℕ
shown_document table d = let nodes : List Node = document_nodes (tree_of d) in answered nodes (places d.events) (terms_of nodes table built_in_lists)

abbrev shown : List Row → List ℕ → List ℕ
shown table bytes = elim (document limits bytes) [ Ok d ↦ shown_document table d | Err f ↦ [] ]

abbrev written_as : List Row → Namespace → Result Read BindFault → List ℕ
written_as target root (Ok r) = canonical_text (declarations_of root) (document_of target r.entries)
written_as target root (Err f) = []

abbrev converted_document : List Row → List Row → Namespace → Document → List ℕ
converted_document table target root d = let nodes : List Node = document_nodes (tree_of d) in written_as target root (terms_of nodes table built_in_lists)

abbrev converted : List Row → List Row → Namespace → List ℕ → List ℕ
converted table target root bytes = elim (document limits bytes) [ Ok d ↦ converted_document table target root d | Err f ↦ [] ]

row1 : converted cii_rows cii_rows spaces.CiiInvoice
    ((codes "<rsm:CrossIndustryInvoice xmlns:rsm=" ++
    ((34 ∷ []) ++ (codes "urn:un:unece:uncefact:data:standard:CrossIndustryInvoice:100" ++
    ((34 ∷ []) ++ (codes " xmlns:ram=" ++
    ((34 ∷ []) ++ (codes "urn:un:unece:uncefact:data:standard:ReusableAggregateBusinessInformationEntity:100" ++
    ((34 ∷ []) ++ (codes " xmlns:udt=" ++
    ((34 ∷ []) ++ (codes "urn:un:unece:uncefact:data:standard:UnqualifiedDataType:100" ++
    ((34 ∷ []) ++ (codes " xmlns:qdt=" ++
    ((34 ∷ []) ++ (codes "urn:un:unece:uncefact:data:standard:QualifiedDataType:100" ++
    ((34 ∷ []) ++ (codes "><rsm:ExchangedDocumentContext><ram:GuidelineSpecifiedDocumentContextParameter><ram:ID>urn:cen.eu:en16931:2017</ram:ID></ram:GuidelineSpecifiedDocumentContextParameter></rsm:ExchangedDocumentContext><rsm:ExchangedDocument><ram:ID>A1</ram:ID><ram:TypeCode>380</ram:TypeCode><ram:IssueDateTime><udt:DateTimeString format=" ++ ((34 ∷ []) ++ (codes "102" ++ ((34 ∷ []) ++ (codes ">20240501</udt:DateTimeString></ram:IssueDateTime></rsm:ExchangedDocument><rsm:SupplyChainTradeTransaction><ram:IncludedSupplyChainTradeLineItem><ram:AssociatedDocumentLineDocument><ram:LineID>1</ram:LineID></ram:AssociatedDocumentLineDocument><ram:SpecifiedTradeProduct><ram:Name>Pen</ram:Name></ram:SpecifiedTradeProduct><ram:SpecifiedLineTradeAgreement><ram:NetPriceProductTradePrice><ram:ChargeAmount>10.00</ram:ChargeAmount></ram:NetPriceProductTradePrice></ram:SpecifiedLineTradeAgreement><ram:SpecifiedLineTradeDelivery><ram:BilledQuantity unitCode=" ++ ((34 ∷ []) ++ (codes "C62" ++ ((34 ∷ []) ++ (codes ">1</ram:BilledQuantity></ram:SpecifiedLineTradeDelivery><ram:SpecifiedLineTradeSettlement><ram:ApplicableTradeTax><ram:TypeCode>VAT</ram:TypeCode><ram:CategoryCode>S</ram:CategoryCode></ram:ApplicableTradeTax><ram:SpecifiedTradeSettlementLineMonetarySummation><ram:LineTotalAmount>10.00</ram:LineTotalAmount></ram:SpecifiedTradeSettlementLineMonetarySummation></ram:SpecifiedLineTradeSettlement></ram:IncludedSupplyChainTradeLineItem><ram:ApplicableHeaderTradeAgreement><ram:SellerTradeParty><ram:Name>Seller</ram:Name><ram:PostalTradeAddress><ram:CountryID>DE</ram:CountryID></ram:PostalTradeAddress></ram:SellerTradeParty><ram:BuyerTradeParty><ram:Name>Buyer</ram:Name><ram:PostalTradeAddress><ram:CountryID>FR</ram:CountryID></ram:PostalTradeAddress></ram:BuyerTradeParty></ram:ApplicableHeaderTradeAgreement><ram:ApplicableHeaderTradeDelivery/><ram:ApplicableHeaderTradeSettlement><ram:InvoiceCurrencyCode>EUR</ram:InvoiceCurrencyCode><ram:ApplicableTradeTax><ram:CalculatedAmount>2.00</ram:CalculatedAmount><ram:TypeCode>VAT</ram:TypeCode><ram:BasisAmount>10.00</ram:BasisAmount><ram:CategoryCode>S</ram:CategoryCode></ram:ApplicableTradeTax><ram:SpecifiedTradeSettlementHeaderMonetarySummation><ram:LineTotalAmount currencyID=" ++ ((34 ∷ []) ++ (codes "EUR" ++ ((34 ∷ []) ++ (codes ">10.00</ram:LineTotalAmount><ram:TaxBasisTotalAmount>10.00</ram:TaxBasisTotalAmount><ram:GrandTotalAmount>12.00</ram:GrandTotalAmount><ram:DuePayableAmount>12.00</ram:DuePayableAmount></ram:SpecifiedTradeSettlementHeaderMonetarySummation></ram:ApplicableHeaderTradeSettlement></rsm:SupplyChainTradeTransaction></rsm:CrossIndustryInvoice>")))))))))))))))))))))))))))))) ≡ (codes "<?xml version=" ++ ((34 ∷ []) ++ (codes "1.0" ++ ((34 ∷ []) ++ (codes " encoding=" ++ ((34 ∷ []) ++ (codes "UTF-8" ++ ((34 ∷ []) ++ (codes "?>" ++ ((10 ∷ []) ++ (codes "<rsm:CrossIndustryInvoice xmlns:rsm=" ++ ((34 ∷ []) ++ (codes "urn:un:unece:uncefact:data:standard:CrossIndustryInvoice:100" ++ ((34 ∷ []) ++ (codes " xmlns:ram=" ++ ((34 ∷ []) ++ (codes "urn:un:unece:uncefact:data:standard:ReusableAggregateBusinessInformationEntity:100" ++ ((34 ∷ []) ++ (codes " xmlns:udt=" ++ ((34 ∷ []) ++ (codes "urn:un:unece:uncefact:data:standard:UnqualifiedDataType:100" ++ ((34 ∷ []) ++ (codes " xmlns:qdt=" ++ ((34 ∷ []) ++ (codes "urn:un:unece:uncefact:data:standard:QualifiedDataType:100" ++ ((34 ∷ []) ++ (codes "><rsm:ExchangedDocumentContext><ram:GuidelineSpecifiedDocumentContextParameter><ram:ID>urn:cen.eu:en16931:2017</ram:ID></ram:GuidelineSpecifiedDocumentContextParameter></rsm:ExchangedDocumentContext><rsm:ExchangedDocument><ram:ID>A1</ram:ID><ram:TypeCode>380</ram:TypeCode><ram:IssueDateTime><udt:DateTimeString format=" ++ ((34 ∷ []) ++ (codes "102" ++ ((34 ∷ []) ++ (codes ">20240501</udt:DateTimeString></ram:IssueDateTime></rsm:ExchangedDocument><rsm:SupplyChainTradeTransaction><ram:IncludedSupplyChainTradeLineItem><ram:AssociatedDocumentLineDocument><ram:LineID>1</ram:LineID></ram:AssociatedDocumentLineDocument><ram:SpecifiedTradeProduct><ram:Name>Pen</ram:Name></ram:SpecifiedTradeProduct><ram:SpecifiedLineTradeAgreement><ram:NetPriceProductTradePrice><ram:ChargeAmount>10.00</ram:ChargeAmount></ram:NetPriceProductTradePrice></ram:SpecifiedLineTradeAgreement><ram:SpecifiedLineTradeDelivery><ram:BilledQuantity unitCode=" ++ ((34 ∷ []) ++ (codes "C62" ++ ((34 ∷ []) ++ (codes ">1</ram:BilledQuantity></ram:SpecifiedLineTradeDelivery><ram:SpecifiedLineTradeSettlement><ram:ApplicableTradeTax><ram:TypeCode>VAT</ram:TypeCode><ram:CategoryCode>S</ram:CategoryCode></ram:ApplicableTradeTax><ram:SpecifiedTradeSettlementLineMonetarySummation><ram:LineTotalAmount>10.00</ram:LineTotalAmount></ram:SpecifiedTradeSettlementLineMonetarySummation></ram:SpecifiedLineTradeSettlement></ram:IncludedSupplyChainTradeLineItem><ram:ApplicableHeaderTradeAgreement><ram:SellerTradeParty><ram:Name>Seller</ram:Name><ram:PostalTradeAddress><ram:CountryID>DE</ram:CountryID></ram:PostalTradeAddress></ram:SellerTradeParty><ram:BuyerTradeParty><ram:Name>Buyer</ram:Name><ram:PostalTradeAddress><ram:CountryID>FR</ram:CountryID></ram:PostalTradeAddress></ram:BuyerTradeParty></ram:ApplicableHeaderTradeAgreement><ram:ApplicableHeaderTradeDelivery/><ram:ApplicableHeaderTradeSettlement><ram:InvoiceCurrencyCode>EUR</ram:InvoiceCurrencyCode><ram:ApplicableTradeTax><ram:CalculatedAmount>2.00</ram:CalculatedAmount><ram:TypeCode>VAT</ram:TypeCode><ram:BasisAmount>10.00</ram:BasisAmount><ram:CategoryCode>S</ram:CategoryCode></ram:ApplicableTradeTax><ram:SpecifiedTradeSettlementHeaderMonetarySummation><ram:LineTotalAmount>10.00</ram:LineTotalAmount><ram:TaxBasisTotalAmount>10.00</ram:TaxBasisTotalAmount><ram:GrandTotalAmount>12.00</ram:GrandTotalAmount><ram:DuePayableAmount>12.00</ram:DuePayableAmount></ram:SpecifiedTradeSettlementHeaderMonetarySummation></ram:ApplicableHeaderTradeSettlement></rsm:SupplyChainTradeTransaction></rsm:CrossIndustryInvoice>" ++ ((10 ∷ [])))))))))))))))))))))))))))))))))))))
unfolding document first_fault beginning extent character_at referred reference_at is_qname comment section is_declaration instruction attribute_at tag_inside
    value_in_tag start_tag end_tag state_behind events_of fault_of read resume is_utf8 chars encode_utf8 is_char is_white_space is_name_start is_name_char
    tree_of_events read_scaled read_decimal scaled_text decimal_text read_dashed_day read_plain_day dashed_day_text value_of terms_of document_of
    declaration_line in_value in_text plain_day_text terms extension_rows listing_rows occurrence_of parent_of day_from first_row invoice_rows credit_note_rows
    cii_rows invoice_listing credit_note_listing cii_listing written_units digits last_digits
row1 = refl

row2 : converted cii_rows credit_note_rows spaces.UblCreditNote
    ((codes "<?xml version=" ++
    ((34 ∷ []) ++ (codes "1.0" ++
    ((34 ∷ []) ++ (codes " encoding=" ++
    ((34 ∷ []) ++ (codes "UTF-8" ++
    ((34 ∷ []) ++ (codes "?>" ++
    ((10 ∷ []) ++ (codes "<rsm:CrossIndustryInvoice xmlns:rsm=" ++
    ((34 ∷ []) ++ (codes "urn:un:unece:uncefact:data:standard:CrossIndustryInvoice:100" ++
    ((34 ∷ []) ++ (codes " xmlns:ram=" ++
    ((34 ∷ []) ++ (codes "urn:un:unece:uncefact:data:standard:ReusableAggregateBusinessInformationEntity:100" ++
    ((34 ∷ []) ++ (codes " xmlns:udt=" ++
    ((34 ∷ []) ++ (codes "urn:un:unece:uncefact:data:standard:UnqualifiedDataType:100" ++
    ((34 ∷ []) ++ (codes " xmlns:qdt=" ++
    ((34 ∷ []) ++ (codes "urn:un:unece:uncefact:data:standard:QualifiedDataType:100" ++
    ((34 ∷ []) ++ (codes "><rsm:ExchangedDocumentContext><ram:GuidelineSpecifiedDocumentContextParameter><ram:ID>urn:cen.eu:en16931:2017</ram:ID></ram:GuidelineSpecifiedDocumentContextParameter></rsm:ExchangedDocumentContext><rsm:ExchangedDocument><ram:ID>A1</ram:ID><ram:TypeCode>381</ram:TypeCode><ram:IssueDateTime><udt:DateTimeString format=" ++ ((34 ∷ []) ++ (codes "102" ++ ((34 ∷ []) ++ (codes ">20240501</udt:DateTimeString></ram:IssueDateTime></rsm:ExchangedDocument><rsm:SupplyChainTradeTransaction><ram:IncludedSupplyChainTradeLineItem><ram:AssociatedDocumentLineDocument><ram:LineID>1</ram:LineID></ram:AssociatedDocumentLineDocument><ram:SpecifiedTradeProduct><ram:Name>Pen</ram:Name></ram:SpecifiedTradeProduct><ram:SpecifiedLineTradeAgreement><ram:NetPriceProductTradePrice><ram:ChargeAmount>10.00</ram:ChargeAmount></ram:NetPriceProductTradePrice></ram:SpecifiedLineTradeAgreement><ram:SpecifiedLineTradeDelivery><ram:BilledQuantity unitCode=" ++ ((34 ∷ []) ++ (codes "C62" ++ ((34 ∷ []) ++ (codes ">1</ram:BilledQuantity></ram:SpecifiedLineTradeDelivery><ram:SpecifiedLineTradeSettlement><ram:ApplicableTradeTax><ram:TypeCode>VAT</ram:TypeCode><ram:CategoryCode>S</ram:CategoryCode></ram:ApplicableTradeTax><ram:SpecifiedTradeSettlementLineMonetarySummation><ram:LineTotalAmount>10.00</ram:LineTotalAmount></ram:SpecifiedTradeSettlementLineMonetarySummation></ram:SpecifiedLineTradeSettlement></ram:IncludedSupplyChainTradeLineItem><ram:ApplicableHeaderTradeAgreement><ram:SellerTradeParty><ram:Name>Seller</ram:Name><ram:PostalTradeAddress><ram:CountryID>DE</ram:CountryID></ram:PostalTradeAddress></ram:SellerTradeParty><ram:BuyerTradeParty><ram:Name>Buyer</ram:Name><ram:PostalTradeAddress><ram:CountryID>FR</ram:CountryID></ram:PostalTradeAddress></ram:BuyerTradeParty></ram:ApplicableHeaderTradeAgreement><ram:ApplicableHeaderTradeDelivery/><ram:ApplicableHeaderTradeSettlement><ram:InvoiceCurrencyCode>EUR</ram:InvoiceCurrencyCode><ram:SpecifiedTradeSettlementPaymentMeans><ram:TypeCode>30</ram:TypeCode></ram:SpecifiedTradeSettlementPaymentMeans><ram:ApplicableTradeTax><ram:CalculatedAmount>2.00</ram:CalculatedAmount><ram:TypeCode>VAT</ram:TypeCode><ram:BasisAmount>10.00</ram:BasisAmount><ram:CategoryCode>S</ram:CategoryCode></ram:ApplicableTradeTax><ram:SpecifiedTradePaymentTerms><ram:DueDateDateTime><udt:DateTimeString format=" ++ ((34 ∷ []) ++ (codes "102" ++ ((34 ∷ []) ++ (codes ">20240601</udt:DateTimeString></ram:DueDateDateTime></ram:SpecifiedTradePaymentTerms><ram:SpecifiedTradeSettlementHeaderMonetarySummation><ram:LineTotalAmount>10.00</ram:LineTotalAmount><ram:TaxBasisTotalAmount>10.00</ram:TaxBasisTotalAmount><ram:GrandTotalAmount>12.00</ram:GrandTotalAmount><ram:DuePayableAmount>12.00</ram:DuePayableAmount></ram:SpecifiedTradeSettlementHeaderMonetarySummation></ram:ApplicableHeaderTradeSettlement></rsm:SupplyChainTradeTransaction></rsm:CrossIndustryInvoice>" ++ ((10 ∷ [])))))))))))))))))))))))))))))))))))))))))) ≡ (codes "<?xml version=" ++ ((34 ∷ []) ++ (codes "1.0" ++ ((34 ∷ []) ++ (codes " encoding=" ++ ((34 ∷ []) ++ (codes "UTF-8" ++ ((34 ∷ []) ++ (codes "?>" ++ ((10 ∷ []) ++ (codes "<CreditNote xmlns=" ++ ((34 ∷ []) ++ (codes "urn:oasis:names:specification:ubl:schema:xsd:CreditNote-2" ++ ((34 ∷ []) ++ (codes " xmlns:cac=" ++ ((34 ∷ []) ++ (codes "urn:oasis:names:specification:ubl:schema:xsd:CommonAggregateComponents-2" ++ ((34 ∷ []) ++ (codes " xmlns:cbc=" ++ ((34 ∷ []) ++ (codes "urn:oasis:names:specification:ubl:schema:xsd:CommonBasicComponents-2" ++ ((34 ∷ []) ++ (codes "><cbc:CustomizationID>urn:cen.eu:en16931:2017</cbc:CustomizationID><cbc:ID>A1</cbc:ID><cbc:IssueDate>2024-05-01</cbc:IssueDate><cbc:CreditNoteTypeCode>381</cbc:CreditNoteTypeCode><cbc:DocumentCurrencyCode>EUR</cbc:DocumentCurrencyCode><cac:AccountingSupplierParty><cac:Party><cac:PostalAddress><cac:Country><cbc:IdentificationCode>DE</cbc:IdentificationCode></cac:Country></cac:PostalAddress><cac:PartyLegalEntity><cbc:RegistrationName>Seller</cbc:RegistrationName></cac:PartyLegalEntity></cac:Party></cac:AccountingSupplierParty><cac:AccountingCustomerParty><cac:Party><cac:PostalAddress><cac:Country><cbc:IdentificationCode>FR</cbc:IdentificationCode></cac:Country></cac:PostalAddress><cac:PartyLegalEntity><cbc:RegistrationName>Buyer</cbc:RegistrationName></cac:PartyLegalEntity></cac:Party></cac:AccountingCustomerParty><cac:PaymentMeans><cbc:PaymentMeansCode>30</cbc:PaymentMeansCode><cbc:PaymentDueDate>2024-06-01</cbc:PaymentDueDate></cac:PaymentMeans><cac:TaxTotal><cac:TaxSubtotal><cbc:TaxableAmount currencyID=" ++ ((34 ∷ []) ++ (codes "EUR" ++ ((34 ∷ []) ++ (codes ">10.00</cbc:TaxableAmount><cbc:TaxAmount currencyID=" ++ ((34 ∷ []) ++ (codes "EUR" ++ ((34 ∷ []) ++ (codes ">2.00</cbc:TaxAmount><cac:TaxCategory><cbc:ID>S</cbc:ID><cac:TaxScheme><cbc:ID>VAT</cbc:ID></cac:TaxScheme></cac:TaxCategory></cac:TaxSubtotal></cac:TaxTotal><cac:LegalMonetaryTotal><cbc:LineExtensionAmount currencyID=" ++ ((34 ∷ []) ++ (codes "EUR" ++ ((34 ∷ []) ++ (codes ">10.00</cbc:LineExtensionAmount><cbc:TaxExclusiveAmount currencyID=" ++ ((34 ∷ []) ++ (codes "EUR" ++ ((34 ∷ []) ++ (codes ">10.00</cbc:TaxExclusiveAmount><cbc:TaxInclusiveAmount currencyID=" ++ ((34 ∷ []) ++ (codes "EUR" ++ ((34 ∷ []) ++ (codes ">12.00</cbc:TaxInclusiveAmount><cbc:PayableAmount currencyID=" ++ ((34 ∷ []) ++ (codes "EUR" ++ ((34 ∷ []) ++ (codes ">12.00</cbc:PayableAmount></cac:LegalMonetaryTotal><cac:CreditNoteLine><cbc:ID>1</cbc:ID><cbc:CreditedQuantity unitCode=" ++ ((34 ∷ []) ++ (codes "C62" ++ ((34 ∷ []) ++ (codes ">1</cbc:CreditedQuantity><cbc:LineExtensionAmount currencyID=" ++ ((34 ∷ []) ++ (codes "EUR" ++ ((34 ∷ []) ++ (codes ">10.00</cbc:LineExtensionAmount><cac:Item><cbc:Name>Pen</cbc:Name><cac:ClassifiedTaxCategory><cbc:ID>S</cbc:ID><cac:TaxScheme><cbc:ID>VAT</cbc:ID></cac:TaxScheme></cac:ClassifiedTaxCategory></cac:Item><cac:Price><cbc:PriceAmount currencyID=" ++ ((34 ∷ []) ++ (codes "EUR" ++ ((34 ∷ []) ++ (codes ">10.00</cbc:PriceAmount></cac:Price></cac:CreditNoteLine></CreditNote>" ++ ((10 ∷ [])))))))))))))))))))))))))))))))))))))))))))))))))))))))))))))
unfolding document first_fault beginning extent character_at referred reference_at is_qname comment section is_declaration instruction attribute_at tag_inside
    value_in_tag start_tag end_tag state_behind events_of fault_of read resume is_utf8 chars encode_utf8 is_char is_white_space is_name_start is_name_char
    tree_of_events read_scaled read_decimal scaled_text decimal_text read_dashed_day read_plain_day dashed_day_text value_of terms_of document_of
    declaration_line in_value in_text plain_day_text terms extension_rows listing_rows occurrence_of parent_of day_from first_row invoice_rows credit_note_rows
    cii_rows invoice_listing credit_note_listing cii_listing written_units digits last_digits
row2 = refl

row3 : converted cii_rows invoice_rows spaces.UblInvoice
    ((codes "<rsm:CrossIndustryInvoice xmlns:rsm=" ++
    ((34 ∷ []) ++ (codes "urn:un:unece:uncefact:data:standard:CrossIndustryInvoice:100" ++
    ((34 ∷ []) ++ (codes " xmlns:ram=" ++
    ((34 ∷ []) ++ (codes "urn:un:unece:uncefact:data:standard:ReusableAggregateBusinessInformationEntity:100" ++
    ((34 ∷ []) ++ (codes " xmlns:udt=" ++
    ((34 ∷ []) ++ (codes "urn:un:unece:uncefact:data:standard:UnqualifiedDataType:100" ++
    ((34 ∷ []) ++ (codes " xmlns:qdt=" ++
    ((34 ∷ []) ++ (codes "urn:un:unece:uncefact:data:standard:QualifiedDataType:100" ++
    ((34 ∷ []) ++ (codes "><rsm:ExchangedDocumentContext><ram:GuidelineSpecifiedDocumentContextParameter><ram:ID>v 24</ram:ID></ram:GuidelineSpecifiedDocumentContextParameter></rsm:ExchangedDocumentContext><rsm:ExchangedDocument><ram:ID>A1</ram:ID><ram:TypeCode>380</ram:TypeCode><ram:IssueDateTime><udt:DateTimeString format=" ++ ((34 ∷ []) ++ (codes "102" ++ ((34 ∷ []) ++ (codes ">20240501</udt:DateTimeString></ram:IssueDateTime></rsm:ExchangedDocument><rsm:SupplyChainTradeTransaction><ram:IncludedSupplyChainTradeLineItem><ram:AssociatedDocumentLineDocument><ram:LineID>1</ram:LineID></ram:AssociatedDocumentLineDocument><ram:SpecifiedTradeProduct><ram:Name>Pen</ram:Name></ram:SpecifiedTradeProduct><ram:SpecifiedLineTradeAgreement><ram:NetPriceProductTradePrice><ram:ChargeAmount>10.00</ram:ChargeAmount></ram:NetPriceProductTradePrice></ram:SpecifiedLineTradeAgreement><ram:SpecifiedLineTradeDelivery><ram:BilledQuantity unitCode=" ++ ((34 ∷ []) ++ (codes "C62" ++ ((34 ∷ []) ++ (codes ">1</ram:BilledQuantity></ram:SpecifiedLineTradeDelivery><ram:SpecifiedLineTradeSettlement><ram:ApplicableTradeTax><ram:TypeCode>VAT</ram:TypeCode><ram:CategoryCode>S</ram:CategoryCode></ram:ApplicableTradeTax><ram:SpecifiedTradeSettlementLineMonetarySummation><ram:LineTotalAmount>10.00</ram:LineTotalAmount></ram:SpecifiedTradeSettlementLineMonetarySummation></ram:SpecifiedLineTradeSettlement></ram:IncludedSupplyChainTradeLineItem><ram:ApplicableHeaderTradeAgreement><ram:SellerTradeParty><ram:Name>Seller</ram:Name><ram:PostalTradeAddress><ram:CountryID>DE</ram:CountryID></ram:PostalTradeAddress></ram:SellerTradeParty><ram:BuyerTradeParty><ram:Name>Buyer</ram:Name><ram:PostalTradeAddress><ram:CountryID>FR</ram:CountryID></ram:PostalTradeAddress></ram:BuyerTradeParty></ram:ApplicableHeaderTradeAgreement><ram:ApplicableHeaderTradeDelivery/><ram:ApplicableHeaderTradeSettlement><ram:InvoiceCurrencyCode>EUR</ram:InvoiceCurrencyCode><ram:ApplicableTradeTax><ram:CalculatedAmount>2.00</ram:CalculatedAmount><ram:TypeCode>VAT</ram:TypeCode><ram:BasisAmount>10.00</ram:BasisAmount><ram:CategoryCode>S</ram:CategoryCode></ram:ApplicableTradeTax><ram:SpecifiedTradeSettlementHeaderMonetarySummation><ram:LineTotalAmount>10.00</ram:LineTotalAmount><ram:TaxBasisTotalAmount>10.00</ram:TaxBasisTotalAmount><ram:GrandTotalAmount>12.00</ram:GrandTotalAmount><ram:DuePayableAmount>12.00</ram:DuePayableAmount></ram:SpecifiedTradeSettlementHeaderMonetarySummation></ram:ApplicableHeaderTradeSettlement></rsm:SupplyChainTradeTransaction></rsm:CrossIndustryInvoice>")))))))))))))))))))))))))) ≡ (codes "<?xml version=" ++ ((34 ∷ []) ++ (codes "1.0" ++ ((34 ∷ []) ++ (codes " encoding=" ++ ((34 ∷ []) ++ (codes "UTF-8" ++ ((34 ∷ []) ++ (codes "?>" ++ ((10 ∷ []) ++ (codes "<Invoice xmlns=" ++ ((34 ∷ []) ++ (codes "urn:oasis:names:specification:ubl:schema:xsd:Invoice-2" ++ ((34 ∷ []) ++ (codes " xmlns:cac=" ++ ((34 ∷ []) ++ (codes "urn:oasis:names:specification:ubl:schema:xsd:CommonAggregateComponents-2" ++ ((34 ∷ []) ++ (codes " xmlns:cbc=" ++ ((34 ∷ []) ++ (codes "urn:oasis:names:specification:ubl:schema:xsd:CommonBasicComponents-2" ++ ((34 ∷ []) ++ (codes "><cbc:CustomizationID>v 24</cbc:CustomizationID><cbc:ID>A1</cbc:ID><cbc:IssueDate>2024-05-01</cbc:IssueDate><cbc:InvoiceTypeCode>380</cbc:InvoiceTypeCode><cbc:DocumentCurrencyCode>EUR</cbc:DocumentCurrencyCode><cac:AccountingSupplierParty><cac:Party><cac:PostalAddress><cac:Country><cbc:IdentificationCode>DE</cbc:IdentificationCode></cac:Country></cac:PostalAddress><cac:PartyLegalEntity><cbc:RegistrationName>Seller</cbc:RegistrationName></cac:PartyLegalEntity></cac:Party></cac:AccountingSupplierParty><cac:AccountingCustomerParty><cac:Party><cac:PostalAddress><cac:Country><cbc:IdentificationCode>FR</cbc:IdentificationCode></cac:Country></cac:PostalAddress><cac:PartyLegalEntity><cbc:RegistrationName>Buyer</cbc:RegistrationName></cac:PartyLegalEntity></cac:Party></cac:AccountingCustomerParty><cac:TaxTotal><cac:TaxSubtotal><cbc:TaxableAmount currencyID=" ++ ((34 ∷ []) ++ (codes "EUR" ++ ((34 ∷ []) ++ (codes ">10.00</cbc:TaxableAmount><cbc:TaxAmount currencyID=" ++ ((34 ∷ []) ++ (codes "EUR" ++ ((34 ∷ []) ++ (codes ">2.00</cbc:TaxAmount><cac:TaxCategory><cbc:ID>S</cbc:ID><cac:TaxScheme><cbc:ID>VAT</cbc:ID></cac:TaxScheme></cac:TaxCategory></cac:TaxSubtotal></cac:TaxTotal><cac:LegalMonetaryTotal><cbc:LineExtensionAmount currencyID=" ++ ((34 ∷ []) ++ (codes "EUR" ++ ((34 ∷ []) ++ (codes ">10.00</cbc:LineExtensionAmount><cbc:TaxExclusiveAmount currencyID=" ++ ((34 ∷ []) ++ (codes "EUR" ++ ((34 ∷ []) ++ (codes ">10.00</cbc:TaxExclusiveAmount><cbc:TaxInclusiveAmount currencyID=" ++ ((34 ∷ []) ++ (codes "EUR" ++ ((34 ∷ []) ++ (codes ">12.00</cbc:TaxInclusiveAmount><cbc:PayableAmount currencyID=" ++ ((34 ∷ []) ++ (codes "EUR" ++ ((34 ∷ []) ++ (codes ">12.00</cbc:PayableAmount></cac:LegalMonetaryTotal><cac:InvoiceLine><cbc:ID>1</cbc:ID><cbc:InvoicedQuantity unitCode=" ++ ((34 ∷ []) ++ (codes "C62" ++ ((34 ∷ []) ++ (codes ">1</cbc:InvoicedQuantity><cbc:LineExtensionAmount currencyID=" ++ ((34 ∷ []) ++ (codes "EUR" ++ ((34 ∷ []) ++ (codes ">10.00</cbc:LineExtensionAmount><cac:Item><cbc:Name>Pen</cbc:Name><cac:ClassifiedTaxCategory><cbc:ID>S</cbc:ID><cac:TaxScheme><cbc:ID>VAT</cbc:ID></cac:TaxScheme></cac:ClassifiedTaxCategory></cac:Item><cac:Price><cbc:PriceAmount currencyID=" ++ ((34 ∷ []) ++ (codes "EUR" ++ ((34 ∷ []) ++ (codes ">10.00</cbc:PriceAmount></cac:Price></cac:InvoiceLine></Invoice>" ++ ((10 ∷ [])))))))))))))))))))))))))))))))))))))))))))))))))))))))))))))
unfolding document first_fault beginning extent character_at referred reference_at is_qname comment section is_declaration instruction attribute_at tag_inside
    value_in_tag start_tag end_tag state_behind events_of fault_of read resume is_utf8 chars encode_utf8 is_char is_white_space is_name_start is_name_char
    tree_of_events read_scaled read_decimal scaled_text decimal_text read_dashed_day read_plain_day dashed_day_text value_of terms_of document_of
    declaration_line in_value in_text plain_day_text terms extension_rows listing_rows occurrence_of parent_of day_from first_row invoice_rows credit_note_rows
    cii_rows invoice_listing credit_note_listing cii_listing written_units digits last_digits
row3 = refl

row4 : converted credit_note_rows cii_rows spaces.CiiInvoice
    ((codes "<CreditNote xmlns=" ++
    ((34 ∷ []) ++ (codes "urn:oasis:names:specification:ubl:schema:xsd:CreditNote-2" ++
    ((34 ∷ []) ++ (codes " xmlns:cac=" ++
    ((34 ∷ []) ++ (codes "urn:oasis:names:specification:ubl:schema:xsd:CommonAggregateComponents-2" ++
    ((34 ∷ []) ++ (codes " xmlns:cbc=" ++
    ((34 ∷ []) ++ (codes "urn:oasis:names:specification:ubl:schema:xsd:CommonBasicComponents-2" ++
    ((34 ∷ []) ++ (codes "><cbc:CustomizationID>v 24</cbc:CustomizationID><cbc:ID>A1</cbc:ID><cbc:IssueDate>2024-05-01</cbc:IssueDate><cbc:CreditNoteTypeCode>381</cbc:CreditNoteTypeCode><cbc:DocumentCurrencyCode>EUR</cbc:DocumentCurrencyCode><cac:AccountingSupplierParty><cac:Party><cac:PostalAddress><cac:Country><cbc:IdentificationCode>DE</cbc:IdentificationCode></cac:Country></cac:PostalAddress><cac:PartyLegalEntity><cbc:RegistrationName>Seller</cbc:RegistrationName></cac:PartyLegalEntity></cac:Party></cac:AccountingSupplierParty><cac:AccountingCustomerParty><cac:Party><cac:PostalAddress><cac:Country><cbc:IdentificationCode>FR</cbc:IdentificationCode></cac:Country></cac:PostalAddress><cac:PartyLegalEntity><cbc:RegistrationName>Buyer</cbc:RegistrationName></cac:PartyLegalEntity></cac:Party></cac:AccountingCustomerParty><cac:TaxTotal><cac:TaxSubtotal><cbc:TaxableAmount currencyID=" ++ ((34 ∷ []) ++ (codes "EUR" ++ ((34 ∷ []) ++ (codes ">10.00</cbc:TaxableAmount><cbc:TaxAmount currencyID=" ++ ((34 ∷ []) ++ (codes "EUR" ++ ((34 ∷ []) ++ (codes ">2.00</cbc:TaxAmount><cac:TaxCategory><cbc:ID>S</cbc:ID><cac:TaxScheme><cbc:ID>VAT</cbc:ID></cac:TaxScheme></cac:TaxCategory></cac:TaxSubtotal></cac:TaxTotal><cac:LegalMonetaryTotal><cbc:LineExtensionAmount currencyID=" ++ ((34 ∷ []) ++ (codes "EUR" ++ ((34 ∷ []) ++ (codes ">10.00</cbc:LineExtensionAmount><cbc:TaxExclusiveAmount currencyID=" ++ ((34 ∷ []) ++ (codes "EUR" ++ ((34 ∷ []) ++ (codes ">10.00</cbc:TaxExclusiveAmount><cbc:TaxInclusiveAmount currencyID=" ++ ((34 ∷ []) ++ (codes "EUR" ++ ((34 ∷ []) ++ (codes ">12.00</cbc:TaxInclusiveAmount><cbc:PayableAmount currencyID=" ++ ((34 ∷ []) ++ (codes "EUR" ++ ((34 ∷ []) ++ (codes ">12.00</cbc:PayableAmount></cac:LegalMonetaryTotal><cac:CreditNoteLine><cbc:ID>1</cbc:ID><cbc:CreditedQuantity unitCode=" ++ ((34 ∷ []) ++ (codes "C62" ++ ((34 ∷ []) ++ (codes ">1</cbc:CreditedQuantity><cbc:LineExtensionAmount currencyID=" ++ ((34 ∷ []) ++ (codes "EUR" ++ ((34 ∷ []) ++ (codes ">10.00</cbc:LineExtensionAmount><cac:Item><cbc:Name>Pen</cbc:Name><cac:ClassifiedTaxCategory><cbc:ID>S</cbc:ID><cac:TaxScheme><cbc:ID>VAT</cbc:ID></cac:TaxScheme></cac:ClassifiedTaxCategory></cac:Item><cac:Price><cbc:PriceAmount currencyID=" ++ ((34 ∷ []) ++ (codes "EUR" ++ ((34 ∷ []) ++ (codes ">10.00</cbc:PriceAmount></cac:Price></cac:CreditNoteLine></CreditNote>")))))))))))))))))))))))))))))))))))))))))))))))))) ≡ (codes "<?xml version=" ++ ((34 ∷ []) ++ (codes "1.0" ++ ((34 ∷ []) ++ (codes " encoding=" ++ ((34 ∷ []) ++ (codes "UTF-8" ++ ((34 ∷ []) ++ (codes "?>" ++ ((10 ∷ []) ++ (codes "<rsm:CrossIndustryInvoice xmlns:rsm=" ++ ((34 ∷ []) ++ (codes "urn:un:unece:uncefact:data:standard:CrossIndustryInvoice:100" ++ ((34 ∷ []) ++ (codes " xmlns:ram=" ++ ((34 ∷ []) ++ (codes "urn:un:unece:uncefact:data:standard:ReusableAggregateBusinessInformationEntity:100" ++ ((34 ∷ []) ++ (codes " xmlns:udt=" ++ ((34 ∷ []) ++ (codes "urn:un:unece:uncefact:data:standard:UnqualifiedDataType:100" ++ ((34 ∷ []) ++ (codes " xmlns:qdt=" ++ ((34 ∷ []) ++ (codes "urn:un:unece:uncefact:data:standard:QualifiedDataType:100" ++ ((34 ∷ []) ++ (codes "><rsm:ExchangedDocumentContext><ram:GuidelineSpecifiedDocumentContextParameter><ram:ID>v 24</ram:ID></ram:GuidelineSpecifiedDocumentContextParameter></rsm:ExchangedDocumentContext><rsm:ExchangedDocument><ram:ID>A1</ram:ID><ram:TypeCode>381</ram:TypeCode><ram:IssueDateTime><udt:DateTimeString format=" ++ ((34 ∷ []) ++ (codes "102" ++ ((34 ∷ []) ++ (codes ">20240501</udt:DateTimeString></ram:IssueDateTime></rsm:ExchangedDocument><rsm:SupplyChainTradeTransaction><ram:IncludedSupplyChainTradeLineItem><ram:AssociatedDocumentLineDocument><ram:LineID>1</ram:LineID></ram:AssociatedDocumentLineDocument><ram:SpecifiedTradeProduct><ram:Name>Pen</ram:Name></ram:SpecifiedTradeProduct><ram:SpecifiedLineTradeAgreement><ram:NetPriceProductTradePrice><ram:ChargeAmount>10.00</ram:ChargeAmount></ram:NetPriceProductTradePrice></ram:SpecifiedLineTradeAgreement><ram:SpecifiedLineTradeDelivery><ram:BilledQuantity unitCode=" ++ ((34 ∷ []) ++ (codes "C62" ++ ((34 ∷ []) ++ (codes ">1</ram:BilledQuantity></ram:SpecifiedLineTradeDelivery><ram:SpecifiedLineTradeSettlement><ram:ApplicableTradeTax><ram:TypeCode>VAT</ram:TypeCode><ram:CategoryCode>S</ram:CategoryCode></ram:ApplicableTradeTax><ram:SpecifiedTradeSettlementLineMonetarySummation><ram:LineTotalAmount>10.00</ram:LineTotalAmount></ram:SpecifiedTradeSettlementLineMonetarySummation></ram:SpecifiedLineTradeSettlement></ram:IncludedSupplyChainTradeLineItem><ram:ApplicableHeaderTradeAgreement><ram:SellerTradeParty><ram:Name>Seller</ram:Name><ram:PostalTradeAddress><ram:CountryID>DE</ram:CountryID></ram:PostalTradeAddress></ram:SellerTradeParty><ram:BuyerTradeParty><ram:Name>Buyer</ram:Name><ram:PostalTradeAddress><ram:CountryID>FR</ram:CountryID></ram:PostalTradeAddress></ram:BuyerTradeParty></ram:ApplicableHeaderTradeAgreement><ram:ApplicableHeaderTradeDelivery/><ram:ApplicableHeaderTradeSettlement><ram:InvoiceCurrencyCode>EUR</ram:InvoiceCurrencyCode><ram:ApplicableTradeTax><ram:CalculatedAmount>2.00</ram:CalculatedAmount><ram:TypeCode>VAT</ram:TypeCode><ram:BasisAmount>10.00</ram:BasisAmount><ram:CategoryCode>S</ram:CategoryCode></ram:ApplicableTradeTax><ram:SpecifiedTradeSettlementHeaderMonetarySummation><ram:LineTotalAmount>10.00</ram:LineTotalAmount><ram:TaxBasisTotalAmount>10.00</ram:TaxBasisTotalAmount><ram:GrandTotalAmount>12.00</ram:GrandTotalAmount><ram:DuePayableAmount>12.00</ram:DuePayableAmount></ram:SpecifiedTradeSettlementHeaderMonetarySummation></ram:ApplicableHeaderTradeSettlement></rsm:SupplyChainTradeTransaction></rsm:CrossIndustryInvoice>" ++ ((10 ∷ [])))))))))))))))))))))))))))))))))))))
unfolding document first_fault beginning extent character_at referred reference_at is_qname comment section is_declaration instruction attribute_at tag_inside
    value_in_tag start_tag end_tag state_behind events_of fault_of read resume is_utf8 chars encode_utf8 is_char is_white_space is_name_start is_name_char
    tree_of_events read_scaled read_decimal scaled_text decimal_text read_dashed_day read_plain_day dashed_day_text value_of terms_of document_of
    declaration_line in_value in_text plain_day_text terms extension_rows listing_rows occurrence_of parent_of day_from first_row invoice_rows credit_note_rows
    cii_rows invoice_listing credit_note_listing cii_listing written_units digits last_digits
row4 = refl

row5 : converted credit_note_rows credit_note_rows spaces.UblCreditNote
    ((codes "<CreditNote xmlns=" ++
    ((34 ∷ []) ++ (codes "urn:oasis:names:specification:ubl:schema:xsd:CreditNote-2" ++
    ((34 ∷ []) ++ (codes " xmlns:cac=" ++
    ((34 ∷ []) ++ (codes "urn:oasis:names:specification:ubl:schema:xsd:CommonAggregateComponents-2" ++
    ((34 ∷ []) ++ (codes " xmlns:cbc=" ++
    ((34 ∷ []) ++ (codes "urn:oasis:names:specification:ubl:schema:xsd:CommonBasicComponents-2" ++
    ((34 ∷ []) ++ (codes "><cbc:CustomizationID>v 24</cbc:CustomizationID><cbc:ID>A1</cbc:ID><cbc:IssueDate>2024-05-01</cbc:IssueDate><cbc:CreditNoteTypeCode>381</cbc:CreditNoteTypeCode><cbc:DocumentCurrencyCode>EUR</cbc:DocumentCurrencyCode><cac:AccountingSupplierParty><cac:Party><cac:PostalAddress><cac:Country><cbc:IdentificationCode>DE</cbc:IdentificationCode></cac:Country></cac:PostalAddress><cac:PartyLegalEntity><cbc:RegistrationName>Seller</cbc:RegistrationName></cac:PartyLegalEntity></cac:Party></cac:AccountingSupplierParty><cac:AccountingCustomerParty><cac:Party><cac:PostalAddress><cac:Country><cbc:IdentificationCode>FR</cbc:IdentificationCode></cac:Country></cac:PostalAddress><cac:PartyLegalEntity><cbc:RegistrationName>Buyer</cbc:RegistrationName></cac:PartyLegalEntity></cac:Party></cac:AccountingCustomerParty><cac:TaxTotal><cac:TaxSubtotal><cbc:TaxableAmount currencyID=" ++ ((34 ∷ []) ++ (codes "EUR" ++ ((34 ∷ []) ++ (codes ">10.00</cbc:TaxableAmount><cbc:TaxAmount currencyID=" ++ ((34 ∷ []) ++ (codes "EUR" ++ ((34 ∷ []) ++ (codes ">2.00</cbc:TaxAmount><cac:TaxCategory><cbc:ID>S</cbc:ID><cac:TaxScheme><cbc:ID>VAT</cbc:ID></cac:TaxScheme></cac:TaxCategory></cac:TaxSubtotal></cac:TaxTotal><cac:LegalMonetaryTotal><cbc:LineExtensionAmount currencyID=" ++ ((34 ∷ []) ++ (codes "EUR" ++ ((34 ∷ []) ++ (codes ">10.00</cbc:LineExtensionAmount><cbc:TaxExclusiveAmount currencyID=" ++ ((34 ∷ []) ++ (codes "EUR" ++ ((34 ∷ []) ++ (codes ">10.00</cbc:TaxExclusiveAmount><cbc:TaxInclusiveAmount currencyID=" ++ ((34 ∷ []) ++ (codes "EUR" ++ ((34 ∷ []) ++ (codes ">12.00</cbc:TaxInclusiveAmount><cbc:PayableAmount currencyID=" ++ ((34 ∷ []) ++ (codes "EUR" ++ ((34 ∷ []) ++ (codes ">12.00</cbc:PayableAmount></cac:LegalMonetaryTotal><cac:CreditNoteLine><cbc:ID>1</cbc:ID><cbc:CreditedQuantity unitCode=" ++ ((34 ∷ []) ++ (codes "C62" ++ ((34 ∷ []) ++ (codes ">1</cbc:CreditedQuantity><cbc:LineExtensionAmount currencyID=" ++ ((34 ∷ []) ++ (codes "EUR" ++ ((34 ∷ []) ++ (codes ">10.00</cbc:LineExtensionAmount><cac:Item><cbc:Name>Pen</cbc:Name><cac:ClassifiedTaxCategory><cbc:ID>S</cbc:ID><cac:TaxScheme><cbc:ID>VAT</cbc:ID></cac:TaxScheme></cac:ClassifiedTaxCategory></cac:Item><cac:Price><cbc:PriceAmount currencyID=" ++ ((34 ∷ []) ++ (codes "EUR" ++ ((34 ∷ []) ++ (codes ">10.00</cbc:PriceAmount></cac:Price></cac:CreditNoteLine></CreditNote>")))))))))))))))))))))))))))))))))))))))))))))))))) ≡ (codes "<?xml version=" ++ ((34 ∷ []) ++ (codes "1.0" ++ ((34 ∷ []) ++ (codes " encoding=" ++ ((34 ∷ []) ++ (codes "UTF-8" ++ ((34 ∷ []) ++ (codes "?>" ++ ((10 ∷ []) ++ (codes "<CreditNote xmlns=" ++ ((34 ∷ []) ++ (codes "urn:oasis:names:specification:ubl:schema:xsd:CreditNote-2" ++ ((34 ∷ []) ++ (codes " xmlns:cac=" ++ ((34 ∷ []) ++ (codes "urn:oasis:names:specification:ubl:schema:xsd:CommonAggregateComponents-2" ++ ((34 ∷ []) ++ (codes " xmlns:cbc=" ++ ((34 ∷ []) ++ (codes "urn:oasis:names:specification:ubl:schema:xsd:CommonBasicComponents-2" ++ ((34 ∷ []) ++ (codes "><cbc:CustomizationID>v 24</cbc:CustomizationID><cbc:ID>A1</cbc:ID><cbc:IssueDate>2024-05-01</cbc:IssueDate><cbc:CreditNoteTypeCode>381</cbc:CreditNoteTypeCode><cbc:DocumentCurrencyCode>EUR</cbc:DocumentCurrencyCode><cac:AccountingSupplierParty><cac:Party><cac:PostalAddress><cac:Country><cbc:IdentificationCode>DE</cbc:IdentificationCode></cac:Country></cac:PostalAddress><cac:PartyLegalEntity><cbc:RegistrationName>Seller</cbc:RegistrationName></cac:PartyLegalEntity></cac:Party></cac:AccountingSupplierParty><cac:AccountingCustomerParty><cac:Party><cac:PostalAddress><cac:Country><cbc:IdentificationCode>FR</cbc:IdentificationCode></cac:Country></cac:PostalAddress><cac:PartyLegalEntity><cbc:RegistrationName>Buyer</cbc:RegistrationName></cac:PartyLegalEntity></cac:Party></cac:AccountingCustomerParty><cac:TaxTotal><cac:TaxSubtotal><cbc:TaxableAmount currencyID=" ++ ((34 ∷ []) ++ (codes "EUR" ++ ((34 ∷ []) ++ (codes ">10.00</cbc:TaxableAmount><cbc:TaxAmount currencyID=" ++ ((34 ∷ []) ++ (codes "EUR" ++ ((34 ∷ []) ++ (codes ">2.00</cbc:TaxAmount><cac:TaxCategory><cbc:ID>S</cbc:ID><cac:TaxScheme><cbc:ID>VAT</cbc:ID></cac:TaxScheme></cac:TaxCategory></cac:TaxSubtotal></cac:TaxTotal><cac:LegalMonetaryTotal><cbc:LineExtensionAmount currencyID=" ++ ((34 ∷ []) ++ (codes "EUR" ++ ((34 ∷ []) ++ (codes ">10.00</cbc:LineExtensionAmount><cbc:TaxExclusiveAmount currencyID=" ++ ((34 ∷ []) ++ (codes "EUR" ++ ((34 ∷ []) ++ (codes ">10.00</cbc:TaxExclusiveAmount><cbc:TaxInclusiveAmount currencyID=" ++ ((34 ∷ []) ++ (codes "EUR" ++ ((34 ∷ []) ++ (codes ">12.00</cbc:TaxInclusiveAmount><cbc:PayableAmount currencyID=" ++ ((34 ∷ []) ++ (codes "EUR" ++ ((34 ∷ []) ++ (codes ">12.00</cbc:PayableAmount></cac:LegalMonetaryTotal><cac:CreditNoteLine><cbc:ID>1</cbc:ID><cbc:CreditedQuantity unitCode=" ++ ((34 ∷ []) ++ (codes "C62" ++ ((34 ∷ []) ++ (codes ">1</cbc:CreditedQuantity><cbc:LineExtensionAmount currencyID=" ++ ((34 ∷ []) ++ (codes "EUR" ++ ((34 ∷ []) ++ (codes ">10.00</cbc:LineExtensionAmount><cac:Item><cbc:Name>Pen</cbc:Name><cac:ClassifiedTaxCategory><cbc:ID>S</cbc:ID><cac:TaxScheme><cbc:ID>VAT</cbc:ID></cac:TaxScheme></cac:ClassifiedTaxCategory></cac:Item><cac:Price><cbc:PriceAmount currencyID=" ++ ((34 ∷ []) ++ (codes "EUR" ++ ((34 ∷ []) ++ (codes ">10.00</cbc:PriceAmount></cac:Price></cac:CreditNoteLine></CreditNote>" ++ ((10 ∷ [])))))))))))))))))))))))))))))))))))))))))))))))))))))))))))))
unfolding document first_fault beginning extent character_at referred reference_at is_qname comment section is_declaration instruction attribute_at tag_inside
    value_in_tag start_tag end_tag state_behind events_of fault_of read resume is_utf8 chars encode_utf8 is_char is_white_space is_name_start is_name_char
    tree_of_events read_scaled read_decimal scaled_text decimal_text read_dashed_day read_plain_day dashed_day_text value_of terms_of document_of
    declaration_line in_value in_text plain_day_text terms extension_rows listing_rows occurrence_of parent_of day_from first_row invoice_rows credit_note_rows
    cii_rows invoice_listing credit_note_listing cii_listing written_units digits last_digits
row5 = refl

row6 : converted credit_note_rows invoice_rows spaces.UblInvoice
    ((codes "<CreditNote xmlns=" ++
    ((34 ∷ []) ++ (codes "urn:oasis:names:specification:ubl:schema:xsd:CreditNote-2" ++
    ((34 ∷ []) ++ (codes " xmlns:cac=" ++
    ((34 ∷ []) ++ (codes "urn:oasis:names:specification:ubl:schema:xsd:CommonAggregateComponents-2" ++
    ((34 ∷ []) ++ (codes " xmlns:cbc=" ++
    ((34 ∷ []) ++ (codes "urn:oasis:names:specification:ubl:schema:xsd:CommonBasicComponents-2" ++
    ((34 ∷ []) ++ (codes "><cbc:CustomizationID>urn:cen.eu:en16931:2017</cbc:CustomizationID><cbc:ID>A1</cbc:ID><cbc:IssueDate>2024-05-01</cbc:IssueDate><cbc:CreditNoteTypeCode>532</cbc:CreditNoteTypeCode><cbc:DocumentCurrencyCode>EUR</cbc:DocumentCurrencyCode><cac:AccountingSupplierParty><cac:Party><cac:PostalAddress><cac:Country><cbc:IdentificationCode>DE</cbc:IdentificationCode></cac:Country></cac:PostalAddress><cac:PartyLegalEntity><cbc:RegistrationName>Seller</cbc:RegistrationName></cac:PartyLegalEntity></cac:Party></cac:AccountingSupplierParty><cac:AccountingCustomerParty><cac:Party><cac:PostalAddress><cac:Country><cbc:IdentificationCode>FR</cbc:IdentificationCode></cac:Country></cac:PostalAddress><cac:PartyLegalEntity><cbc:RegistrationName>Buyer</cbc:RegistrationName></cac:PartyLegalEntity></cac:Party></cac:AccountingCustomerParty><cac:TaxTotal><cac:TaxSubtotal><cbc:TaxableAmount currencyID=" ++ ((34 ∷ []) ++ (codes "EUR" ++ ((34 ∷ []) ++ (codes ">10.00</cbc:TaxableAmount><cbc:TaxAmount currencyID=" ++ ((34 ∷ []) ++ (codes "EUR" ++ ((34 ∷ []) ++ (codes ">2.00</cbc:TaxAmount><cac:TaxCategory><cbc:ID>S</cbc:ID><cac:TaxScheme><cbc:ID>VAT</cbc:ID></cac:TaxScheme></cac:TaxCategory></cac:TaxSubtotal></cac:TaxTotal><cac:LegalMonetaryTotal><cbc:LineExtensionAmount currencyID=" ++ ((34 ∷ []) ++ (codes "EUR" ++ ((34 ∷ []) ++ (codes ">10.00</cbc:LineExtensionAmount><cbc:TaxExclusiveAmount currencyID=" ++ ((34 ∷ []) ++ (codes "EUR" ++ ((34 ∷ []) ++ (codes ">10.00</cbc:TaxExclusiveAmount><cbc:TaxInclusiveAmount currencyID=" ++ ((34 ∷ []) ++ (codes "EUR" ++ ((34 ∷ []) ++ (codes ">12.00</cbc:TaxInclusiveAmount><cbc:PayableAmount currencyID=" ++ ((34 ∷ []) ++ (codes "EUR" ++ ((34 ∷ []) ++ (codes ">12.00</cbc:PayableAmount></cac:LegalMonetaryTotal><cac:CreditNoteLine><cbc:ID>1</cbc:ID><cbc:CreditedQuantity unitCode=" ++ ((34 ∷ []) ++ (codes "C62" ++ ((34 ∷ []) ++ (codes ">1</cbc:CreditedQuantity><cbc:LineExtensionAmount currencyID=" ++ ((34 ∷ []) ++ (codes "EUR" ++ ((34 ∷ []) ++ (codes ">10.00</cbc:LineExtensionAmount><cac:Item><cbc:Name>Pen</cbc:Name><cac:ClassifiedTaxCategory><cbc:ID>S</cbc:ID><cac:TaxScheme><cbc:ID>VAT</cbc:ID></cac:TaxScheme></cac:ClassifiedTaxCategory></cac:Item><cac:Price><cbc:PriceAmount currencyID=" ++ ((34 ∷ []) ++ (codes "EUR" ++ ((34 ∷ []) ++ (codes ">10.00</cbc:PriceAmount></cac:Price></cac:CreditNoteLine></CreditNote>")))))))))))))))))))))))))))))))))))))))))))))))))) ≡ (codes "<?xml version=" ++ ((34 ∷ []) ++ (codes "1.0" ++ ((34 ∷ []) ++ (codes " encoding=" ++ ((34 ∷ []) ++ (codes "UTF-8" ++ ((34 ∷ []) ++ (codes "?>" ++ ((10 ∷ []) ++ (codes "<Invoice xmlns=" ++ ((34 ∷ []) ++ (codes "urn:oasis:names:specification:ubl:schema:xsd:Invoice-2" ++ ((34 ∷ []) ++ (codes " xmlns:cac=" ++ ((34 ∷ []) ++ (codes "urn:oasis:names:specification:ubl:schema:xsd:CommonAggregateComponents-2" ++ ((34 ∷ []) ++ (codes " xmlns:cbc=" ++ ((34 ∷ []) ++ (codes "urn:oasis:names:specification:ubl:schema:xsd:CommonBasicComponents-2" ++ ((34 ∷ []) ++ (codes "><cbc:CustomizationID>urn:cen.eu:en16931:2017</cbc:CustomizationID><cbc:ID>A1</cbc:ID><cbc:IssueDate>2024-05-01</cbc:IssueDate><cbc:InvoiceTypeCode>532</cbc:InvoiceTypeCode><cbc:DocumentCurrencyCode>EUR</cbc:DocumentCurrencyCode><cac:AccountingSupplierParty><cac:Party><cac:PostalAddress><cac:Country><cbc:IdentificationCode>DE</cbc:IdentificationCode></cac:Country></cac:PostalAddress><cac:PartyLegalEntity><cbc:RegistrationName>Seller</cbc:RegistrationName></cac:PartyLegalEntity></cac:Party></cac:AccountingSupplierParty><cac:AccountingCustomerParty><cac:Party><cac:PostalAddress><cac:Country><cbc:IdentificationCode>FR</cbc:IdentificationCode></cac:Country></cac:PostalAddress><cac:PartyLegalEntity><cbc:RegistrationName>Buyer</cbc:RegistrationName></cac:PartyLegalEntity></cac:Party></cac:AccountingCustomerParty><cac:TaxTotal><cac:TaxSubtotal><cbc:TaxableAmount currencyID=" ++ ((34 ∷ []) ++ (codes "EUR" ++ ((34 ∷ []) ++ (codes ">10.00</cbc:TaxableAmount><cbc:TaxAmount currencyID=" ++ ((34 ∷ []) ++ (codes "EUR" ++ ((34 ∷ []) ++ (codes ">2.00</cbc:TaxAmount><cac:TaxCategory><cbc:ID>S</cbc:ID><cac:TaxScheme><cbc:ID>VAT</cbc:ID></cac:TaxScheme></cac:TaxCategory></cac:TaxSubtotal></cac:TaxTotal><cac:LegalMonetaryTotal><cbc:LineExtensionAmount currencyID=" ++ ((34 ∷ []) ++ (codes "EUR" ++ ((34 ∷ []) ++ (codes ">10.00</cbc:LineExtensionAmount><cbc:TaxExclusiveAmount currencyID=" ++ ((34 ∷ []) ++ (codes "EUR" ++ ((34 ∷ []) ++ (codes ">10.00</cbc:TaxExclusiveAmount><cbc:TaxInclusiveAmount currencyID=" ++ ((34 ∷ []) ++ (codes "EUR" ++ ((34 ∷ []) ++ (codes ">12.00</cbc:TaxInclusiveAmount><cbc:PayableAmount currencyID=" ++ ((34 ∷ []) ++ (codes "EUR" ++ ((34 ∷ []) ++ (codes ">12.00</cbc:PayableAmount></cac:LegalMonetaryTotal><cac:InvoiceLine><cbc:ID>1</cbc:ID><cbc:InvoicedQuantity unitCode=" ++ ((34 ∷ []) ++ (codes "C62" ++ ((34 ∷ []) ++ (codes ">1</cbc:InvoicedQuantity><cbc:LineExtensionAmount currencyID=" ++ ((34 ∷ []) ++ (codes "EUR" ++ ((34 ∷ []) ++ (codes ">10.00</cbc:LineExtensionAmount><cac:Item><cbc:Name>Pen</cbc:Name><cac:ClassifiedTaxCategory><cbc:ID>S</cbc:ID><cac:TaxScheme><cbc:ID>VAT</cbc:ID></cac:TaxScheme></cac:ClassifiedTaxCategory></cac:Item><cac:Price><cbc:PriceAmount currencyID=" ++ ((34 ∷ []) ++ (codes "EUR" ++ ((34 ∷ []) ++ (codes ">10.00</cbc:PriceAmount></cac:Price></cac:InvoiceLine></Invoice>" ++ ((10 ∷ [])))))))))))))))))))))))))))))))))))))))))))))))))))))))))))))
unfolding document first_fault beginning extent character_at referred reference_at is_qname comment section is_declaration instruction attribute_at tag_inside
    value_in_tag start_tag end_tag state_behind events_of fault_of read resume is_utf8 chars encode_utf8 is_char is_white_space is_name_start is_name_char
    tree_of_events read_scaled read_decimal scaled_text decimal_text read_dashed_day read_plain_day dashed_day_text value_of terms_of document_of
    declaration_line in_value in_text plain_day_text terms extension_rows listing_rows occurrence_of parent_of day_from first_row invoice_rows credit_note_rows
    cii_rows invoice_listing credit_note_listing cii_listing written_units digits last_digits
row6 = refl

row7 : converted invoice_rows cii_rows spaces.CiiInvoice
    ((codes "<Invoice xmlns=" ++ ((34 ∷ []) ++ (codes "urn:oasis:names:specification:ubl:schema:xsd:Invoice-2" ++
    ((34 ∷ []) ++ (codes " xmlns:cac=" ++
    ((34 ∷ []) ++ (codes "urn:oasis:names:specification:ubl:schema:xsd:CommonAggregateComponents-2" ++
    ((34 ∷ []) ++ (codes " xmlns:cbc=" ++
    ((34 ∷ []) ++ (codes "urn:oasis:names:specification:ubl:schema:xsd:CommonBasicComponents-2" ++
    ((34 ∷ []) ++ (codes "><cbc:CustomizationID>urn:cen.eu:en16931:2017</cbc:CustomizationID><cbc:ID>A1</cbc:ID><cbc:IssueDate>2024-05-01</cbc:IssueDate><cbc:InvoiceTypeCode>380</cbc:InvoiceTypeCode><cbc:DocumentCurrencyCode>EUR</cbc:DocumentCurrencyCode><cac:AccountingSupplierParty><cac:Party><cac:PostalAddress><cac:Country><cbc:IdentificationCode>DE</cbc:IdentificationCode></cac:Country></cac:PostalAddress><cac:PartyLegalEntity><cbc:RegistrationName>Seller</cbc:RegistrationName></cac:PartyLegalEntity></cac:Party></cac:AccountingSupplierParty><cac:AccountingCustomerParty><cac:Party><cac:PostalAddress><cac:Country><cbc:IdentificationCode>FR</cbc:IdentificationCode></cac:Country></cac:PostalAddress><cac:PartyLegalEntity><cbc:RegistrationName>Buyer</cbc:RegistrationName></cac:PartyLegalEntity></cac:Party></cac:AccountingCustomerParty><cac:TaxTotal><cac:TaxSubtotal><cbc:TaxableAmount currencyID=" ++ ((34 ∷ []) ++ (codes "EUR" ++ ((34 ∷ []) ++ (codes ">10.00</cbc:TaxableAmount><cbc:TaxAmount currencyID=" ++ ((34 ∷ []) ++ (codes "EUR" ++ ((34 ∷ []) ++ (codes ">2.00</cbc:TaxAmount><cac:TaxCategory><cbc:ID>S</cbc:ID><cac:TaxScheme><cbc:ID>VAT</cbc:ID></cac:TaxScheme></cac:TaxCategory></cac:TaxSubtotal></cac:TaxTotal><cac:LegalMonetaryTotal><cbc:LineExtensionAmount currencyID=" ++ ((34 ∷ []) ++ (codes "EUR" ++ ((34 ∷ []) ++ (codes ">10.00</cbc:LineExtensionAmount><cbc:TaxExclusiveAmount currencyID=" ++ ((34 ∷ []) ++ (codes "EUR" ++ ((34 ∷ []) ++ (codes ">10.00</cbc:TaxExclusiveAmount><cbc:TaxInclusiveAmount currencyID=" ++ ((34 ∷ []) ++ (codes "EUR" ++ ((34 ∷ []) ++ (codes ">12.00</cbc:TaxInclusiveAmount><cbc:PayableAmount currencyID=" ++ ((34 ∷ []) ++ (codes "EUR" ++ ((34 ∷ []) ++ (codes ">12.00</cbc:PayableAmount></cac:LegalMonetaryTotal><cac:InvoiceLine><cbc:ID>1</cbc:ID><cbc:InvoicedQuantity unitCode=" ++ ((34 ∷ []) ++ (codes "C62" ++ ((34 ∷ []) ++ (codes ">1</cbc:InvoicedQuantity><cbc:LineExtensionAmount currencyID=" ++ ((34 ∷ []) ++ (codes "EUR" ++ ((34 ∷ []) ++ (codes ">10.00</cbc:LineExtensionAmount><cac:Item><cbc:Name>Pen</cbc:Name><cac:ClassifiedTaxCategory><cbc:ID>S</cbc:ID><cac:TaxScheme><cbc:ID>VAT</cbc:ID></cac:TaxScheme></cac:ClassifiedTaxCategory></cac:Item><cac:Price><cbc:PriceAmount currencyID=" ++ ((34 ∷ []) ++ (codes "EUR" ++ ((34 ∷ []) ++ (codes ">10.00</cbc:PriceAmount></cac:Price></cac:InvoiceLine></Invoice>")))))))))))))))))))))))))))))))))))))))))))))))))) ≡ (codes "<?xml version=" ++ ((34 ∷ []) ++ (codes "1.0" ++ ((34 ∷ []) ++ (codes " encoding=" ++ ((34 ∷ []) ++ (codes "UTF-8" ++ ((34 ∷ []) ++ (codes "?>" ++ ((10 ∷ []) ++ (codes "<rsm:CrossIndustryInvoice xmlns:rsm=" ++ ((34 ∷ []) ++ (codes "urn:un:unece:uncefact:data:standard:CrossIndustryInvoice:100" ++ ((34 ∷ []) ++ (codes " xmlns:ram=" ++ ((34 ∷ []) ++ (codes "urn:un:unece:uncefact:data:standard:ReusableAggregateBusinessInformationEntity:100" ++ ((34 ∷ []) ++ (codes " xmlns:udt=" ++ ((34 ∷ []) ++ (codes "urn:un:unece:uncefact:data:standard:UnqualifiedDataType:100" ++ ((34 ∷ []) ++ (codes " xmlns:qdt=" ++ ((34 ∷ []) ++ (codes "urn:un:unece:uncefact:data:standard:QualifiedDataType:100" ++ ((34 ∷ []) ++ (codes "><rsm:ExchangedDocumentContext><ram:GuidelineSpecifiedDocumentContextParameter><ram:ID>urn:cen.eu:en16931:2017</ram:ID></ram:GuidelineSpecifiedDocumentContextParameter></rsm:ExchangedDocumentContext><rsm:ExchangedDocument><ram:ID>A1</ram:ID><ram:TypeCode>380</ram:TypeCode><ram:IssueDateTime><udt:DateTimeString format=" ++ ((34 ∷ []) ++ (codes "102" ++ ((34 ∷ []) ++ (codes ">20240501</udt:DateTimeString></ram:IssueDateTime></rsm:ExchangedDocument><rsm:SupplyChainTradeTransaction><ram:IncludedSupplyChainTradeLineItem><ram:AssociatedDocumentLineDocument><ram:LineID>1</ram:LineID></ram:AssociatedDocumentLineDocument><ram:SpecifiedTradeProduct><ram:Name>Pen</ram:Name></ram:SpecifiedTradeProduct><ram:SpecifiedLineTradeAgreement><ram:NetPriceProductTradePrice><ram:ChargeAmount>10.00</ram:ChargeAmount></ram:NetPriceProductTradePrice></ram:SpecifiedLineTradeAgreement><ram:SpecifiedLineTradeDelivery><ram:BilledQuantity unitCode=" ++ ((34 ∷ []) ++ (codes "C62" ++ ((34 ∷ []) ++ (codes ">1</ram:BilledQuantity></ram:SpecifiedLineTradeDelivery><ram:SpecifiedLineTradeSettlement><ram:ApplicableTradeTax><ram:TypeCode>VAT</ram:TypeCode><ram:CategoryCode>S</ram:CategoryCode></ram:ApplicableTradeTax><ram:SpecifiedTradeSettlementLineMonetarySummation><ram:LineTotalAmount>10.00</ram:LineTotalAmount></ram:SpecifiedTradeSettlementLineMonetarySummation></ram:SpecifiedLineTradeSettlement></ram:IncludedSupplyChainTradeLineItem><ram:ApplicableHeaderTradeAgreement><ram:SellerTradeParty><ram:Name>Seller</ram:Name><ram:PostalTradeAddress><ram:CountryID>DE</ram:CountryID></ram:PostalTradeAddress></ram:SellerTradeParty><ram:BuyerTradeParty><ram:Name>Buyer</ram:Name><ram:PostalTradeAddress><ram:CountryID>FR</ram:CountryID></ram:PostalTradeAddress></ram:BuyerTradeParty></ram:ApplicableHeaderTradeAgreement><ram:ApplicableHeaderTradeDelivery/><ram:ApplicableHeaderTradeSettlement><ram:InvoiceCurrencyCode>EUR</ram:InvoiceCurrencyCode><ram:ApplicableTradeTax><ram:CalculatedAmount>2.00</ram:CalculatedAmount><ram:TypeCode>VAT</ram:TypeCode><ram:BasisAmount>10.00</ram:BasisAmount><ram:CategoryCode>S</ram:CategoryCode></ram:ApplicableTradeTax><ram:SpecifiedTradeSettlementHeaderMonetarySummation><ram:LineTotalAmount>10.00</ram:LineTotalAmount><ram:TaxBasisTotalAmount>10.00</ram:TaxBasisTotalAmount><ram:GrandTotalAmount>12.00</ram:GrandTotalAmount><ram:DuePayableAmount>12.00</ram:DuePayableAmount></ram:SpecifiedTradeSettlementHeaderMonetarySummation></ram:ApplicableHeaderTradeSettlement></rsm:SupplyChainTradeTransaction></rsm:CrossIndustryInvoice>" ++ ((10 ∷ [])))))))))))))))))))))))))))))))))))))
unfolding document first_fault beginning extent character_at referred reference_at is_qname comment section is_declaration instruction attribute_at tag_inside
    value_in_tag start_tag end_tag state_behind events_of fault_of read resume is_utf8 chars encode_utf8 is_char is_white_space is_name_start is_name_char
    tree_of_events read_scaled read_decimal scaled_text decimal_text read_dashed_day read_plain_day dashed_day_text value_of terms_of document_of
    declaration_line in_value in_text plain_day_text terms extension_rows listing_rows occurrence_of parent_of day_from first_row invoice_rows credit_note_rows
    cii_rows invoice_listing credit_note_listing cii_listing written_units digits last_digits
row7 = refl

row8 : converted invoice_rows credit_note_rows spaces.UblCreditNote
    ((codes "<Invoice xmlns=" ++ ((34 ∷ []) ++ (codes "urn:oasis:names:specification:ubl:schema:xsd:Invoice-2" ++
    ((34 ∷ []) ++ (codes " xmlns:cac=" ++
    ((34 ∷ []) ++ (codes "urn:oasis:names:specification:ubl:schema:xsd:CommonAggregateComponents-2" ++
    ((34 ∷ []) ++ (codes " xmlns:cbc=" ++
    ((34 ∷ []) ++ (codes "urn:oasis:names:specification:ubl:schema:xsd:CommonBasicComponents-2" ++
    ((34 ∷ []) ++ (codes "><cbc:CustomizationID>urn:cen.eu:en16931:2017</cbc:CustomizationID><cbc:ID>A1</cbc:ID><cbc:IssueDate>2024-05-01</cbc:IssueDate><cbc:InvoiceTypeCode>381</cbc:InvoiceTypeCode><cbc:DocumentCurrencyCode>EUR</cbc:DocumentCurrencyCode><cac:AccountingSupplierParty><cac:Party><cac:PostalAddress><cac:Country><cbc:IdentificationCode>DE</cbc:IdentificationCode></cac:Country></cac:PostalAddress><cac:PartyLegalEntity><cbc:RegistrationName>Seller</cbc:RegistrationName></cac:PartyLegalEntity></cac:Party></cac:AccountingSupplierParty><cac:AccountingCustomerParty><cac:Party><cac:PostalAddress><cac:Country><cbc:IdentificationCode>FR</cbc:IdentificationCode></cac:Country></cac:PostalAddress><cac:PartyLegalEntity><cbc:RegistrationName>Buyer</cbc:RegistrationName></cac:PartyLegalEntity></cac:Party></cac:AccountingCustomerParty><cac:TaxTotal><cac:TaxSubtotal><cbc:TaxableAmount currencyID=" ++ ((34 ∷ []) ++ (codes "EUR" ++ ((34 ∷ []) ++ (codes ">10.00</cbc:TaxableAmount><cbc:TaxAmount currencyID=" ++ ((34 ∷ []) ++ (codes "EUR" ++ ((34 ∷ []) ++ (codes ">2.00</cbc:TaxAmount><cac:TaxCategory><cbc:ID>S</cbc:ID><cac:TaxScheme><cbc:ID>VAT</cbc:ID></cac:TaxScheme></cac:TaxCategory></cac:TaxSubtotal></cac:TaxTotal><cac:LegalMonetaryTotal><cbc:LineExtensionAmount currencyID=" ++ ((34 ∷ []) ++ (codes "EUR" ++ ((34 ∷ []) ++ (codes ">10.00</cbc:LineExtensionAmount><cbc:TaxExclusiveAmount currencyID=" ++ ((34 ∷ []) ++ (codes "EUR" ++ ((34 ∷ []) ++ (codes ">10.00</cbc:TaxExclusiveAmount><cbc:TaxInclusiveAmount currencyID=" ++ ((34 ∷ []) ++ (codes "EUR" ++ ((34 ∷ []) ++ (codes ">12.00</cbc:TaxInclusiveAmount><cbc:PayableAmount currencyID=" ++ ((34 ∷ []) ++ (codes "EUR" ++ ((34 ∷ []) ++ (codes ">12.00</cbc:PayableAmount></cac:LegalMonetaryTotal><cac:InvoiceLine><cbc:ID>1</cbc:ID><cbc:InvoicedQuantity unitCode=" ++ ((34 ∷ []) ++ (codes "C62" ++ ((34 ∷ []) ++ (codes ">1</cbc:InvoicedQuantity><cbc:LineExtensionAmount currencyID=" ++ ((34 ∷ []) ++ (codes "EUR" ++ ((34 ∷ []) ++ (codes ">10.00</cbc:LineExtensionAmount><cac:Item><cbc:Name>Pen</cbc:Name><cac:ClassifiedTaxCategory><cbc:ID>S</cbc:ID><cac:TaxScheme><cbc:ID>VAT</cbc:ID></cac:TaxScheme></cac:ClassifiedTaxCategory></cac:Item><cac:Price><cbc:PriceAmount currencyID=" ++ ((34 ∷ []) ++ (codes "EUR" ++ ((34 ∷ []) ++ (codes ">10.00</cbc:PriceAmount></cac:Price></cac:InvoiceLine></Invoice>")))))))))))))))))))))))))))))))))))))))))))))))))) ≡ (codes "<?xml version=" ++ ((34 ∷ []) ++ (codes "1.0" ++ ((34 ∷ []) ++ (codes " encoding=" ++ ((34 ∷ []) ++ (codes "UTF-8" ++ ((34 ∷ []) ++ (codes "?>" ++ ((10 ∷ []) ++ (codes "<CreditNote xmlns=" ++ ((34 ∷ []) ++ (codes "urn:oasis:names:specification:ubl:schema:xsd:CreditNote-2" ++ ((34 ∷ []) ++ (codes " xmlns:cac=" ++ ((34 ∷ []) ++ (codes "urn:oasis:names:specification:ubl:schema:xsd:CommonAggregateComponents-2" ++ ((34 ∷ []) ++ (codes " xmlns:cbc=" ++ ((34 ∷ []) ++ (codes "urn:oasis:names:specification:ubl:schema:xsd:CommonBasicComponents-2" ++ ((34 ∷ []) ++ (codes "><cbc:CustomizationID>urn:cen.eu:en16931:2017</cbc:CustomizationID><cbc:ID>A1</cbc:ID><cbc:IssueDate>2024-05-01</cbc:IssueDate><cbc:CreditNoteTypeCode>381</cbc:CreditNoteTypeCode><cbc:DocumentCurrencyCode>EUR</cbc:DocumentCurrencyCode><cac:AccountingSupplierParty><cac:Party><cac:PostalAddress><cac:Country><cbc:IdentificationCode>DE</cbc:IdentificationCode></cac:Country></cac:PostalAddress><cac:PartyLegalEntity><cbc:RegistrationName>Seller</cbc:RegistrationName></cac:PartyLegalEntity></cac:Party></cac:AccountingSupplierParty><cac:AccountingCustomerParty><cac:Party><cac:PostalAddress><cac:Country><cbc:IdentificationCode>FR</cbc:IdentificationCode></cac:Country></cac:PostalAddress><cac:PartyLegalEntity><cbc:RegistrationName>Buyer</cbc:RegistrationName></cac:PartyLegalEntity></cac:Party></cac:AccountingCustomerParty><cac:TaxTotal><cac:TaxSubtotal><cbc:TaxableAmount currencyID=" ++ ((34 ∷ []) ++ (codes "EUR" ++ ((34 ∷ []) ++ (codes ">10.00</cbc:TaxableAmount><cbc:TaxAmount currencyID=" ++ ((34 ∷ []) ++ (codes "EUR" ++ ((34 ∷ []) ++ (codes ">2.00</cbc:TaxAmount><cac:TaxCategory><cbc:ID>S</cbc:ID><cac:TaxScheme><cbc:ID>VAT</cbc:ID></cac:TaxScheme></cac:TaxCategory></cac:TaxSubtotal></cac:TaxTotal><cac:LegalMonetaryTotal><cbc:LineExtensionAmount currencyID=" ++ ((34 ∷ []) ++ (codes "EUR" ++ ((34 ∷ []) ++ (codes ">10.00</cbc:LineExtensionAmount><cbc:TaxExclusiveAmount currencyID=" ++ ((34 ∷ []) ++ (codes "EUR" ++ ((34 ∷ []) ++ (codes ">10.00</cbc:TaxExclusiveAmount><cbc:TaxInclusiveAmount currencyID=" ++ ((34 ∷ []) ++ (codes "EUR" ++ ((34 ∷ []) ++ (codes ">12.00</cbc:TaxInclusiveAmount><cbc:PayableAmount currencyID=" ++ ((34 ∷ []) ++ (codes "EUR" ++ ((34 ∷ []) ++ (codes ">12.00</cbc:PayableAmount></cac:LegalMonetaryTotal><cac:CreditNoteLine><cbc:ID>1</cbc:ID><cbc:CreditedQuantity unitCode=" ++ ((34 ∷ []) ++ (codes "C62" ++ ((34 ∷ []) ++ (codes ">1</cbc:CreditedQuantity><cbc:LineExtensionAmount currencyID=" ++ ((34 ∷ []) ++ (codes "EUR" ++ ((34 ∷ []) ++ (codes ">10.00</cbc:LineExtensionAmount><cac:Item><cbc:Name>Pen</cbc:Name><cac:ClassifiedTaxCategory><cbc:ID>S</cbc:ID><cac:TaxScheme><cbc:ID>VAT</cbc:ID></cac:TaxScheme></cac:ClassifiedTaxCategory></cac:Item><cac:Price><cbc:PriceAmount currencyID=" ++ ((34 ∷ []) ++ (codes "EUR" ++ ((34 ∷ []) ++ (codes ">10.00</cbc:PriceAmount></cac:Price></cac:CreditNoteLine></CreditNote>" ++ ((10 ∷ [])))))))))))))))))))))))))))))))))))))))))))))))))))))))))))))
unfolding document first_fault beginning extent character_at referred reference_at is_qname comment section is_declaration instruction attribute_at tag_inside
    value_in_tag start_tag end_tag state_behind events_of fault_of read resume is_utf8 chars encode_utf8 is_char is_white_space is_name_start is_name_char
    tree_of_events read_scaled read_decimal scaled_text decimal_text read_dashed_day read_plain_day dashed_day_text value_of terms_of document_of
    declaration_line in_value in_text plain_day_text terms extension_rows listing_rows occurrence_of parent_of day_from first_row invoice_rows credit_note_rows
    cii_rows invoice_listing credit_note_listing cii_listing written_units digits last_digits
row8 = refl

row9 : converted invoice_rows invoice_rows spaces.UblInvoice
    ((codes "<Invoice xmlns=" ++ ((34 ∷ []) ++ (codes "urn:oasis:names:specification:ubl:schema:xsd:Invoice-2" ++
    ((34 ∷ []) ++ (codes " xmlns:cac=" ++
    ((34 ∷ []) ++ (codes "urn:oasis:names:specification:ubl:schema:xsd:CommonAggregateComponents-2" ++
    ((34 ∷ []) ++ (codes " xmlns:cbc=" ++
    ((34 ∷ []) ++ (codes "urn:oasis:names:specification:ubl:schema:xsd:CommonBasicComponents-2" ++
    ((34 ∷ []) ++ (codes "><cbc:CustomizationID>urn:cen.eu:en16931:2017</cbc:CustomizationID><cbc:ID>A1</cbc:ID><cbc:IssueDate>2024-05-01</cbc:IssueDate><cbc:InvoiceTypeCode>380</cbc:InvoiceTypeCode><cbc:DocumentCurrencyCode>EUR</cbc:DocumentCurrencyCode><cac:AccountingSupplierParty><cac:Party><cac:PostalAddress><cac:Country><cbc:IdentificationCode>DE</cbc:IdentificationCode></cac:Country></cac:PostalAddress><cac:PartyLegalEntity><cbc:RegistrationName>Seller</cbc:RegistrationName></cac:PartyLegalEntity></cac:Party></cac:AccountingSupplierParty><cac:AccountingCustomerParty><cac:Party><cac:PostalAddress><cac:Country><cbc:IdentificationCode>FR</cbc:IdentificationCode></cac:Country></cac:PostalAddress><cac:PartyLegalEntity><cbc:RegistrationName>Buyer</cbc:RegistrationName></cac:PartyLegalEntity></cac:Party></cac:AccountingCustomerParty><cac:TaxTotal><cac:TaxSubtotal><cbc:TaxableAmount currencyID=" ++ ((34 ∷ []) ++ (codes "EUR" ++ ((34 ∷ []) ++ (codes ">10.00</cbc:TaxableAmount><cbc:TaxAmount currencyID=" ++ ((34 ∷ []) ++ (codes "EUR" ++ ((34 ∷ []) ++ (codes ">2.00</cbc:TaxAmount><cac:TaxCategory><cbc:ID>S</cbc:ID><cac:TaxScheme><cbc:ID>VAT</cbc:ID></cac:TaxScheme></cac:TaxCategory></cac:TaxSubtotal></cac:TaxTotal><cac:LegalMonetaryTotal><cbc:LineExtensionAmount currencyID=" ++ ((34 ∷ []) ++ (codes "EUR" ++ ((34 ∷ []) ++ (codes ">10.00</cbc:LineExtensionAmount><cbc:TaxExclusiveAmount currencyID=" ++ ((34 ∷ []) ++ (codes "EUR" ++ ((34 ∷ []) ++ (codes ">10.00</cbc:TaxExclusiveAmount><cbc:TaxInclusiveAmount currencyID=" ++ ((34 ∷ []) ++ (codes "EUR" ++ ((34 ∷ []) ++ (codes ">12.00</cbc:TaxInclusiveAmount><cbc:PayableAmount currencyID=" ++ ((34 ∷ []) ++ (codes "EUR" ++ ((34 ∷ []) ++ (codes ">12.00</cbc:PayableAmount></cac:LegalMonetaryTotal><cac:InvoiceLine><cbc:ID>1</cbc:ID><cbc:InvoicedQuantity unitCode=" ++ ((34 ∷ []) ++ (codes "C62" ++ ((34 ∷ []) ++ (codes ">1</cbc:InvoicedQuantity><cbc:LineExtensionAmount currencyID=" ++ ((34 ∷ []) ++ (codes "EUR" ++ ((34 ∷ []) ++ (codes ">10.00</cbc:LineExtensionAmount><cac:Item><cbc:Name>Pen</cbc:Name><cac:ClassifiedTaxCategory><cbc:ID>S</cbc:ID><cac:TaxScheme><cbc:ID>VAT</cbc:ID></cac:TaxScheme></cac:ClassifiedTaxCategory></cac:Item><cac:Price><cbc:PriceAmount currencyID=" ++ ((34 ∷ []) ++ (codes "EUR" ++ ((34 ∷ []) ++ (codes ">10.00</cbc:PriceAmount></cac:Price></cac:InvoiceLine></Invoice>")))))))))))))))))))))))))))))))))))))))))))))))))) ≡ (codes "<?xml version=" ++ ((34 ∷ []) ++ (codes "1.0" ++ ((34 ∷ []) ++ (codes " encoding=" ++ ((34 ∷ []) ++ (codes "UTF-8" ++ ((34 ∷ []) ++ (codes "?>" ++ ((10 ∷ []) ++ (codes "<Invoice xmlns=" ++ ((34 ∷ []) ++ (codes "urn:oasis:names:specification:ubl:schema:xsd:Invoice-2" ++ ((34 ∷ []) ++ (codes " xmlns:cac=" ++ ((34 ∷ []) ++ (codes "urn:oasis:names:specification:ubl:schema:xsd:CommonAggregateComponents-2" ++ ((34 ∷ []) ++ (codes " xmlns:cbc=" ++ ((34 ∷ []) ++ (codes "urn:oasis:names:specification:ubl:schema:xsd:CommonBasicComponents-2" ++ ((34 ∷ []) ++ (codes "><cbc:CustomizationID>urn:cen.eu:en16931:2017</cbc:CustomizationID><cbc:ID>A1</cbc:ID><cbc:IssueDate>2024-05-01</cbc:IssueDate><cbc:InvoiceTypeCode>380</cbc:InvoiceTypeCode><cbc:DocumentCurrencyCode>EUR</cbc:DocumentCurrencyCode><cac:AccountingSupplierParty><cac:Party><cac:PostalAddress><cac:Country><cbc:IdentificationCode>DE</cbc:IdentificationCode></cac:Country></cac:PostalAddress><cac:PartyLegalEntity><cbc:RegistrationName>Seller</cbc:RegistrationName></cac:PartyLegalEntity></cac:Party></cac:AccountingSupplierParty><cac:AccountingCustomerParty><cac:Party><cac:PostalAddress><cac:Country><cbc:IdentificationCode>FR</cbc:IdentificationCode></cac:Country></cac:PostalAddress><cac:PartyLegalEntity><cbc:RegistrationName>Buyer</cbc:RegistrationName></cac:PartyLegalEntity></cac:Party></cac:AccountingCustomerParty><cac:TaxTotal><cac:TaxSubtotal><cbc:TaxableAmount currencyID=" ++ ((34 ∷ []) ++ (codes "EUR" ++ ((34 ∷ []) ++ (codes ">10.00</cbc:TaxableAmount><cbc:TaxAmount currencyID=" ++ ((34 ∷ []) ++ (codes "EUR" ++ ((34 ∷ []) ++ (codes ">2.00</cbc:TaxAmount><cac:TaxCategory><cbc:ID>S</cbc:ID><cac:TaxScheme><cbc:ID>VAT</cbc:ID></cac:TaxScheme></cac:TaxCategory></cac:TaxSubtotal></cac:TaxTotal><cac:LegalMonetaryTotal><cbc:LineExtensionAmount currencyID=" ++ ((34 ∷ []) ++ (codes "EUR" ++ ((34 ∷ []) ++ (codes ">10.00</cbc:LineExtensionAmount><cbc:TaxExclusiveAmount currencyID=" ++ ((34 ∷ []) ++ (codes "EUR" ++ ((34 ∷ []) ++ (codes ">10.00</cbc:TaxExclusiveAmount><cbc:TaxInclusiveAmount currencyID=" ++ ((34 ∷ []) ++ (codes "EUR" ++ ((34 ∷ []) ++ (codes ">12.00</cbc:TaxInclusiveAmount><cbc:PayableAmount currencyID=" ++ ((34 ∷ []) ++ (codes "EUR" ++ ((34 ∷ []) ++ (codes ">12.00</cbc:PayableAmount></cac:LegalMonetaryTotal><cac:InvoiceLine><cbc:ID>1</cbc:ID><cbc:InvoicedQuantity unitCode=" ++ ((34 ∷ []) ++ (codes "C62" ++ ((34 ∷ []) ++ (codes ">1</cbc:InvoicedQuantity><cbc:LineExtensionAmount currencyID=" ++ ((34 ∷ []) ++ (codes "EUR" ++ ((34 ∷ []) ++ (codes ">10.00</cbc:LineExtensionAmount><cac:Item><cbc:Name>Pen</cbc:Name><cac:ClassifiedTaxCategory><cbc:ID>S</cbc:ID><cac:TaxScheme><cbc:ID>VAT</cbc:ID></cac:TaxScheme></cac:ClassifiedTaxCategory></cac:Item><cac:Price><cbc:PriceAmount currencyID=" ++ ((34 ∷ []) ++ (codes "EUR" ++ ((34 ∷ []) ++ (codes ">10.00</cbc:PriceAmount></cac:Price></cac:InvoiceLine></Invoice>" ++ ((10 ∷ [])))))))))))))))))))))))))))))))))))))))))))))))))))))))))))))
unfolding document first_fault beginning extent character_at referred reference_at is_qname comment section is_declaration instruction attribute_at tag_inside
    value_in_tag start_tag end_tag state_behind events_of fault_of read resume is_utf8 chars encode_utf8 is_char is_white_space is_name_start is_name_char
    tree_of_events read_scaled read_decimal scaled_text decimal_text read_dashed_day read_plain_day dashed_day_text value_of terms_of document_of
    declaration_line in_value in_text plain_day_text terms extension_rows listing_rows occurrence_of parent_of day_from first_row invoice_rows credit_note_rows
    cii_rows invoice_listing credit_note_listing cii_listing written_units digits last_digits
row9 = refl

row10 : shown invoice_rows ((codes "<Invoice xmlns=" ++
    ((34 ∷ []) ++ (codes "urn:oasis:names:specification:ubl:schema:xsd:Invoice-2" ++
    ((34 ∷ []) ++ (codes " xmlns:cac=" ++
    ((34 ∷ []) ++ (codes "urn:oasis:names:specification:ubl:schema:xsd:CommonAggregateComponents-2" ++
    ((34 ∷ []) ++ (codes " xmlns:cbc=" ++
    ((34 ∷ []) ++ (codes "urn:oasis:names:specification:ubl:schema:xsd:CommonBasicComponents-2" ++
    ((34 ∷ []) ++ (codes "><cbc:CustomizationID>urn:cen.eu:en16931:2017</cbc:CustomizationID><cbc:IssueDate>2024-05-01</cbc:IssueDate><cbc:InvoiceTypeCode>380</cbc:InvoiceTypeCode><cbc:DocumentCurrencyCode>EUR</cbc:DocumentCurrencyCode><cac:AccountingSupplierParty><cac:Party><cac:PostalAddress><cac:Country><cbc:IdentificationCode>DE</cbc:IdentificationCode></cac:Country></cac:PostalAddress><cac:PartyLegalEntity><cbc:RegistrationName>Seller</cbc:RegistrationName></cac:PartyLegalEntity></cac:Party></cac:AccountingSupplierParty><cac:AccountingCustomerParty><cac:Party><cac:PostalAddress><cac:Country><cbc:IdentificationCode>FR</cbc:IdentificationCode></cac:Country></cac:PostalAddress><cac:PartyLegalEntity><cbc:RegistrationName>Buyer</cbc:RegistrationName></cac:PartyLegalEntity></cac:Party></cac:AccountingCustomerParty><cac:TaxTotal><cac:TaxSubtotal><cbc:TaxableAmount currencyID=" ++ ((34 ∷ []) ++ (codes "EUR" ++ ((34 ∷ []) ++ (codes ">10.00</cbc:TaxableAmount><cbc:TaxAmount currencyID=" ++ ((34 ∷ []) ++ (codes "EUR" ++ ((34 ∷ []) ++ (codes ">2.00</cbc:TaxAmount><cac:TaxCategory><cbc:ID>S</cbc:ID><cac:TaxScheme><cbc:ID>VAT</cbc:ID></cac:TaxScheme></cac:TaxCategory></cac:TaxSubtotal></cac:TaxTotal><cac:LegalMonetaryTotal><cbc:LineExtensionAmount currencyID=" ++ ((34 ∷ []) ++ (codes "EUR" ++ ((34 ∷ []) ++ (codes ">10.00</cbc:LineExtensionAmount><cbc:TaxExclusiveAmount currencyID=" ++ ((34 ∷ []) ++ (codes "EUR" ++ ((34 ∷ []) ++ (codes ">10.00</cbc:TaxExclusiveAmount><cbc:TaxInclusiveAmount currencyID=" ++ ((34 ∷ []) ++ (codes "EUR" ++ ((34 ∷ []) ++ (codes ">12.00</cbc:TaxInclusiveAmount><cbc:PayableAmount currencyID=" ++ ((34 ∷ []) ++ (codes "EUR" ++ ((34 ∷ []) ++ (codes ">12.00</cbc:PayableAmount></cac:LegalMonetaryTotal><cac:InvoiceLine><cbc:ID>1</cbc:ID><cbc:InvoicedQuantity unitCode=" ++ ((34 ∷ []) ++ (codes "C62" ++ ((34 ∷ []) ++ (codes ">1</cbc:InvoicedQuantity><cbc:LineExtensionAmount currencyID=" ++ ((34 ∷ []) ++ (codes "EUR" ++ ((34 ∷ []) ++ (codes ">10.00</cbc:LineExtensionAmount><cac:Item><cbc:Name>Pen</cbc:Name><cac:ClassifiedTaxCategory><cbc:ID>S</cbc:ID><cac:TaxScheme><cbc:ID>VAT</cbc:ID></cac:TaxScheme></cac:ClassifiedTaxCategory></cac:Item><cac:Price><cbc:PriceAmount currencyID=" ++ ((34 ∷ []) ++ (codes "EUR" ++ ((34 ∷ []) ++ (codes ">x</cbc:PriceAmount></cac:Price></cac:InvoiceLine></Invoice>")))))))))))))))))))))))))))))))))))))))))))))))))) ≡ (codes "einv: f: BadValue BT-146 at 1991" ++ ((10 ∷ [])))
unfolding document first_fault beginning extent character_at referred reference_at is_qname comment section is_declaration instruction attribute_at tag_inside
    value_in_tag start_tag end_tag state_behind events_of fault_of read resume is_utf8 chars encode_utf8 is_char is_white_space is_name_start is_name_char
    tree_of_events read_scaled read_decimal scaled_text decimal_text read_dashed_day read_plain_day dashed_day_text value_of terms_of document_of
    declaration_line in_value in_text plain_day_text terms extension_rows listing_rows occurrence_of parent_of day_from first_row invoice_rows credit_note_rows
    cii_rows invoice_listing credit_note_listing cii_listing written_units digits last_digits
row10 = refl

row11 : shown invoice_rows ((codes "<Invoice xmlns=" ++
    ((34 ∷ []) ++ (codes "urn:oasis:names:specification:ubl:schema:xsd:Invoice-2" ++
    ((34 ∷ []) ++ (codes " xmlns:cac=" ++
    ((34 ∷ []) ++ (codes "urn:oasis:names:specification:ubl:schema:xsd:CommonAggregateComponents-2" ++
    ((34 ∷ []) ++ (codes " xmlns:cbc=" ++
    ((34 ∷ []) ++ (codes "urn:oasis:names:specification:ubl:schema:xsd:CommonBasicComponents-2" ++
    ((34 ∷ []) ++ (codes "><cbc:CustomizationID>urn:cen.eu:en16931:2017</cbc:CustomizationID><cbc:ID>A1</cbc:ID><cbc:IssueDate>2024-05-01</cbc:IssueDate><cbc:InvoiceTypeCode>380</cbc:InvoiceTypeCode><cbc:DocumentCurrencyCode>EUR</cbc:DocumentCurrencyCode><cac:AccountingSupplierParty><cac:Party><cac:PostalAddress><cac:Country><cbc:IdentificationCode>DE</cbc:IdentificationCode></cac:Country></cac:PostalAddress><cac:PartyLegalEntity><cbc:RegistrationName>Seller</cbc:RegistrationName></cac:PartyLegalEntity></cac:Party></cac:AccountingSupplierParty><cac:AccountingCustomerParty><cac:Party><cac:PostalAddress><cac:Country><cbc:IdentificationCode>FR</cbc:IdentificationCode></cac:Country></cac:PostalAddress><cac:PartyLegalEntity><cbc:RegistrationName>Buyer</cbc:RegistrationName></cac:PartyLegalEntity></cac:Party></cac:AccountingCustomerParty><cac:TaxTotal><cac:TaxSubtotal><cbc:TaxableAmount currencyID=" ++ ((34 ∷ []) ++ (codes "EUR" ++ ((34 ∷ []) ++ (codes ">10.00</cbc:TaxableAmount><cbc:TaxAmount currencyID=" ++ ((34 ∷ []) ++ (codes "EUR" ++ ((34 ∷ []) ++ (codes ">2.00</cbc:TaxAmount><cac:TaxCategory><cbc:ID>X</cbc:ID><cac:TaxScheme><cbc:ID>VAT</cbc:ID></cac:TaxScheme></cac:TaxCategory></cac:TaxSubtotal></cac:TaxTotal><cac:LegalMonetaryTotal><cbc:LineExtensionAmount currencyID=" ++ ((34 ∷ []) ++ (codes "EUR" ++ ((34 ∷ []) ++ (codes ">10.00</cbc:LineExtensionAmount><cbc:TaxExclusiveAmount currencyID=" ++ ((34 ∷ []) ++ (codes "EUR" ++ ((34 ∷ []) ++ (codes ">10.00</cbc:TaxExclusiveAmount><cbc:TaxInclusiveAmount currencyID=" ++ ((34 ∷ []) ++ (codes "EUR" ++ ((34 ∷ []) ++ (codes ">12.00</cbc:TaxInclusiveAmount><cbc:PayableAmount currencyID=" ++ ((34 ∷ []) ++ (codes "EUR" ++ ((34 ∷ []) ++ (codes ">12.00</cbc:PayableAmount></cac:LegalMonetaryTotal><cac:InvoiceLine><cbc:ID>1</cbc:ID><cbc:InvoicedQuantity unitCode=" ++ ((34 ∷ []) ++ (codes "C62" ++ ((34 ∷ []) ++ (codes ">1</cbc:InvoicedQuantity><cbc:LineExtensionAmount currencyID=" ++ ((34 ∷ []) ++ (codes "EUR" ++ ((34 ∷ []) ++ (codes ">10.00</cbc:LineExtensionAmount><cac:Item><cbc:Name>Pen</cbc:Name><cac:ClassifiedTaxCategory><cbc:ID>S</cbc:ID><cac:TaxScheme><cbc:ID>VAT</cbc:ID></cac:TaxScheme></cac:ClassifiedTaxCategory></cac:Item><cac:Price><cbc:PriceAmount currencyID=" ++ ((34 ∷ []) ++ (codes "EUR" ++ ((34 ∷ []) ++ (codes ">10.00</cbc:PriceAmount></cac:Price></cac:InvoiceLine></Invoice>")))))))))))))))))))))))))))))))))))))))))))))))))) ≡ (codes "einv: f: CodeNotListed BT-118 at 1216" ++ ((10 ∷ [])))
unfolding document first_fault beginning extent character_at referred reference_at is_qname comment section is_declaration instruction attribute_at tag_inside
    value_in_tag start_tag end_tag state_behind events_of fault_of read resume is_utf8 chars encode_utf8 is_char is_white_space is_name_start is_name_char
    tree_of_events read_scaled read_decimal scaled_text decimal_text read_dashed_day read_plain_day dashed_day_text value_of terms_of document_of
    declaration_line in_value in_text plain_day_text terms extension_rows listing_rows occurrence_of parent_of day_from first_row invoice_rows credit_note_rows
    cii_rows invoice_listing credit_note_listing cii_listing written_units digits last_digits
row11 = refl

row12 : shown invoice_rows ((codes "<Invoice xmlns=" ++
    ((34 ∷ []) ++ (codes "urn:oasis:names:specification:ubl:schema:xsd:Invoice-2" ++
    ((34 ∷ []) ++ (codes " xmlns:cac=" ++
    ((34 ∷ []) ++ (codes "urn:oasis:names:specification:ubl:schema:xsd:CommonAggregateComponents-2" ++
    ((34 ∷ []) ++ (codes " xmlns:cbc=" ++
    ((34 ∷ []) ++ (codes "urn:oasis:names:specification:ubl:schema:xsd:CommonBasicComponents-2" ++
    ((34 ∷ []) ++ (codes "><cbc:CustomizationID>urn:cen.eu:en16931:2017</cbc:CustomizationID><cbc:ID>A1</cbc:ID><cbc:IssueDate>2024-05-01</cbc:IssueDate><cbc:InvoiceTypeCode>380</cbc:InvoiceTypeCode><cbc:DocumentCurrencyCode>EUR</cbc:DocumentCurrencyCode><cac:AccountingSupplierParty><cac:Party><cac:PostalAddress><cac:Country><cbc:IdentificationCode>DE</cbc:IdentificationCode></cac:Country></cac:PostalAddress><cac:PartyLegalEntity><cbc:RegistrationName>Seller</cbc:RegistrationName></cac:PartyLegalEntity></cac:Party></cac:AccountingSupplierParty><cac:AccountingCustomerParty><cac:Party><cac:PostalAddress><cac:Country><cbc:IdentificationCode>FR</cbc:IdentificationCode></cac:Country></cac:PostalAddress><cac:PartyLegalEntity><cbc:RegistrationName>Buyer</cbc:RegistrationName></cac:PartyLegalEntity></cac:Party></cac:AccountingCustomerParty><cac:TaxTotal><cac:TaxSubtotal><cbc:TaxableAmount currencyID=" ++ ((34 ∷ []) ++ (codes "EUR" ++ ((34 ∷ []) ++ (codes ">10.00</cbc:TaxableAmount><cbc:TaxAmount currencyID=" ++ ((34 ∷ []) ++ (codes "EUR" ++ ((34 ∷ []) ++ (codes ">2.00</cbc:TaxAmount><cac:TaxCategory><cbc:ID>S</cbc:ID><cac:TaxScheme><cbc:ID>VAT</cbc:ID></cac:TaxScheme></cac:TaxCategory></cac:TaxSubtotal></cac:TaxTotal><cac:LegalMonetaryTotal><cbc:LineExtensionAmount currencyID=" ++ ((34 ∷ []) ++ (codes "XXX" ++ ((34 ∷ []) ++ (codes ">106.05</cbc:LineExtensionAmount><cbc:TaxExclusiveAmount currencyID=" ++ ((34 ∷ []) ++ (codes "EUR" ++ ((34 ∷ []) ++ (codes ">10.00</cbc:TaxExclusiveAmount><cbc:TaxInclusiveAmount currencyID=" ++ ((34 ∷ []) ++ (codes "EUR" ++ ((34 ∷ []) ++ (codes ">12.00</cbc:TaxInclusiveAmount><cbc:PayableAmount currencyID=" ++ ((34 ∷ []) ++ (codes "EUR" ++ ((34 ∷ []) ++ (codes ">12.00</cbc:PayableAmount></cac:LegalMonetaryTotal><cac:InvoiceLine><cbc:ID>1</cbc:ID><cbc:InvoicedQuantity unitCode=" ++ ((34 ∷ []) ++ (codes "C62" ++ ((34 ∷ []) ++ (codes ">1</cbc:InvoicedQuantity><cbc:LineExtensionAmount currencyID=" ++ ((34 ∷ []) ++ (codes "EUR" ++ ((34 ∷ []) ++ (codes ">10.00</cbc:LineExtensionAmount><cac:Item><cbc:Name>Pen</cbc:Name><cac:ClassifiedTaxCategory><cbc:ID>S</cbc:ID><cac:TaxScheme><cbc:ID>VAT</cbc:ID></cac:TaxScheme></cac:ClassifiedTaxCategory></cac:Item><cac:Price><cbc:PriceAmount currencyID=" ++ ((34 ∷ []) ++ (codes "EUR" ++ ((34 ∷ []) ++ (codes ">10.00</cbc:PriceAmount></cac:Price></cac:InvoiceLine></Invoice>")))))))))))))))))))))))))))))))))))))))))))))))))) ≡ (codes "einv: f: CurrencyDiffers BT-106 at 1360" ++ ((10 ∷ [])))
unfolding document first_fault beginning extent character_at referred reference_at is_qname comment section is_declaration instruction attribute_at tag_inside
    value_in_tag start_tag end_tag state_behind events_of fault_of read resume is_utf8 chars encode_utf8 is_char is_white_space is_name_start is_name_char
    tree_of_events read_scaled read_decimal scaled_text decimal_text read_dashed_day read_plain_day dashed_day_text value_of terms_of document_of
    declaration_line in_value in_text plain_day_text terms extension_rows listing_rows occurrence_of parent_of day_from first_row invoice_rows credit_note_rows
    cii_rows invoice_listing credit_note_listing cii_listing written_units digits last_digits
row12 = refl

row13 : shown invoice_rows ((codes "<Invoice xmlns=" ++
    ((34 ∷ []) ++ (codes "urn:oasis:names:specification:ubl:schema:xsd:Invoice-2" ++
    ((34 ∷ []) ++ (codes " xmlns:cac=" ++
    ((34 ∷ []) ++ (codes "urn:oasis:names:specification:ubl:schema:xsd:CommonAggregateComponents-2" ++
    ((34 ∷ []) ++ (codes " xmlns:cbc=" ++
    ((34 ∷ []) ++ (codes "urn:oasis:names:specification:ubl:schema:xsd:CommonBasicComponents-2" ++
    ((34 ∷ []) ++ (codes "><cbc:CustomizationID>urn:cen.eu:en16931:2017</cbc:CustomizationID><cbc:ID>A1</cbc:ID><cbc:IssueDate>2024-05-01</cbc:IssueDate><cbc:InvoiceTypeCode>380</cbc:InvoiceTypeCode><cbc:DocumentCurrencyCode>EUR</cbc:DocumentCurrencyCode><cac:AccountingSupplierParty><cac:Party><cac:PostalAddress><cac:Country><cbc:IdentificationCode>DE</cbc:IdentificationCode></cac:Country></cac:PostalAddress><cac:PartyLegalEntity><cbc:RegistrationName>Seller</cbc:RegistrationName></cac:PartyLegalEntity></cac:Party></cac:AccountingSupplierParty><cac:AccountingCustomerParty><cac:Party><cac:PostalAddress><cac:Country><cbc:IdentificationCode>FR</cbc:IdentificationCode></cac:Country></cac:PostalAddress><cac:PartyLegalEntity><cbc:RegistrationName>Buyer</cbc:RegistrationName></cac:PartyLegalEntity></cac:Party></cac:AccountingCustomerParty><cac:PaymentMeans><cbc:PaymentMeansCode>30</cbc:PaymentMeansCode><cac:PayeeFinancialAccount><cbc:ID>A1</cbc:ID></cac:PayeeFinancialAccount></cac:PaymentMeans><cac:PaymentMeans><cbc:PaymentMeansCode>58</cbc:PaymentMeansCode><cac:PayeeFinancialAccount><cbc:ID>A2</cbc:ID></cac:PayeeFinancialAccount></cac:PaymentMeans><cac:TaxTotal><cac:TaxSubtotal><cbc:TaxableAmount currencyID=" ++ ((34 ∷ []) ++ (codes "EUR" ++ ((34 ∷ []) ++ (codes ">10.00</cbc:TaxableAmount><cbc:TaxAmount currencyID=" ++ ((34 ∷ []) ++ (codes "EUR" ++ ((34 ∷ []) ++ (codes ">2.00</cbc:TaxAmount><cac:TaxCategory><cbc:ID>S</cbc:ID><cac:TaxScheme><cbc:ID>VAT</cbc:ID></cac:TaxScheme></cac:TaxCategory></cac:TaxSubtotal></cac:TaxTotal><cac:LegalMonetaryTotal><cbc:LineExtensionAmount currencyID=" ++ ((34 ∷ []) ++ (codes "EUR" ++ ((34 ∷ []) ++ (codes ">10.00</cbc:LineExtensionAmount><cbc:TaxExclusiveAmount currencyID=" ++ ((34 ∷ []) ++ (codes "EUR" ++ ((34 ∷ []) ++ (codes ">10.00</cbc:TaxExclusiveAmount><cbc:TaxInclusiveAmount currencyID=" ++ ((34 ∷ []) ++ (codes "EUR" ++ ((34 ∷ []) ++ (codes ">12.00</cbc:TaxInclusiveAmount><cbc:PayableAmount currencyID=" ++ ((34 ∷ []) ++ (codes "EUR" ++ ((34 ∷ []) ++ (codes ">12.00</cbc:PayableAmount></cac:LegalMonetaryTotal><cac:InvoiceLine><cbc:ID>1</cbc:ID><cbc:InvoicedQuantity unitCode=" ++ ((34 ∷ []) ++ (codes "C62" ++ ((34 ∷ []) ++ (codes ">1</cbc:InvoicedQuantity><cbc:LineExtensionAmount currencyID=" ++ ((34 ∷ []) ++ (codes "EUR" ++ ((34 ∷ []) ++ (codes ">10.00</cbc:LineExtensionAmount><cac:Item><cbc:Name>Pen</cbc:Name><cac:ClassifiedTaxCategory><cbc:ID>S</cbc:ID><cac:TaxScheme><cbc:ID>VAT</cbc:ID></cac:TaxScheme></cac:ClassifiedTaxCategory></cac:Item><cac:Price><cbc:PriceAmount currencyID=" ++ ((34 ∷ []) ++ (codes "EUR" ++ ((34 ∷ []) ++ (codes ">10.00</cbc:PriceAmount></cac:Price></cac:InvoiceLine></Invoice>")))))))))))))))))))))))))))))))))))))))))))))))))) ≡ (codes "einv: f: Disagree BT-81 at 1231" ++ ((10 ∷ [])))
unfolding document first_fault beginning extent character_at referred reference_at is_qname comment section is_declaration instruction attribute_at tag_inside
    value_in_tag start_tag end_tag state_behind events_of fault_of read resume is_utf8 chars encode_utf8 is_char is_white_space is_name_start is_name_char
    tree_of_events read_scaled read_decimal scaled_text decimal_text read_dashed_day read_plain_day dashed_day_text value_of terms_of document_of
    declaration_line in_value in_text plain_day_text terms extension_rows listing_rows occurrence_of parent_of day_from first_row invoice_rows credit_note_rows
    cii_rows invoice_listing credit_note_listing cii_listing written_units digits last_digits
row13 = refl

row14 : shown cii_rows ((codes "<rsm:CrossIndustryInvoice xmlns:rsm=" ++
    ((34 ∷ []) ++ (codes "urn:un:unece:uncefact:data:standard:CrossIndustryInvoice:100" ++
    ((34 ∷ []) ++ (codes " xmlns:ram=" ++
    ((34 ∷ []) ++ (codes "urn:un:unece:uncefact:data:standard:ReusableAggregateBusinessInformationEntity:100" ++
    ((34 ∷ []) ++ (codes " xmlns:udt=" ++
    ((34 ∷ []) ++ (codes "urn:un:unece:uncefact:data:standard:UnqualifiedDataType:100" ++
    ((34 ∷ []) ++ (codes " xmlns:qdt=" ++
    ((34 ∷ []) ++ (codes "urn:un:unece:uncefact:data:standard:QualifiedDataType:100" ++
    ((34 ∷ []) ++ (codes "><rsm:ExchangedDocumentContext><ram:GuidelineSpecifiedDocumentContextParameter><ram:ID>cx<ram:X/></ram:ID></ram:GuidelineSpecifiedDocumentContextParameter></rsm:ExchangedDocumentContext><rsm:ExchangedDocument><ram:ID listID=" ++ ((34 ∷ []) ++ (codes "FC" ++ ((34 ∷ []) ++ (codes ">0/c</ram:ID><ram:TypeCode>389</ram:TypeCode><ram:TypeCode>389</ram:TypeCode><ram:IssueDateTime><udt:DateTimeString>20231002</udt:DateTimeString></ram:IssueDateTime></rsm:ExchangedDocument></rsm:CrossIndustryInvoice>")))))))))))))))))))))) ≡ (codes "einv: f: ElementInValue BT-24 at 414" ++ ((10 ∷ [])))
unfolding document first_fault beginning extent character_at referred reference_at is_qname comment section is_declaration instruction attribute_at tag_inside
    value_in_tag start_tag end_tag state_behind events_of fault_of read resume is_utf8 chars encode_utf8 is_char is_white_space is_name_start is_name_char
    tree_of_events read_scaled read_decimal scaled_text decimal_text read_dashed_day read_plain_day dashed_day_text value_of terms_of document_of
    declaration_line in_value in_text plain_day_text terms extension_rows listing_rows occurrence_of parent_of day_from first_row invoice_rows credit_note_rows
    cii_rows invoice_listing credit_note_listing cii_listing written_units digits last_digits
row14 = refl

row15 : shown invoice_rows ((codes "<Invoice xmlns=" ++
    ((34 ∷ []) ++ (codes "urn:oasis:names:specification:ubl:schema:xsd:Invoice-2" ++
    ((34 ∷ []) ++ (codes " xmlns:cac=" ++
    ((34 ∷ []) ++ (codes "urn:oasis:names:specification:ubl:schema:xsd:CommonAggregateComponents-2" ++
    ((34 ∷ []) ++ (codes " xmlns:cbc=" ++
    ((34 ∷ []) ++ (codes "urn:oasis:names:specification:ubl:schema:xsd:CommonBasicComponents-2" ++
    ((34 ∷ []) ++ (codes "><cbc:CustomizationID>urn:cen.eu:en16931:2017</cbc:CustomizationID><cbc:ID>A1</cbc:ID><cbc:IssueDate>2024-05-01</cbc:IssueDate><cbc:InvoiceTypeCode>380</cbc:InvoiceTypeCode><cbc:DocumentCurrencyCode>EUR</cbc:DocumentCurrencyCode><cac:AccountingSupplierParty><cac:Party><cac:PostalAddress><cac:Country><cbc:IdentificationCode>DE</cbc:IdentificationCode></cac:Country></cac:PostalAddress><cac:PartyLegalEntity><cbc:RegistrationName>Seller</cbc:RegistrationName></cac:PartyLegalEntity></cac:Party></cac:AccountingSupplierParty><cac:AccountingCustomerParty><cac:Party><cac:PostalAddress><cac:Country><cbc:IdentificationCode>FR</cbc:IdentificationCode></cac:Country></cac:PostalAddress><cac:PartyLegalEntity><cbc:RegistrationName>Buyer</cbc:RegistrationName></cac:PartyLegalEntity></cac:Party></cac:AccountingCustomerParty><cac:TaxTotal><cac:TaxSubtotal><cbc:TaxableAmount currencyID=" ++ ((34 ∷ []) ++ (codes "EUR" ++ ((34 ∷ []) ++ (codes ">10.00</cbc:TaxableAmount><cbc:TaxAmount currencyID=" ++ ((34 ∷ []) ++ (codes "EUR" ++ ((34 ∷ []) ++ (codes ">2.00</cbc:TaxAmount><cac:TaxCategory><cbc:ID>AE</cbc:ID><cbc:ID>AE</cbc:ID><cac:TaxScheme><cbc:ID>VAT</cbc:ID></cac:TaxScheme></cac:TaxCategory></cac:TaxSubtotal></cac:TaxTotal><cac:LegalMonetaryTotal><cbc:LineExtensionAmount currencyID=" ++ ((34 ∷ []) ++ (codes "EUR" ++ ((34 ∷ []) ++ (codes ">10.00</cbc:LineExtensionAmount><cbc:TaxExclusiveAmount currencyID=" ++ ((34 ∷ []) ++ (codes "EUR" ++ ((34 ∷ []) ++ (codes ">10.00</cbc:TaxExclusiveAmount><cbc:TaxInclusiveAmount currencyID=" ++ ((34 ∷ []) ++ (codes "EUR" ++ ((34 ∷ []) ++ (codes ">12.00</cbc:TaxInclusiveAmount><cbc:PayableAmount currencyID=" ++ ((34 ∷ []) ++ (codes "EUR" ++ ((34 ∷ []) ++ (codes ">12.00</cbc:PayableAmount></cac:LegalMonetaryTotal><cac:InvoiceLine><cbc:ID>1</cbc:ID><cbc:InvoicedQuantity unitCode=" ++ ((34 ∷ []) ++ (codes "C62" ++ ((34 ∷ []) ++ (codes ">1</cbc:InvoicedQuantity><cbc:LineExtensionAmount currencyID=" ++ ((34 ∷ []) ++ (codes "EUR" ++ ((34 ∷ []) ++ (codes ">10.00</cbc:LineExtensionAmount><cac:Item><cbc:Name>Pen</cbc:Name><cac:ClassifiedTaxCategory><cbc:ID>S</cbc:ID><cac:TaxScheme><cbc:ID>VAT</cbc:ID></cac:TaxScheme></cac:ClassifiedTaxCategory></cac:Item><cac:Price><cbc:PriceAmount currencyID=" ++ ((34 ∷ []) ++ (codes "EUR" ++ ((34 ∷ []) ++ (codes ">10.00</cbc:PriceAmount></cac:Price></cac:InvoiceLine></Invoice>")))))))))))))))))))))))))))))))))))))))))))))))))) ≡ (codes "einv: f: Excess BT-118 at 1235" ++ ((10 ∷ [])))
unfolding document first_fault beginning extent character_at referred reference_at is_qname comment section is_declaration instruction attribute_at tag_inside
    value_in_tag start_tag end_tag state_behind events_of fault_of read resume is_utf8 chars encode_utf8 is_char is_white_space is_name_start is_name_char
    tree_of_events read_scaled read_decimal scaled_text decimal_text read_dashed_day read_plain_day dashed_day_text value_of terms_of document_of
    declaration_line in_value in_text plain_day_text terms extension_rows listing_rows occurrence_of parent_of day_from first_row invoice_rows credit_note_rows
    cii_rows invoice_listing credit_note_listing cii_listing written_units digits last_digits
row15 = refl

row16 : shown invoice_rows ((codes "<Invoice xmlns=" ++
    ((34 ∷ []) ++ (codes "urn:oasis:names:specification:ubl:schema:xsd:Invoice-2" ++ ((34 ∷ []) ++ (codes "/>")))))) ≡ (codes "einv: f: Missing BT-1 at 0" ++
    ((10 ∷ [])))
unfolding document first_fault beginning extent character_at referred reference_at is_qname comment section is_declaration instruction attribute_at tag_inside
    value_in_tag start_tag end_tag state_behind events_of fault_of read resume is_utf8 chars encode_utf8 is_char is_white_space is_name_start is_name_char
    tree_of_events read_scaled read_decimal scaled_text decimal_text read_dashed_day read_plain_day dashed_day_text value_of terms_of document_of
    declaration_line in_value in_text plain_day_text terms extension_rows listing_rows occurrence_of parent_of day_from first_row invoice_rows credit_note_rows
    cii_rows invoice_listing credit_note_listing cii_listing written_units digits last_digits
row16 = refl

row17 : shown invoice_rows ((codes "<Invoice xmlns=" ++
    ((34 ∷ []) ++ (codes "urn:oasis:names:specification:ubl:schema:xsd:Invoice-2" ++
    ((34 ∷ []) ++ (codes " xmlns:cac=" ++
    ((34 ∷ []) ++ (codes "urn:oasis:names:specification:ubl:schema:xsd:CommonAggregateComponents-2" ++
    ((34 ∷ []) ++ (codes " xmlns:cbc=" ++
    ((34 ∷ []) ++ (codes "urn:oasis:names:specification:ubl:schema:xsd:CommonBasicComponents-2" ++
    ((34 ∷ []) ++ (codes "><cbc:CustomizationID>urn:cen.eu:en16931:2017</cbc:CustomizationID><cbc:ID>A1</cbc:ID><cbc:IssueDate>2024-05-01</cbc:IssueDate><cbc:InvoiceTypeCode>380</cbc:InvoiceTypeCode><cbc:DocumentCurrencyCode>EUR</cbc:DocumentCurrencyCode><cac:AccountingSupplierParty><cac:Party><cac:PartyIdentification><cbc:ID schemeID=" ++ ((34 ∷ []) ++ (codes "SEPA" ++ ((34 ∷ []) ++ (codes ">1</cbc:ID><cbc:ID schemeID=" ++ ((34 ∷ []) ++ (codes "0088" ++ ((34 ∷ []) ++ (codes ">1</cbc:ID></cac:PartyIdentification><cac:PostalAddress><cac:Country><cbc:IdentificationCode>DE</cbc:IdentificationCode></cac:Country></cac:PostalAddress><cac:PartyLegalEntity><cbc:RegistrationName>Seller</cbc:RegistrationName></cac:PartyLegalEntity></cac:Party></cac:AccountingSupplierParty><cac:AccountingCustomerParty><cac:Party><cac:PostalAddress><cac:Country><cbc:IdentificationCode>FR</cbc:IdentificationCode></cac:Country></cac:PostalAddress><cac:PartyLegalEntity><cbc:RegistrationName>Buyer</cbc:RegistrationName></cac:PartyLegalEntity></cac:Party></cac:AccountingCustomerParty><cac:TaxTotal><cac:TaxSubtotal><cbc:TaxableAmount currencyID=" ++ ((34 ∷ []) ++ (codes "EUR" ++ ((34 ∷ []) ++ (codes ">10.00</cbc:TaxableAmount><cbc:TaxAmount currencyID=" ++ ((34 ∷ []) ++ (codes "EUR" ++ ((34 ∷ []) ++ (codes ">2.00</cbc:TaxAmount><cac:TaxCategory><cbc:ID>S</cbc:ID><cac:TaxScheme><cbc:ID>VAT</cbc:ID></cac:TaxScheme></cac:TaxCategory></cac:TaxSubtotal></cac:TaxTotal><cac:LegalMonetaryTotal><cbc:LineExtensionAmount currencyID=" ++ ((34 ∷ []) ++ (codes "EUR" ++ ((34 ∷ []) ++ (codes ">10.00</cbc:LineExtensionAmount><cbc:TaxExclusiveAmount currencyID=" ++ ((34 ∷ []) ++ (codes "EUR" ++ ((34 ∷ []) ++ (codes ">10.00</cbc:TaxExclusiveAmount><cbc:TaxInclusiveAmount currencyID=" ++ ((34 ∷ []) ++ (codes "EUR" ++ ((34 ∷ []) ++ (codes ">12.00</cbc:TaxInclusiveAmount><cbc:PayableAmount currencyID=" ++ ((34 ∷ []) ++ (codes "EUR" ++ ((34 ∷ []) ++ (codes ">12.00</cbc:PayableAmount></cac:LegalMonetaryTotal><cac:InvoiceLine><cbc:ID>1</cbc:ID><cbc:InvoicedQuantity unitCode=" ++ ((34 ∷ []) ++ (codes "C62" ++ ((34 ∷ []) ++ (codes ">1</cbc:InvoicedQuantity><cbc:LineExtensionAmount currencyID=" ++ ((34 ∷ []) ++ (codes "EUR" ++ ((34 ∷ []) ++ (codes ">10.00</cbc:LineExtensionAmount><cac:Item><cbc:Name>Pen</cbc:Name><cac:ClassifiedTaxCategory><cbc:ID>S</cbc:ID><cac:TaxScheme><cbc:ID>VAT</cbc:ID></cac:TaxScheme></cac:ClassifiedTaxCategory></cac:Item><cac:Price><cbc:PriceAmount currencyID=" ++ ((34 ∷ []) ++ (codes "EUR" ++ ((34 ∷ []) ++ (codes ">10.00</cbc:PriceAmount></cac:Price></cac:InvoiceLine></Invoice>")))))))))))))))))))))))))))))))))))))))))))))))))))))))))) ≡ (codes "BT-1 " ++ ((34 ∷ []) ++ (codes "A1" ++ ((34 ∷ []) ++ ((10 ∷ []) ++ (codes "BT-2 " ++ ((34 ∷ []) ++ (codes "2024-05-01" ++ ((34 ∷ []) ++ ((10 ∷ []) ++ (codes "BT-3 " ++ ((34 ∷ []) ++ (codes "380" ++ ((34 ∷ []) ++ ((10 ∷ []) ++ (codes "BT-5 " ++ ((34 ∷ []) ++ (codes "EUR" ++ ((34 ∷ []) ++ ((10 ∷ []) ++ (codes "BT-24 " ++ ((34 ∷ []) ++ (codes "urn:cen.eu:en16931:2017" ++ ((34 ∷ []) ++ ((10 ∷ []) ++ (codes "BT-27 " ++ ((34 ∷ []) ++ (codes "Seller" ++ ((34 ∷ []) ++ ((10 ∷ []) ++ (codes "BT-40 " ++ ((34 ∷ []) ++ (codes "DE" ++ ((34 ∷ []) ++ ((10 ∷ []) ++ (codes "BT-44 " ++ ((34 ∷ []) ++ (codes "Buyer" ++ ((34 ∷ []) ++ ((10 ∷ []) ++ (codes "BT-55 " ++ ((34 ∷ []) ++ (codes "FR" ++ ((34 ∷ []) ++ ((10 ∷ []) ++ (codes "BT-90 " ++ ((34 ∷ []) ++ (codes "1" ++ ((34 ∷ []) ++ ((10 ∷ []) ++ (codes "BT-106 " ++ ((34 ∷ []) ++ (codes "10.00" ++ ((34 ∷ []) ++ ((10 ∷ []) ++ (codes "BT-109 " ++ ((34 ∷ []) ++ (codes "10.00" ++ ((34 ∷ []) ++ ((10 ∷ []) ++ (codes "BT-112 " ++ ((34 ∷ []) ++ (codes "12.00" ++ ((34 ∷ []) ++ ((10 ∷ []) ++ (codes "BT-115 " ++ ((34 ∷ []) ++ (codes "12.00" ++ ((34 ∷ []) ++ ((10 ∷ []) ++ (codes "BG-23[1] BT-116 " ++ ((34 ∷ []) ++ (codes "10.00" ++ ((34 ∷ []) ++ ((10 ∷ []) ++ (codes "BG-23[1] BT-117 " ++ ((34 ∷ []) ++ (codes "2.00" ++ ((34 ∷ []) ++ ((10 ∷ []) ++ (codes "BG-23[1] BT-118 " ++ ((34 ∷ []) ++ (codes "S" ++ ((34 ∷ []) ++ ((10 ∷ []) ++ (codes "BG-25[1] BT-126 " ++ ((34 ∷ []) ++ (codes "1" ++ ((34 ∷ []) ++ ((10 ∷ []) ++ (codes "BG-25[1] BT-129 " ++ ((34 ∷ []) ++ (codes "1" ++ ((34 ∷ []) ++ ((10 ∷ []) ++ (codes "BG-25[1] BT-130 " ++ ((34 ∷ []) ++ (codes "C62" ++ ((34 ∷ []) ++ ((10 ∷ []) ++ (codes "BG-25[1] BT-131 " ++ ((34 ∷ []) ++ (codes "10.00" ++ ((34 ∷ []) ++ ((10 ∷ []) ++ (codes "BG-25[1] BT-146 " ++ ((34 ∷ []) ++ (codes "10.00" ++ ((34 ∷ []) ++ ((10 ∷ []) ++ (codes "BG-25[1] BT-151 " ++ ((34 ∷ []) ++ (codes "S" ++ ((34 ∷ []) ++ ((10 ∷ []) ++ (codes "BG-25[1] BT-153 " ++ ((34 ∷ []) ++ (codes "Pen" ++ ((34 ∷ []) ++ ((10 ∷ []) ++ (codes "passed over 0" ++ ((10 ∷ [])))))))))))))))))))))))))))))))))))))))))))))))))))))))))))))))))))))))))))))))))))))))))))))))))))))))))))))))))))))))))))
unfolding document first_fault beginning extent character_at referred reference_at is_qname comment section is_declaration instruction attribute_at tag_inside
    value_in_tag start_tag end_tag state_behind events_of fault_of read resume is_utf8 chars encode_utf8 is_char is_white_space is_name_start is_name_char
    tree_of_events read_scaled read_decimal scaled_text decimal_text read_dashed_day read_plain_day dashed_day_text value_of terms_of document_of
    declaration_line in_value in_text plain_day_text terms extension_rows listing_rows occurrence_of parent_of day_from first_row invoice_rows credit_note_rows
    cii_rows invoice_listing credit_note_listing cii_listing written_units digits last_digits
row17 = refl

row18 : shown invoice_rows ((codes "<Invoice xmlns=" ++
    ((34 ∷ []) ++ (codes "urn:oasis:names:specification:ubl:schema:xsd:Invoice-2" ++
    ((34 ∷ []) ++ (codes " xmlns:cac=" ++
    ((34 ∷ []) ++ (codes "urn:oasis:names:specification:ubl:schema:xsd:CommonAggregateComponents-2" ++
    ((34 ∷ []) ++ (codes " xmlns:cbc=" ++
    ((34 ∷ []) ++ (codes "urn:oasis:names:specification:ubl:schema:xsd:CommonBasicComponents-2" ++
    ((34 ∷ []) ++ (codes "><cbc:CustomizationID>urn:cen.eu:en16931:2017</cbc:CustomizationID><cbc:ID>A1</cbc:ID><cbc:IssueDate>2024-05-01</cbc:IssueDate><cbc:InvoiceTypeCode>380</cbc:InvoiceTypeCode><cbc:DocumentCurrencyCode>EUR</cbc:DocumentCurrencyCode><cac:AccountingSupplierParty><cac:Party><cac:PostalAddress><cac:Country><cbc:IdentificationCode>DE</cbc:IdentificationCode></cac:Country></cac:PostalAddress><cac:PartyLegalEntity><cbc:RegistrationName>Seller</cbc:RegistrationName></cac:PartyLegalEntity></cac:Party></cac:AccountingSupplierParty><cac:AccountingCustomerParty><cac:Party><cac:PostalAddress><cac:Country><cbc:IdentificationCode>FR</cbc:IdentificationCode></cac:Country></cac:PostalAddress><cac:PartyLegalEntity><cbc:RegistrationName>Buyer</cbc:RegistrationName></cac:PartyLegalEntity></cac:Party></cac:AccountingCustomerParty><cac:TaxTotal><cac:TaxSubtotal><cbc:TaxableAmount currencyID=" ++ ((34 ∷ []) ++ (codes "EUR" ++ ((34 ∷ []) ++ (codes ">10.00</cbc:TaxableAmount><cbc:TaxAmount currencyID=" ++ ((34 ∷ []) ++ (codes "EUR" ++ ((34 ∷ []) ++ (codes ">2.00</cbc:TaxAmount><cac:TaxCategory><cbc:ID>S</cbc:ID><cac:TaxScheme><cbc:ID>VAT</cbc:ID></cac:TaxScheme></cac:TaxCategory></cac:TaxSubtotal></cac:TaxTotal><cac:TaxTotal><cac:TaxSubtotal><cbc:TaxableAmount currencyID=" ++ ((34 ∷ []) ++ (codes "EUR" ++ ((34 ∷ []) ++ (codes ">10.00</cbc:TaxableAmount><cbc:TaxAmount currencyID=" ++ ((34 ∷ []) ++ (codes "EUR" ++ ((34 ∷ []) ++ (codes ">2.00</cbc:TaxAmount><cac:TaxCategory><cbc:ID>Z</cbc:ID><cac:TaxScheme><cbc:ID>VAT</cbc:ID></cac:TaxScheme></cac:TaxCategory></cac:TaxSubtotal></cac:TaxTotal><cac:LegalMonetaryTotal><cbc:LineExtensionAmount currencyID=" ++ ((34 ∷ []) ++ (codes "EUR" ++ ((34 ∷ []) ++ (codes ">10.00</cbc:LineExtensionAmount><cbc:TaxExclusiveAmount currencyID=" ++ ((34 ∷ []) ++ (codes "EUR" ++ ((34 ∷ []) ++ (codes ">10.00</cbc:TaxExclusiveAmount><cbc:TaxInclusiveAmount currencyID=" ++ ((34 ∷ []) ++ (codes "EUR" ++ ((34 ∷ []) ++ (codes ">12.00</cbc:TaxInclusiveAmount><cbc:PayableAmount currencyID=" ++ ((34 ∷ []) ++ (codes "EUR" ++ ((34 ∷ []) ++ (codes ">12.00</cbc:PayableAmount></cac:LegalMonetaryTotal><cac:InvoiceLine><cbc:ID>1</cbc:ID><cbc:InvoicedQuantity unitCode=" ++ ((34 ∷ []) ++ (codes "C62" ++ ((34 ∷ []) ++ (codes ">1</cbc:InvoicedQuantity><cbc:LineExtensionAmount currencyID=" ++ ((34 ∷ []) ++ (codes "EUR" ++ ((34 ∷ []) ++ (codes ">10.00</cbc:LineExtensionAmount><cac:Item><cbc:Name>Pen</cbc:Name><cac:ClassifiedTaxCategory><cbc:ID>S</cbc:ID><cac:TaxScheme><cbc:ID>VAT</cbc:ID></cac:TaxScheme></cac:ClassifiedTaxCategory></cac:Item><cac:Price><cbc:PriceAmount currencyID=" ++ ((34 ∷ []) ++ (codes "EUR" ++ ((34 ∷ []) ++ (codes ">10.00</cbc:PriceAmount></cac:Price></cac:InvoiceLine></Invoice>")))))))))))))))))))))))))))))))))))))))))))))))))))))))))) ≡ (codes "BT-1 " ++ ((34 ∷ []) ++ (codes "A1" ++ ((34 ∷ []) ++ ((10 ∷ []) ++ (codes "BT-2 " ++ ((34 ∷ []) ++ (codes "2024-05-01" ++ ((34 ∷ []) ++ ((10 ∷ []) ++ (codes "BT-3 " ++ ((34 ∷ []) ++ (codes "380" ++ ((34 ∷ []) ++ ((10 ∷ []) ++ (codes "BT-5 " ++ ((34 ∷ []) ++ (codes "EUR" ++ ((34 ∷ []) ++ ((10 ∷ []) ++ (codes "BT-24 " ++ ((34 ∷ []) ++ (codes "urn:cen.eu:en16931:2017" ++ ((34 ∷ []) ++ ((10 ∷ []) ++ (codes "BT-27 " ++ ((34 ∷ []) ++ (codes "Seller" ++ ((34 ∷ []) ++ ((10 ∷ []) ++ (codes "BT-40 " ++ ((34 ∷ []) ++ (codes "DE" ++ ((34 ∷ []) ++ ((10 ∷ []) ++ (codes "BT-44 " ++ ((34 ∷ []) ++ (codes "Buyer" ++ ((34 ∷ []) ++ ((10 ∷ []) ++ (codes "BT-55 " ++ ((34 ∷ []) ++ (codes "FR" ++ ((34 ∷ []) ++ ((10 ∷ []) ++ (codes "BT-106 " ++ ((34 ∷ []) ++ (codes "10.00" ++ ((34 ∷ []) ++ ((10 ∷ []) ++ (codes "BT-109 " ++ ((34 ∷ []) ++ (codes "10.00" ++ ((34 ∷ []) ++ ((10 ∷ []) ++ (codes "BT-112 " ++ ((34 ∷ []) ++ (codes "12.00" ++ ((34 ∷ []) ++ ((10 ∷ []) ++ (codes "BT-115 " ++ ((34 ∷ []) ++ (codes "12.00" ++ ((34 ∷ []) ++ ((10 ∷ []) ++ (codes "BG-23[1] BT-116 " ++ ((34 ∷ []) ++ (codes "10.00" ++ ((34 ∷ []) ++ ((10 ∷ []) ++ (codes "BG-23[1] BT-117 " ++ ((34 ∷ []) ++ (codes "2.00" ++ ((34 ∷ []) ++ ((10 ∷ []) ++ (codes "BG-23[1] BT-118 " ++ ((34 ∷ []) ++ (codes "S" ++ ((34 ∷ []) ++ ((10 ∷ []) ++ (codes "BG-23[2] BT-116 " ++ ((34 ∷ []) ++ (codes "10.00" ++ ((34 ∷ []) ++ ((10 ∷ []) ++ (codes "BG-23[2] BT-117 " ++ ((34 ∷ []) ++ (codes "2.00" ++ ((34 ∷ []) ++ ((10 ∷ []) ++ (codes "BG-23[2] BT-118 " ++ ((34 ∷ []) ++ (codes "Z" ++ ((34 ∷ []) ++ ((10 ∷ []) ++ (codes "BG-25[1] BT-126 " ++ ((34 ∷ []) ++ (codes "1" ++ ((34 ∷ []) ++ ((10 ∷ []) ++ (codes "BG-25[1] BT-129 " ++ ((34 ∷ []) ++ (codes "1" ++ ((34 ∷ []) ++ ((10 ∷ []) ++ (codes "BG-25[1] BT-130 " ++ ((34 ∷ []) ++ (codes "C62" ++ ((34 ∷ []) ++ ((10 ∷ []) ++ (codes "BG-25[1] BT-131 " ++ ((34 ∷ []) ++ (codes "10.00" ++ ((34 ∷ []) ++ ((10 ∷ []) ++ (codes "BG-25[1] BT-146 " ++ ((34 ∷ []) ++ (codes "10.00" ++ ((34 ∷ []) ++ ((10 ∷ []) ++ (codes "BG-25[1] BT-151 " ++ ((34 ∷ []) ++ (codes "S" ++ ((34 ∷ []) ++ ((10 ∷ []) ++ (codes "BG-25[1] BT-153 " ++ ((34 ∷ []) ++ (codes "Pen" ++ ((34 ∷ []) ++ ((10 ∷ []) ++ (codes "passed over 0" ++ ((10 ∷ [])))))))))))))))))))))))))))))))))))))))))))))))))))))))))))))))))))))))))))))))))))))))))))))))))))))))))))))))))))))))))))))))))))))
unfolding document first_fault beginning extent character_at referred reference_at is_qname comment section is_declaration instruction attribute_at tag_inside
    value_in_tag start_tag end_tag state_behind events_of fault_of read resume is_utf8 chars encode_utf8 is_char is_white_space is_name_start is_name_char
    tree_of_events read_scaled read_decimal scaled_text decimal_text read_dashed_day read_plain_day dashed_day_text value_of terms_of document_of
    declaration_line in_value in_text plain_day_text terms extension_rows listing_rows occurrence_of parent_of day_from first_row invoice_rows credit_note_rows
    cii_rows invoice_listing credit_note_listing cii_listing written_units digits last_digits
row18 = refl

row19 : shown cii_rows ((codes "<rsm:CrossIndustryInvoice xmlns:rsm=" ++
    ((34 ∷ []) ++ (codes "urn:un:unece:uncefact:data:standard:CrossIndustryInvoice:100" ++
    ((34 ∷ []) ++ (codes " xmlns:ram=" ++
    ((34 ∷ []) ++ (codes "urn:un:unece:uncefact:data:standard:ReusableAggregateBusinessInformationEntity:100" ++
    ((34 ∷ []) ++ (codes " xmlns:udt=" ++
    ((34 ∷ []) ++ (codes "urn:un:unece:uncefact:data:standard:UnqualifiedDataType:100" ++
    ((34 ∷ []) ++ (codes " xmlns:qdt=" ++
    ((34 ∷ []) ++ (codes "urn:un:unece:uncefact:data:standard:QualifiedDataType:100" ++
    ((34 ∷ []) ++ (codes "><rsm:ExchangedDocumentContext><ram:GuidelineSpecifiedDocumentContextParameter><ram:ID>urn:cen.eu:en16931:2017</ram:ID></ram:GuidelineSpecifiedDocumentContextParameter></rsm:ExchangedDocumentContext><rsm:ExchangedDocument><ram:ID>A1</ram:ID><ram:TypeCode>380</ram:TypeCode><ram:IssueDateTime><udt:DateTimeString>20240501</udt:DateTimeString></ram:IssueDateTime></rsm:ExchangedDocument><rsm:SupplyChainTradeTransaction><ram:IncludedSupplyChainTradeLineItem><ram:AssociatedDocumentLineDocument><ram:LineID>1</ram:LineID></ram:AssociatedDocumentLineDocument><ram:SpecifiedTradeProduct><ram:Name>Pen</ram:Name></ram:SpecifiedTradeProduct><ram:SpecifiedLineTradeAgreement><ram:NetPriceProductTradePrice><ram:ChargeAmount>10.00</ram:ChargeAmount></ram:NetPriceProductTradePrice></ram:SpecifiedLineTradeAgreement><ram:SpecifiedLineTradeDelivery><ram:BilledQuantity unitCode=" ++ ((34 ∷ []) ++ (codes "C62" ++ ((34 ∷ []) ++ (codes ">1</ram:BilledQuantity></ram:SpecifiedLineTradeDelivery><ram:SpecifiedLineTradeSettlement><ram:ApplicableTradeTax><ram:TypeCode>VAT</ram:TypeCode><ram:CategoryCode>S</ram:CategoryCode></ram:ApplicableTradeTax><ram:SpecifiedTradeSettlementLineMonetarySummation><ram:LineTotalAmount>10.00</ram:LineTotalAmount></ram:SpecifiedTradeSettlementLineMonetarySummation></ram:SpecifiedLineTradeSettlement></ram:IncludedSupplyChainTradeLineItem><ram:ApplicableHeaderTradeAgreement><ram:SellerTradeParty><ram:Name>Seller</ram:Name><ram:PostalTradeAddress><ram:CountryID>DE</ram:CountryID></ram:PostalTradeAddress></ram:SellerTradeParty><ram:BuyerTradeParty><ram:Name>Buyer</ram:Name><ram:PostalTradeAddress><ram:CountryID>FR</ram:CountryID></ram:PostalTradeAddress></ram:BuyerTradeParty></ram:ApplicableHeaderTradeAgreement><ram:ApplicableHeaderTradeDelivery/><ram:ApplicableHeaderTradeSettlement><ram:InvoiceCurrencyCode>EUR</ram:InvoiceCurrencyCode><ram:ApplicableTradeTax><ram:CalculatedAmount>2.00</ram:CalculatedAmount><ram:TypeCode>VAT</ram:TypeCode><ram:BasisAmount>10.00</ram:BasisAmount><ram:CategoryCode>S</ram:CategoryCode></ram:ApplicableTradeTax><ram:SpecifiedTradeSettlementHeaderMonetarySummation><ram:LineTotalAmount>10.00</ram:LineTotalAmount><ram:TaxBasisTotalAmount>10.00</ram:TaxBasisTotalAmount><ram:GrandTotalAmount>12.00</ram:GrandTotalAmount><ram:DuePayableAmount>12.00</ram:DuePayableAmount></ram:SpecifiedTradeSettlementHeaderMonetarySummation></ram:ApplicableHeaderTradeSettlement></rsm:SupplyChainTradeTransaction></rsm:CrossIndustryInvoice>")))))))))))))))))))))) ≡ (codes "BT-1 " ++ ((34 ∷ []) ++ (codes "A1" ++ ((34 ∷ []) ++ ((10 ∷ []) ++ (codes "BT-2 " ++ ((34 ∷ []) ++ (codes "2024-05-01" ++ ((34 ∷ []) ++ ((10 ∷ []) ++ (codes "BT-3 " ++ ((34 ∷ []) ++ (codes "380" ++ ((34 ∷ []) ++ ((10 ∷ []) ++ (codes "BT-5 " ++ ((34 ∷ []) ++ (codes "EUR" ++ ((34 ∷ []) ++ ((10 ∷ []) ++ (codes "BT-24 " ++ ((34 ∷ []) ++ (codes "urn:cen.eu:en16931:2017" ++ ((34 ∷ []) ++ ((10 ∷ []) ++ (codes "BT-27 " ++ ((34 ∷ []) ++ (codes "Seller" ++ ((34 ∷ []) ++ ((10 ∷ []) ++ (codes "BT-40 " ++ ((34 ∷ []) ++ (codes "DE" ++ ((34 ∷ []) ++ ((10 ∷ []) ++ (codes "BT-44 " ++ ((34 ∷ []) ++ (codes "Buyer" ++ ((34 ∷ []) ++ ((10 ∷ []) ++ (codes "BT-55 " ++ ((34 ∷ []) ++ (codes "FR" ++ ((34 ∷ []) ++ ((10 ∷ []) ++ (codes "BT-106 " ++ ((34 ∷ []) ++ (codes "10.00" ++ ((34 ∷ []) ++ ((10 ∷ []) ++ (codes "BT-109 " ++ ((34 ∷ []) ++ (codes "10.00" ++ ((34 ∷ []) ++ ((10 ∷ []) ++ (codes "BT-112 " ++ ((34 ∷ []) ++ (codes "12.00" ++ ((34 ∷ []) ++ ((10 ∷ []) ++ (codes "BT-115 " ++ ((34 ∷ []) ++ (codes "12.00" ++ ((34 ∷ []) ++ ((10 ∷ []) ++ (codes "BG-23[1] BT-116 " ++ ((34 ∷ []) ++ (codes "10.00" ++ ((34 ∷ []) ++ ((10 ∷ []) ++ (codes "BG-23[1] BT-117 " ++ ((34 ∷ []) ++ (codes "2.00" ++ ((34 ∷ []) ++ ((10 ∷ []) ++ (codes "BG-23[1] BT-118 " ++ ((34 ∷ []) ++ (codes "S" ++ ((34 ∷ []) ++ ((10 ∷ []) ++ (codes "BG-25[1] BT-126 " ++ ((34 ∷ []) ++ (codes "1" ++ ((34 ∷ []) ++ ((10 ∷ []) ++ (codes "BG-25[1] BT-129 " ++ ((34 ∷ []) ++ (codes "1" ++ ((34 ∷ []) ++ ((10 ∷ []) ++ (codes "BG-25[1] BT-130 " ++ ((34 ∷ []) ++ (codes "C62" ++ ((34 ∷ []) ++ ((10 ∷ []) ++ (codes "BG-25[1] BT-131 " ++ ((34 ∷ []) ++ (codes "10.00" ++ ((34 ∷ []) ++ ((10 ∷ []) ++ (codes "BG-25[1] BT-146 " ++ ((34 ∷ []) ++ (codes "10.00" ++ ((34 ∷ []) ++ ((10 ∷ []) ++ (codes "BG-25[1] BT-151 " ++ ((34 ∷ []) ++ (codes "S" ++ ((34 ∷ []) ++ ((10 ∷ []) ++ (codes "BG-25[1] BT-153 " ++ ((34 ∷ []) ++ (codes "Pen" ++ ((34 ∷ []) ++ ((10 ∷ []) ++ (codes "passed over 0" ++ ((10 ∷ []))))))))))))))))))))))))))))))))))))))))))))))))))))))))))))))))))))))))))))))))))))))))))))))))))))))))))))))))))))))
unfolding document first_fault beginning extent character_at referred reference_at is_qname comment section is_declaration instruction attribute_at tag_inside
    value_in_tag start_tag end_tag state_behind events_of fault_of read resume is_utf8 chars encode_utf8 is_char is_white_space is_name_start is_name_char
    tree_of_events read_scaled read_decimal scaled_text decimal_text read_dashed_day read_plain_day dashed_day_text value_of terms_of document_of
    declaration_line in_value in_text plain_day_text terms extension_rows listing_rows occurrence_of parent_of day_from first_row invoice_rows credit_note_rows
    cii_rows invoice_listing credit_note_listing cii_listing written_units digits last_digits
row19 = refl

row20 : shown credit_note_rows ((codes "<CreditNote xmlns=" ++
    ((34 ∷ []) ++ (codes "urn:oasis:names:specification:ubl:schema:xsd:CreditNote-2" ++
    ((34 ∷ []) ++ (codes " xmlns:cac=" ++
    ((34 ∷ []) ++ (codes "urn:oasis:names:specification:ubl:schema:xsd:CommonAggregateComponents-2" ++
    ((34 ∷ []) ++ (codes " xmlns:cbc=" ++
    ((34 ∷ []) ++ (codes "urn:oasis:names:specification:ubl:schema:xsd:CommonBasicComponents-2" ++
    ((34 ∷ []) ++ (codes "><cbc:CustomizationID>urn:cen.eu:en16931:2017</cbc:CustomizationID><cbc:ID>A1</cbc:ID><cbc:IssueDate>2024-05-01</cbc:IssueDate><cbc:CreditNoteTypeCode>381</cbc:CreditNoteTypeCode><cbc:DocumentCurrencyCode>EUR</cbc:DocumentCurrencyCode><cac:AccountingSupplierParty><cac:Party><cac:PostalAddress><cac:Country><cbc:IdentificationCode>DE</cbc:IdentificationCode></cac:Country></cac:PostalAddress><cac:PartyLegalEntity><cbc:RegistrationName>v 27</cbc:RegistrationName></cac:PartyLegalEntity></cac:Party></cac:AccountingSupplierParty><cac:AccountingCustomerParty><cac:Party><cac:PostalAddress><cac:Country><cbc:IdentificationCode>FR</cbc:IdentificationCode></cac:Country></cac:PostalAddress><cac:PartyLegalEntity><cbc:RegistrationName>Buyer</cbc:RegistrationName></cac:PartyLegalEntity></cac:Party></cac:AccountingCustomerParty><cac:TaxTotal><cac:TaxSubtotal><cbc:TaxableAmount currencyID=" ++ ((34 ∷ []) ++ (codes "EUR" ++ ((34 ∷ []) ++ (codes ">10.00</cbc:TaxableAmount><cbc:TaxAmount currencyID=" ++ ((34 ∷ []) ++ (codes "EUR" ++ ((34 ∷ []) ++ (codes ">2.00</cbc:TaxAmount><cac:TaxCategory><cbc:ID>S</cbc:ID><cac:TaxScheme><cbc:ID>VAT</cbc:ID></cac:TaxScheme></cac:TaxCategory></cac:TaxSubtotal></cac:TaxTotal><cac:LegalMonetaryTotal><cbc:LineExtensionAmount currencyID=" ++ ((34 ∷ []) ++ (codes "EUR" ++ ((34 ∷ []) ++ (codes ">10.00</cbc:LineExtensionAmount><cbc:TaxExclusiveAmount currencyID=" ++ ((34 ∷ []) ++ (codes "EUR" ++ ((34 ∷ []) ++ (codes ">10.00</cbc:TaxExclusiveAmount><cbc:TaxInclusiveAmount currencyID=" ++ ((34 ∷ []) ++ (codes "EUR" ++ ((34 ∷ []) ++ (codes ">12.00</cbc:TaxInclusiveAmount><cbc:PayableAmount currencyID=" ++ ((34 ∷ []) ++ (codes "EUR" ++ ((34 ∷ []) ++ (codes ">12.00</cbc:PayableAmount></cac:LegalMonetaryTotal><cac:CreditNoteLine><cbc:ID>1</cbc:ID><cbc:CreditedQuantity unitCode=" ++ ((34 ∷ []) ++ (codes "C62" ++ ((34 ∷ []) ++ (codes ">1</cbc:CreditedQuantity><cbc:LineExtensionAmount currencyID=" ++ ((34 ∷ []) ++ (codes "EUR" ++ ((34 ∷ []) ++ (codes ">10.00</cbc:LineExtensionAmount><cac:Item><cbc:Name>Pen</cbc:Name><cac:ClassifiedTaxCategory><cbc:ID>S</cbc:ID><cac:TaxScheme><cbc:ID>VAT</cbc:ID></cac:TaxScheme></cac:ClassifiedTaxCategory></cac:Item><cac:Price><cbc:PriceAmount currencyID=" ++ ((34 ∷ []) ++ (codes "EUR" ++ ((34 ∷ []) ++ (codes ">10.00</cbc:PriceAmount></cac:Price></cac:CreditNoteLine></CreditNote>")))))))))))))))))))))))))))))))))))))))))))))))))) ≡ (codes "BT-1 " ++ ((34 ∷ []) ++ (codes "A1" ++ ((34 ∷ []) ++ ((10 ∷ []) ++ (codes "BT-2 " ++ ((34 ∷ []) ++ (codes "2024-05-01" ++ ((34 ∷ []) ++ ((10 ∷ []) ++ (codes "BT-3 " ++ ((34 ∷ []) ++ (codes "381" ++ ((34 ∷ []) ++ ((10 ∷ []) ++ (codes "BT-5 " ++ ((34 ∷ []) ++ (codes "EUR" ++ ((34 ∷ []) ++ ((10 ∷ []) ++ (codes "BT-24 " ++ ((34 ∷ []) ++ (codes "urn:cen.eu:en16931:2017" ++ ((34 ∷ []) ++ ((10 ∷ []) ++ (codes "BT-27 " ++ ((34 ∷ []) ++ (codes "v 27" ++ ((34 ∷ []) ++ ((10 ∷ []) ++ (codes "BT-40 " ++ ((34 ∷ []) ++ (codes "DE" ++ ((34 ∷ []) ++ ((10 ∷ []) ++ (codes "BT-44 " ++ ((34 ∷ []) ++ (codes "Buyer" ++ ((34 ∷ []) ++ ((10 ∷ []) ++ (codes "BT-55 " ++ ((34 ∷ []) ++ (codes "FR" ++ ((34 ∷ []) ++ ((10 ∷ []) ++ (codes "BT-106 " ++ ((34 ∷ []) ++ (codes "10.00" ++ ((34 ∷ []) ++ ((10 ∷ []) ++ (codes "BT-109 " ++ ((34 ∷ []) ++ (codes "10.00" ++ ((34 ∷ []) ++ ((10 ∷ []) ++ (codes "BT-112 " ++ ((34 ∷ []) ++ (codes "12.00" ++ ((34 ∷ []) ++ ((10 ∷ []) ++ (codes "BT-115 " ++ ((34 ∷ []) ++ (codes "12.00" ++ ((34 ∷ []) ++ ((10 ∷ []) ++ (codes "BG-23[1] BT-116 " ++ ((34 ∷ []) ++ (codes "10.00" ++ ((34 ∷ []) ++ ((10 ∷ []) ++ (codes "BG-23[1] BT-117 " ++ ((34 ∷ []) ++ (codes "2.00" ++ ((34 ∷ []) ++ ((10 ∷ []) ++ (codes "BG-23[1] BT-118 " ++ ((34 ∷ []) ++ (codes "S" ++ ((34 ∷ []) ++ ((10 ∷ []) ++ (codes "BG-25[1] BT-126 " ++ ((34 ∷ []) ++ (codes "1" ++ ((34 ∷ []) ++ ((10 ∷ []) ++ (codes "BG-25[1] BT-129 " ++ ((34 ∷ []) ++ (codes "1" ++ ((34 ∷ []) ++ ((10 ∷ []) ++ (codes "BG-25[1] BT-130 " ++ ((34 ∷ []) ++ (codes "C62" ++ ((34 ∷ []) ++ ((10 ∷ []) ++ (codes "BG-25[1] BT-131 " ++ ((34 ∷ []) ++ (codes "10.00" ++ ((34 ∷ []) ++ ((10 ∷ []) ++ (codes "BG-25[1] BT-146 " ++ ((34 ∷ []) ++ (codes "10.00" ++ ((34 ∷ []) ++ ((10 ∷ []) ++ (codes "BG-25[1] BT-151 " ++ ((34 ∷ []) ++ (codes "S" ++ ((34 ∷ []) ++ ((10 ∷ []) ++ (codes "BG-25[1] BT-153 " ++ ((34 ∷ []) ++ (codes "Pen" ++ ((34 ∷ []) ++ ((10 ∷ []) ++ (codes "passed over 0" ++ ((10 ∷ []))))))))))))))))))))))))))))))))))))))))))))))))))))))))))))))))))))))))))))))))))))))))))))))))))))))))))))))))))))))
unfolding document first_fault beginning extent character_at referred reference_at is_qname comment section is_declaration instruction attribute_at tag_inside
    value_in_tag start_tag end_tag state_behind events_of fault_of read resume is_utf8 chars encode_utf8 is_char is_white_space is_name_start is_name_char
    tree_of_events read_scaled read_decimal scaled_text decimal_text read_dashed_day read_plain_day dashed_day_text value_of terms_of document_of
    declaration_line in_value in_text plain_day_text terms extension_rows listing_rows occurrence_of parent_of day_from first_row invoice_rows credit_note_rows
    cii_rows invoice_listing credit_note_listing cii_listing written_units digits last_digits
row20 = refl

row21 : shown invoice_rows ((codes "<Invoice xmlns=" ++
    ((34 ∷ []) ++ (codes "urn:oasis:names:specification:ubl:schema:xsd:Invoice-2" ++
    ((34 ∷ []) ++ (codes " xmlns:cac=" ++
    ((34 ∷ []) ++ (codes "urn:oasis:names:specification:ubl:schema:xsd:CommonAggregateComponents-2" ++
    ((34 ∷ []) ++ (codes " xmlns:cbc=" ++
    ((34 ∷ []) ++ (codes "urn:oasis:names:specification:ubl:schema:xsd:CommonBasicComponents-2" ++
    ((34 ∷ []) ++ (codes "><cbc:CustomizationID>v 24</cbc:CustomizationID><cbc:ID>A1</cbc:ID><cbc:IssueDate>2024-05-01</cbc:IssueDate><cbc:InvoiceTypeCode>380</cbc:InvoiceTypeCode><cbc:DocumentCurrencyCode>EUR</cbc:DocumentCurrencyCode><cac:AccountingSupplierParty><cac:Party><cac:PostalAddress><cac:Country><cbc:IdentificationCode>DE</cbc:IdentificationCode></cac:Country></cac:PostalAddress><cac:PartyLegalEntity><cbc:RegistrationName>Seller</cbc:RegistrationName></cac:PartyLegalEntity></cac:Party></cac:AccountingSupplierParty><cac:AccountingCustomerParty><cac:Party><cac:PostalAddress><cac:Country><cbc:IdentificationCode>FR</cbc:IdentificationCode></cac:Country></cac:PostalAddress><cac:PartyLegalEntity><cbc:RegistrationName>Buyer</cbc:RegistrationName></cac:PartyLegalEntity></cac:Party></cac:AccountingCustomerParty><cac:TaxTotal><cac:TaxSubtotal><cbc:TaxableAmount currencyID=" ++ ((34 ∷ []) ++ (codes "EUR" ++ ((34 ∷ []) ++ (codes ">10.00</cbc:TaxableAmount><cbc:TaxAmount currencyID=" ++ ((34 ∷ []) ++ (codes "EUR" ++ ((34 ∷ []) ++ (codes ">2.00</cbc:TaxAmount><cac:TaxCategory><cbc:ID>S</cbc:ID><cac:TaxScheme><cbc:ID>VAT</cbc:ID></cac:TaxScheme></cac:TaxCategory></cac:TaxSubtotal></cac:TaxTotal><cac:LegalMonetaryTotal><cbc:LineExtensionAmount currencyID=" ++ ((34 ∷ []) ++ (codes "EUR" ++ ((34 ∷ []) ++ (codes ">10.00</cbc:LineExtensionAmount><cbc:TaxExclusiveAmount currencyID=" ++ ((34 ∷ []) ++ (codes "EUR" ++ ((34 ∷ []) ++ (codes ">10.00</cbc:TaxExclusiveAmount><cbc:TaxInclusiveAmount currencyID=" ++ ((34 ∷ []) ++ (codes "EUR" ++ ((34 ∷ []) ++ (codes ">12.00</cbc:TaxInclusiveAmount><cbc:PayableAmount currencyID=" ++ ((34 ∷ []) ++ (codes "EUR" ++ ((34 ∷ []) ++ (codes ">12.00</cbc:PayableAmount></cac:LegalMonetaryTotal><cac:InvoiceLine><cbc:ID>1</cbc:ID><cbc:InvoicedQuantity unitCode=" ++ ((34 ∷ []) ++ (codes "C62" ++ ((34 ∷ []) ++ (codes ">1</cbc:InvoicedQuantity><cbc:LineExtensionAmount currencyID=" ++ ((34 ∷ []) ++ (codes "EUR" ++ ((34 ∷ []) ++ (codes ">10.00</cbc:LineExtensionAmount><cac:Item><cbc:Name>Pen</cbc:Name><cac:ClassifiedTaxCategory><cbc:ID>S</cbc:ID><cac:TaxScheme><cbc:ID>VAT</cbc:ID></cac:TaxScheme></cac:ClassifiedTaxCategory></cac:Item><cac:Price><cbc:PriceAmount currencyID=" ++ ((34 ∷ []) ++ (codes "EUR" ++ ((34 ∷ []) ++ (codes ">10.00</cbc:PriceAmount></cac:Price></cac:InvoiceLine></Invoice>")))))))))))))))))))))))))))))))))))))))))))))))))) ≡ (codes "BT-1 " ++ ((34 ∷ []) ++ (codes "A1" ++ ((34 ∷ []) ++ ((10 ∷ []) ++ (codes "BT-2 " ++ ((34 ∷ []) ++ (codes "2024-05-01" ++ ((34 ∷ []) ++ ((10 ∷ []) ++ (codes "BT-3 " ++ ((34 ∷ []) ++ (codes "380" ++ ((34 ∷ []) ++ ((10 ∷ []) ++ (codes "BT-5 " ++ ((34 ∷ []) ++ (codes "EUR" ++ ((34 ∷ []) ++ ((10 ∷ []) ++ (codes "BT-24 " ++ ((34 ∷ []) ++ (codes "v 24" ++ ((34 ∷ []) ++ ((10 ∷ []) ++ (codes "BT-27 " ++ ((34 ∷ []) ++ (codes "Seller" ++ ((34 ∷ []) ++ ((10 ∷ []) ++ (codes "BT-40 " ++ ((34 ∷ []) ++ (codes "DE" ++ ((34 ∷ []) ++ ((10 ∷ []) ++ (codes "BT-44 " ++ ((34 ∷ []) ++ (codes "Buyer" ++ ((34 ∷ []) ++ ((10 ∷ []) ++ (codes "BT-55 " ++ ((34 ∷ []) ++ (codes "FR" ++ ((34 ∷ []) ++ ((10 ∷ []) ++ (codes "BT-106 " ++ ((34 ∷ []) ++ (codes "10.00" ++ ((34 ∷ []) ++ ((10 ∷ []) ++ (codes "BT-109 " ++ ((34 ∷ []) ++ (codes "10.00" ++ ((34 ∷ []) ++ ((10 ∷ []) ++ (codes "BT-112 " ++ ((34 ∷ []) ++ (codes "12.00" ++ ((34 ∷ []) ++ ((10 ∷ []) ++ (codes "BT-115 " ++ ((34 ∷ []) ++ (codes "12.00" ++ ((34 ∷ []) ++ ((10 ∷ []) ++ (codes "BG-23[1] BT-116 " ++ ((34 ∷ []) ++ (codes "10.00" ++ ((34 ∷ []) ++ ((10 ∷ []) ++ (codes "BG-23[1] BT-117 " ++ ((34 ∷ []) ++ (codes "2.00" ++ ((34 ∷ []) ++ ((10 ∷ []) ++ (codes "BG-23[1] BT-118 " ++ ((34 ∷ []) ++ (codes "S" ++ ((34 ∷ []) ++ ((10 ∷ []) ++ (codes "BG-25[1] BT-126 " ++ ((34 ∷ []) ++ (codes "1" ++ ((34 ∷ []) ++ ((10 ∷ []) ++ (codes "BG-25[1] BT-129 " ++ ((34 ∷ []) ++ (codes "1" ++ ((34 ∷ []) ++ ((10 ∷ []) ++ (codes "BG-25[1] BT-130 " ++ ((34 ∷ []) ++ (codes "C62" ++ ((34 ∷ []) ++ ((10 ∷ []) ++ (codes "BG-25[1] BT-131 " ++ ((34 ∷ []) ++ (codes "10.00" ++ ((34 ∷ []) ++ ((10 ∷ []) ++ (codes "BG-25[1] BT-146 " ++ ((34 ∷ []) ++ (codes "10.00" ++ ((34 ∷ []) ++ ((10 ∷ []) ++ (codes "BG-25[1] BT-151 " ++ ((34 ∷ []) ++ (codes "S" ++ ((34 ∷ []) ++ ((10 ∷ []) ++ (codes "BG-25[1] BT-153 " ++ ((34 ∷ []) ++ (codes "Pen" ++ ((34 ∷ []) ++ ((10 ∷ []) ++ (codes "passed over 0" ++ ((10 ∷ []))))))))))))))))))))))))))))))))))))))))))))))))))))))))))))))))))))))))))))))))))))))))))))))))))))))))))))))))))))))
unfolding document first_fault beginning extent character_at referred reference_at is_qname comment section is_declaration instruction attribute_at tag_inside
    value_in_tag start_tag end_tag state_behind events_of fault_of read resume is_utf8 chars encode_utf8 is_char is_white_space is_name_start is_name_char
    tree_of_events read_scaled read_decimal scaled_text decimal_text read_dashed_day read_plain_day dashed_day_text value_of terms_of document_of
    declaration_line in_value in_text plain_day_text terms extension_rows listing_rows occurrence_of parent_of day_from first_row invoice_rows credit_note_rows
    cii_rows invoice_listing credit_note_listing cii_listing written_units digits last_digits
row21 = refl
