-- Invoices, and whether they are carried: the definitions compute these answers, which come from outside.
use Rattle.std.specs.Prelude.{ℕ, Option, ◌==◌, ◌≡◌, true, false, List, [], ◌∷◌, ◌++◌, codes, decimal, Some, None, Result, Ok, Err, refl}
use Rattle.std.specs.Str.{is_utf8, chars}
use Rattle.std.specs.Char.{encode_utf8}
use Rattle.inv_base.specs.Characters.{is_char, is_white_space, is_name_start, is_name_char}
use Rattle.inv_base.specs.Tree.{document_nodes}
use Rattle.xml_events.specs.Events.{tree_of_events}
use Rattle.xml_state.specs.declared.limits.Limits.{Limits}
use Rattle.xml_state.specs.Sizes.{document_limits}
use Rattle.xml_tokens.specs.Encoding.{character_at}
use Rattle.xml_tokens.specs.References.{referred, reference_at}
use Rattle.xml_tokens.specs.WrittenNames.{is_qname}
use Rattle.xml_tokens.specs.Markup.{comment, section, is_declaration, instruction}
use Rattle.xml_tokens.specs.Tags.{attribute_at, tag_inside, value_of as value_in_tag, start_tag, end_tag}
use Rattle.xml_tokens.specs.Beginnings.{extent, beginning}
use Rattle.xml_state.specs.States.{state_behind, events_of}
use Rattle.xml_state.specs.Admission.{fault_of}
use Rattle.xml_profile.specs.TokenByToken.{read, resume}
use Rattle.xml_profile.specs.Profile.{Document, document, tree_of, first_fault}
use Rattle.inv_decimal.specs.WrittenNumber.{read_scaled, read_decimal, scaled_text, decimal_text}
use Rattle.inv_decimal.specs.WrittenDay.{read_dashed_day, read_plain_day, dashed_day_text}
use Rattle.code_lists.specs.CodeFiles.{built_in_lists}
use Rattle.term_table.specs.declared.terms.Term.{Term}
use Rattle.term_table.specs.declared.terms.DataType.{DataType}
use Rattle.term_table.specs.declared.terms.DataType.TheVariants as data_types
use Rattle.term_table.specs.declared.groups.Group.{Group}
use Rattle.term_table.specs.declared.groups.Group.TheVariants as groups
use Rattle.term_table.specs.declared.contexts.Context.{Context}
use Rattle.inv_terms.specs.declared.entries.Entry.{Entry}
use Rattle.inv_terms.specs.declared.values.Value.TheVariants as values
use Rattle.term_table.specs.Contexts.{root_context}
use Rattle.term_table.specs.SemanticModel.{terms, extension_rows, listing_rows}
use Rattle.inv_decimal.specs.WrittenDay.{day_from}
use Rattle.inv_decimal.specs.WrittenNumber.{written_units}
use Rattle.std.specs.Fmt.{digits}
use Rattle.inv_decimal.specs.Digits.{last_digits}
use Rattle.term_table.specs.Places.{first_row}
use Rattle.bind_rows.specs.declared.rows.Row.{Row}
use Rattle.bind_rows.specs.declared.names.Leaf.TheVariants as leaves
use Rattle.bind_rows.specs.declared.rows.Check.TheVariants as checks
use Rattle.bind_rows.specs.declared.rows.Content.TheVariants as contents
use Rattle.bind_rows.specs.declared.rows.Form.TheVariants as forms
use Rattle.bind_rows.specs.declared.rows.Repeats.TheVariants as repeat
use Rattle.bind_rows.specs.declared.rows.Written.TheVariants as written
use Rattle.bind_meaning.specs.Terms.{Read, terms_of}
use Rattle.xml_write.specs.Escapes.{in_value, in_text}
use Rattle.inv_decimal.specs.WrittenDay.{plain_day_text}
use Rattle.ubl_binding.specs.Tables.{invoice_rows, credit_note_rows, invoice_listing, credit_note_listing}
use Rattle.cii_binding.specs.Table.{cii_rows, cii_listing}
use Rattle.term_table.specs.Groups.{occurrence_of, parent_of}
use Rattle.inv_terms.specs.Values.{value_of}
use Rattle.bind_meaning.specs.declared.fault.BindFault.{BindFault}
use Rattle.bind_meaning.specs.Trees.{document_of}
use Rattle.xml_write.specs.Canonical.{declaration_line}
use Rattle.bind_write.specs.Documents.{document_text}
use Rattle.bind_meaning.specs.declared.tables.Syntax.{Syntax}
use Rattle.bind_meaning.specs.declared.tables.Syntax.TheVariants as syntaxes
use Rattle.bind_rows.specs.declared.tables.DocumentType.{DocumentType}
use Rattle.bind_rows.specs.declared.tables.DocumentType.TheVariants as document_type
use Rattle.bind_carrying.specs.declared.carrying.NotCarried.{NotCarried}
use Rattle.bind_carrying.specs.Tables.{target}
use Rattle.bind_carrying.specs.Carrying.{entries_carried, carrying}

abbrev limits : Limits
limits = document_limits

abbrev term_text : Term → List ℕ
term_text t = codes "BT-" ++ (decimal t.number ++ (elim (t.part == 0) [ true ↦ [] | false ↦ codes "-" ++ decimal t.part ]))

abbrev name_text : Option Term → List ℕ
name_text None = codes "-"
name_text (Some t) = term_text t

abbrev answer_text : Result (Unit {0}) NotCarried → List ℕ
answer_text (Ok x) = codes "carried"
answer_text (Err f) = codes "condition " ++ (decimal f.condition ++ (codes " " ++ name_text f.term))

abbrev rows_of : DocumentType → List Row
rows_of document_type.Invoice = invoice_rows
rows_of document_type.CreditNote = credit_note_rows
rows_of document_type.Cii = cii_rows

abbrev by_target : (List Row → List Entry → Result (Unit {0}) NotCarried) → Syntax → Result Read BindFault → List ℕ
by_target judge syntax (Ok r) = answer_text (judge (rows_of (target r.entries syntax)) r.entries)
by_target judge syntax (Err f) = []

abbrev read_by : List Row → Document → Result Read BindFault
read_by table d = terms_of (document_nodes (tree_of d)) table built_in_lists

-- of the entries alone
abbrev judged : List Row → Syntax → List ℕ → List ℕ
judged table syntax bytes = elim (document limits bytes) [ Ok d ↦ by_target entries_carried syntax (read_by table d) | Err f ↦ [] ]

-- with the sizes of the document
abbrev carried : List Row → Syntax → List ℕ → List ℕ
carried table syntax bytes = elim (document limits bytes) [ Ok d ↦ by_target carrying syntax (read_by table d) | Err f ↦ [] ]

-- row17-condition
row1 : judged cii_rows syntaxes.Ubl (codes "<rsm:CrossIndustryInvoice xmlns:rsm=" ++
    ((34 ∷ []) ++ (codes "urn:un:unece:uncefact:data:standard:CrossIndustryInvoice:100" ++
    ((34 ∷ []) ++ (codes " xmlns:ram=" ++
    ((34 ∷ []) ++ (codes "urn:un:unece:uncefact:data:standard:ReusableAggregateBusinessInformationEntity:100" ++
    ((34 ∷ []) ++ (codes " xmlns:udt=" ++
    ((34 ∷ []) ++ (codes "urn:un:unece:uncefact:data:standard:UnqualifiedDataType:100" ++
    ((34 ∷ []) ++ (codes " xmlns:qdt=" ++
    ((34 ∷ []) ++ (codes "urn:un:unece:uncefact:data:standard:QualifiedDataType:100" ++
    ((34 ∷ []) ++ (codes "><rsm:ExchangedDocumentContext><ram:GuidelineSpecifiedDocumentContextParameter><ram:ID>urn:cen.eu:en16931:2017</ram:ID></ram:GuidelineSpecifiedDocumentContextParameter></rsm:ExchangedDocumentContext><rsm:ExchangedDocument><ram:ID>A1</ram:ID><ram:TypeCode>381</ram:TypeCode><ram:IssueDateTime><udt:DateTimeString format=" ++ ((34 ∷ []) ++ (codes "102" ++ ((34 ∷ []) ++ (codes ">20240501</udt:DateTimeString></ram:IssueDateTime></rsm:ExchangedDocument><rsm:SupplyChainTradeTransaction><ram:IncludedSupplyChainTradeLineItem><ram:AssociatedDocumentLineDocument><ram:LineID>1</ram:LineID></ram:AssociatedDocumentLineDocument><ram:SpecifiedTradeProduct><ram:Name>Pen</ram:Name></ram:SpecifiedTradeProduct><ram:SpecifiedLineTradeAgreement><ram:NetPriceProductTradePrice><ram:ChargeAmount>10.00</ram:ChargeAmount></ram:NetPriceProductTradePrice></ram:SpecifiedLineTradeAgreement><ram:SpecifiedLineTradeDelivery><ram:BilledQuantity unitCode=" ++ ((34 ∷ []) ++ (codes "C62" ++ ((34 ∷ []) ++ (codes ">1</ram:BilledQuantity></ram:SpecifiedLineTradeDelivery><ram:SpecifiedLineTradeSettlement><ram:ApplicableTradeTax><ram:TypeCode>VAT</ram:TypeCode><ram:CategoryCode>S</ram:CategoryCode></ram:ApplicableTradeTax><ram:SpecifiedTradeSettlementLineMonetarySummation><ram:LineTotalAmount>10.00</ram:LineTotalAmount></ram:SpecifiedTradeSettlementLineMonetarySummation></ram:SpecifiedLineTradeSettlement></ram:IncludedSupplyChainTradeLineItem><ram:ApplicableHeaderTradeAgreement><ram:SellerTradeParty><ram:Name>Seller</ram:Name><ram:PostalTradeAddress><ram:CountryID>DE</ram:CountryID></ram:PostalTradeAddress></ram:SellerTradeParty><ram:BuyerTradeParty><ram:Name>Buyer</ram:Name><ram:PostalTradeAddress><ram:CountryID>FR</ram:CountryID></ram:PostalTradeAddress></ram:BuyerTradeParty></ram:ApplicableHeaderTradeAgreement><ram:ApplicableHeaderTradeDelivery/><ram:ApplicableHeaderTradeSettlement><ram:InvoiceCurrencyCode>EUR</ram:InvoiceCurrencyCode><ram:ApplicableTradeTax><ram:CalculatedAmount>2.00</ram:CalculatedAmount><ram:TypeCode>VAT</ram:TypeCode><ram:BasisAmount>10.00</ram:BasisAmount><ram:CategoryCode>S</ram:CategoryCode></ram:ApplicableTradeTax><ram:SpecifiedTradePaymentTerms><ram:DueDateDateTime><udt:DateTimeString format=" ++ ((34 ∷ []) ++ (codes "102" ++ ((34 ∷ []) ++ (codes ">20240601</udt:DateTimeString></ram:DueDateDateTime></ram:SpecifiedTradePaymentTerms><ram:SpecifiedTradeSettlementHeaderMonetarySummation><ram:LineTotalAmount>10.00</ram:LineTotalAmount><ram:TaxBasisTotalAmount>10.00</ram:TaxBasisTotalAmount><ram:GrandTotalAmount>12.00</ram:GrandTotalAmount><ram:DuePayableAmount>12.00</ram:DuePayableAmount></ram:SpecifiedTradeSettlementHeaderMonetarySummation></ram:ApplicableHeaderTradeSettlement></rsm:SupplyChainTradeTransaction></rsm:CrossIndustryInvoice>"))))))))))))))))))))))))))))) ≡ codes "condition 6 BT-9"
unfolding document first_fault beginning extent character_at referred reference_at is_qname comment section is_declaration instruction attribute_at tag_inside
    value_in_tag start_tag end_tag state_behind events_of fault_of read resume is_utf8 chars encode_utf8 is_char is_white_space is_name_start is_name_char
    tree_of_events read_scaled read_decimal scaled_text decimal_text read_dashed_day read_plain_day dashed_day_text value_of terms_of terms extension_rows
    listing_rows occurrence_of parent_of day_from first_row invoice_rows credit_note_rows cii_rows invoice_listing credit_note_listing cii_listing written_units
    digits last_digits
row1 = refl

-- row18
row2 : judged cii_rows syntaxes.Ubl (codes "<rsm:CrossIndustryInvoice xmlns:rsm=" ++
    ((34 ∷ []) ++ (codes "urn:un:unece:uncefact:data:standard:CrossIndustryInvoice:100" ++
    ((34 ∷ []) ++ (codes " xmlns:ram=" ++
    ((34 ∷ []) ++ (codes "urn:un:unece:uncefact:data:standard:ReusableAggregateBusinessInformationEntity:100" ++
    ((34 ∷ []) ++ (codes " xmlns:udt=" ++
    ((34 ∷ []) ++ (codes "urn:un:unece:uncefact:data:standard:UnqualifiedDataType:100" ++
    ((34 ∷ []) ++ (codes " xmlns:qdt=" ++
    ((34 ∷ []) ++ (codes "urn:un:unece:uncefact:data:standard:QualifiedDataType:100" ++
    ((34 ∷ []) ++ (codes "><rsm:ExchangedDocumentContext><ram:GuidelineSpecifiedDocumentContextParameter><ram:ID>urn:cen.eu:en16931:2017</ram:ID></ram:GuidelineSpecifiedDocumentContextParameter></rsm:ExchangedDocumentContext><rsm:ExchangedDocument><ram:ID>A1</ram:ID><ram:TypeCode>380</ram:TypeCode><ram:IssueDateTime><udt:DateTimeString format=" ++ ((34 ∷ []) ++ (codes "102" ++ ((34 ∷ []) ++ (codes ">20240501</udt:DateTimeString></ram:IssueDateTime><ram:IncludedNote><ram:Content>#AAI#x</ram:Content></ram:IncludedNote></rsm:ExchangedDocument><rsm:SupplyChainTradeTransaction><ram:IncludedSupplyChainTradeLineItem><ram:AssociatedDocumentLineDocument><ram:LineID>1</ram:LineID></ram:AssociatedDocumentLineDocument><ram:SpecifiedTradeProduct><ram:Name>Pen</ram:Name></ram:SpecifiedTradeProduct><ram:SpecifiedLineTradeAgreement><ram:NetPriceProductTradePrice><ram:ChargeAmount>10.00</ram:ChargeAmount></ram:NetPriceProductTradePrice></ram:SpecifiedLineTradeAgreement><ram:SpecifiedLineTradeDelivery><ram:BilledQuantity unitCode=" ++ ((34 ∷ []) ++ (codes "C62" ++ ((34 ∷ []) ++ (codes ">1</ram:BilledQuantity></ram:SpecifiedLineTradeDelivery><ram:SpecifiedLineTradeSettlement><ram:ApplicableTradeTax><ram:TypeCode>VAT</ram:TypeCode><ram:CategoryCode>S</ram:CategoryCode></ram:ApplicableTradeTax><ram:SpecifiedTradeSettlementLineMonetarySummation><ram:LineTotalAmount>10.00</ram:LineTotalAmount></ram:SpecifiedTradeSettlementLineMonetarySummation></ram:SpecifiedLineTradeSettlement></ram:IncludedSupplyChainTradeLineItem><ram:ApplicableHeaderTradeAgreement><ram:SellerTradeParty><ram:Name>Seller</ram:Name><ram:PostalTradeAddress><ram:CountryID>DE</ram:CountryID></ram:PostalTradeAddress></ram:SellerTradeParty><ram:BuyerTradeParty><ram:Name>Buyer</ram:Name><ram:PostalTradeAddress><ram:CountryID>FR</ram:CountryID></ram:PostalTradeAddress></ram:BuyerTradeParty></ram:ApplicableHeaderTradeAgreement><ram:ApplicableHeaderTradeDelivery/><ram:ApplicableHeaderTradeSettlement><ram:InvoiceCurrencyCode>EUR</ram:InvoiceCurrencyCode><ram:ApplicableTradeTax><ram:CalculatedAmount>2.00</ram:CalculatedAmount><ram:TypeCode>VAT</ram:TypeCode><ram:BasisAmount>10.00</ram:BasisAmount><ram:CategoryCode>S</ram:CategoryCode></ram:ApplicableTradeTax><ram:SpecifiedTradeSettlementHeaderMonetarySummation><ram:LineTotalAmount>10.00</ram:LineTotalAmount><ram:TaxBasisTotalAmount>10.00</ram:TaxBasisTotalAmount><ram:GrandTotalAmount>12.00</ram:GrandTotalAmount><ram:DuePayableAmount>12.00</ram:DuePayableAmount></ram:SpecifiedTradeSettlementHeaderMonetarySummation></ram:ApplicableHeaderTradeSettlement></rsm:SupplyChainTradeTransaction></rsm:CrossIndustryInvoice>"))))))))))))))))))))))))) ≡ codes "condition 4 BT-22"
unfolding document first_fault beginning extent character_at referred reference_at is_qname comment section is_declaration instruction attribute_at tag_inside
    value_in_tag start_tag end_tag state_behind events_of fault_of read resume is_utf8 chars encode_utf8 is_char is_white_space is_name_start is_name_char
    tree_of_events read_scaled read_decimal scaled_text decimal_text read_dashed_day read_plain_day dashed_day_text value_of terms_of terms extension_rows
    listing_rows occurrence_of parent_of day_from first_row invoice_rows credit_note_rows cii_rows invoice_listing credit_note_listing cii_listing written_units
    digits last_digits
row2 = refl

-- cnote-code-four
row3 : judged cii_rows syntaxes.Ubl (codes "<rsm:CrossIndustryInvoice xmlns:rsm=" ++
    ((34 ∷ []) ++ (codes "urn:un:unece:uncefact:data:standard:CrossIndustryInvoice:100" ++
    ((34 ∷ []) ++ (codes " xmlns:ram=" ++
    ((34 ∷ []) ++ (codes "urn:un:unece:uncefact:data:standard:ReusableAggregateBusinessInformationEntity:100" ++
    ((34 ∷ []) ++ (codes " xmlns:udt=" ++
    ((34 ∷ []) ++ (codes "urn:un:unece:uncefact:data:standard:UnqualifiedDataType:100" ++
    ((34 ∷ []) ++ (codes " xmlns:qdt=" ++
    ((34 ∷ []) ++ (codes "urn:un:unece:uncefact:data:standard:QualifiedDataType:100" ++
    ((34 ∷ []) ++ (codes "><rsm:ExchangedDocumentContext><ram:GuidelineSpecifiedDocumentContextParameter><ram:ID>urn:cen.eu:en16931:2017</ram:ID></ram:GuidelineSpecifiedDocumentContextParameter></rsm:ExchangedDocumentContext><rsm:ExchangedDocument><ram:ID>A1</ram:ID><ram:TypeCode>380</ram:TypeCode><ram:IssueDateTime><udt:DateTimeString format=" ++ ((34 ∷ []) ++ (codes "102" ++ ((34 ∷ []) ++ (codes ">20240501</udt:DateTimeString></ram:IssueDateTime><ram:IncludedNote><ram:Content>x</ram:Content><ram:SubjectCode>AAIB</ram:SubjectCode></ram:IncludedNote></rsm:ExchangedDocument><rsm:SupplyChainTradeTransaction><ram:IncludedSupplyChainTradeLineItem><ram:AssociatedDocumentLineDocument><ram:LineID>1</ram:LineID></ram:AssociatedDocumentLineDocument><ram:SpecifiedTradeProduct><ram:Name>Pen</ram:Name></ram:SpecifiedTradeProduct><ram:SpecifiedLineTradeAgreement><ram:NetPriceProductTradePrice><ram:ChargeAmount>10.00</ram:ChargeAmount></ram:NetPriceProductTradePrice></ram:SpecifiedLineTradeAgreement><ram:SpecifiedLineTradeDelivery><ram:BilledQuantity unitCode=" ++ ((34 ∷ []) ++ (codes "C62" ++ ((34 ∷ []) ++ (codes ">1</ram:BilledQuantity></ram:SpecifiedLineTradeDelivery><ram:SpecifiedLineTradeSettlement><ram:ApplicableTradeTax><ram:TypeCode>VAT</ram:TypeCode><ram:CategoryCode>S</ram:CategoryCode></ram:ApplicableTradeTax><ram:SpecifiedTradeSettlementLineMonetarySummation><ram:LineTotalAmount>10.00</ram:LineTotalAmount></ram:SpecifiedTradeSettlementLineMonetarySummation></ram:SpecifiedLineTradeSettlement></ram:IncludedSupplyChainTradeLineItem><ram:ApplicableHeaderTradeAgreement><ram:SellerTradeParty><ram:Name>Seller</ram:Name><ram:PostalTradeAddress><ram:CountryID>DE</ram:CountryID></ram:PostalTradeAddress></ram:SellerTradeParty><ram:BuyerTradeParty><ram:Name>Buyer</ram:Name><ram:PostalTradeAddress><ram:CountryID>FR</ram:CountryID></ram:PostalTradeAddress></ram:BuyerTradeParty></ram:ApplicableHeaderTradeAgreement><ram:ApplicableHeaderTradeDelivery/><ram:ApplicableHeaderTradeSettlement><ram:InvoiceCurrencyCode>EUR</ram:InvoiceCurrencyCode><ram:ApplicableTradeTax><ram:CalculatedAmount>2.00</ram:CalculatedAmount><ram:TypeCode>VAT</ram:TypeCode><ram:BasisAmount>10.00</ram:BasisAmount><ram:CategoryCode>S</ram:CategoryCode></ram:ApplicableTradeTax><ram:SpecifiedTradeSettlementHeaderMonetarySummation><ram:LineTotalAmount>10.00</ram:LineTotalAmount><ram:TaxBasisTotalAmount>10.00</ram:TaxBasisTotalAmount><ram:GrandTotalAmount>12.00</ram:GrandTotalAmount><ram:DuePayableAmount>12.00</ram:DuePayableAmount></ram:SpecifiedTradeSettlementHeaderMonetarySummation></ram:ApplicableHeaderTradeSettlement></rsm:SupplyChainTradeTransaction></rsm:CrossIndustryInvoice>"))))))))))))))))))))))))) ≡ codes "condition 4 BT-21"
unfolding document first_fault beginning extent character_at referred reference_at is_qname comment section is_declaration instruction attribute_at tag_inside
    value_in_tag start_tag end_tag state_behind events_of fault_of read resume is_utf8 chars encode_utf8 is_char is_white_space is_name_start is_name_char
    tree_of_events read_scaled read_decimal scaled_text decimal_text read_dashed_day read_plain_day dashed_day_text value_of terms_of terms extension_rows
    listing_rows occurrence_of parent_of day_from first_row invoice_rows credit_note_rows cii_rows invoice_listing credit_note_listing cii_listing written_units
    digits last_digits
row3 = refl

-- corder-na
row4 : judged cii_rows syntaxes.Ubl (codes "<rsm:CrossIndustryInvoice xmlns:rsm=" ++
    ((34 ∷ []) ++ (codes "urn:un:unece:uncefact:data:standard:CrossIndustryInvoice:100" ++
    ((34 ∷ []) ++ (codes " xmlns:ram=" ++
    ((34 ∷ []) ++ (codes "urn:un:unece:uncefact:data:standard:ReusableAggregateBusinessInformationEntity:100" ++
    ((34 ∷ []) ++ (codes " xmlns:udt=" ++
    ((34 ∷ []) ++ (codes "urn:un:unece:uncefact:data:standard:UnqualifiedDataType:100" ++
    ((34 ∷ []) ++ (codes " xmlns:qdt=" ++
    ((34 ∷ []) ++ (codes "urn:un:unece:uncefact:data:standard:QualifiedDataType:100" ++
    ((34 ∷ []) ++ (codes "><rsm:ExchangedDocumentContext><ram:GuidelineSpecifiedDocumentContextParameter><ram:ID>urn:cen.eu:en16931:2017</ram:ID></ram:GuidelineSpecifiedDocumentContextParameter></rsm:ExchangedDocumentContext><rsm:ExchangedDocument><ram:ID>A1</ram:ID><ram:TypeCode>380</ram:TypeCode><ram:IssueDateTime><udt:DateTimeString format=" ++ ((34 ∷ []) ++ (codes "102" ++ ((34 ∷ []) ++ (codes ">20240501</udt:DateTimeString></ram:IssueDateTime></rsm:ExchangedDocument><rsm:SupplyChainTradeTransaction><ram:IncludedSupplyChainTradeLineItem><ram:AssociatedDocumentLineDocument><ram:LineID>1</ram:LineID></ram:AssociatedDocumentLineDocument><ram:SpecifiedTradeProduct><ram:Name>Pen</ram:Name></ram:SpecifiedTradeProduct><ram:SpecifiedLineTradeAgreement><ram:NetPriceProductTradePrice><ram:ChargeAmount>10.00</ram:ChargeAmount></ram:NetPriceProductTradePrice></ram:SpecifiedLineTradeAgreement><ram:SpecifiedLineTradeDelivery><ram:BilledQuantity unitCode=" ++ ((34 ∷ []) ++ (codes "C62" ++ ((34 ∷ []) ++ (codes ">1</ram:BilledQuantity></ram:SpecifiedLineTradeDelivery><ram:SpecifiedLineTradeSettlement><ram:ApplicableTradeTax><ram:TypeCode>VAT</ram:TypeCode><ram:CategoryCode>S</ram:CategoryCode></ram:ApplicableTradeTax><ram:SpecifiedTradeSettlementLineMonetarySummation><ram:LineTotalAmount>10.00</ram:LineTotalAmount></ram:SpecifiedTradeSettlementLineMonetarySummation></ram:SpecifiedLineTradeSettlement></ram:IncludedSupplyChainTradeLineItem><ram:ApplicableHeaderTradeAgreement><ram:SellerTradeParty><ram:Name>Seller</ram:Name><ram:PostalTradeAddress><ram:CountryID>DE</ram:CountryID></ram:PostalTradeAddress></ram:SellerTradeParty><ram:BuyerTradeParty><ram:Name>Buyer</ram:Name><ram:PostalTradeAddress><ram:CountryID>FR</ram:CountryID></ram:PostalTradeAddress></ram:BuyerTradeParty><ram:SellerOrderReferencedDocument><ram:IssuerAssignedID>7</ram:IssuerAssignedID></ram:SellerOrderReferencedDocument><ram:BuyerOrderReferencedDocument><ram:IssuerAssignedID>NA</ram:IssuerAssignedID></ram:BuyerOrderReferencedDocument></ram:ApplicableHeaderTradeAgreement><ram:ApplicableHeaderTradeDelivery/><ram:ApplicableHeaderTradeSettlement><ram:InvoiceCurrencyCode>EUR</ram:InvoiceCurrencyCode><ram:ApplicableTradeTax><ram:CalculatedAmount>2.00</ram:CalculatedAmount><ram:TypeCode>VAT</ram:TypeCode><ram:BasisAmount>10.00</ram:BasisAmount><ram:CategoryCode>S</ram:CategoryCode></ram:ApplicableTradeTax><ram:SpecifiedTradeSettlementHeaderMonetarySummation><ram:LineTotalAmount>10.00</ram:LineTotalAmount><ram:TaxBasisTotalAmount>10.00</ram:TaxBasisTotalAmount><ram:GrandTotalAmount>12.00</ram:GrandTotalAmount><ram:DuePayableAmount>12.00</ram:DuePayableAmount></ram:SpecifiedTradeSettlementHeaderMonetarySummation></ram:ApplicableHeaderTradeSettlement></rsm:SupplyChainTradeTransaction></rsm:CrossIndustryInvoice>"))))))))))))))))))))))))) ≡ codes "condition 3 BT-13"
unfolding document first_fault beginning extent character_at referred reference_at is_qname comment section is_declaration instruction attribute_at tag_inside
    value_in_tag start_tag end_tag state_behind events_of fault_of read resume is_utf8 chars encode_utf8 is_char is_white_space is_name_start is_name_char
    tree_of_events read_scaled read_decimal scaled_text decimal_text read_dashed_day read_plain_day dashed_day_text value_of terms_of terms extension_rows
    listing_rows occurrence_of parent_of day_from first_row invoice_rows credit_note_rows cii_rows invoice_listing credit_note_listing cii_listing written_units
    digits last_digits
row4 = refl

-- sepa-global
row5 : judged cii_rows syntaxes.Ubl (codes "<rsm:CrossIndustryInvoice xmlns:rsm=" ++
    ((34 ∷ []) ++ (codes "urn:un:unece:uncefact:data:standard:CrossIndustryInvoice:100" ++
    ((34 ∷ []) ++ (codes " xmlns:ram=" ++
    ((34 ∷ []) ++ (codes "urn:un:unece:uncefact:data:standard:ReusableAggregateBusinessInformationEntity:100" ++
    ((34 ∷ []) ++ (codes " xmlns:udt=" ++
    ((34 ∷ []) ++ (codes "urn:un:unece:uncefact:data:standard:UnqualifiedDataType:100" ++
    ((34 ∷ []) ++ (codes " xmlns:qdt=" ++
    ((34 ∷ []) ++ (codes "urn:un:unece:uncefact:data:standard:QualifiedDataType:100" ++
    ((34 ∷ []) ++ (codes "><rsm:ExchangedDocumentContext><ram:GuidelineSpecifiedDocumentContextParameter><ram:ID>urn:cen.eu:en16931:2017</ram:ID></ram:GuidelineSpecifiedDocumentContextParameter></rsm:ExchangedDocumentContext><rsm:ExchangedDocument><ram:ID>A1</ram:ID><ram:TypeCode>380</ram:TypeCode><ram:IssueDateTime><udt:DateTimeString format=" ++ ((34 ∷ []) ++ (codes "102" ++ ((34 ∷ []) ++ (codes ">20240501</udt:DateTimeString></ram:IssueDateTime></rsm:ExchangedDocument><rsm:SupplyChainTradeTransaction><ram:IncludedSupplyChainTradeLineItem><ram:AssociatedDocumentLineDocument><ram:LineID>1</ram:LineID></ram:AssociatedDocumentLineDocument><ram:SpecifiedTradeProduct><ram:Name>Pen</ram:Name></ram:SpecifiedTradeProduct><ram:SpecifiedLineTradeAgreement><ram:NetPriceProductTradePrice><ram:ChargeAmount>10.00</ram:ChargeAmount></ram:NetPriceProductTradePrice></ram:SpecifiedLineTradeAgreement><ram:SpecifiedLineTradeDelivery><ram:BilledQuantity unitCode=" ++ ((34 ∷ []) ++ (codes "C62" ++ ((34 ∷ []) ++ (codes ">1</ram:BilledQuantity></ram:SpecifiedLineTradeDelivery><ram:SpecifiedLineTradeSettlement><ram:ApplicableTradeTax><ram:TypeCode>VAT</ram:TypeCode><ram:CategoryCode>S</ram:CategoryCode></ram:ApplicableTradeTax><ram:SpecifiedTradeSettlementLineMonetarySummation><ram:LineTotalAmount>10.00</ram:LineTotalAmount></ram:SpecifiedTradeSettlementLineMonetarySummation></ram:SpecifiedLineTradeSettlement></ram:IncludedSupplyChainTradeLineItem><ram:ApplicableHeaderTradeAgreement><ram:SellerTradeParty><ram:GlobalID schemeID=" ++ ((34 ∷ []) ++ (codes "SEPA" ++ ((34 ∷ []) ++ (codes ">6</ram:GlobalID><ram:Name>Seller</ram:Name><ram:PostalTradeAddress><ram:CountryID>DE</ram:CountryID></ram:PostalTradeAddress></ram:SellerTradeParty><ram:BuyerTradeParty><ram:Name>Buyer</ram:Name><ram:PostalTradeAddress><ram:CountryID>FR</ram:CountryID></ram:PostalTradeAddress></ram:BuyerTradeParty></ram:ApplicableHeaderTradeAgreement><ram:ApplicableHeaderTradeDelivery/><ram:ApplicableHeaderTradeSettlement><ram:InvoiceCurrencyCode>EUR</ram:InvoiceCurrencyCode><ram:ApplicableTradeTax><ram:CalculatedAmount>2.00</ram:CalculatedAmount><ram:TypeCode>VAT</ram:TypeCode><ram:BasisAmount>10.00</ram:BasisAmount><ram:CategoryCode>S</ram:CategoryCode></ram:ApplicableTradeTax><ram:SpecifiedTradeSettlementHeaderMonetarySummation><ram:LineTotalAmount>10.00</ram:LineTotalAmount><ram:TaxBasisTotalAmount>10.00</ram:TaxBasisTotalAmount><ram:GrandTotalAmount>12.00</ram:GrandTotalAmount><ram:DuePayableAmount>12.00</ram:DuePayableAmount></ram:SpecifiedTradeSettlementHeaderMonetarySummation></ram:ApplicableHeaderTradeSettlement></rsm:SupplyChainTradeTransaction></rsm:CrossIndustryInvoice>"))))))))))))))))))))))))))))) ≡ codes "condition 2 BT-29-1"
unfolding document first_fault beginning extent character_at referred reference_at is_qname comment section is_declaration instruction attribute_at tag_inside
    value_in_tag start_tag end_tag state_behind events_of fault_of read resume is_utf8 chars encode_utf8 is_char is_white_space is_name_start is_name_char
    tree_of_events read_scaled read_decimal scaled_text decimal_text read_dashed_day read_plain_day dashed_day_text value_of terms_of terms extension_rows
    listing_rows occurrence_of parent_of day_from first_row invoice_rows credit_note_rows cii_rows invoice_listing credit_note_listing cii_listing written_units
    digits last_digits
row5 = refl

-- sepa-payee-global
row6 : judged cii_rows syntaxes.Ubl (codes "<rsm:CrossIndustryInvoice xmlns:rsm=" ++
    ((34 ∷ []) ++ (codes "urn:un:unece:uncefact:data:standard:CrossIndustryInvoice:100" ++
    ((34 ∷ []) ++ (codes " xmlns:ram=" ++
    ((34 ∷ []) ++ (codes "urn:un:unece:uncefact:data:standard:ReusableAggregateBusinessInformationEntity:100" ++
    ((34 ∷ []) ++ (codes " xmlns:udt=" ++
    ((34 ∷ []) ++ (codes "urn:un:unece:uncefact:data:standard:UnqualifiedDataType:100" ++
    ((34 ∷ []) ++ (codes " xmlns:qdt=" ++
    ((34 ∷ []) ++ (codes "urn:un:unece:uncefact:data:standard:QualifiedDataType:100" ++
    ((34 ∷ []) ++ (codes "><rsm:ExchangedDocumentContext><ram:GuidelineSpecifiedDocumentContextParameter><ram:ID>urn:cen.eu:en16931:2017</ram:ID></ram:GuidelineSpecifiedDocumentContextParameter></rsm:ExchangedDocumentContext><rsm:ExchangedDocument><ram:ID>A1</ram:ID><ram:TypeCode>380</ram:TypeCode><ram:IssueDateTime><udt:DateTimeString format=" ++ ((34 ∷ []) ++ (codes "102" ++ ((34 ∷ []) ++ (codes ">20240501</udt:DateTimeString></ram:IssueDateTime></rsm:ExchangedDocument><rsm:SupplyChainTradeTransaction><ram:IncludedSupplyChainTradeLineItem><ram:AssociatedDocumentLineDocument><ram:LineID>1</ram:LineID></ram:AssociatedDocumentLineDocument><ram:SpecifiedTradeProduct><ram:Name>Pen</ram:Name></ram:SpecifiedTradeProduct><ram:SpecifiedLineTradeAgreement><ram:NetPriceProductTradePrice><ram:ChargeAmount>10.00</ram:ChargeAmount></ram:NetPriceProductTradePrice></ram:SpecifiedLineTradeAgreement><ram:SpecifiedLineTradeDelivery><ram:BilledQuantity unitCode=" ++ ((34 ∷ []) ++ (codes "C62" ++ ((34 ∷ []) ++ (codes ">1</ram:BilledQuantity></ram:SpecifiedLineTradeDelivery><ram:SpecifiedLineTradeSettlement><ram:ApplicableTradeTax><ram:TypeCode>VAT</ram:TypeCode><ram:CategoryCode>S</ram:CategoryCode></ram:ApplicableTradeTax><ram:SpecifiedTradeSettlementLineMonetarySummation><ram:LineTotalAmount>10.00</ram:LineTotalAmount></ram:SpecifiedTradeSettlementLineMonetarySummation></ram:SpecifiedLineTradeSettlement></ram:IncludedSupplyChainTradeLineItem><ram:ApplicableHeaderTradeAgreement><ram:SellerTradeParty><ram:Name>Seller</ram:Name><ram:PostalTradeAddress><ram:CountryID>DE</ram:CountryID></ram:PostalTradeAddress></ram:SellerTradeParty><ram:BuyerTradeParty><ram:Name>Buyer</ram:Name><ram:PostalTradeAddress><ram:CountryID>FR</ram:CountryID></ram:PostalTradeAddress></ram:BuyerTradeParty></ram:ApplicableHeaderTradeAgreement><ram:ApplicableHeaderTradeDelivery/><ram:ApplicableHeaderTradeSettlement><ram:InvoiceCurrencyCode>EUR</ram:InvoiceCurrencyCode><ram:PayeeTradeParty><ram:GlobalID schemeID=" ++ ((34 ∷ []) ++ (codes "SEPA" ++ ((34 ∷ []) ++ (codes ">6</ram:GlobalID><ram:Name>P</ram:Name></ram:PayeeTradeParty><ram:ApplicableTradeTax><ram:CalculatedAmount>2.00</ram:CalculatedAmount><ram:TypeCode>VAT</ram:TypeCode><ram:BasisAmount>10.00</ram:BasisAmount><ram:CategoryCode>S</ram:CategoryCode></ram:ApplicableTradeTax><ram:SpecifiedTradeSettlementHeaderMonetarySummation><ram:LineTotalAmount>10.00</ram:LineTotalAmount><ram:TaxBasisTotalAmount>10.00</ram:TaxBasisTotalAmount><ram:GrandTotalAmount>12.00</ram:GrandTotalAmount><ram:DuePayableAmount>12.00</ram:DuePayableAmount></ram:SpecifiedTradeSettlementHeaderMonetarySummation></ram:ApplicableHeaderTradeSettlement></rsm:SupplyChainTradeTransaction></rsm:CrossIndustryInvoice>"))))))))))))))))))))))))))))) ≡ codes "condition 2 BT-60-1"
unfolding document first_fault beginning extent character_at referred reference_at is_qname comment section is_declaration instruction attribute_at tag_inside
    value_in_tag start_tag end_tag state_behind events_of fault_of read resume is_utf8 chars encode_utf8 is_char is_white_space is_name_start is_name_char
    tree_of_events read_scaled read_decimal scaled_text decimal_text read_dashed_day read_plain_day dashed_day_text value_of terms_of terms extension_rows
    listing_rows occurrence_of parent_of day_from first_row invoice_rows credit_note_rows cii_rows invoice_listing credit_note_listing cii_listing written_units
    digits last_digits
row6 = refl

-- means-only-83-ubl
row7 : judged invoice_rows syntaxes.Ubl (codes "<Invoice xmlns=" ++
    ((34 ∷ []) ++ (codes "urn:oasis:names:specification:ubl:schema:xsd:Invoice-2" ++
    ((34 ∷ []) ++ (codes " xmlns:cac=" ++
    ((34 ∷ []) ++ (codes "urn:oasis:names:specification:ubl:schema:xsd:CommonAggregateComponents-2" ++
    ((34 ∷ []) ++ (codes " xmlns:cbc=" ++
    ((34 ∷ []) ++ (codes "urn:oasis:names:specification:ubl:schema:xsd:CommonBasicComponents-2" ++
    ((34 ∷ []) ++ (codes "><cbc:CustomizationID>urn:cen.eu:en16931:2017</cbc:CustomizationID><cbc:ID>A1</cbc:ID><cbc:IssueDate>2024-05-01</cbc:IssueDate><cbc:InvoiceTypeCode>380</cbc:InvoiceTypeCode><cbc:DocumentCurrencyCode>EUR</cbc:DocumentCurrencyCode><cac:AccountingSupplierParty><cac:Party><cac:PostalAddress><cac:Country><cbc:IdentificationCode>DE</cbc:IdentificationCode></cac:Country></cac:PostalAddress><cac:PartyLegalEntity><cbc:RegistrationName>Seller</cbc:RegistrationName></cac:PartyLegalEntity></cac:Party></cac:AccountingSupplierParty><cac:AccountingCustomerParty><cac:Party><cac:PostalAddress><cac:Country><cbc:IdentificationCode>FR</cbc:IdentificationCode></cac:Country></cac:PostalAddress><cac:PartyLegalEntity><cbc:RegistrationName>Buyer</cbc:RegistrationName></cac:PartyLegalEntity></cac:Party></cac:AccountingCustomerParty><cac:PaymentMeans><cbc:PaymentID>R</cbc:PaymentID></cac:PaymentMeans><cac:TaxTotal><cac:TaxSubtotal><cbc:TaxableAmount currencyID=" ++ ((34 ∷ []) ++ (codes "EUR" ++ ((34 ∷ []) ++ (codes ">10.00</cbc:TaxableAmount><cbc:TaxAmount currencyID=" ++ ((34 ∷ []) ++ (codes "EUR" ++ ((34 ∷ []) ++ (codes ">2.00</cbc:TaxAmount><cac:TaxCategory><cbc:ID>S</cbc:ID><cac:TaxScheme><cbc:ID>VAT</cbc:ID></cac:TaxScheme></cac:TaxCategory></cac:TaxSubtotal></cac:TaxTotal><cac:LegalMonetaryTotal><cbc:LineExtensionAmount currencyID=" ++ ((34 ∷ []) ++ (codes "EUR" ++ ((34 ∷ []) ++ (codes ">10.00</cbc:LineExtensionAmount><cbc:TaxExclusiveAmount currencyID=" ++ ((34 ∷ []) ++ (codes "EUR" ++ ((34 ∷ []) ++ (codes ">10.00</cbc:TaxExclusiveAmount><cbc:TaxInclusiveAmount currencyID=" ++ ((34 ∷ []) ++ (codes "EUR" ++ ((34 ∷ []) ++ (codes ">12.00</cbc:TaxInclusiveAmount><cbc:PayableAmount currencyID=" ++ ((34 ∷ []) ++ (codes "EUR" ++ ((34 ∷ []) ++ (codes ">12.00</cbc:PayableAmount></cac:LegalMonetaryTotal><cac:InvoiceLine><cbc:ID>1</cbc:ID><cbc:InvoicedQuantity unitCode=" ++ ((34 ∷ []) ++ (codes "C62" ++ ((34 ∷ []) ++ (codes ">1</cbc:InvoicedQuantity><cbc:LineExtensionAmount currencyID=" ++ ((34 ∷ []) ++ (codes "EUR" ++ ((34 ∷ []) ++ (codes ">10.00</cbc:LineExtensionAmount><cac:Item><cbc:Name>Pen</cbc:Name><cac:ClassifiedTaxCategory><cbc:ID>S</cbc:ID><cac:TaxScheme><cbc:ID>VAT</cbc:ID></cac:TaxScheme></cac:ClassifiedTaxCategory></cac:Item><cac:Price><cbc:PriceAmount currencyID=" ++ ((34 ∷ []) ++ (codes "EUR" ++ ((34 ∷ []) ++ (codes ">10.00</cbc:PriceAmount></cac:Price></cac:InvoiceLine></Invoice>"))))))))))))))))))))))))))))))))))))))))))))))))) ≡ codes "condition 6 BT-83"
unfolding document first_fault beginning extent character_at referred reference_at is_qname comment section is_declaration instruction attribute_at tag_inside
    value_in_tag start_tag end_tag state_behind events_of fault_of read resume is_utf8 chars encode_utf8 is_char is_white_space is_name_start is_name_char
    tree_of_events read_scaled read_decimal scaled_text decimal_text read_dashed_day read_plain_day dashed_day_text value_of terms_of terms extension_rows
    listing_rows occurrence_of parent_of day_from first_row invoice_rows credit_note_rows cii_rows invoice_listing credit_note_listing cii_listing written_units
    digits last_digits
row7 = refl

-- means-83-89
row8 : judged invoice_rows syntaxes.Ubl (codes "<Invoice xmlns=" ++
    ((34 ∷ []) ++ (codes "urn:oasis:names:specification:ubl:schema:xsd:Invoice-2" ++
    ((34 ∷ []) ++ (codes " xmlns:cac=" ++
    ((34 ∷ []) ++ (codes "urn:oasis:names:specification:ubl:schema:xsd:CommonAggregateComponents-2" ++
    ((34 ∷ []) ++ (codes " xmlns:cbc=" ++
    ((34 ∷ []) ++ (codes "urn:oasis:names:specification:ubl:schema:xsd:CommonBasicComponents-2" ++
    ((34 ∷ []) ++ (codes "><cbc:CustomizationID>urn:cen.eu:en16931:2017</cbc:CustomizationID><cbc:ID>A1</cbc:ID><cbc:IssueDate>2024-05-01</cbc:IssueDate><cbc:InvoiceTypeCode>380</cbc:InvoiceTypeCode><cbc:DocumentCurrencyCode>EUR</cbc:DocumentCurrencyCode><cac:AccountingSupplierParty><cac:Party><cac:PostalAddress><cac:Country><cbc:IdentificationCode>DE</cbc:IdentificationCode></cac:Country></cac:PostalAddress><cac:PartyLegalEntity><cbc:RegistrationName>Seller</cbc:RegistrationName></cac:PartyLegalEntity></cac:Party></cac:AccountingSupplierParty><cac:AccountingCustomerParty><cac:Party><cac:PostalAddress><cac:Country><cbc:IdentificationCode>FR</cbc:IdentificationCode></cac:Country></cac:PostalAddress><cac:PartyLegalEntity><cbc:RegistrationName>Buyer</cbc:RegistrationName></cac:PartyLegalEntity></cac:Party></cac:AccountingCustomerParty><cac:PaymentMeans><cbc:PaymentID>R</cbc:PaymentID><cac:PaymentMandate><cbc:ID>M</cbc:ID></cac:PaymentMandate></cac:PaymentMeans><cac:TaxTotal><cac:TaxSubtotal><cbc:TaxableAmount currencyID=" ++ ((34 ∷ []) ++ (codes "EUR" ++ ((34 ∷ []) ++ (codes ">10.00</cbc:TaxableAmount><cbc:TaxAmount currencyID=" ++ ((34 ∷ []) ++ (codes "EUR" ++ ((34 ∷ []) ++ (codes ">2.00</cbc:TaxAmount><cac:TaxCategory><cbc:ID>S</cbc:ID><cac:TaxScheme><cbc:ID>VAT</cbc:ID></cac:TaxScheme></cac:TaxCategory></cac:TaxSubtotal></cac:TaxTotal><cac:LegalMonetaryTotal><cbc:LineExtensionAmount currencyID=" ++ ((34 ∷ []) ++ (codes "EUR" ++ ((34 ∷ []) ++ (codes ">10.00</cbc:LineExtensionAmount><cbc:TaxExclusiveAmount currencyID=" ++ ((34 ∷ []) ++ (codes "EUR" ++ ((34 ∷ []) ++ (codes ">10.00</cbc:TaxExclusiveAmount><cbc:TaxInclusiveAmount currencyID=" ++ ((34 ∷ []) ++ (codes "EUR" ++ ((34 ∷ []) ++ (codes ">12.00</cbc:TaxInclusiveAmount><cbc:PayableAmount currencyID=" ++ ((34 ∷ []) ++ (codes "EUR" ++ ((34 ∷ []) ++ (codes ">12.00</cbc:PayableAmount></cac:LegalMonetaryTotal><cac:InvoiceLine><cbc:ID>1</cbc:ID><cbc:InvoicedQuantity unitCode=" ++ ((34 ∷ []) ++ (codes "C62" ++ ((34 ∷ []) ++ (codes ">1</cbc:InvoicedQuantity><cbc:LineExtensionAmount currencyID=" ++ ((34 ∷ []) ++ (codes "EUR" ++ ((34 ∷ []) ++ (codes ">10.00</cbc:LineExtensionAmount><cac:Item><cbc:Name>Pen</cbc:Name><cac:ClassifiedTaxCategory><cbc:ID>S</cbc:ID><cac:TaxScheme><cbc:ID>VAT</cbc:ID></cac:TaxScheme></cac:ClassifiedTaxCategory></cac:Item><cac:Price><cbc:PriceAmount currencyID=" ++ ((34 ∷ []) ++ (codes "EUR" ++ ((34 ∷ []) ++ (codes ">10.00</cbc:PriceAmount></cac:Price></cac:InvoiceLine></Invoice>"))))))))))))))))))))))))))))))))))))))))))))))))) ≡ codes "condition 6 BT-83"
unfolding document first_fault beginning extent character_at referred reference_at is_qname comment section is_declaration instruction attribute_at tag_inside
    value_in_tag start_tag end_tag state_behind events_of fault_of read resume is_utf8 chars encode_utf8 is_char is_white_space is_name_start is_name_char
    tree_of_events read_scaled read_decimal scaled_text decimal_text read_dashed_day read_plain_day dashed_day_text value_of terms_of terms extension_rows
    listing_rows occurrence_of parent_of day_from first_row invoice_rows credit_note_rows cii_rows invoice_listing credit_note_listing cii_listing written_units
    digits last_digits
row8 = refl

-- c89-ubl
row9 : judged cii_rows syntaxes.Ubl (codes "<rsm:CrossIndustryInvoice xmlns:rsm=" ++
    ((34 ∷ []) ++ (codes "urn:un:unece:uncefact:data:standard:CrossIndustryInvoice:100" ++
    ((34 ∷ []) ++ (codes " xmlns:ram=" ++
    ((34 ∷ []) ++ (codes "urn:un:unece:uncefact:data:standard:ReusableAggregateBusinessInformationEntity:100" ++
    ((34 ∷ []) ++ (codes " xmlns:udt=" ++
    ((34 ∷ []) ++ (codes "urn:un:unece:uncefact:data:standard:UnqualifiedDataType:100" ++
    ((34 ∷ []) ++ (codes " xmlns:qdt=" ++
    ((34 ∷ []) ++ (codes "urn:un:unece:uncefact:data:standard:QualifiedDataType:100" ++
    ((34 ∷ []) ++ (codes "><rsm:ExchangedDocumentContext><ram:GuidelineSpecifiedDocumentContextParameter><ram:ID>urn:cen.eu:en16931:2017</ram:ID></ram:GuidelineSpecifiedDocumentContextParameter></rsm:ExchangedDocumentContext><rsm:ExchangedDocument><ram:ID>A1</ram:ID><ram:TypeCode>380</ram:TypeCode><ram:IssueDateTime><udt:DateTimeString format=" ++ ((34 ∷ []) ++ (codes "102" ++ ((34 ∷ []) ++ (codes ">20240501</udt:DateTimeString></ram:IssueDateTime></rsm:ExchangedDocument><rsm:SupplyChainTradeTransaction><ram:IncludedSupplyChainTradeLineItem><ram:AssociatedDocumentLineDocument><ram:LineID>1</ram:LineID></ram:AssociatedDocumentLineDocument><ram:SpecifiedTradeProduct><ram:Name>Pen</ram:Name></ram:SpecifiedTradeProduct><ram:SpecifiedLineTradeAgreement><ram:NetPriceProductTradePrice><ram:ChargeAmount>10.00</ram:ChargeAmount></ram:NetPriceProductTradePrice></ram:SpecifiedLineTradeAgreement><ram:SpecifiedLineTradeDelivery><ram:BilledQuantity unitCode=" ++ ((34 ∷ []) ++ (codes "C62" ++ ((34 ∷ []) ++ (codes ">1</ram:BilledQuantity></ram:SpecifiedLineTradeDelivery><ram:SpecifiedLineTradeSettlement><ram:ApplicableTradeTax><ram:TypeCode>VAT</ram:TypeCode><ram:CategoryCode>S</ram:CategoryCode></ram:ApplicableTradeTax><ram:SpecifiedTradeSettlementLineMonetarySummation><ram:LineTotalAmount>10.00</ram:LineTotalAmount></ram:SpecifiedTradeSettlementLineMonetarySummation></ram:SpecifiedLineTradeSettlement></ram:IncludedSupplyChainTradeLineItem><ram:ApplicableHeaderTradeAgreement><ram:SellerTradeParty><ram:Name>Seller</ram:Name><ram:PostalTradeAddress><ram:CountryID>DE</ram:CountryID></ram:PostalTradeAddress></ram:SellerTradeParty><ram:BuyerTradeParty><ram:Name>Buyer</ram:Name><ram:PostalTradeAddress><ram:CountryID>FR</ram:CountryID></ram:PostalTradeAddress></ram:BuyerTradeParty></ram:ApplicableHeaderTradeAgreement><ram:ApplicableHeaderTradeDelivery/><ram:ApplicableHeaderTradeSettlement><ram:InvoiceCurrencyCode>EUR</ram:InvoiceCurrencyCode><ram:ApplicableTradeTax><ram:CalculatedAmount>2.00</ram:CalculatedAmount><ram:TypeCode>VAT</ram:TypeCode><ram:BasisAmount>10.00</ram:BasisAmount><ram:CategoryCode>S</ram:CategoryCode></ram:ApplicableTradeTax><ram:SpecifiedTradePaymentTerms><ram:DirectDebitMandateID>M</ram:DirectDebitMandateID></ram:SpecifiedTradePaymentTerms><ram:SpecifiedTradeSettlementHeaderMonetarySummation><ram:LineTotalAmount>10.00</ram:LineTotalAmount><ram:TaxBasisTotalAmount>10.00</ram:TaxBasisTotalAmount><ram:GrandTotalAmount>12.00</ram:GrandTotalAmount><ram:DuePayableAmount>12.00</ram:DuePayableAmount></ram:SpecifiedTradeSettlementHeaderMonetarySummation></ram:ApplicableHeaderTradeSettlement></rsm:SupplyChainTradeTransaction></rsm:CrossIndustryInvoice>"))))))))))))))))))))))))) ≡ codes "condition 6 BT-89"
unfolding document first_fault beginning extent character_at referred reference_at is_qname comment section is_declaration instruction attribute_at tag_inside
    value_in_tag start_tag end_tag state_behind events_of fault_of read resume is_utf8 chars encode_utf8 is_char is_white_space is_name_start is_name_char
    tree_of_events read_scaled read_decimal scaled_text decimal_text read_dashed_day read_plain_day dashed_day_text value_of terms_of terms extension_rows
    listing_rows occurrence_of parent_of day_from first_row invoice_rows credit_note_rows cii_rows invoice_listing credit_note_listing cii_listing written_units
    digits last_digits
row9 = refl

-- cref-line-scheme-alone
row10 : judged cii_rows syntaxes.Ubl (codes "<rsm:CrossIndustryInvoice xmlns:rsm=" ++
    ((34 ∷ []) ++ (codes "urn:un:unece:uncefact:data:standard:CrossIndustryInvoice:100" ++
    ((34 ∷ []) ++ (codes " xmlns:ram=" ++
    ((34 ∷ []) ++ (codes "urn:un:unece:uncefact:data:standard:ReusableAggregateBusinessInformationEntity:100" ++
    ((34 ∷ []) ++ (codes " xmlns:udt=" ++
    ((34 ∷ []) ++ (codes "urn:un:unece:uncefact:data:standard:UnqualifiedDataType:100" ++
    ((34 ∷ []) ++ (codes " xmlns:qdt=" ++
    ((34 ∷ []) ++ (codes "urn:un:unece:uncefact:data:standard:QualifiedDataType:100" ++
    ((34 ∷ []) ++ (codes "><rsm:ExchangedDocumentContext><ram:GuidelineSpecifiedDocumentContextParameter><ram:ID>urn:cen.eu:en16931:2017</ram:ID></ram:GuidelineSpecifiedDocumentContextParameter></rsm:ExchangedDocumentContext><rsm:ExchangedDocument><ram:ID>A1</ram:ID><ram:TypeCode>380</ram:TypeCode><ram:IssueDateTime><udt:DateTimeString format=" ++ ((34 ∷ []) ++ (codes "102" ++ ((34 ∷ []) ++ (codes ">20240501</udt:DateTimeString></ram:IssueDateTime></rsm:ExchangedDocument><rsm:SupplyChainTradeTransaction><ram:IncludedSupplyChainTradeLineItem><ram:AssociatedDocumentLineDocument><ram:LineID>1</ram:LineID></ram:AssociatedDocumentLineDocument><ram:SpecifiedTradeProduct><ram:Name>Pen</ram:Name></ram:SpecifiedTradeProduct><ram:SpecifiedLineTradeAgreement><ram:NetPriceProductTradePrice><ram:ChargeAmount>10.00</ram:ChargeAmount></ram:NetPriceProductTradePrice></ram:SpecifiedLineTradeAgreement><ram:SpecifiedLineTradeDelivery><ram:BilledQuantity unitCode=" ++ ((34 ∷ []) ++ (codes "C62" ++ ((34 ∷ []) ++ (codes ">1</ram:BilledQuantity></ram:SpecifiedLineTradeDelivery><ram:SpecifiedLineTradeSettlement><ram:ApplicableTradeTax><ram:TypeCode>VAT</ram:TypeCode><ram:CategoryCode>S</ram:CategoryCode></ram:ApplicableTradeTax><ram:SpecifiedTradeSettlementLineMonetarySummation><ram:LineTotalAmount>10.00</ram:LineTotalAmount></ram:SpecifiedTradeSettlementLineMonetarySummation><ram:AdditionalReferencedDocument><ram:TypeCode>130</ram:TypeCode><ram:ReferenceTypeCode>ABT</ram:ReferenceTypeCode></ram:AdditionalReferencedDocument></ram:SpecifiedLineTradeSettlement></ram:IncludedSupplyChainTradeLineItem><ram:ApplicableHeaderTradeAgreement><ram:SellerTradeParty><ram:Name>Seller</ram:Name><ram:PostalTradeAddress><ram:CountryID>DE</ram:CountryID></ram:PostalTradeAddress></ram:SellerTradeParty><ram:BuyerTradeParty><ram:Name>Buyer</ram:Name><ram:PostalTradeAddress><ram:CountryID>FR</ram:CountryID></ram:PostalTradeAddress></ram:BuyerTradeParty></ram:ApplicableHeaderTradeAgreement><ram:ApplicableHeaderTradeDelivery/><ram:ApplicableHeaderTradeSettlement><ram:InvoiceCurrencyCode>EUR</ram:InvoiceCurrencyCode><ram:ApplicableTradeTax><ram:CalculatedAmount>2.00</ram:CalculatedAmount><ram:TypeCode>VAT</ram:TypeCode><ram:BasisAmount>10.00</ram:BasisAmount><ram:CategoryCode>S</ram:CategoryCode></ram:ApplicableTradeTax><ram:SpecifiedTradeSettlementHeaderMonetarySummation><ram:LineTotalAmount>10.00</ram:LineTotalAmount><ram:TaxBasisTotalAmount>10.00</ram:TaxBasisTotalAmount><ram:GrandTotalAmount>12.00</ram:GrandTotalAmount><ram:DuePayableAmount>12.00</ram:DuePayableAmount></ram:SpecifiedTradeSettlementHeaderMonetarySummation></ram:ApplicableHeaderTradeSettlement></rsm:SupplyChainTradeTransaction></rsm:CrossIndustryInvoice>"))))))))))))))))))))))))) ≡ codes "condition 1 BT-128-1"
unfolding document first_fault beginning extent character_at referred reference_at is_qname comment section is_declaration instruction attribute_at tag_inside
    value_in_tag start_tag end_tag state_behind events_of fault_of read resume is_utf8 chars encode_utf8 is_char is_white_space is_name_start is_name_char
    tree_of_events read_scaled read_decimal scaled_text decimal_text read_dashed_day read_plain_day dashed_day_text value_of terms_of terms extension_rows
    listing_rows occurrence_of parent_of day_from first_row invoice_rows credit_note_rows cii_rows invoice_listing credit_note_listing cii_listing written_units
    digits last_digits
row10 = refl

-- cond-2-before-4
row11 : judged cii_rows syntaxes.Ubl (codes "<rsm:CrossIndustryInvoice xmlns:rsm=" ++
    ((34 ∷ []) ++ (codes "urn:un:unece:uncefact:data:standard:CrossIndustryInvoice:100" ++
    ((34 ∷ []) ++ (codes " xmlns:ram=" ++
    ((34 ∷ []) ++ (codes "urn:un:unece:uncefact:data:standard:ReusableAggregateBusinessInformationEntity:100" ++
    ((34 ∷ []) ++ (codes " xmlns:udt=" ++
    ((34 ∷ []) ++ (codes "urn:un:unece:uncefact:data:standard:UnqualifiedDataType:100" ++
    ((34 ∷ []) ++ (codes " xmlns:qdt=" ++
    ((34 ∷ []) ++ (codes "urn:un:unece:uncefact:data:standard:QualifiedDataType:100" ++
    ((34 ∷ []) ++ (codes "><rsm:ExchangedDocumentContext><ram:GuidelineSpecifiedDocumentContextParameter><ram:ID>urn:cen.eu:en16931:2017</ram:ID></ram:GuidelineSpecifiedDocumentContextParameter></rsm:ExchangedDocumentContext><rsm:ExchangedDocument><ram:ID>A1</ram:ID><ram:TypeCode>380</ram:TypeCode><ram:IssueDateTime><udt:DateTimeString format=" ++ ((34 ∷ []) ++ (codes "102" ++ ((34 ∷ []) ++ (codes ">20240501</udt:DateTimeString></ram:IssueDateTime><ram:IncludedNote><ram:Content>#AAI#x</ram:Content></ram:IncludedNote></rsm:ExchangedDocument><rsm:SupplyChainTradeTransaction><ram:IncludedSupplyChainTradeLineItem><ram:AssociatedDocumentLineDocument><ram:LineID>1</ram:LineID></ram:AssociatedDocumentLineDocument><ram:SpecifiedTradeProduct><ram:Name>Pen</ram:Name></ram:SpecifiedTradeProduct><ram:SpecifiedLineTradeAgreement><ram:NetPriceProductTradePrice><ram:ChargeAmount>10.00</ram:ChargeAmount></ram:NetPriceProductTradePrice></ram:SpecifiedLineTradeAgreement><ram:SpecifiedLineTradeDelivery><ram:BilledQuantity unitCode=" ++ ((34 ∷ []) ++ (codes "C62" ++ ((34 ∷ []) ++ (codes ">1</ram:BilledQuantity></ram:SpecifiedLineTradeDelivery><ram:SpecifiedLineTradeSettlement><ram:ApplicableTradeTax><ram:TypeCode>VAT</ram:TypeCode><ram:CategoryCode>S</ram:CategoryCode></ram:ApplicableTradeTax><ram:SpecifiedTradeSettlementLineMonetarySummation><ram:LineTotalAmount>10.00</ram:LineTotalAmount></ram:SpecifiedTradeSettlementLineMonetarySummation></ram:SpecifiedLineTradeSettlement></ram:IncludedSupplyChainTradeLineItem><ram:ApplicableHeaderTradeAgreement><ram:SellerTradeParty><ram:GlobalID schemeID=" ++ ((34 ∷ []) ++ (codes "SEPA" ++ ((34 ∷ []) ++ (codes ">6</ram:GlobalID><ram:Name>Seller</ram:Name><ram:PostalTradeAddress><ram:CountryID>DE</ram:CountryID></ram:PostalTradeAddress></ram:SellerTradeParty><ram:BuyerTradeParty><ram:Name>Buyer</ram:Name><ram:PostalTradeAddress><ram:CountryID>FR</ram:CountryID></ram:PostalTradeAddress></ram:BuyerTradeParty></ram:ApplicableHeaderTradeAgreement><ram:ApplicableHeaderTradeDelivery/><ram:ApplicableHeaderTradeSettlement><ram:PaymentReference>R</ram:PaymentReference><ram:InvoiceCurrencyCode>EUR</ram:InvoiceCurrencyCode><ram:ApplicableTradeTax><ram:CalculatedAmount>2.00</ram:CalculatedAmount><ram:TypeCode>VAT</ram:TypeCode><ram:BasisAmount>10.00</ram:BasisAmount><ram:CategoryCode>S</ram:CategoryCode></ram:ApplicableTradeTax><ram:SpecifiedTradeSettlementHeaderMonetarySummation><ram:LineTotalAmount>10.00</ram:LineTotalAmount><ram:TaxBasisTotalAmount>10.00</ram:TaxBasisTotalAmount><ram:GrandTotalAmount>12.00</ram:GrandTotalAmount><ram:DuePayableAmount>12.00</ram:DuePayableAmount></ram:SpecifiedTradeSettlementHeaderMonetarySummation></ram:ApplicableHeaderTradeSettlement></rsm:SupplyChainTradeTransaction></rsm:CrossIndustryInvoice>"))))))))))))))))))))))))))))) ≡ codes "condition 2 BT-29-1"
unfolding document first_fault beginning extent character_at referred reference_at is_qname comment section is_declaration instruction attribute_at tag_inside
    value_in_tag start_tag end_tag state_behind events_of fault_of read resume is_utf8 chars encode_utf8 is_char is_white_space is_name_start is_name_char
    tree_of_events read_scaled read_decimal scaled_text decimal_text read_dashed_day read_plain_day dashed_day_text value_of terms_of terms extension_rows
    listing_rows occurrence_of parent_of day_from first_row invoice_rows credit_note_rows cii_rows invoice_listing credit_note_listing cii_listing written_units
    digits last_digits
row11 = refl

-- cond-4-before-6
row12 : judged cii_rows syntaxes.Ubl (codes "<rsm:CrossIndustryInvoice xmlns:rsm=" ++
    ((34 ∷ []) ++ (codes "urn:un:unece:uncefact:data:standard:CrossIndustryInvoice:100" ++
    ((34 ∷ []) ++ (codes " xmlns:ram=" ++
    ((34 ∷ []) ++ (codes "urn:un:unece:uncefact:data:standard:ReusableAggregateBusinessInformationEntity:100" ++
    ((34 ∷ []) ++ (codes " xmlns:udt=" ++
    ((34 ∷ []) ++ (codes "urn:un:unece:uncefact:data:standard:UnqualifiedDataType:100" ++
    ((34 ∷ []) ++ (codes " xmlns:qdt=" ++
    ((34 ∷ []) ++ (codes "urn:un:unece:uncefact:data:standard:QualifiedDataType:100" ++
    ((34 ∷ []) ++ (codes "><rsm:ExchangedDocumentContext><ram:GuidelineSpecifiedDocumentContextParameter><ram:ID>urn:cen.eu:en16931:2017</ram:ID></ram:GuidelineSpecifiedDocumentContextParameter></rsm:ExchangedDocumentContext><rsm:ExchangedDocument><ram:ID>A1</ram:ID><ram:TypeCode>380</ram:TypeCode><ram:IssueDateTime><udt:DateTimeString format=" ++ ((34 ∷ []) ++ (codes "102" ++ ((34 ∷ []) ++ (codes ">20240501</udt:DateTimeString></ram:IssueDateTime><ram:IncludedNote><ram:Content>#AAI#x</ram:Content></ram:IncludedNote></rsm:ExchangedDocument><rsm:SupplyChainTradeTransaction><ram:IncludedSupplyChainTradeLineItem><ram:AssociatedDocumentLineDocument><ram:LineID>1</ram:LineID></ram:AssociatedDocumentLineDocument><ram:SpecifiedTradeProduct><ram:Name>Pen</ram:Name></ram:SpecifiedTradeProduct><ram:SpecifiedLineTradeAgreement><ram:NetPriceProductTradePrice><ram:ChargeAmount>10.00</ram:ChargeAmount></ram:NetPriceProductTradePrice></ram:SpecifiedLineTradeAgreement><ram:SpecifiedLineTradeDelivery><ram:BilledQuantity unitCode=" ++ ((34 ∷ []) ++ (codes "C62" ++ ((34 ∷ []) ++ (codes ">1</ram:BilledQuantity></ram:SpecifiedLineTradeDelivery><ram:SpecifiedLineTradeSettlement><ram:ApplicableTradeTax><ram:TypeCode>VAT</ram:TypeCode><ram:CategoryCode>S</ram:CategoryCode></ram:ApplicableTradeTax><ram:SpecifiedTradeSettlementLineMonetarySummation><ram:LineTotalAmount>10.00</ram:LineTotalAmount></ram:SpecifiedTradeSettlementLineMonetarySummation></ram:SpecifiedLineTradeSettlement></ram:IncludedSupplyChainTradeLineItem><ram:ApplicableHeaderTradeAgreement><ram:SellerTradeParty><ram:Name>Seller</ram:Name><ram:PostalTradeAddress><ram:CountryID>DE</ram:CountryID></ram:PostalTradeAddress></ram:SellerTradeParty><ram:BuyerTradeParty><ram:Name>Buyer</ram:Name><ram:PostalTradeAddress><ram:CountryID>FR</ram:CountryID></ram:PostalTradeAddress></ram:BuyerTradeParty></ram:ApplicableHeaderTradeAgreement><ram:ApplicableHeaderTradeDelivery/><ram:ApplicableHeaderTradeSettlement><ram:PaymentReference>R</ram:PaymentReference><ram:InvoiceCurrencyCode>EUR</ram:InvoiceCurrencyCode><ram:ApplicableTradeTax><ram:CalculatedAmount>2.00</ram:CalculatedAmount><ram:TypeCode>VAT</ram:TypeCode><ram:BasisAmount>10.00</ram:BasisAmount><ram:CategoryCode>S</ram:CategoryCode></ram:ApplicableTradeTax><ram:SpecifiedTradeSettlementHeaderMonetarySummation><ram:LineTotalAmount>10.00</ram:LineTotalAmount><ram:TaxBasisTotalAmount>10.00</ram:TaxBasisTotalAmount><ram:GrandTotalAmount>12.00</ram:GrandTotalAmount><ram:DuePayableAmount>12.00</ram:DuePayableAmount></ram:SpecifiedTradeSettlementHeaderMonetarySummation></ram:ApplicableHeaderTradeSettlement></rsm:SupplyChainTradeTransaction></rsm:CrossIndustryInvoice>"))))))))))))))))))))))))) ≡ codes "condition 4 BT-22"
unfolding document first_fault beginning extent character_at referred reference_at is_qname comment section is_declaration instruction attribute_at tag_inside
    value_in_tag start_tag end_tag state_behind events_of fault_of read resume is_utf8 chars encode_utf8 is_char is_white_space is_name_start is_name_char
    tree_of_events read_scaled read_decimal scaled_text decimal_text read_dashed_day read_plain_day dashed_day_text value_of terms_of terms extension_rows
    listing_rows occurrence_of parent_of day_from first_row invoice_rows credit_note_rows cii_rows invoice_listing credit_note_listing cii_listing written_units
    digits last_digits
row12 = refl

-- cond-1-before-2
row13 : judged cii_rows syntaxes.Ubl (codes "<rsm:CrossIndustryInvoice xmlns:rsm=" ++
    ((34 ∷ []) ++ (codes "urn:un:unece:uncefact:data:standard:CrossIndustryInvoice:100" ++
    ((34 ∷ []) ++ (codes " xmlns:ram=" ++
    ((34 ∷ []) ++ (codes "urn:un:unece:uncefact:data:standard:ReusableAggregateBusinessInformationEntity:100" ++
    ((34 ∷ []) ++ (codes " xmlns:udt=" ++
    ((34 ∷ []) ++ (codes "urn:un:unece:uncefact:data:standard:UnqualifiedDataType:100" ++
    ((34 ∷ []) ++ (codes " xmlns:qdt=" ++
    ((34 ∷ []) ++ (codes "urn:un:unece:uncefact:data:standard:QualifiedDataType:100" ++
    ((34 ∷ []) ++ (codes "><rsm:ExchangedDocumentContext><ram:GuidelineSpecifiedDocumentContextParameter><ram:ID>urn:cen.eu:en16931:2017</ram:ID></ram:GuidelineSpecifiedDocumentContextParameter></rsm:ExchangedDocumentContext><rsm:ExchangedDocument><ram:ID>A1</ram:ID><ram:TypeCode>380</ram:TypeCode><ram:IssueDateTime><udt:DateTimeString format=" ++ ((34 ∷ []) ++ (codes "102" ++ ((34 ∷ []) ++ (codes ">20240501</udt:DateTimeString></ram:IssueDateTime></rsm:ExchangedDocument><rsm:SupplyChainTradeTransaction><ram:IncludedSupplyChainTradeLineItem><ram:AssociatedDocumentLineDocument><ram:LineID>1</ram:LineID></ram:AssociatedDocumentLineDocument><ram:SpecifiedTradeProduct><ram:Name>Pen</ram:Name></ram:SpecifiedTradeProduct><ram:SpecifiedLineTradeAgreement><ram:NetPriceProductTradePrice><ram:ChargeAmount>10.00</ram:ChargeAmount></ram:NetPriceProductTradePrice></ram:SpecifiedLineTradeAgreement><ram:SpecifiedLineTradeDelivery><ram:BilledQuantity unitCode=" ++ ((34 ∷ []) ++ (codes "C62" ++ ((34 ∷ []) ++ (codes ">1</ram:BilledQuantity></ram:SpecifiedLineTradeDelivery><ram:SpecifiedLineTradeSettlement><ram:ApplicableTradeTax><ram:TypeCode>VAT</ram:TypeCode><ram:CategoryCode>S</ram:CategoryCode></ram:ApplicableTradeTax><ram:SpecifiedTradeSettlementLineMonetarySummation><ram:LineTotalAmount>10.00</ram:LineTotalAmount></ram:SpecifiedTradeSettlementLineMonetarySummation></ram:SpecifiedLineTradeSettlement></ram:IncludedSupplyChainTradeLineItem><ram:ApplicableHeaderTradeAgreement><ram:SellerTradeParty><ram:GlobalID schemeID=" ++ ((34 ∷ []) ++ (codes "SEPA" ++ ((34 ∷ []) ++ (codes ">6</ram:GlobalID><ram:Name>Seller</ram:Name><ram:PostalTradeAddress><ram:CountryID>DE</ram:CountryID></ram:PostalTradeAddress></ram:SellerTradeParty><ram:BuyerTradeParty><ram:Name>Buyer</ram:Name><ram:PostalTradeAddress><ram:CountryID>FR</ram:CountryID></ram:PostalTradeAddress></ram:BuyerTradeParty><ram:AdditionalReferencedDocument><ram:TypeCode>130</ram:TypeCode><ram:ReferenceTypeCode>ABT</ram:ReferenceTypeCode></ram:AdditionalReferencedDocument></ram:ApplicableHeaderTradeAgreement><ram:ApplicableHeaderTradeDelivery/><ram:ApplicableHeaderTradeSettlement><ram:InvoiceCurrencyCode>EUR</ram:InvoiceCurrencyCode><ram:ApplicableTradeTax><ram:CalculatedAmount>2.00</ram:CalculatedAmount><ram:TypeCode>VAT</ram:TypeCode><ram:BasisAmount>10.00</ram:BasisAmount><ram:CategoryCode>S</ram:CategoryCode></ram:ApplicableTradeTax><ram:SpecifiedTradeSettlementHeaderMonetarySummation><ram:LineTotalAmount>10.00</ram:LineTotalAmount><ram:TaxBasisTotalAmount>10.00</ram:TaxBasisTotalAmount><ram:GrandTotalAmount>12.00</ram:GrandTotalAmount><ram:DuePayableAmount>12.00</ram:DuePayableAmount></ram:SpecifiedTradeSettlementHeaderMonetarySummation></ram:ApplicableHeaderTradeSettlement></rsm:SupplyChainTradeTransaction></rsm:CrossIndustryInvoice>"))))))))))))))))))))))))))))) ≡ codes "condition 1 BT-18-1"
unfolding document first_fault beginning extent character_at referred reference_at is_qname comment section is_declaration instruction attribute_at tag_inside
    value_in_tag start_tag end_tag state_behind events_of fault_of read resume is_utf8 chars encode_utf8 is_char is_white_space is_name_start is_name_char
    tree_of_events read_scaled read_decimal scaled_text decimal_text read_dashed_day read_plain_day dashed_day_text value_of terms_of terms extension_rows
    listing_rows occurrence_of parent_of day_from first_row invoice_rows credit_note_rows cii_rows invoice_listing credit_note_listing cii_listing written_units
    digits last_digits
row13 = refl

-- cond-2-before-3
row14 : judged cii_rows syntaxes.Ubl (codes "<rsm:CrossIndustryInvoice xmlns:rsm=" ++
    ((34 ∷ []) ++ (codes "urn:un:unece:uncefact:data:standard:CrossIndustryInvoice:100" ++
    ((34 ∷ []) ++ (codes " xmlns:ram=" ++
    ((34 ∷ []) ++ (codes "urn:un:unece:uncefact:data:standard:ReusableAggregateBusinessInformationEntity:100" ++
    ((34 ∷ []) ++ (codes " xmlns:udt=" ++
    ((34 ∷ []) ++ (codes "urn:un:unece:uncefact:data:standard:UnqualifiedDataType:100" ++
    ((34 ∷ []) ++ (codes " xmlns:qdt=" ++
    ((34 ∷ []) ++ (codes "urn:un:unece:uncefact:data:standard:QualifiedDataType:100" ++
    ((34 ∷ []) ++ (codes "><rsm:ExchangedDocumentContext><ram:GuidelineSpecifiedDocumentContextParameter><ram:ID>urn:cen.eu:en16931:2017</ram:ID></ram:GuidelineSpecifiedDocumentContextParameter></rsm:ExchangedDocumentContext><rsm:ExchangedDocument><ram:ID>A1</ram:ID><ram:TypeCode>380</ram:TypeCode><ram:IssueDateTime><udt:DateTimeString format=" ++ ((34 ∷ []) ++ (codes "102" ++ ((34 ∷ []) ++ (codes ">20240501</udt:DateTimeString></ram:IssueDateTime></rsm:ExchangedDocument><rsm:SupplyChainTradeTransaction><ram:IncludedSupplyChainTradeLineItem><ram:AssociatedDocumentLineDocument><ram:LineID>1</ram:LineID></ram:AssociatedDocumentLineDocument><ram:SpecifiedTradeProduct><ram:Name>Pen</ram:Name></ram:SpecifiedTradeProduct><ram:SpecifiedLineTradeAgreement><ram:NetPriceProductTradePrice><ram:ChargeAmount>10.00</ram:ChargeAmount></ram:NetPriceProductTradePrice></ram:SpecifiedLineTradeAgreement><ram:SpecifiedLineTradeDelivery><ram:BilledQuantity unitCode=" ++ ((34 ∷ []) ++ (codes "C62" ++ ((34 ∷ []) ++ (codes ">1</ram:BilledQuantity></ram:SpecifiedLineTradeDelivery><ram:SpecifiedLineTradeSettlement><ram:ApplicableTradeTax><ram:TypeCode>VAT</ram:TypeCode><ram:CategoryCode>S</ram:CategoryCode></ram:ApplicableTradeTax><ram:SpecifiedTradeSettlementLineMonetarySummation><ram:LineTotalAmount>10.00</ram:LineTotalAmount></ram:SpecifiedTradeSettlementLineMonetarySummation></ram:SpecifiedLineTradeSettlement></ram:IncludedSupplyChainTradeLineItem><ram:ApplicableHeaderTradeAgreement><ram:SellerTradeParty><ram:GlobalID schemeID=" ++ ((34 ∷ []) ++ (codes "SEPA" ++ ((34 ∷ []) ++ (codes ">6</ram:GlobalID><ram:Name>Seller</ram:Name><ram:PostalTradeAddress><ram:CountryID>DE</ram:CountryID></ram:PostalTradeAddress></ram:SellerTradeParty><ram:BuyerTradeParty><ram:Name>Buyer</ram:Name><ram:PostalTradeAddress><ram:CountryID>FR</ram:CountryID></ram:PostalTradeAddress></ram:BuyerTradeParty><ram:SellerOrderReferencedDocument><ram:IssuerAssignedID>7</ram:IssuerAssignedID></ram:SellerOrderReferencedDocument><ram:BuyerOrderReferencedDocument><ram:IssuerAssignedID>NA</ram:IssuerAssignedID></ram:BuyerOrderReferencedDocument></ram:ApplicableHeaderTradeAgreement><ram:ApplicableHeaderTradeDelivery/><ram:ApplicableHeaderTradeSettlement><ram:InvoiceCurrencyCode>EUR</ram:InvoiceCurrencyCode><ram:ApplicableTradeTax><ram:CalculatedAmount>2.00</ram:CalculatedAmount><ram:TypeCode>VAT</ram:TypeCode><ram:BasisAmount>10.00</ram:BasisAmount><ram:CategoryCode>S</ram:CategoryCode></ram:ApplicableTradeTax><ram:SpecifiedTradeSettlementHeaderMonetarySummation><ram:LineTotalAmount>10.00</ram:LineTotalAmount><ram:TaxBasisTotalAmount>10.00</ram:TaxBasisTotalAmount><ram:GrandTotalAmount>12.00</ram:GrandTotalAmount><ram:DuePayableAmount>12.00</ram:DuePayableAmount></ram:SpecifiedTradeSettlementHeaderMonetarySummation></ram:ApplicableHeaderTradeSettlement></rsm:SupplyChainTradeTransaction></rsm:CrossIndustryInvoice>"))))))))))))))))))))))))))))) ≡ codes "condition 2 BT-29-1"
unfolding document first_fault beginning extent character_at referred reference_at is_qname comment section is_declaration instruction attribute_at tag_inside
    value_in_tag start_tag end_tag state_behind events_of fault_of read resume is_utf8 chars encode_utf8 is_char is_white_space is_name_start is_name_char
    tree_of_events read_scaled read_decimal scaled_text decimal_text read_dashed_day read_plain_day dashed_day_text value_of terms_of terms extension_rows
    listing_rows occurrence_of parent_of day_from first_row invoice_rows credit_note_rows cii_rows invoice_listing credit_note_listing cii_listing written_units
    digits last_digits
row14 = refl

-- cond-4-first-entry
row15 : judged cii_rows syntaxes.Ubl (codes "<rsm:CrossIndustryInvoice xmlns:rsm=" ++
    ((34 ∷ []) ++ (codes "urn:un:unece:uncefact:data:standard:CrossIndustryInvoice:100" ++
    ((34 ∷ []) ++ (codes " xmlns:ram=" ++
    ((34 ∷ []) ++ (codes "urn:un:unece:uncefact:data:standard:ReusableAggregateBusinessInformationEntity:100" ++
    ((34 ∷ []) ++ (codes " xmlns:udt=" ++
    ((34 ∷ []) ++ (codes "urn:un:unece:uncefact:data:standard:UnqualifiedDataType:100" ++
    ((34 ∷ []) ++ (codes " xmlns:qdt=" ++
    ((34 ∷ []) ++ (codes "urn:un:unece:uncefact:data:standard:QualifiedDataType:100" ++
    ((34 ∷ []) ++ (codes "><rsm:ExchangedDocumentContext><ram:GuidelineSpecifiedDocumentContextParameter><ram:ID>urn:cen.eu:en16931:2017</ram:ID></ram:GuidelineSpecifiedDocumentContextParameter></rsm:ExchangedDocumentContext><rsm:ExchangedDocument><ram:ID>A1</ram:ID><ram:TypeCode>380</ram:TypeCode><ram:IssueDateTime><udt:DateTimeString format=" ++ ((34 ∷ []) ++ (codes "102" ++ ((34 ∷ []) ++ (codes ">20240501</udt:DateTimeString></ram:IssueDateTime><ram:IncludedNote><ram:Content>#AAI#x</ram:Content></ram:IncludedNote><ram:IncludedNote><ram:Content>y</ram:Content><ram:SubjectCode>toolong</ram:SubjectCode></ram:IncludedNote></rsm:ExchangedDocument><rsm:SupplyChainTradeTransaction><ram:IncludedSupplyChainTradeLineItem><ram:AssociatedDocumentLineDocument><ram:LineID>1</ram:LineID></ram:AssociatedDocumentLineDocument><ram:SpecifiedTradeProduct><ram:Name>Pen</ram:Name></ram:SpecifiedTradeProduct><ram:SpecifiedLineTradeAgreement><ram:NetPriceProductTradePrice><ram:ChargeAmount>10.00</ram:ChargeAmount></ram:NetPriceProductTradePrice></ram:SpecifiedLineTradeAgreement><ram:SpecifiedLineTradeDelivery><ram:BilledQuantity unitCode=" ++ ((34 ∷ []) ++ (codes "C62" ++ ((34 ∷ []) ++ (codes ">1</ram:BilledQuantity></ram:SpecifiedLineTradeDelivery><ram:SpecifiedLineTradeSettlement><ram:ApplicableTradeTax><ram:TypeCode>VAT</ram:TypeCode><ram:CategoryCode>S</ram:CategoryCode></ram:ApplicableTradeTax><ram:SpecifiedTradeSettlementLineMonetarySummation><ram:LineTotalAmount>10.00</ram:LineTotalAmount></ram:SpecifiedTradeSettlementLineMonetarySummation></ram:SpecifiedLineTradeSettlement></ram:IncludedSupplyChainTradeLineItem><ram:ApplicableHeaderTradeAgreement><ram:SellerTradeParty><ram:Name>Seller</ram:Name><ram:PostalTradeAddress><ram:CountryID>DE</ram:CountryID></ram:PostalTradeAddress></ram:SellerTradeParty><ram:BuyerTradeParty><ram:Name>Buyer</ram:Name><ram:PostalTradeAddress><ram:CountryID>FR</ram:CountryID></ram:PostalTradeAddress></ram:BuyerTradeParty></ram:ApplicableHeaderTradeAgreement><ram:ApplicableHeaderTradeDelivery/><ram:ApplicableHeaderTradeSettlement><ram:InvoiceCurrencyCode>EUR</ram:InvoiceCurrencyCode><ram:ApplicableTradeTax><ram:CalculatedAmount>2.00</ram:CalculatedAmount><ram:TypeCode>VAT</ram:TypeCode><ram:BasisAmount>10.00</ram:BasisAmount><ram:CategoryCode>S</ram:CategoryCode></ram:ApplicableTradeTax><ram:SpecifiedTradeSettlementHeaderMonetarySummation><ram:LineTotalAmount>10.00</ram:LineTotalAmount><ram:TaxBasisTotalAmount>10.00</ram:TaxBasisTotalAmount><ram:GrandTotalAmount>12.00</ram:GrandTotalAmount><ram:DuePayableAmount>12.00</ram:DuePayableAmount></ram:SpecifiedTradeSettlementHeaderMonetarySummation></ram:ApplicableHeaderTradeSettlement></rsm:SupplyChainTradeTransaction></rsm:CrossIndustryInvoice>"))))))))))))))))))))))))) ≡ codes "condition 4 BT-22"
unfolding document first_fault beginning extent character_at referred reference_at is_qname comment section is_declaration instruction attribute_at tag_inside
    value_in_tag start_tag end_tag state_behind events_of fault_of read resume is_utf8 chars encode_utf8 is_char is_white_space is_name_start is_name_char
    tree_of_events read_scaled read_decimal scaled_text decimal_text read_dashed_day read_plain_day dashed_day_text value_of terms_of terms extension_rows
    listing_rows occurrence_of parent_of day_from first_row invoice_rows credit_note_rows cii_rows invoice_listing credit_note_listing cii_listing written_units
    digits last_digits
row15 = refl

-- cond-4-first-entry-21
row16 : judged cii_rows syntaxes.Ubl (codes "<rsm:CrossIndustryInvoice xmlns:rsm=" ++
    ((34 ∷ []) ++ (codes "urn:un:unece:uncefact:data:standard:CrossIndustryInvoice:100" ++
    ((34 ∷ []) ++ (codes " xmlns:ram=" ++
    ((34 ∷ []) ++ (codes "urn:un:unece:uncefact:data:standard:ReusableAggregateBusinessInformationEntity:100" ++
    ((34 ∷ []) ++ (codes " xmlns:udt=" ++
    ((34 ∷ []) ++ (codes "urn:un:unece:uncefact:data:standard:UnqualifiedDataType:100" ++
    ((34 ∷ []) ++ (codes " xmlns:qdt=" ++
    ((34 ∷ []) ++ (codes "urn:un:unece:uncefact:data:standard:QualifiedDataType:100" ++
    ((34 ∷ []) ++ (codes "><rsm:ExchangedDocumentContext><ram:GuidelineSpecifiedDocumentContextParameter><ram:ID>urn:cen.eu:en16931:2017</ram:ID></ram:GuidelineSpecifiedDocumentContextParameter></rsm:ExchangedDocumentContext><rsm:ExchangedDocument><ram:ID>A1</ram:ID><ram:TypeCode>380</ram:TypeCode><ram:IssueDateTime><udt:DateTimeString format=" ++ ((34 ∷ []) ++ (codes "102" ++ ((34 ∷ []) ++ (codes ">20240501</udt:DateTimeString></ram:IssueDateTime><ram:IncludedNote><ram:Content>y</ram:Content><ram:SubjectCode>toolong</ram:SubjectCode></ram:IncludedNote><ram:IncludedNote><ram:Content>#AAI#x</ram:Content></ram:IncludedNote></rsm:ExchangedDocument><rsm:SupplyChainTradeTransaction><ram:IncludedSupplyChainTradeLineItem><ram:AssociatedDocumentLineDocument><ram:LineID>1</ram:LineID></ram:AssociatedDocumentLineDocument><ram:SpecifiedTradeProduct><ram:Name>Pen</ram:Name></ram:SpecifiedTradeProduct><ram:SpecifiedLineTradeAgreement><ram:NetPriceProductTradePrice><ram:ChargeAmount>10.00</ram:ChargeAmount></ram:NetPriceProductTradePrice></ram:SpecifiedLineTradeAgreement><ram:SpecifiedLineTradeDelivery><ram:BilledQuantity unitCode=" ++ ((34 ∷ []) ++ (codes "C62" ++ ((34 ∷ []) ++ (codes ">1</ram:BilledQuantity></ram:SpecifiedLineTradeDelivery><ram:SpecifiedLineTradeSettlement><ram:ApplicableTradeTax><ram:TypeCode>VAT</ram:TypeCode><ram:CategoryCode>S</ram:CategoryCode></ram:ApplicableTradeTax><ram:SpecifiedTradeSettlementLineMonetarySummation><ram:LineTotalAmount>10.00</ram:LineTotalAmount></ram:SpecifiedTradeSettlementLineMonetarySummation></ram:SpecifiedLineTradeSettlement></ram:IncludedSupplyChainTradeLineItem><ram:ApplicableHeaderTradeAgreement><ram:SellerTradeParty><ram:Name>Seller</ram:Name><ram:PostalTradeAddress><ram:CountryID>DE</ram:CountryID></ram:PostalTradeAddress></ram:SellerTradeParty><ram:BuyerTradeParty><ram:Name>Buyer</ram:Name><ram:PostalTradeAddress><ram:CountryID>FR</ram:CountryID></ram:PostalTradeAddress></ram:BuyerTradeParty></ram:ApplicableHeaderTradeAgreement><ram:ApplicableHeaderTradeDelivery/><ram:ApplicableHeaderTradeSettlement><ram:InvoiceCurrencyCode>EUR</ram:InvoiceCurrencyCode><ram:ApplicableTradeTax><ram:CalculatedAmount>2.00</ram:CalculatedAmount><ram:TypeCode>VAT</ram:TypeCode><ram:BasisAmount>10.00</ram:BasisAmount><ram:CategoryCode>S</ram:CategoryCode></ram:ApplicableTradeTax><ram:SpecifiedTradeSettlementHeaderMonetarySummation><ram:LineTotalAmount>10.00</ram:LineTotalAmount><ram:TaxBasisTotalAmount>10.00</ram:TaxBasisTotalAmount><ram:GrandTotalAmount>12.00</ram:GrandTotalAmount><ram:DuePayableAmount>12.00</ram:DuePayableAmount></ram:SpecifiedTradeSettlementHeaderMonetarySummation></ram:ApplicableHeaderTradeSettlement></rsm:SupplyChainTradeTransaction></rsm:CrossIndustryInvoice>"))))))))))))))))))))))))) ≡ codes "condition 4 BT-21"
unfolding document first_fault beginning extent character_at referred reference_at is_qname comment section is_declaration instruction attribute_at tag_inside
    value_in_tag start_tag end_tag state_behind events_of fault_of read resume is_utf8 chars encode_utf8 is_char is_white_space is_name_start is_name_char
    tree_of_events read_scaled read_decimal scaled_text decimal_text read_dashed_day read_plain_day dashed_day_text value_of terms_of terms extension_rows
    listing_rows occurrence_of parent_of day_from first_row invoice_rows credit_note_rows cii_rows invoice_listing credit_note_listing cii_listing written_units
    digits last_digits
row16 = refl

-- row5-convert
row17 : carried invoice_rows syntaxes.Ubl (codes "<Invoice xmlns=" ++
    ((34 ∷ []) ++ (codes "urn:oasis:names:specification:ubl:schema:xsd:Invoice-2" ++
    ((34 ∷ []) ++ (codes " xmlns:cac=" ++
    ((34 ∷ []) ++ (codes "urn:oasis:names:specification:ubl:schema:xsd:CommonAggregateComponents-2" ++
    ((34 ∷ []) ++ (codes " xmlns:cbc=" ++
    ((34 ∷ []) ++ (codes "urn:oasis:names:specification:ubl:schema:xsd:CommonBasicComponents-2" ++
    ((34 ∷ []) ++ (codes "><cbc:CustomizationID>urn:cen.eu:en16931:2017</cbc:CustomizationID><cbc:ID>A1</cbc:ID><cbc:IssueDate>2024-05-01</cbc:IssueDate><cbc:InvoiceTypeCode>380</cbc:InvoiceTypeCode><cbc:DocumentCurrencyCode>EUR</cbc:DocumentCurrencyCode><cac:AccountingSupplierParty><cac:Party><cac:PostalAddress><cac:Country><cbc:IdentificationCode>DE</cbc:IdentificationCode></cac:Country></cac:PostalAddress><cac:PartyLegalEntity><cbc:RegistrationName>Seller</cbc:RegistrationName></cac:PartyLegalEntity></cac:Party></cac:AccountingSupplierParty><cac:AccountingCustomerParty><cac:Party><cac:PostalAddress><cac:Country><cbc:IdentificationCode>FR</cbc:IdentificationCode></cac:Country></cac:PostalAddress><cac:PartyLegalEntity><cbc:RegistrationName>Buyer</cbc:RegistrationName></cac:PartyLegalEntity></cac:Party></cac:AccountingCustomerParty><cac:TaxTotal><cac:TaxSubtotal><cbc:TaxableAmount currencyID=" ++ ((34 ∷ []) ++ (codes "EUR" ++ ((34 ∷ []) ++ (codes ">10.00</cbc:TaxableAmount><cbc:TaxAmount currencyID=" ++ ((34 ∷ []) ++ (codes "EUR" ++ ((34 ∷ []) ++ (codes ">2.00</cbc:TaxAmount><cac:TaxCategory><cbc:ID>S</cbc:ID><cac:TaxScheme><cbc:ID>VAT</cbc:ID></cac:TaxScheme></cac:TaxCategory></cac:TaxSubtotal></cac:TaxTotal><cac:LegalMonetaryTotal><cbc:LineExtensionAmount currencyID=" ++ ((34 ∷ []) ++ (codes "EUR" ++ ((34 ∷ []) ++ (codes ">10.00</cbc:LineExtensionAmount><cbc:TaxExclusiveAmount currencyID=" ++ ((34 ∷ []) ++ (codes "EUR" ++ ((34 ∷ []) ++ (codes ">10.00</cbc:TaxExclusiveAmount><cbc:TaxInclusiveAmount currencyID=" ++ ((34 ∷ []) ++ (codes "EUR" ++ ((34 ∷ []) ++ (codes ">12.00</cbc:TaxInclusiveAmount><cbc:PayableAmount currencyID=" ++ ((34 ∷ []) ++ (codes "EUR" ++ ((34 ∷ []) ++ (codes ">12.00</cbc:PayableAmount></cac:LegalMonetaryTotal><cac:InvoiceLine><cbc:ID>1</cbc:ID><cbc:InvoicedQuantity unitCode=" ++ ((34 ∷ []) ++ (codes "C62" ++ ((34 ∷ []) ++ (codes ">1</cbc:InvoicedQuantity><cbc:LineExtensionAmount currencyID=" ++ ((34 ∷ []) ++ (codes "EUR" ++ ((34 ∷ []) ++ (codes ">10.00</cbc:LineExtensionAmount><cac:Item><cbc:Name>Pen</cbc:Name><cac:ClassifiedTaxCategory><cbc:ID>S</cbc:ID><cac:TaxScheme><cbc:ID>VAT</cbc:ID></cac:TaxScheme></cac:ClassifiedTaxCategory></cac:Item><cac:Price><cbc:PriceAmount currencyID=" ++ ((34 ∷ []) ++ (codes "EUR" ++ ((34 ∷ []) ++ (codes ">10.00</cbc:PriceAmount></cac:Price></cac:InvoiceLine></Invoice>"))))))))))))))))))))))))))))))))))))))))))))))))) ≡ codes "carried"
unfolding document first_fault beginning extent character_at referred reference_at is_qname comment section is_declaration instruction attribute_at tag_inside
    value_in_tag start_tag end_tag state_behind events_of fault_of read resume is_utf8 chars encode_utf8 is_char is_white_space is_name_start is_name_char
    tree_of_events read_scaled read_decimal scaled_text decimal_text read_dashed_day read_plain_day dashed_day_text value_of terms_of terms extension_rows
    listing_rows occurrence_of parent_of day_from first_row invoice_rows credit_note_rows cii_rows invoice_listing credit_note_listing cii_listing written_units
    digits last_digits document_of document_text declaration_line in_value in_text plain_day_text
row17 = refl

-- means-only-83-cii
row18 : carried invoice_rows syntaxes.Cii (codes "<Invoice xmlns=" ++
    ((34 ∷ []) ++ (codes "urn:oasis:names:specification:ubl:schema:xsd:Invoice-2" ++
    ((34 ∷ []) ++ (codes " xmlns:cac=" ++
    ((34 ∷ []) ++ (codes "urn:oasis:names:specification:ubl:schema:xsd:CommonAggregateComponents-2" ++
    ((34 ∷ []) ++ (codes " xmlns:cbc=" ++
    ((34 ∷ []) ++ (codes "urn:oasis:names:specification:ubl:schema:xsd:CommonBasicComponents-2" ++
    ((34 ∷ []) ++ (codes "><cbc:CustomizationID>urn:cen.eu:en16931:2017</cbc:CustomizationID><cbc:ID>A1</cbc:ID><cbc:IssueDate>2024-05-01</cbc:IssueDate><cbc:InvoiceTypeCode>380</cbc:InvoiceTypeCode><cbc:DocumentCurrencyCode>EUR</cbc:DocumentCurrencyCode><cac:AccountingSupplierParty><cac:Party><cac:PostalAddress><cac:Country><cbc:IdentificationCode>DE</cbc:IdentificationCode></cac:Country></cac:PostalAddress><cac:PartyLegalEntity><cbc:RegistrationName>Seller</cbc:RegistrationName></cac:PartyLegalEntity></cac:Party></cac:AccountingSupplierParty><cac:AccountingCustomerParty><cac:Party><cac:PostalAddress><cac:Country><cbc:IdentificationCode>FR</cbc:IdentificationCode></cac:Country></cac:PostalAddress><cac:PartyLegalEntity><cbc:RegistrationName>Buyer</cbc:RegistrationName></cac:PartyLegalEntity></cac:Party></cac:AccountingCustomerParty><cac:PaymentMeans><cbc:PaymentID>R</cbc:PaymentID></cac:PaymentMeans><cac:TaxTotal><cac:TaxSubtotal><cbc:TaxableAmount currencyID=" ++ ((34 ∷ []) ++ (codes "EUR" ++ ((34 ∷ []) ++ (codes ">10.00</cbc:TaxableAmount><cbc:TaxAmount currencyID=" ++ ((34 ∷ []) ++ (codes "EUR" ++ ((34 ∷ []) ++ (codes ">2.00</cbc:TaxAmount><cac:TaxCategory><cbc:ID>S</cbc:ID><cac:TaxScheme><cbc:ID>VAT</cbc:ID></cac:TaxScheme></cac:TaxCategory></cac:TaxSubtotal></cac:TaxTotal><cac:LegalMonetaryTotal><cbc:LineExtensionAmount currencyID=" ++ ((34 ∷ []) ++ (codes "EUR" ++ ((34 ∷ []) ++ (codes ">10.00</cbc:LineExtensionAmount><cbc:TaxExclusiveAmount currencyID=" ++ ((34 ∷ []) ++ (codes "EUR" ++ ((34 ∷ []) ++ (codes ">10.00</cbc:TaxExclusiveAmount><cbc:TaxInclusiveAmount currencyID=" ++ ((34 ∷ []) ++ (codes "EUR" ++ ((34 ∷ []) ++ (codes ">12.00</cbc:TaxInclusiveAmount><cbc:PayableAmount currencyID=" ++ ((34 ∷ []) ++ (codes "EUR" ++ ((34 ∷ []) ++ (codes ">12.00</cbc:PayableAmount></cac:LegalMonetaryTotal><cac:InvoiceLine><cbc:ID>1</cbc:ID><cbc:InvoicedQuantity unitCode=" ++ ((34 ∷ []) ++ (codes "C62" ++ ((34 ∷ []) ++ (codes ">1</cbc:InvoicedQuantity><cbc:LineExtensionAmount currencyID=" ++ ((34 ∷ []) ++ (codes "EUR" ++ ((34 ∷ []) ++ (codes ">10.00</cbc:LineExtensionAmount><cac:Item><cbc:Name>Pen</cbc:Name><cac:ClassifiedTaxCategory><cbc:ID>S</cbc:ID><cac:TaxScheme><cbc:ID>VAT</cbc:ID></cac:TaxScheme></cac:ClassifiedTaxCategory></cac:Item><cac:Price><cbc:PriceAmount currencyID=" ++ ((34 ∷ []) ++ (codes "EUR" ++ ((34 ∷ []) ++ (codes ">10.00</cbc:PriceAmount></cac:Price></cac:InvoiceLine></Invoice>"))))))))))))))))))))))))))))))))))))))))))))))))) ≡ codes "carried"
unfolding document first_fault beginning extent character_at referred reference_at is_qname comment section is_declaration instruction attribute_at tag_inside
    value_in_tag start_tag end_tag state_behind events_of fault_of read resume is_utf8 chars encode_utf8 is_char is_white_space is_name_start is_name_char
    tree_of_events read_scaled read_decimal scaled_text decimal_text read_dashed_day read_plain_day dashed_day_text value_of terms_of terms extension_rows
    listing_rows occurrence_of parent_of day_from first_row invoice_rows credit_note_rows cii_rows invoice_listing credit_note_listing cii_listing written_units
    digits last_digits document_of document_text declaration_line in_value in_text plain_day_text
row18 = refl

-- row17-cii
row19 : carried credit_note_rows syntaxes.Cii (codes "<CreditNote xmlns=" ++
    ((34 ∷ []) ++ (codes "urn:oasis:names:specification:ubl:schema:xsd:CreditNote-2" ++
    ((34 ∷ []) ++ (codes " xmlns:cac=" ++
    ((34 ∷ []) ++ (codes "urn:oasis:names:specification:ubl:schema:xsd:CommonAggregateComponents-2" ++
    ((34 ∷ []) ++ (codes " xmlns:cbc=" ++
    ((34 ∷ []) ++ (codes "urn:oasis:names:specification:ubl:schema:xsd:CommonBasicComponents-2" ++
    ((34 ∷ []) ++ (codes "><cbc:CustomizationID>urn:cen.eu:en16931:2017</cbc:CustomizationID><cbc:ID>A1</cbc:ID><cbc:IssueDate>2024-05-01</cbc:IssueDate><cbc:CreditNoteTypeCode>381</cbc:CreditNoteTypeCode><cbc:DocumentCurrencyCode>EUR</cbc:DocumentCurrencyCode><cac:AccountingSupplierParty><cac:Party><cac:PostalAddress><cac:Country><cbc:IdentificationCode>DE</cbc:IdentificationCode></cac:Country></cac:PostalAddress><cac:PartyLegalEntity><cbc:RegistrationName>Seller</cbc:RegistrationName></cac:PartyLegalEntity></cac:Party></cac:AccountingSupplierParty><cac:AccountingCustomerParty><cac:Party><cac:PostalAddress><cac:Country><cbc:IdentificationCode>FR</cbc:IdentificationCode></cac:Country></cac:PostalAddress><cac:PartyLegalEntity><cbc:RegistrationName>Buyer</cbc:RegistrationName></cac:PartyLegalEntity></cac:Party></cac:AccountingCustomerParty><cac:PaymentMeans><cbc:PaymentMeansCode>30</cbc:PaymentMeansCode><cbc:PaymentDueDate>2024-06-01</cbc:PaymentDueDate></cac:PaymentMeans><cac:TaxTotal><cac:TaxSubtotal><cbc:TaxableAmount currencyID=" ++ ((34 ∷ []) ++ (codes "EUR" ++ ((34 ∷ []) ++ (codes ">10.00</cbc:TaxableAmount><cbc:TaxAmount currencyID=" ++ ((34 ∷ []) ++ (codes "EUR" ++ ((34 ∷ []) ++ (codes ">2.00</cbc:TaxAmount><cac:TaxCategory><cbc:ID>S</cbc:ID><cac:TaxScheme><cbc:ID>VAT</cbc:ID></cac:TaxScheme></cac:TaxCategory></cac:TaxSubtotal></cac:TaxTotal><cac:LegalMonetaryTotal><cbc:LineExtensionAmount currencyID=" ++ ((34 ∷ []) ++ (codes "EUR" ++ ((34 ∷ []) ++ (codes ">10.00</cbc:LineExtensionAmount><cbc:TaxExclusiveAmount currencyID=" ++ ((34 ∷ []) ++ (codes "EUR" ++ ((34 ∷ []) ++ (codes ">10.00</cbc:TaxExclusiveAmount><cbc:TaxInclusiveAmount currencyID=" ++ ((34 ∷ []) ++ (codes "EUR" ++ ((34 ∷ []) ++ (codes ">12.00</cbc:TaxInclusiveAmount><cbc:PayableAmount currencyID=" ++ ((34 ∷ []) ++ (codes "EUR" ++ ((34 ∷ []) ++ (codes ">12.00</cbc:PayableAmount></cac:LegalMonetaryTotal><cac:CreditNoteLine><cbc:ID>1</cbc:ID><cbc:CreditedQuantity unitCode=" ++ ((34 ∷ []) ++ (codes "C62" ++ ((34 ∷ []) ++ (codes ">1</cbc:CreditedQuantity><cbc:LineExtensionAmount currencyID=" ++ ((34 ∷ []) ++ (codes "EUR" ++ ((34 ∷ []) ++ (codes ">10.00</cbc:LineExtensionAmount><cac:Item><cbc:Name>Pen</cbc:Name><cac:ClassifiedTaxCategory><cbc:ID>S</cbc:ID><cac:TaxScheme><cbc:ID>VAT</cbc:ID></cac:TaxScheme></cac:ClassifiedTaxCategory></cac:Item><cac:Price><cbc:PriceAmount currencyID=" ++ ((34 ∷ []) ++ (codes "EUR" ++ ((34 ∷ []) ++ (codes ">10.00</cbc:PriceAmount></cac:Price></cac:CreditNoteLine></CreditNote>"))))))))))))))))))))))))))))))))))))))))))))))))) ≡ codes "carried"
unfolding document first_fault beginning extent character_at referred reference_at is_qname comment section is_declaration instruction attribute_at tag_inside
    value_in_tag start_tag end_tag state_behind events_of fault_of read resume is_utf8 chars encode_utf8 is_char is_white_space is_name_start is_name_char
    tree_of_events read_scaled read_decimal scaled_text decimal_text read_dashed_day read_plain_day dashed_day_text value_of terms_of terms extension_rows
    listing_rows occurrence_of parent_of day_from first_row invoice_rows credit_note_rows cii_rows invoice_listing credit_note_listing cii_listing written_units
    digits last_digits document_of document_text declaration_line in_value in_text plain_day_text
row19 = refl

-- r5-381-later
row20 : carried invoice_rows syntaxes.Ubl (codes "<Invoice xmlns=" ++
    ((34 ∷ []) ++ (codes "urn:oasis:names:specification:ubl:schema:xsd:Invoice-2" ++
    ((34 ∷ []) ++ (codes " xmlns:cac=" ++
    ((34 ∷ []) ++ (codes "urn:oasis:names:specification:ubl:schema:xsd:CommonAggregateComponents-2" ++
    ((34 ∷ []) ++ (codes " xmlns:cbc=" ++
    ((34 ∷ []) ++ (codes "urn:oasis:names:specification:ubl:schema:xsd:CommonBasicComponents-2" ++
    ((34 ∷ []) ++ (codes "><cbc:CustomizationID>urn:cen.eu:en16931:2017</cbc:CustomizationID><cbc:ID>A1</cbc:ID><cbc:IssueDate>2024-05-01</cbc:IssueDate><cbc:InvoiceTypeCode>381</cbc:InvoiceTypeCode><cbc:DocumentCurrencyCode>EUR</cbc:DocumentCurrencyCode><cac:AccountingSupplierParty><cac:Party><cac:PostalAddress><cac:Country><cbc:IdentificationCode>DE</cbc:IdentificationCode></cac:Country></cac:PostalAddress><cac:PartyLegalEntity><cbc:RegistrationName>Seller</cbc:RegistrationName></cac:PartyLegalEntity></cac:Party></cac:AccountingSupplierParty><cac:AccountingCustomerParty><cac:Party><cac:PostalAddress><cac:Country><cbc:IdentificationCode>FR</cbc:IdentificationCode></cac:Country></cac:PostalAddress><cac:PartyLegalEntity><cbc:RegistrationName>Buyer</cbc:RegistrationName></cac:PartyLegalEntity></cac:Party></cac:AccountingCustomerParty><cac:TaxTotal><cac:TaxSubtotal><cbc:TaxableAmount currencyID=" ++ ((34 ∷ []) ++ (codes "EUR" ++ ((34 ∷ []) ++ (codes ">10.00</cbc:TaxableAmount><cbc:TaxAmount currencyID=" ++ ((34 ∷ []) ++ (codes "EUR" ++ ((34 ∷ []) ++ (codes ">2.00</cbc:TaxAmount><cac:TaxCategory><cbc:ID>S</cbc:ID><cac:TaxScheme><cbc:ID>VAT</cbc:ID></cac:TaxScheme></cac:TaxCategory></cac:TaxSubtotal></cac:TaxTotal><cac:LegalMonetaryTotal><cbc:LineExtensionAmount currencyID=" ++ ((34 ∷ []) ++ (codes "EUR" ++ ((34 ∷ []) ++ (codes ">10.00</cbc:LineExtensionAmount><cbc:TaxExclusiveAmount currencyID=" ++ ((34 ∷ []) ++ (codes "EUR" ++ ((34 ∷ []) ++ (codes ">10.00</cbc:TaxExclusiveAmount><cbc:TaxInclusiveAmount currencyID=" ++ ((34 ∷ []) ++ (codes "EUR" ++ ((34 ∷ []) ++ (codes ">12.00</cbc:TaxInclusiveAmount><cbc:PayableAmount currencyID=" ++ ((34 ∷ []) ++ (codes "EUR" ++ ((34 ∷ []) ++ (codes ">12.00</cbc:PayableAmount></cac:LegalMonetaryTotal><cac:InvoiceLine><cbc:ID>1</cbc:ID><cbc:InvoicedQuantity unitCode=" ++ ((34 ∷ []) ++ (codes "C62" ++ ((34 ∷ []) ++ (codes ">1</cbc:InvoicedQuantity><cbc:LineExtensionAmount currencyID=" ++ ((34 ∷ []) ++ (codes "EUR" ++ ((34 ∷ []) ++ (codes ">10.00</cbc:LineExtensionAmount><cac:Item><cbc:Name>Pen</cbc:Name><cac:ClassifiedTaxCategory><cbc:ID>S</cbc:ID><cac:TaxScheme><cbc:ID>VAT</cbc:ID></cac:TaxScheme></cac:ClassifiedTaxCategory></cac:Item><cac:Price><cbc:PriceAmount currencyID=" ++ ((34 ∷ []) ++ (codes "EUR" ++ ((34 ∷ []) ++ (codes ">10.00</cbc:PriceAmount></cac:Price></cac:InvoiceLine></Invoice>"))))))))))))))))))))))))))))))))))))))))))))))))) ≡ codes "carried"
unfolding document first_fault beginning extent character_at referred reference_at is_qname comment section is_declaration instruction attribute_at tag_inside
    value_in_tag start_tag end_tag state_behind events_of fault_of read resume is_utf8 chars encode_utf8 is_char is_white_space is_name_start is_name_char
    tree_of_events read_scaled read_decimal scaled_text decimal_text read_dashed_day read_plain_day dashed_day_text value_of terms_of terms extension_rows
    listing_rows occurrence_of parent_of day_from first_row invoice_rows credit_note_rows cii_rows invoice_listing credit_note_listing cii_listing written_units
    digits last_digits document_of document_text declaration_line in_value in_text plain_day_text
row20 = refl

-- ---- a term that a user added: EXT-1 is 1001

entry_at : Context → ℕ → Entry
entry_at c n = record { context = c; term = record { number = n; part = 0 }; value = values.Text [] }

entry : ℕ → Entry
entry n = entry_at root_context n

-- it is refused behind all other conditions, at its first entry
extension_alone : entries_carried cii_rows (entry 1002 ∷ entry 1003 ∷ []) ≡ Err (record { condition = 9; term = Some (record { number = 1002; part = 0 }) })
unfolding entry_at entry cii_rows cii_listing
extension_alone = refl

extension_behind_part : entries_carried cii_rows (entry 111 ∷ entry 1001 ∷ []) ≡ Err (record { condition = 7; term = Some (record { number = 111; part = 0 }) })
unfolding entry_at entry cii_rows cii_listing
extension_behind_part = refl

-- 1100 is no such term
no_hundredth : entries_carried cii_rows (entry 1100 ∷ []) ≡ Ok tt
unfolding entry_at entry cii_rows cii_listing
no_hundredth = refl

-- a row that a user added, of EXT-1
own_row : Option Group → DataType → Row
own_row outer data_type = record {
  path = [];
  leaf = leaves.Element;
  outer = outer;
  inner = None;
  content = contents.Term (record { number = 1001; part = 0 });
  form = forms.Typed data_type;
  repeats = repeat.Once;
  written = written.Always;
  check = checks.Nothing;
}

refused : Result (Unit {0}) NotCarried
refused = Err (record { condition = 9; term = Some (record { number = 1001; part = 0 }) })

line : Context
line = record { outer = Some (record { group = groups.InvoiceLine; index = 1 }); inner = None }

-- it is carried by a row of its groups and of its value's type alone
own_carried : entries_carried (cii_rows ++ (own_row None data_types.T ∷ [])) (entry 1001 ∷ []) ≡ Ok tt
unfolding entry_at entry own_row cii_rows cii_listing
own_carried = refl

own_of_another : entries_carried (cii_rows ++ (own_row None data_types.T ∷ [])) (entry 1001 ∷ entry 1002 ∷ []) ≡ Err
    (record { condition = 9; term = Some (record { number = 1002; part = 0 }) })
unfolding entry_at entry own_row cii_rows cii_listing
own_of_another = refl

own_of_type : entries_carried (cii_rows ++ (own_row None data_types.I ∷ [])) (entry 1001 ∷ []) ≡ refused
unfolding entry_at entry own_row refused cii_rows cii_listing
own_of_type = refl

own_of_line : entries_carried (cii_rows ++ (own_row (Some groups.InvoiceLine) data_types.T ∷ [])) (entry 1001 ∷ []) ≡ refused
unfolding entry_at entry own_row refused cii_rows cii_listing
own_of_line = refl

own_in_line : entries_carried (cii_rows ++ (own_row (Some groups.InvoiceLine) data_types.T ∷ [])) (entry_at line 1001 ∷ []) ≡ Ok tt
unfolding entry_at own_row line cii_rows cii_listing
own_in_line = refl

own_around_line : entries_carried (cii_rows ++ (own_row None data_types.T ∷ [])) (entry_at line 1001 ∷ []) ≡ refused
unfolding entry_at own_row refused line cii_rows cii_listing
own_around_line = refl

-- a row with a mark is none that a user added
own_marked : entries_carried (cii_rows ++ (record (own_row None data_types.T) { repeats = repeat.Spread } ∷ [])) (entry 1001 ∷ []) ≡ refused
unfolding entry_at entry own_row refused cii_rows cii_listing
own_marked = refl
