-- Documents with what of them is unread, misplaced and passed over: the definitions compute these.
use Rattle.std.specs.Prelude.{ℕ, ◌≡◌, List, [], ◌∷◌, ◌++◌, codes, refl}
use Prim.Native.String.{String}
use Rattle.inv_base.specs.Tree.{Name, Forest, no_more, a_text, an_element, document_nodes, Node}
use Rattle.bind_rows.specs.declared.rows.Row.{Row}
use Rattle.bind_meaning.specs.Losses.{unread_nodes, misplaced_nodes}
use Rattle.bind_meaning.specs.Faults.{passed_nodes}
use Rattle.bind_meaning.specs.Said.{is_said}
use Rattle.inv_base.specs.Characters.{is_char, is_white_space}
use Rattle.term_table.specs.SemanticModel.{terms, extension_rows, listing_rows}
use Rattle.ubl_binding.specs.Tables.{invoice_rows, credit_note_rows, invoice_listing, credit_note_listing}
use Rattle.cii_binding.specs.Table.{cii_rows, cii_listing}

abbrev inv : String → Name
inv local = record { uri = codes "urn:oasis:names:specification:ubl:schema:xsd:Invoice-2"; local = codes local }

abbrev crn : String → Name
crn local = record { uri = codes "urn:oasis:names:specification:ubl:schema:xsd:CreditNote-2"; local = codes local }

abbrev cac : String → Name
cac local = record { uri = codes "urn:oasis:names:specification:ubl:schema:xsd:CommonAggregateComponents-2"; local = codes local }

abbrev cbc : String → Name
cbc local = record { uri = codes "urn:oasis:names:specification:ubl:schema:xsd:CommonBasicComponents-2"; local = codes local }

abbrev rsm : String → Name
rsm local = record { uri = codes "urn:un:unece:uncefact:data:standard:CrossIndustryInvoice:100"; local = codes local }

abbrev ram : String → Name
ram local = record { uri = codes "urn:un:unece:uncefact:data:standard:ReusableAggregateBusinessInformationEntity:100"; local = codes local }

abbrev udt : String → Name
udt local = record { uri = codes "urn:un:unece:uncefact:data:standard:UnqualifiedDataType:100"; local = codes local }

abbrev qdt : String → Name
qdt local = record { uri = codes "urn:un:unece:uncefact:data:standard:QualifiedDataType:100"; local = codes local }

pub record Losses : Type 0 where
  pub unread : List ℕ
  pub misplaced : List ℕ
  pub passed : List ℕ

abbrev losses : List Row → Forest → Losses
losses rows tree = let nodes : List Node = document_nodes tree in
    record { unread = unread_nodes nodes rows; misplaced = misplaced_nodes nodes rows; passed = passed_nodes nodes rows }

seller_two_schemes : losses invoice_rows
    (an_element (inv "Invoice") [] (a_text (((10 ∷ []) ++ codes " ")) (an_element (cbc "CustomizationID") [] (a_text (codes "urn:cen.eu:en16931:2017") no_more) (a_text (((10 ∷ []) ++ codes " ")) (an_element (cbc "ID") [] (a_text (codes "F-2026-1") no_more) (a_text (((10 ∷ []) ++ codes " ")) (an_element (cbc "IssueDate") [] (a_text (codes "2026-03-02") no_more) (a_text (((10 ∷ []) ++ codes " ")) (an_element (cbc "DueDate") [] (a_text (codes "2026-04-01") no_more) (a_text (((10 ∷ []) ++ codes " ")) (an_element (cbc "InvoiceTypeCode") [] (a_text (codes "380") no_more) (a_text (((10 ∷ []) ++ codes " ")) (an_element (cbc "DocumentCurrencyCode") [] (a_text (codes "EUR") no_more) (a_text (((10 ∷ []) ++ codes " ")) (an_element (cbc "BuyerReference") [] (a_text (codes "Office 4") no_more) (a_text (((10 ∷ []) ++ codes " ")) (an_element (cac "AccountingSupplierParty") [] (a_text (((10 ∷ []) ++ codes "  ")) (an_element (cac "Party") [] (a_text (((10 ∷ []) ++ codes "   ")) (an_element (cbc "EndpointID") (record { name = (record { uri = []; local = codes "schemeID" }); value = codes "EM" } ∷ []) (a_text (codes "a@nord.example") no_more) (a_text (((10 ∷ []) ++ codes "   ")) (an_element (cac "PostalAddress") [] (a_text (((10 ∷ []) ++ codes "    ")) (an_element (cac "Country") [] (a_text (((10 ∷ []) ++ codes "     ")) (an_element (cbc "IdentificationCode") [] (a_text (codes "DE") no_more) (a_text (((10 ∷ []) ++ codes "    ")) no_more))) (a_text (((10 ∷ []) ++ codes "   ")) no_more))) (a_text (((10 ∷ []) ++ codes "   ")) (an_element (cac "PartyTaxScheme") [] (a_text (((10 ∷ []) ++ codes "    ")) (an_element (cbc "CompanyID") [] (a_text (codes "DE123456789") no_more) (an_element (cac "TaxScheme") [] (an_element (cbc "ID") [] (a_text (codes "GST") no_more) no_more) (a_text (((10 ∷ []) ++ codes "    ")) (an_element (cac "TaxScheme") [] (a_text (((10 ∷ []) ++ codes "     ")) (an_element (cbc "ID") [] (a_text (codes "VAT") no_more) (a_text (((10 ∷ []) ++ codes "    ")) no_more))) (a_text (((10 ∷ []) ++ codes "   ")) no_more)))))) (a_text (((10 ∷ []) ++ codes "   ")) (an_element (cac "PartyLegalEntity") [] (a_text (((10 ∷ []) ++ codes "    ")) (an_element (cbc "RegistrationName") [] (a_text (codes "Atelier Nord GmbH") no_more) (a_text (((10 ∷ []) ++ codes "   ")) no_more))) (a_text (((10 ∷ []) ++ codes "  ")) no_more))))))))) (a_text (((10 ∷ []) ++ codes " ")) no_more))) (a_text (((10 ∷ []) ++ codes " ")) (an_element (cac "AccountingCustomerParty") [] (a_text (((10 ∷ []) ++ codes "  ")) (an_element (cac "Party") [] (a_text (((10 ∷ []) ++ codes "   ")) (an_element (cbc "EndpointID") (record { name = (record { uri = []; local = codes "schemeID" }); value = codes "EM" } ∷ []) (a_text (codes "p@rhone.example") no_more) (a_text (((10 ∷ []) ++ codes "   ")) (an_element (cac "PostalAddress") [] (a_text (((10 ∷ []) ++ codes "    ")) (an_element (cac "Country") [] (a_text (((10 ∷ []) ++ codes "     ")) (an_element (cbc "IdentificationCode") [] (a_text (codes "FR") no_more) (a_text (((10 ∷ []) ++ codes "    ")) no_more))) (a_text (((10 ∷ []) ++ codes "   ")) no_more))) (a_text (((10 ∷ []) ++ codes "   ")) (an_element (cac "PartyLegalEntity") [] (a_text (((10 ∷ []) ++ codes "    ")) (an_element (cbc "RegistrationName") [] (a_text ((codes "Papiers du Rh" ++ ((244 ∷ []) ++ codes "ne"))) no_more) (a_text (((10 ∷ []) ++ codes "   ")) no_more))) (a_text (((10 ∷ []) ++ codes "  ")) no_more))))))) (a_text (((10 ∷ []) ++ codes " ")) no_more))) (a_text (((10 ∷ []) ++ codes " ")) (an_element (cac "PaymentMeans") [] (a_text (((10 ∷ []) ++ codes "  ")) (an_element (cbc "PaymentMeansCode") [] (a_text (codes "30") no_more) (a_text (((10 ∷ []) ++ codes "  ")) (an_element (cac "PayeeFinancialAccount") [] (a_text (((10 ∷ []) ++ codes "   ")) (an_element (cbc "ID") [] (a_text (codes "DE89370400440532013000") no_more) (a_text (((10 ∷ []) ++ codes "  ")) no_more))) (a_text (((10 ∷ []) ++ codes " ")) no_more))))) (a_text (((10 ∷ []) ++ codes " ")) (an_element (cac "TaxTotal") [] (a_text (((10 ∷ []) ++ codes "  ")) (an_element (cbc "TaxAmount") (record { name = (record { uri = []; local = codes "currencyID" }); value = codes "EUR" } ∷ []) (a_text (codes "34.20") no_more) (a_text (((10 ∷ []) ++ codes "  ")) (an_element (cac "TaxSubtotal") [] (a_text (((10 ∷ []) ++ codes "   ")) (an_element (cbc "TaxableAmount") (record { name = (record { uri = []; local = codes "currencyID" }); value = codes "EUR" } ∷ []) (a_text (codes "180.00") no_more) (a_text (((10 ∷ []) ++ codes "   ")) (an_element (cbc "TaxAmount") (record { name = (record { uri = []; local = codes "currencyID" }); value = codes "EUR" } ∷ []) (a_text (codes "34.20") no_more) (a_text (((10 ∷ []) ++ codes "   ")) (an_element (cac "TaxCategory") [] (a_text (((10 ∷ []) ++ codes "    ")) (an_element (cbc "ID") [] (a_text (codes "S") no_more) (a_text (((10 ∷ []) ++ codes "    ")) (an_element (cbc "Percent") [] (a_text (codes "19") no_more) (a_text (((10 ∷ []) ++ codes "    ")) (an_element (cac "TaxScheme") [] (a_text (((10 ∷ []) ++ codes "     ")) (an_element (cbc "ID") [] (a_text (codes "VAT") no_more) (a_text (((10 ∷ []) ++ codes "    ")) no_more))) (a_text (((10 ∷ []) ++ codes "   ")) no_more))))))) (a_text (((10 ∷ []) ++ codes "  ")) no_more))))))) (a_text (((10 ∷ []) ++ codes " ")) no_more))))) (a_text (((10 ∷ []) ++ codes " ")) (an_element (cac "LegalMonetaryTotal") [] (a_text (((10 ∷ []) ++ codes "  ")) (an_element (cbc "LineExtensionAmount") (record { name = (record { uri = []; local = codes "currencyID" }); value = codes "EUR" } ∷ []) (a_text (codes "180.00") no_more) (a_text (((10 ∷ []) ++ codes "  ")) (an_element (cbc "TaxExclusiveAmount") (record { name = (record { uri = []; local = codes "currencyID" }); value = codes "EUR" } ∷ []) (a_text (codes "180.00") no_more) (a_text (((10 ∷ []) ++ codes "  ")) (an_element (cbc "TaxInclusiveAmount") (record { name = (record { uri = []; local = codes "currencyID" }); value = codes "EUR" } ∷ []) (a_text (codes "214.20") no_more) (a_text (((10 ∷ []) ++ codes "  ")) (an_element (cbc "PayableAmount") (record { name = (record { uri = []; local = codes "currencyID" }); value = codes "EUR" } ∷ []) (a_text (codes "214.20") no_more) (a_text (((10 ∷ []) ++ codes " ")) no_more))))))))) (a_text (((10 ∷ []) ++ codes " ")) (an_element (cac "InvoiceLine") [] (a_text (((10 ∷ []) ++ codes "  ")) (an_element (cbc "ID") [] (a_text (codes "1") no_more) (a_text (((10 ∷ []) ++ codes "  ")) (an_element (cbc "InvoicedQuantity") (record { name = (record { uri = []; local = codes "unitCode" }); value = codes "HUR" } ∷ []) (a_text (codes "2") no_more) (a_text (((10 ∷ []) ++ codes "  ")) (an_element (cbc "LineExtensionAmount") (record { name = (record { uri = []; local = codes "currencyID" }); value = codes "EUR" } ∷ []) (a_text (codes "180.00") no_more) (a_text (((10 ∷ []) ++ codes "  ")) (an_element (cac "Item") [] (a_text (((10 ∷ []) ++ codes "   ")) (an_element (cbc "Name") [] (a_text (codes "Drawing") no_more) (a_text (((10 ∷ []) ++ codes "   ")) (an_element (cac "ClassifiedTaxCategory") [] (a_text (((10 ∷ []) ++ codes "    ")) (an_element (cbc "ID") [] (a_text (codes "S") no_more) (a_text (((10 ∷ []) ++ codes "    ")) (an_element (cbc "Percent") [] (a_text (codes "19") no_more) (a_text (((10 ∷ []) ++ codes "    ")) (an_element (cac "TaxScheme") [] (a_text (((10 ∷ []) ++ codes "     ")) (an_element (cbc "ID") [] (a_text (codes "VAT") no_more) (a_text (((10 ∷ []) ++ codes "    ")) no_more))) (a_text (((10 ∷ []) ++ codes "   ")) no_more))))))) (a_text (((10 ∷ []) ++ codes "  ")) no_more))))) (a_text (((10 ∷ []) ++ codes "  ")) (an_element (cac "Price") [] (a_text (((10 ∷ []) ++ codes "   ")) (an_element (cbc "PriceAmount") (record { name = (record { uri = []; local = codes "currencyID" }); value = codes "EUR" } ∷ []) (a_text (codes "90.00") no_more) (a_text (((10 ∷ []) ++ codes "  ")) no_more))) (a_text (((10 ∷ []) ++ codes " ")) no_more))))))))))) (a_text ((10 ∷ [])) no_more))))))))))))))))))))))))))) no_more)
    ≡ record { unread = 46 ∷ []; misplaced = []; passed = [] }
unfolding unread_nodes misplaced_nodes passed_nodes is_said invoice_rows credit_note_rows cii_rows invoice_listing credit_note_listing cii_listing is_char is_white_space
    terms extension_rows listing_rows
seller_two_schemes = refl

indicator_both : losses invoice_rows
    (an_element (inv "Invoice") [] (a_text (((10 ∷ []) ++ codes " ")) (an_element (cbc "CustomizationID") [] (a_text (codes "urn:cen.eu:en16931:2017") no_more) (a_text (((10 ∷ []) ++ codes " ")) (an_element (cbc "ID") [] (a_text (codes "F-2026-1") no_more) (a_text (((10 ∷ []) ++ codes " ")) (an_element (cbc "IssueDate") [] (a_text (codes "2026-03-02") no_more) (a_text (((10 ∷ []) ++ codes " ")) (an_element (cbc "DueDate") [] (a_text (codes "2026-04-01") no_more) (a_text (((10 ∷ []) ++ codes " ")) (an_element (cbc "InvoiceTypeCode") [] (a_text (codes "380") no_more) (a_text (((10 ∷ []) ++ codes " ")) (an_element (cbc "DocumentCurrencyCode") [] (a_text (codes "EUR") no_more) (a_text (((10 ∷ []) ++ codes " ")) (an_element (cbc "BuyerReference") [] (a_text (codes "Office 4") no_more) (a_text (((10 ∷ []) ++ codes " ")) (an_element (cac "AccountingSupplierParty") [] (a_text (((10 ∷ []) ++ codes "  ")) (an_element (cac "Party") [] (a_text (((10 ∷ []) ++ codes "   ")) (an_element (cbc "EndpointID") (record { name = (record { uri = []; local = codes "schemeID" }); value = codes "EM" } ∷ []) (a_text (codes "a@nord.example") no_more) (a_text (((10 ∷ []) ++ codes "   ")) (an_element (cac "PostalAddress") [] (a_text (((10 ∷ []) ++ codes "    ")) (an_element (cac "Country") [] (a_text (((10 ∷ []) ++ codes "     ")) (an_element (cbc "IdentificationCode") [] (a_text (codes "DE") no_more) (a_text (((10 ∷ []) ++ codes "    ")) no_more))) (a_text (((10 ∷ []) ++ codes "   ")) no_more))) (a_text (((10 ∷ []) ++ codes "   ")) (an_element (cac "PartyTaxScheme") [] (a_text (((10 ∷ []) ++ codes "    ")) (an_element (cbc "CompanyID") [] (a_text (codes "DE123456789") no_more) (a_text (((10 ∷ []) ++ codes "    ")) (an_element (cac "TaxScheme") [] (a_text (((10 ∷ []) ++ codes "     ")) (an_element (cbc "ID") [] (a_text (codes "VAT") no_more) (a_text (((10 ∷ []) ++ codes "    ")) no_more))) (a_text (((10 ∷ []) ++ codes "   ")) no_more))))) (a_text (((10 ∷ []) ++ codes "   ")) (an_element (cac "PartyTaxScheme") [] (a_text (((10 ∷ []) ++ codes "    ")) (an_element (cbc "CompanyID") [] (a_text (codes "201/113/40209") no_more) (a_text (((10 ∷ []) ++ codes "    ")) (an_element (cac "TaxScheme") [] (a_text (((10 ∷ []) ++ codes "     ")) (an_element (cbc "ID") [] (a_text (codes "TAX") no_more) (a_text (((10 ∷ []) ++ codes "    ")) no_more))) (a_text (((10 ∷ []) ++ codes "   ")) no_more))))) (a_text (((10 ∷ []) ++ codes "   ")) (an_element (cac "PartyLegalEntity") [] (a_text (((10 ∷ []) ++ codes "    ")) (an_element (cbc "RegistrationName") [] (a_text (codes "Atelier Nord GmbH") no_more) (a_text (((10 ∷ []) ++ codes "   ")) no_more))) (a_text (((10 ∷ []) ++ codes "  ")) no_more))))))))))) (a_text (((10 ∷ []) ++ codes " ")) no_more))) (a_text (((10 ∷ []) ++ codes " ")) (an_element (cac "AccountingCustomerParty") [] (a_text (((10 ∷ []) ++ codes "  ")) (an_element (cac "Party") [] (a_text (((10 ∷ []) ++ codes "   ")) (an_element (cbc "EndpointID") (record { name = (record { uri = []; local = codes "schemeID" }); value = codes "EM" } ∷ []) (a_text (codes "p@rhone.example") no_more) (a_text (((10 ∷ []) ++ codes "   ")) (an_element (cac "PostalAddress") [] (a_text (((10 ∷ []) ++ codes "    ")) (an_element (cac "Country") [] (a_text (((10 ∷ []) ++ codes "     ")) (an_element (cbc "IdentificationCode") [] (a_text (codes "FR") no_more) (a_text (((10 ∷ []) ++ codes "    ")) no_more))) (a_text (((10 ∷ []) ++ codes "   ")) no_more))) (a_text (((10 ∷ []) ++ codes "   ")) (an_element (cac "PartyLegalEntity") [] (a_text (((10 ∷ []) ++ codes "    ")) (an_element (cbc "RegistrationName") [] (a_text ((codes "Papiers du Rh" ++ ((244 ∷ []) ++ codes "ne"))) no_more) (a_text (((10 ∷ []) ++ codes "   ")) no_more))) (a_text (((10 ∷ []) ++ codes "  ")) no_more))))))) (a_text (((10 ∷ []) ++ codes " ")) no_more))) (a_text (((10 ∷ []) ++ codes " ")) (an_element (cac "PaymentMeans") [] (a_text (((10 ∷ []) ++ codes "  ")) (an_element (cbc "PaymentMeansCode") [] (a_text (codes "30") no_more) (a_text (((10 ∷ []) ++ codes "  ")) (an_element (cac "PayeeFinancialAccount") [] (a_text (((10 ∷ []) ++ codes "   ")) (an_element (cbc "ID") [] (a_text (codes "DE89370400440532013000") no_more) (a_text (((10 ∷ []) ++ codes "  ")) no_more))) (a_text (((10 ∷ []) ++ codes " ")) no_more))))) (a_text (((10 ∷ []) ++ codes " ")) (an_element (cac "TaxTotal") [] (a_text (((10 ∷ []) ++ codes "  ")) (an_element (cbc "TaxAmount") (record { name = (record { uri = []; local = codes "currencyID" }); value = codes "EUR" } ∷ []) (a_text (codes "34.20") no_more) (a_text (((10 ∷ []) ++ codes "  ")) (an_element (cac "TaxSubtotal") [] (a_text (((10 ∷ []) ++ codes "   ")) (an_element (cbc "TaxableAmount") (record { name = (record { uri = []; local = codes "currencyID" }); value = codes "EUR" } ∷ []) (a_text (codes "180.00") no_more) (a_text (((10 ∷ []) ++ codes "   ")) (an_element (cbc "TaxAmount") (record { name = (record { uri = []; local = codes "currencyID" }); value = codes "EUR" } ∷ []) (a_text (codes "34.20") no_more) (a_text (((10 ∷ []) ++ codes "   ")) (an_element (cac "TaxCategory") [] (a_text (((10 ∷ []) ++ codes "    ")) (an_element (cbc "ID") [] (a_text (codes "S") no_more) (a_text (((10 ∷ []) ++ codes "    ")) (an_element (cbc "Percent") [] (a_text (codes "19") no_more) (a_text (((10 ∷ []) ++ codes "    ")) (an_element (cac "TaxScheme") [] (a_text (((10 ∷ []) ++ codes "     ")) (an_element (cbc "ID") [] (a_text (codes "VAT") no_more) (a_text (((10 ∷ []) ++ codes "    ")) no_more))) (a_text (((10 ∷ []) ++ codes "   ")) no_more))))))) (a_text (((10 ∷ []) ++ codes "  ")) no_more))))))) (a_text (((10 ∷ []) ++ codes " ")) no_more))))) (a_text (((10 ∷ []) ++ codes " ")) (an_element (cac "LegalMonetaryTotal") [] (a_text (((10 ∷ []) ++ codes "  ")) (an_element (cbc "LineExtensionAmount") (record { name = (record { uri = []; local = codes "currencyID" }); value = codes "EUR" } ∷ []) (a_text (codes "180.00") no_more) (a_text (((10 ∷ []) ++ codes "  ")) (an_element (cbc "TaxExclusiveAmount") (record { name = (record { uri = []; local = codes "currencyID" }); value = codes "EUR" } ∷ []) (a_text (codes "180.00") no_more) (a_text (((10 ∷ []) ++ codes "  ")) (an_element (cbc "TaxInclusiveAmount") (record { name = (record { uri = []; local = codes "currencyID" }); value = codes "EUR" } ∷ []) (a_text (codes "214.20") no_more) (a_text (((10 ∷ []) ++ codes "  ")) (an_element (cbc "PayableAmount") (record { name = (record { uri = []; local = codes "currencyID" }); value = codes "EUR" } ∷ []) (a_text (codes "214.20") no_more) (a_text (((10 ∷ []) ++ codes " ")) no_more))))))))) (a_text (((10 ∷ []) ++ codes " ")) (an_element (cac "InvoiceLine") [] (a_text (((10 ∷ []) ++ codes "  ")) (an_element (cbc "ID") [] (a_text (codes "1") no_more) (a_text (((10 ∷ []) ++ codes "  ")) (an_element (cbc "InvoicedQuantity") (record { name = (record { uri = []; local = codes "unitCode" }); value = codes "HUR" } ∷ []) (a_text (codes "2") no_more) (a_text (((10 ∷ []) ++ codes "  ")) (an_element (cbc "LineExtensionAmount") (record { name = (record { uri = []; local = codes "currencyID" }); value = codes "EUR" } ∷ []) (a_text (codes "180.00") no_more) (a_text ((10 ∷ [])) (an_element (cac "AllowanceCharge") [] (an_element (cbc "ChargeIndicator") [] (a_text (codes "false") no_more) (an_element (cbc "ChargeIndicator") [] (a_text (codes "true") no_more) (an_element (cbc "AllowanceChargeReason") [] (a_text (codes "R") no_more) (an_element (cbc "Amount") (record { name = (record { uri = []; local = codes "currencyID" }); value = codes "EUR" } ∷ []) (a_text (codes "0.00") no_more) no_more)))) (a_text (((10 ∷ []) ++ codes "  ")) (an_element (cac "Item") [] (a_text (((10 ∷ []) ++ codes "   ")) (an_element (cbc "Name") [] (a_text (codes "Drawing") no_more) (a_text (((10 ∷ []) ++ codes "   ")) (an_element (cac "ClassifiedTaxCategory") [] (a_text (((10 ∷ []) ++ codes "    ")) (an_element (cbc "ID") [] (a_text (codes "S") no_more) (a_text (((10 ∷ []) ++ codes "    ")) (an_element (cbc "Percent") [] (a_text (codes "19") no_more) (a_text (((10 ∷ []) ++ codes "    ")) (an_element (cac "TaxScheme") [] (a_text (((10 ∷ []) ++ codes "     ")) (an_element (cbc "ID") [] (a_text (codes "VAT") no_more) (a_text (((10 ∷ []) ++ codes "    ")) no_more))) (a_text (((10 ∷ []) ++ codes "   ")) no_more))))))) (a_text (((10 ∷ []) ++ codes "  ")) no_more))))) (a_text (((10 ∷ []) ++ codes "  ")) (an_element (cac "Price") [] (a_text (((10 ∷ []) ++ codes "   ")) (an_element (cbc "PriceAmount") (record { name = (record { uri = []; local = codes "currencyID" }); value = codes "EUR" } ∷ []) (a_text (codes "90.00") no_more) (a_text (((10 ∷ []) ++ codes "  ")) no_more))) (a_text (((10 ∷ []) ++ codes " ")) no_more))))))))))))) (a_text ((10 ∷ [])) no_more))))))))))))))))))))))))))) no_more)
    ≡ record { unread = 176 ∷ []; misplaced = []; passed = [] }
unfolding unread_nodes misplaced_nodes passed_nodes is_said invoice_rows credit_note_rows cii_rows invoice_listing credit_note_listing cii_listing is_char is_white_space
    terms extension_rows listing_rows
indicator_both = refl

passed_then_unread : losses invoice_rows
    (an_element (inv "Invoice") [] (a_text ((10 ∷ [])) (an_element (cbc "UUID") [] (a_text (codes "1") no_more) (a_text (((10 ∷ []) ++ codes " ")) (an_element (cbc "CustomizationID") [] (a_text (codes "urn:cen.eu:en16931:2017") no_more) (a_text (((10 ∷ []) ++ codes " ")) (an_element (cbc "ID") [] (a_text (codes "F-2026-1") no_more) (a_text (((10 ∷ []) ++ codes " ")) (an_element (cbc "IssueDate") [] (a_text (codes "2026-03-02") no_more) (a_text (((10 ∷ []) ++ codes " ")) (an_element (cbc "DueDate") [] (a_text (codes "2026-04-01") no_more) (a_text (((10 ∷ []) ++ codes " ")) (an_element (cbc "InvoiceTypeCode") [] (a_text (codes "380") no_more) (a_text (((10 ∷ []) ++ codes " ")) (an_element (cbc "DocumentCurrencyCode") [] (a_text (codes "EUR") no_more) (a_text (((10 ∷ []) ++ codes " ")) (an_element (cbc "BuyerReference") [] (a_text (codes "Office 4") no_more) (a_text (((10 ∷ []) ++ codes " ")) (an_element (cac "AccountingSupplierParty") [] (a_text (((10 ∷ []) ++ codes "  ")) (an_element (cac "Party") [] (a_text (((10 ∷ []) ++ codes "   ")) (an_element (cbc "EndpointID") (record { name = (record { uri = []; local = codes "schemeID" }); value = codes "EM" } ∷ []) (a_text (codes "a@nord.example") no_more) (a_text (((10 ∷ []) ++ codes "   ")) (an_element (cac "PostalAddress") [] (a_text (((10 ∷ []) ++ codes "    ")) (an_element (cac "Country") [] (a_text (((10 ∷ []) ++ codes "     ")) (an_element (cbc "IdentificationCode") [] (a_text (codes "DE") no_more) (a_text (((10 ∷ []) ++ codes "    ")) no_more))) (a_text (((10 ∷ []) ++ codes "   ")) no_more))) (a_text (((10 ∷ []) ++ codes "   ")) (an_element (cac "PartyTaxScheme") [] (a_text (((10 ∷ []) ++ codes "    ")) (an_element (cbc "CompanyID") [] (a_text (codes "DE123456789") no_more) (a_text (((10 ∷ []) ++ codes "    ")) (an_element (cac "TaxScheme") [] (a_text (((10 ∷ []) ++ codes "     ")) (an_element (cbc "ID") [] (a_text (codes "VAT") no_more) (a_text (((10 ∷ []) ++ codes "    ")) no_more))) (a_text (((10 ∷ []) ++ codes "   ")) no_more))))) (a_text (((10 ∷ []) ++ codes "   ")) (an_element (cac "PartyTaxScheme") [] (a_text (((10 ∷ []) ++ codes "    ")) (an_element (cbc "CompanyID") [] (a_text (codes "201/113/40209") no_more) (a_text (((10 ∷ []) ++ codes "    ")) (an_element (cac "TaxScheme") [] (a_text (((10 ∷ []) ++ codes "     ")) (an_element (cbc "ID") [] (a_text (codes "TAX") no_more) (a_text (((10 ∷ []) ++ codes "    ")) no_more))) (a_text (((10 ∷ []) ++ codes "   ")) no_more))))) (a_text (((10 ∷ []) ++ codes "   ")) (an_element (cac "PartyLegalEntity") [] (a_text (((10 ∷ []) ++ codes "    ")) (an_element (cbc "RegistrationName") [] (a_text (codes "Atelier Nord GmbH") no_more) (a_text (((10 ∷ []) ++ codes "   ")) no_more))) (a_text (((10 ∷ []) ++ codes "  ")) no_more))))))))))) (a_text (((10 ∷ []) ++ codes " ")) no_more))) (a_text (((10 ∷ []) ++ codes " ")) (an_element (cac "AccountingCustomerParty") [] (a_text (((10 ∷ []) ++ codes "  ")) (an_element (cac "Party") [] (a_text (((10 ∷ []) ++ codes "   ")) (an_element (cbc "EndpointID") (record { name = (record { uri = []; local = codes "schemeID" }); value = codes "EM" } ∷ []) (a_text (codes "p@rhone.example") no_more) (a_text (((10 ∷ []) ++ codes "   ")) (an_element (cac "PostalAddress") [] (a_text (((10 ∷ []) ++ codes "    ")) (an_element (cac "Country") [] (a_text (((10 ∷ []) ++ codes "     ")) (an_element (cbc "IdentificationCode") [] (a_text (codes "FR") no_more) (a_text (((10 ∷ []) ++ codes "    ")) no_more))) (a_text (((10 ∷ []) ++ codes "   ")) no_more))) (a_text (((10 ∷ []) ++ codes "   ")) (an_element (cac "PartyLegalEntity") [] (a_text (((10 ∷ []) ++ codes "    ")) (an_element (cbc "RegistrationName") [] (a_text ((codes "Papiers du Rh" ++ ((244 ∷ []) ++ codes "ne"))) no_more) (a_text (((10 ∷ []) ++ codes "   ")) no_more))) (a_text (((10 ∷ []) ++ codes "  ")) no_more))))))) (a_text (((10 ∷ []) ++ codes " ")) no_more))) (a_text (((10 ∷ []) ++ codes " ")) (an_element (cac "PaymentMeans") [] (a_text (((10 ∷ []) ++ codes "  ")) (an_element (cbc "PaymentMeansCode") [] (a_text (codes "30") no_more) (a_text (((10 ∷ []) ++ codes "  ")) (an_element (cac "PayeeFinancialAccount") [] (a_text (((10 ∷ []) ++ codes "   ")) (an_element (cbc "ID") [] (a_text (codes "DE89370400440532013000") no_more) (a_text (((10 ∷ []) ++ codes "  ")) no_more))) (a_text (((10 ∷ []) ++ codes " ")) no_more))))) (a_text (((10 ∷ []) ++ codes " ")) (an_element (cac "TaxTotal") [] (a_text (((10 ∷ []) ++ codes "  ")) (an_element (cbc "TaxAmount") (record { name = (record { uri = []; local = codes "currencyID" }); value = codes "EUR" } ∷ []) (a_text (codes "34.20") no_more) (a_text (((10 ∷ []) ++ codes "  ")) (an_element (cac "TaxSubtotal") [] (a_text (((10 ∷ []) ++ codes "   ")) (an_element (cbc "TaxableAmount") (record { name = (record { uri = []; local = codes "currencyID" }); value = codes "EUR" } ∷ []) (a_text (codes "180.00") no_more) (a_text (((10 ∷ []) ++ codes "   ")) (an_element (cbc "TaxAmount") (record { name = (record { uri = []; local = codes "currencyID" }); value = codes "EUR" } ∷ []) (a_text (codes "34.20") no_more) (a_text (((10 ∷ []) ++ codes "   ")) (an_element (cac "TaxCategory") [] (a_text (((10 ∷ []) ++ codes "    ")) (an_element (cbc "ID") [] (a_text (codes "S") no_more) (a_text (((10 ∷ []) ++ codes "    ")) (an_element (cbc "Percent") [] (a_text (codes "19") no_more) (a_text (((10 ∷ []) ++ codes "    ")) (an_element (cac "TaxScheme") [] (a_text (((10 ∷ []) ++ codes "     ")) (an_element (cbc "ID") [] (a_text (codes "VAT") no_more) (a_text (((10 ∷ []) ++ codes "    ")) no_more))) (a_text (((10 ∷ []) ++ codes "   ")) no_more))))))) (a_text (((10 ∷ []) ++ codes "  ")) no_more))))))) (a_text (((10 ∷ []) ++ codes " ")) no_more))))) (a_text (((10 ∷ []) ++ codes " ")) (an_element (cac "LegalMonetaryTotal") [] (a_text (((10 ∷ []) ++ codes "  ")) (an_element (cbc "LineExtensionAmount") (record { name = (record { uri = []; local = codes "currencyID" }); value = codes "EUR" } ∷ []) (a_text (codes "180.00") no_more) (a_text (((10 ∷ []) ++ codes "  ")) (an_element (cbc "TaxExclusiveAmount") (record { name = (record { uri = []; local = codes "currencyID" }); value = codes "EUR" } ∷ []) (a_text (codes "180.00") no_more) (a_text (((10 ∷ []) ++ codes "  ")) (an_element (cbc "TaxInclusiveAmount") (record { name = (record { uri = []; local = codes "currencyID" }); value = codes "EUR" } ∷ []) (a_text (codes "214.20") no_more) (a_text (((10 ∷ []) ++ codes "  ")) (an_element (cbc "PayableAmount") (record { name = (record { uri = []; local = codes "currencyID" }); value = codes "EUR" } ∷ []) (a_text (codes "214.20") no_more) (a_text (((10 ∷ []) ++ codes " ")) no_more))))))))) (a_text (((10 ∷ []) ++ codes " ")) (an_element (cac "InvoiceLine") [] (a_text (((10 ∷ []) ++ codes "  ")) (an_element (cbc "ID") [] (a_text (codes "1") no_more) (a_text (((10 ∷ []) ++ codes "  ")) (an_element (cbc "InvoicedQuantity") (record { name = (record { uri = []; local = codes "unitCode" }); value = codes "HUR" } ∷ []) (a_text (codes "2") no_more) (a_text (((10 ∷ []) ++ codes "  ")) (an_element (cbc "LineExtensionAmount") (record { name = (record { uri = []; local = codes "currencyID" }); value = codes "EUR" } ∷ []) (a_text (codes "180.00") no_more) (a_text (((10 ∷ []) ++ codes "  ")) (an_element (cac "Item") [] (a_text (((10 ∷ []) ++ codes "   ")) (an_element (cbc "Name") (record { name = (record { uri = []; local = codes "languageID" }); value = codes "en" } ∷ []) (a_text (codes "Drawing") no_more) (a_text (((10 ∷ []) ++ codes "   ")) (an_element (cac "ClassifiedTaxCategory") [] (a_text (((10 ∷ []) ++ codes "    ")) (an_element (cbc "ID") [] (a_text (codes "S") no_more) (a_text (((10 ∷ []) ++ codes "    ")) (an_element (cbc "Percent") [] (a_text (codes "19") no_more) (a_text (((10 ∷ []) ++ codes "    ")) (an_element (cac "TaxScheme") [] (a_text (((10 ∷ []) ++ codes "     ")) (an_element (cbc "ID") [] (a_text (codes "VAT") no_more) (a_text (((10 ∷ []) ++ codes "    ")) no_more))) (a_text (((10 ∷ []) ++ codes "   ")) no_more))))))) (a_text (((10 ∷ []) ++ codes "  ")) no_more))))) (a_text (((10 ∷ []) ++ codes "  ")) (an_element (cac "Price") [] (a_text (((10 ∷ []) ++ codes "   ")) (an_element (cbc "PriceAmount") (record { name = (record { uri = []; local = codes "currencyID" }); value = codes "EUR" } ∷ []) (a_text (codes "90.00") no_more) (a_text (((10 ∷ []) ++ codes "  ")) no_more))) (a_text (((10 ∷ []) ++ codes " ")) no_more))))))))))) (a_text ((10 ∷ [])) no_more))))))))))))))))))))))))))))) no_more)
    ≡ record { unread = 181 ∷ []; misplaced = []; passed = 3 ∷ [] }
unfolding unread_nodes misplaced_nodes passed_nodes is_said invoice_rows credit_note_rows cii_rows invoice_listing credit_note_listing cii_listing is_char is_white_space
    terms extension_rows listing_rows
passed_then_unread = refl

cii_format_2 : losses cii_rows
    (an_element (rsm "CrossIndustryInvoice") [] (a_text (((10 ∷ []) ++ codes " ")) (an_element (rsm "ExchangedDocumentContext") [] (a_text (((10 ∷ []) ++ codes "  ")) (an_element (ram "GuidelineSpecifiedDocumentContextParameter") [] (a_text (((10 ∷ []) ++ codes "   ")) (an_element (ram "ID") [] (a_text (codes "urn:cen.eu:en16931:2017") no_more) (a_text (((10 ∷ []) ++ codes "  ")) no_more))) (a_text (((10 ∷ []) ++ codes " ")) no_more))) (a_text (((10 ∷ []) ++ codes " ")) (an_element (rsm "ExchangedDocument") [] (a_text (((10 ∷ []) ++ codes "  ")) (an_element (ram "ID") [] (a_text (codes "F-2026-1") no_more) (a_text (((10 ∷ []) ++ codes "  ")) (an_element (ram "TypeCode") [] (a_text (codes "380") no_more) (a_text (((10 ∷ []) ++ codes "  ")) (an_element (ram "IssueDateTime") [] (a_text (((10 ∷ []) ++ codes "   ")) (an_element (udt "DateTimeString") (record { name = (record { uri = []; local = codes "format" }); value = [] } ∷ []) (a_text (codes "20260302") no_more) (a_text (((10 ∷ []) ++ codes "  ")) no_more))) (a_text (((10 ∷ []) ++ codes " ")) no_more))))))) (a_text (((10 ∷ []) ++ codes " ")) (an_element (rsm "SupplyChainTradeTransaction") [] (a_text (((10 ∷ []) ++ codes "  ")) (an_element (ram "IncludedSupplyChainTradeLineItem") [] (a_text (((10 ∷ []) ++ codes "   ")) (an_element (ram "AssociatedDocumentLineDocument") [] (a_text (((10 ∷ []) ++ codes "    ")) (an_element (ram "LineID") [] (a_text (codes "1") no_more) (a_text (((10 ∷ []) ++ codes "   ")) no_more))) (a_text (((10 ∷ []) ++ codes "   ")) (an_element (ram "SpecifiedTradeProduct") [] (a_text (((10 ∷ []) ++ codes "    ")) (an_element (ram "Name") [] (a_text (codes "Drawing") no_more) (a_text (((10 ∷ []) ++ codes "   ")) no_more))) (a_text (((10 ∷ []) ++ codes "   ")) (an_element (ram "SpecifiedLineTradeAgreement") [] (a_text (((10 ∷ []) ++ codes "    ")) (an_element (ram "NetPriceProductTradePrice") [] (a_text (((10 ∷ []) ++ codes "     ")) (an_element (ram "ChargeAmount") [] (a_text (codes "90.00") no_more) (a_text (((10 ∷ []) ++ codes "    ")) no_more))) (a_text (((10 ∷ []) ++ codes "   ")) no_more))) (a_text (((10 ∷ []) ++ codes "   ")) (an_element (ram "SpecifiedLineTradeDelivery") [] (a_text (((10 ∷ []) ++ codes "    ")) (an_element (ram "BilledQuantity") (record { name = (record { uri = []; local = codes "unitCode" }); value = codes "HUR" } ∷ []) (a_text (codes "2") no_more) (a_text (((10 ∷ []) ++ codes "   ")) no_more))) (a_text (((10 ∷ []) ++ codes "   ")) (an_element (ram "SpecifiedLineTradeSettlement") [] (a_text (((10 ∷ []) ++ codes "    ")) (an_element (ram "ApplicableTradeTax") [] (a_text (((10 ∷ []) ++ codes "     ")) (an_element (ram "TypeCode") [] (a_text (codes "VAT") no_more) (a_text (((10 ∷ []) ++ codes "     ")) (an_element (ram "CategoryCode") [] (a_text (codes "S") no_more) (a_text (((10 ∷ []) ++ codes "     ")) (an_element (ram "RateApplicablePercent") [] (a_text (codes "19") no_more) (a_text (((10 ∷ []) ++ codes "    ")) no_more))))))) (a_text (((10 ∷ []) ++ codes "    ")) (an_element (ram "SpecifiedTradeSettlementLineMonetarySummation") [] (a_text (((10 ∷ []) ++ codes "     ")) (an_element (ram "LineTotalAmount") [] (a_text (codes "180.00") no_more) (a_text (((10 ∷ []) ++ codes "    ")) no_more))) (a_text (((10 ∷ []) ++ codes "   ")) no_more))))) (a_text (((10 ∷ []) ++ codes "  ")) no_more))))))))))) (a_text (((10 ∷ []) ++ codes "  ")) (an_element (ram "ApplicableHeaderTradeAgreement") [] (a_text (((10 ∷ []) ++ codes "   ")) (an_element (ram "BuyerReference") [] (a_text (codes "Office 4") no_more) (a_text (((10 ∷ []) ++ codes "   ")) (an_element (ram "SellerTradeParty") [] (a_text (((10 ∷ []) ++ codes "    ")) (an_element (ram "Name") [] (a_text (codes "Atelier Nord GmbH") no_more) (a_text (((10 ∷ []) ++ codes "    ")) (an_element (ram "PostalTradeAddress") [] (a_text (((10 ∷ []) ++ codes "     ")) (an_element (ram "CountryID") [] (a_text (codes "DE") no_more) (a_text (((10 ∷ []) ++ codes "    ")) no_more))) (a_text (((10 ∷ []) ++ codes "    ")) (an_element (ram "URIUniversalCommunication") [] (a_text (((10 ∷ []) ++ codes "     ")) (an_element (ram "URIID") (record { name = (record { uri = []; local = codes "schemeID" }); value = codes "EM" } ∷ []) (a_text (codes "a@nord.example") no_more) (a_text (((10 ∷ []) ++ codes "    ")) no_more))) (a_text (((10 ∷ []) ++ codes "    ")) (an_element (ram "SpecifiedTaxRegistration") [] (a_text (((10 ∷ []) ++ codes "     ")) (an_element (ram "ID") (record { name = (record { uri = []; local = codes "schemeID" }); value = codes "VA" } ∷ []) (a_text (codes "DE123456789") no_more) (a_text (((10 ∷ []) ++ codes "    ")) no_more))) (a_text (((10 ∷ []) ++ codes "    ")) (an_element (ram "SpecifiedTaxRegistration") [] (a_text (((10 ∷ []) ++ codes "     ")) (an_element (ram "ID") (record { name = (record { uri = []; local = codes "schemeID" }); value = codes "FC" } ∷ []) (a_text (codes "201/113/40209") no_more) (a_text (((10 ∷ []) ++ codes "    ")) no_more))) (a_text (((10 ∷ []) ++ codes "   ")) no_more))))))))))) (a_text (((10 ∷ []) ++ codes "   ")) (an_element (ram "BuyerTradeParty") [] (a_text (((10 ∷ []) ++ codes "    ")) (an_element (ram "Name") [] (a_text ((codes "Papiers du Rh" ++ ((244 ∷ []) ++ codes "ne"))) no_more) (a_text (((10 ∷ []) ++ codes "    ")) (an_element (ram "PostalTradeAddress") [] (a_text (((10 ∷ []) ++ codes "     ")) (an_element (ram "CountryID") [] (a_text (codes "FR") no_more) (a_text (((10 ∷ []) ++ codes "    ")) no_more))) (a_text (((10 ∷ []) ++ codes "    ")) (an_element (ram "URIUniversalCommunication") [] (a_text (((10 ∷ []) ++ codes "     ")) (an_element (ram "URIID") (record { name = (record { uri = []; local = codes "schemeID" }); value = codes "EM" } ∷ []) (a_text (codes "p@rhone.example") no_more) (a_text (((10 ∷ []) ++ codes "    ")) no_more))) (a_text (((10 ∷ []) ++ codes "   ")) no_more))))))) (a_text (((10 ∷ []) ++ codes "  ")) no_more))))))) (a_text (((10 ∷ []) ++ codes "  ")) (an_element (ram "ApplicableHeaderTradeDelivery") [] no_more (a_text (((10 ∷ []) ++ codes "  ")) (an_element (ram "ApplicableHeaderTradeSettlement") [] (a_text (((10 ∷ []) ++ codes "   ")) (an_element (ram "InvoiceCurrencyCode") [] (a_text (codes "EUR") no_more) (a_text (((10 ∷ []) ++ codes "   ")) (an_element (ram "SpecifiedTradeSettlementPaymentMeans") [] (a_text (((10 ∷ []) ++ codes "    ")) (an_element (ram "TypeCode") [] (a_text (codes "30") no_more) (a_text (((10 ∷ []) ++ codes "    ")) (an_element (ram "PayeePartyCreditorFinancialAccount") [] (a_text (((10 ∷ []) ++ codes "     ")) (an_element (ram "IBANID") [] (a_text (codes "DE89370400440532013000") no_more) (a_text (((10 ∷ []) ++ codes "    ")) no_more))) (a_text (((10 ∷ []) ++ codes "   ")) no_more))))) (a_text (((10 ∷ []) ++ codes "   ")) (an_element (ram "ApplicableTradeTax") [] (a_text (((10 ∷ []) ++ codes "    ")) (an_element (ram "CalculatedAmount") [] (a_text (codes "34.20") no_more) (a_text (((10 ∷ []) ++ codes "    ")) (an_element (ram "TypeCode") [] (a_text (codes "VAT") no_more) (a_text (((10 ∷ []) ++ codes "    ")) (an_element (ram "BasisAmount") [] (a_text (codes "180.00") no_more) (a_text (((10 ∷ []) ++ codes "    ")) (an_element (ram "CategoryCode") [] (a_text (codes "S") no_more) (a_text (((10 ∷ []) ++ codes "    ")) (an_element (ram "RateApplicablePercent") [] (a_text (codes "19") no_more) (a_text (((10 ∷ []) ++ codes "   ")) no_more))))))))))) (a_text (((10 ∷ []) ++ codes "   ")) (an_element (ram "SpecifiedTradePaymentTerms") [] (a_text (((10 ∷ []) ++ codes "    ")) (an_element (ram "DueDateDateTime") [] (a_text (((10 ∷ []) ++ codes "     ")) (an_element (udt "DateTimeString") (record { name = (record { uri = []; local = codes "format" }); value = codes "102" } ∷ []) (a_text (codes "20260401") no_more) (a_text (((10 ∷ []) ++ codes "    ")) no_more))) (a_text (((10 ∷ []) ++ codes "   ")) no_more))) (a_text (((10 ∷ []) ++ codes "   ")) (an_element (ram "SpecifiedTradeSettlementHeaderMonetarySummation") [] (a_text (((10 ∷ []) ++ codes "    ")) (an_element (ram "LineTotalAmount") [] (a_text (codes "180.00") no_more) (a_text (((10 ∷ []) ++ codes "    ")) (an_element (ram "TaxBasisTotalAmount") [] (a_text (codes "180.00") no_more) (a_text (((10 ∷ []) ++ codes "    ")) (an_element (ram "TaxTotalAmount") (record { name = (record { uri = []; local = codes "currencyID" }); value = codes "EUR" } ∷ []) (a_text (codes "34.20") no_more) (a_text (((10 ∷ []) ++ codes "    ")) (an_element (ram "GrandTotalAmount") [] (a_text (codes "214.20") no_more) (a_text (((10 ∷ []) ++ codes "    ")) (an_element (ram "DuePayableAmount") [] (a_text (codes "214.20") no_more) (a_text (((10 ∷ []) ++ codes "   ")) no_more))))))))))) (a_text (((10 ∷ []) ++ codes "  ")) no_more))))))))))) (a_text (((10 ∷ []) ++ codes " ")) no_more))))))))) (a_text ((10 ∷ [])) no_more))))))) no_more)
    ≡ record { unread = []; misplaced = []; passed = [] }
unfolding unread_nodes misplaced_nodes passed_nodes is_said invoice_rows credit_note_rows cii_rows invoice_listing credit_note_listing cii_listing is_char is_white_space
    terms extension_rows listing_rows
cii_format_2 = refl

misplaced_line_first : losses invoice_rows
    (an_element (inv "Invoice") [] (a_text (((10 ∷ []) ++ codes " ")) (an_element (cbc "CustomizationID") [] (a_text (codes "urn:cen.eu:en16931:2017") no_more) (a_text (((10 ∷ []) ++ codes " ")) (an_element (cbc "ID") [] (a_text (codes "F-2026-1") no_more) (a_text (((10 ∷ []) ++ codes " ")) (an_element (cbc "IssueDate") [] (a_text (codes "2026-03-02") no_more) (a_text (((10 ∷ []) ++ codes " ")) (an_element (cbc "DueDate") [] (a_text (codes "2026-04-01") no_more) (a_text (((10 ∷ []) ++ codes " ")) (an_element (cbc "InvoiceTypeCode") [] (a_text (codes "380") no_more) (a_text (((10 ∷ []) ++ codes " ")) (an_element (cbc "DocumentCurrencyCode") [] (a_text (codes "EUR") no_more) (a_text (((10 ∷ []) ++ codes " ")) (an_element (cbc "BuyerReference") [] (a_text (codes "Office 4") no_more) (a_text (((10 ∷ []) ++ codes " ")) (an_element (cac "InvoiceLine") [] (a_text (((10 ∷ []) ++ codes "  ")) (an_element (cbc "ID") [] (a_text (codes "1") no_more) (a_text (((10 ∷ []) ++ codes "  ")) (an_element (cbc "InvoicedQuantity") (record { name = (record { uri = []; local = codes "unitCode" }); value = codes "HUR" } ∷ []) (a_text (codes "2") no_more) (a_text (((10 ∷ []) ++ codes "  ")) (an_element (cbc "LineExtensionAmount") (record { name = (record { uri = []; local = codes "currencyID" }); value = codes "EUR" } ∷ []) (a_text (codes "180.00") no_more) (a_text (((10 ∷ []) ++ codes "  ")) (an_element (cac "Item") [] (a_text (((10 ∷ []) ++ codes "   ")) (an_element (cbc "Name") [] (a_text (codes "Drawing") no_more) (a_text (((10 ∷ []) ++ codes "   ")) (an_element (cac "ClassifiedTaxCategory") [] (a_text (((10 ∷ []) ++ codes "    ")) (an_element (cbc "ID") [] (a_text (codes "S") no_more) (a_text (((10 ∷ []) ++ codes "    ")) (an_element (cbc "Percent") [] (a_text (codes "19") no_more) (a_text (((10 ∷ []) ++ codes "    ")) (an_element (cac "TaxScheme") [] (a_text (((10 ∷ []) ++ codes "     ")) (an_element (cbc "ID") [] (a_text (codes "VAT") no_more) (a_text (((10 ∷ []) ++ codes "    ")) no_more))) (a_text (((10 ∷ []) ++ codes "   ")) no_more))))))) (a_text (((10 ∷ []) ++ codes "  ")) no_more))))) (a_text (((10 ∷ []) ++ codes "  ")) (an_element (cac "Price") [] (a_text (((10 ∷ []) ++ codes "   ")) (an_element (cbc "PriceAmount") (record { name = (record { uri = []; local = codes "currencyID" }); value = codes "EUR" } ∷ []) (a_text (codes "90.00") no_more) (a_text (((10 ∷ []) ++ codes "  ")) no_more))) (a_text (((10 ∷ []) ++ codes " ")) no_more))))))))))) (a_text (((10 ∷ []) ++ codes " ")) (an_element (cac "AccountingSupplierParty") [] (a_text (((10 ∷ []) ++ codes "  ")) (an_element (cac "Party") [] (a_text (((10 ∷ []) ++ codes "   ")) (an_element (cbc "EndpointID") (record { name = (record { uri = []; local = codes "schemeID" }); value = codes "EM" } ∷ []) (a_text (codes "a@nord.example") no_more) (a_text (((10 ∷ []) ++ codes "   ")) (an_element (cac "PostalAddress") [] (a_text (((10 ∷ []) ++ codes "    ")) (an_element (cac "Country") [] (a_text (((10 ∷ []) ++ codes "     ")) (an_element (cbc "IdentificationCode") [] (a_text (codes "DE") no_more) (a_text (((10 ∷ []) ++ codes "    ")) no_more))) (a_text (((10 ∷ []) ++ codes "   ")) no_more))) (a_text (((10 ∷ []) ++ codes "   ")) (an_element (cac "PartyTaxScheme") [] (a_text (((10 ∷ []) ++ codes "    ")) (an_element (cbc "CompanyID") [] (a_text (codes "DE123456789") no_more) (a_text (((10 ∷ []) ++ codes "    ")) (an_element (cac "TaxScheme") [] (a_text (((10 ∷ []) ++ codes "     ")) (an_element (cbc "ID") [] (a_text (codes "VAT") no_more) (a_text (((10 ∷ []) ++ codes "    ")) no_more))) (a_text (((10 ∷ []) ++ codes "   ")) no_more))))) (a_text (((10 ∷ []) ++ codes "   ")) (an_element (cac "PartyTaxScheme") [] (a_text (((10 ∷ []) ++ codes "    ")) (an_element (cbc "CompanyID") [] (a_text (codes "201/113/40209") no_more) (a_text (((10 ∷ []) ++ codes "    ")) (an_element (cac "TaxScheme") [] (a_text (((10 ∷ []) ++ codes "     ")) (an_element (cbc "ID") [] (a_text (codes "TAX") no_more) (a_text (((10 ∷ []) ++ codes "    ")) no_more))) (a_text (((10 ∷ []) ++ codes "   ")) no_more))))) (a_text (((10 ∷ []) ++ codes "   ")) (an_element (cac "PartyLegalEntity") [] (a_text (((10 ∷ []) ++ codes "    ")) (an_element (cbc "RegistrationName") [] (a_text (codes "Atelier Nord GmbH") no_more) (a_text (((10 ∷ []) ++ codes "   ")) no_more))) (a_text (((10 ∷ []) ++ codes "  ")) no_more))))))))))) (a_text (((10 ∷ []) ++ codes " ")) no_more))) (a_text (((10 ∷ []) ++ codes " ")) (an_element (cac "AccountingCustomerParty") [] (a_text (((10 ∷ []) ++ codes "  ")) (an_element (cac "Party") [] (a_text (((10 ∷ []) ++ codes "   ")) (an_element (cbc "EndpointID") (record { name = (record { uri = []; local = codes "schemeID" }); value = codes "EM" } ∷ []) (a_text (codes "p@rhone.example") no_more) (a_text (((10 ∷ []) ++ codes "   ")) (an_element (cac "PostalAddress") [] (a_text (((10 ∷ []) ++ codes "    ")) (an_element (cac "Country") [] (a_text (((10 ∷ []) ++ codes "     ")) (an_element (cbc "IdentificationCode") [] (a_text (codes "FR") no_more) (a_text (((10 ∷ []) ++ codes "    ")) no_more))) (a_text (((10 ∷ []) ++ codes "   ")) no_more))) (a_text (((10 ∷ []) ++ codes "   ")) (an_element (cac "PartyLegalEntity") [] (a_text (((10 ∷ []) ++ codes "    ")) (an_element (cbc "RegistrationName") [] (a_text ((codes "Papiers du Rh" ++ ((244 ∷ []) ++ codes "ne"))) no_more) (a_text (((10 ∷ []) ++ codes "   ")) no_more))) (a_text (((10 ∷ []) ++ codes "  ")) no_more))))))) (a_text (((10 ∷ []) ++ codes " ")) no_more))) (a_text (((10 ∷ []) ++ codes " ")) (an_element (cac "PaymentMeans") [] (a_text (((10 ∷ []) ++ codes "  ")) (an_element (cbc "PaymentMeansCode") [] (a_text (codes "30") no_more) (a_text (((10 ∷ []) ++ codes "  ")) (an_element (cac "PayeeFinancialAccount") [] (a_text (((10 ∷ []) ++ codes "   ")) (an_element (cbc "ID") [] (a_text (codes "DE89370400440532013000") no_more) (a_text (((10 ∷ []) ++ codes "  ")) no_more))) (a_text (((10 ∷ []) ++ codes " ")) no_more))))) (a_text (((10 ∷ []) ++ codes " ")) (an_element (cac "TaxTotal") [] (a_text (((10 ∷ []) ++ codes "  ")) (an_element (cbc "TaxAmount") (record { name = (record { uri = []; local = codes "currencyID" }); value = codes "EUR" } ∷ []) (a_text (codes "34.20") no_more) (a_text (((10 ∷ []) ++ codes "  ")) (an_element (cac "TaxSubtotal") [] (a_text (((10 ∷ []) ++ codes "   ")) (an_element (cbc "TaxableAmount") (record { name = (record { uri = []; local = codes "currencyID" }); value = codes "EUR" } ∷ []) (a_text (codes "180.00") no_more) (a_text (((10 ∷ []) ++ codes "   ")) (an_element (cbc "TaxAmount") (record { name = (record { uri = []; local = codes "currencyID" }); value = codes "EUR" } ∷ []) (a_text (codes "34.20") no_more) (a_text (((10 ∷ []) ++ codes "   ")) (an_element (cac "TaxCategory") [] (a_text (((10 ∷ []) ++ codes "    ")) (an_element (cbc "ID") [] (a_text (codes "S") no_more) (a_text (((10 ∷ []) ++ codes "    ")) (an_element (cbc "Percent") [] (a_text (codes "19") no_more) (a_text (((10 ∷ []) ++ codes "    ")) (an_element (cac "TaxScheme") [] (a_text (((10 ∷ []) ++ codes "     ")) (an_element (cbc "ID") [] (a_text (codes "VAT") no_more) (a_text (((10 ∷ []) ++ codes "    ")) no_more))) (a_text (((10 ∷ []) ++ codes "   ")) no_more))))))) (a_text (((10 ∷ []) ++ codes "  ")) no_more))))))) (a_text (((10 ∷ []) ++ codes " ")) no_more))))) (a_text (((10 ∷ []) ++ codes " ")) (an_element (cac "LegalMonetaryTotal") [] (a_text (((10 ∷ []) ++ codes "  ")) (an_element (cbc "LineExtensionAmount") (record { name = (record { uri = []; local = codes "currencyID" }); value = codes "EUR" } ∷ []) (a_text (codes "180.00") no_more) (a_text (((10 ∷ []) ++ codes "  ")) (an_element (cbc "TaxExclusiveAmount") (record { name = (record { uri = []; local = codes "currencyID" }); value = codes "EUR" } ∷ []) (a_text (codes "180.00") no_more) (a_text (((10 ∷ []) ++ codes "  ")) (an_element (cbc "TaxInclusiveAmount") (record { name = (record { uri = []; local = codes "currencyID" }); value = codes "EUR" } ∷ []) (a_text (codes "214.20") no_more) (a_text (((10 ∷ []) ++ codes "  ")) (an_element (cbc "PayableAmount") (record { name = (record { uri = []; local = codes "currencyID" }); value = codes "EUR" } ∷ []) (a_text (codes "214.20") no_more) (a_text (((10 ∷ []) ++ codes " ")) no_more))))))))) (a_text ((10 ∷ [])) no_more))))))))))))))))))))))))))) no_more)
    ≡ record { unread = []; misplaced = 66 ∷ 115 ∷ 140 ∷ 152 ∷ 185 ∷ []; passed = [] }
unfolding unread_nodes misplaced_nodes passed_nodes is_said invoice_rows credit_note_rows cii_rows invoice_listing credit_note_listing cii_listing is_char is_white_space
    terms extension_rows listing_rows
misplaced_line_first = refl
