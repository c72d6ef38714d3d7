-- The tables of UBL 2.1 Invoice and CreditNote, after CEN/TS 16931-3-2: the elements in the order of writing.
use Prim.Native.String.{String}
use Rattle.std.specs.Prelude.{List, [], ◌∷◌, codes}
use Rattle.term_table.specs.declared.groups.Group.TheVariants as groups
use Rattle.bind_rows.specs.declared.names.Namespace.TheVariants as spaces
use Rattle.bind_rows.specs.declared.guards.Test.TheVariants as tests
use Rattle.bind_rows.specs.declared.rows.Form.TheVariants as forms
use Rattle.bind_rows.specs.declared.rows.Row.{Row}
use Rattle.bind_rows.specs.declared.rows.Written.TheVariants as written
use Rattle.bind_table.specs.Listings.{Listing, bt, term, part, constant, agreeing, spread, in_form, when, named, element, at, nothing, ◌◂◌, each, given, one_of}
use Rattle.bind_table.specs.Listings.{none_of, rows_of}
use Rattle.ubl_binding.specs.Parts.{holding, leaf, leaf_with, identifier, document_type, scheme, tax_scheme, address, vat, charging}
use Rattle.bind_table.specs.Charges.{document_allowance, document_charge, line_allowance, line_charge}

-- ---- what both have

abbrev pub before_dates : Listing
before_dates =
    leaf "CustomizationID" (bt 24)
    ◂ leaf "ProfileID" (bt 23)
    ◂ leaf "ID" (bt 1)
    ◂ leaf "IssueDate" (bt 2)

abbrev pub note : Listing
note = each groups.InvoiceNote (leaf "Note" (in_form forms.CodedNote (bt 22)))

abbrev pub currencies : Listing
currencies =
    leaf "DocumentCurrencyCode" (bt 5)
    ◂ leaf "TaxCurrencyCode" (bt 6)
    ◂ leaf "AccountingCost" (bt 19)
    ◂ leaf "BuyerReference" (bt 10)
    ◂ holding "InvoicePeriod"
    (leaf "StartDate" (bt 73)
    ◂ leaf "EndDate" (bt 74)
    ◂ leaf "DescriptionCode" (bt 8))
    ◂ holding "OrderReference"
    (leaf "ID" (when (written.OrPlaceholder (record { text = codes "NA"; beside = term 14 })) (bt 13))
    ◂ leaf "SalesOrderID" (bt 14))
    ◂ each groups.PrecedingInvoice (holding "BillingReference"
    (holding "InvoiceDocumentReference"
    (leaf "ID" (bt 25)
    ◂ leaf "IssueDate" (bt 26))))
    ◂ holding "DespatchDocumentReference" (leaf "ID" (bt 16))
    ◂ holding "ReceiptDocumentReference" (leaf "ID" (bt 15))

abbrev pub originator : Listing
originator = holding "OriginatorDocumentReference" (leaf "ID" (bt 17))

abbrev pub contract : Listing
contract = holding "ContractDocumentReference" (leaf "ID" (bt 12))

abbrev pub invoiced_object : Listing
invoiced_object =
    given (document_type (one_of ("130" ∷ []))) (holding "AdditionalDocumentReference"
    (identifier "ID" 18
    ◂ leaf "DocumentTypeCode" (constant "130")))

abbrev pub supporting_documents : List String → Listing
supporting_documents others =
    each groups.SupportingDocument (given (document_type (none_of others)) (holding "AdditionalDocumentReference"
    (leaf "ID" (bt 122)
    ◂ leaf "DocumentDescription" (bt 123)
    ◂ holding "Attachment"
    (leaf_with "EmbeddedDocumentBinaryObject" (bt 125) (at "mimeCode" (part 125 1) ∷ at "filename" (part 125 2) ∷ [])
    ◂ holding "ExternalReference" (leaf "URI" (bt 124))))))

abbrev pub seller : Listing
seller =
    holding "AccountingSupplierParty" (holding "Party"
    (identifier "EndpointID" 34
    ◂ each groups.SellerIdentifier (given (scheme tests.Absent) (holding "PartyIdentification" (leaf "ID" (bt 29))))
    ◂ each groups.SellerSchemedIdentifier (given (scheme tests.Present) (given (scheme (none_of ("SEPA" ∷ [])))
    (holding "PartyIdentification" (identifier "ID" 29))))
    ◂ given (scheme (one_of ("SEPA" ∷ []))) (holding "PartyIdentification"
    (leaf_with "ID" (agreeing (bt 90)) (at "schemeID" (constant "SEPA") ∷ [])))
    ◂ holding "PartyName" (leaf "Name" (bt 28))
    ◂ holding "PostalAddress" (address 35 36 162 37 38 39 40)
    ◂ given (tax_scheme (one_of ("VAT" ∷ []))) (holding "PartyTaxScheme"
    (leaf "CompanyID" (bt 31)
    ◂ vat))
    ◂ given (tax_scheme (none_of ("VAT" ∷ []))) (holding "PartyTaxScheme"
    (leaf "CompanyID" (bt 32)
    ◂ holding "TaxScheme" (leaf "ID" (constant "TAX"))))
    ◂ holding "PartyLegalEntity"
    (leaf "RegistrationName" (bt 27)
    ◂ identifier "CompanyID" 30
    ◂ leaf "CompanyLegalForm" (bt 33))
    ◂ holding "Contact"
    (leaf "Name" (bt 41)
    ◂ leaf "Telephone" (bt 42)
    ◂ leaf "ElectronicMail" (bt 43))))

abbrev pub buyer : Listing
buyer =
    holding "AccountingCustomerParty" (holding "Party"
    (identifier "EndpointID" 49
    ◂ holding "PartyIdentification" (identifier "ID" 46)
    ◂ holding "PartyName" (leaf "Name" (bt 45))
    ◂ holding "PostalAddress" (address 50 51 163 52 53 54 55)
    ◂ given (tax_scheme (one_of ("VAT" ∷ []))) (holding "PartyTaxScheme"
    (leaf "CompanyID" (bt 48)
    ◂ vat))
    ◂ holding "PartyLegalEntity"
    (leaf "RegistrationName" (bt 44)
    ◂ identifier "CompanyID" 47)
    ◂ holding "Contact"
    (leaf "Name" (bt 56)
    ◂ leaf "Telephone" (bt 57)
    ◂ leaf "ElectronicMail" (bt 58))))

abbrev pub payee : Listing
payee =
    holding "PayeeParty"
    (given (scheme (one_of ("SEPA" ∷ []))) (holding "PartyIdentification" (leaf "ID" (when written.Never (agreeing (bt 90)))))
    ◂ given (scheme (none_of ("SEPA" ∷ []))) (holding "PartyIdentification" (identifier "ID" 60))
    ◂ holding "PartyName" (leaf "Name" (bt 59))
    ◂ holding "PartyLegalEntity" (identifier "CompanyID" 61))

abbrev pub tax_representative : Listing
tax_representative =
    holding "TaxRepresentativeParty"
    (holding "PartyName" (leaf "Name" (bt 62))
    ◂ holding "PostalAddress" (address 64 65 164 66 67 68 69)
    ◂ holding "PartyTaxScheme"
    (leaf "CompanyID" (bt 63)
    ◂ vat))

abbrev pub delivery : Listing
delivery =
    holding "Delivery"
    (leaf "ActualDeliveryDate" (bt 72)
    ◂ holding "DeliveryLocation"
    (identifier "ID" 71
    ◂ holding "Address" (address 75 76 165 77 78 79 80))
    ◂ holding "DeliveryParty" (holding "PartyName" (leaf "Name" (bt 70))))

-- The due date stands in a credit note's payment means alone.
abbrev pub payment_means : Listing → Listing
payment_means due_date =
    each groups.CreditTransfer (holding "PaymentMeans"
    (leaf_with "PaymentMeansCode" (spread (bt 81)) (at "name" (spread (bt 82)) ∷ [])
    ◂ due_date
    ◂ leaf "PaymentID" (spread (bt 83))
    ◂ holding "CardAccount"
    (leaf "PrimaryAccountNumberID" (spread (bt 87))
    ◂ leaf "NetworkID" (constant "NA")
    ◂ leaf "HolderName" (spread (bt 88)))
    ◂ holding "PayeeFinancialAccount"
    (leaf "ID" (bt 84)
    ◂ leaf "Name" (bt 85)
    ◂ holding "FinancialInstitutionBranch" (leaf "ID" (bt 86)))
    ◂ holding "PaymentMandate"
    (leaf "ID" (spread (bt 89))
    ◂ holding "PayerFinancialAccount" (leaf "ID" (spread (bt 91))))))

abbrev pub totals : Listing
totals =
    holding "PaymentTerms" (leaf "Note" (bt 20))
    ◂ document_allowance charging 92 93 94 95 96 97 98 groups.DocumentAllowance
    ◂ document_charge charging 99 100 101 102 103 104 105 groups.DocumentCharge
    ◂ holding "TaxTotal"
    (leaf "TaxAmount" (when written.VatTotal (bt 110))
    ◂ each groups.VatBreakdown (holding "TaxSubtotal"
    (leaf "TaxableAmount" (bt 116)
    ◂ leaf "TaxAmount" (bt 117)
    ◂ holding "TaxCategory"
    (leaf "ID" (bt 118)
    ◂ leaf "Percent" (bt 119)
    ◂ leaf "TaxExemptionReasonCode" (bt 121)
    ◂ leaf "TaxExemptionReason" (bt 120)
    ◂ vat))))
    ◂ holding "TaxTotal" (leaf "TaxAmount" (when written.AccountingVatTotal (bt 111)))
    ◂ holding "LegalMonetaryTotal"
    (leaf "LineExtensionAmount" (bt 106)
    ◂ leaf "TaxExclusiveAmount" (bt 109)
    ◂ leaf "TaxInclusiveAmount" (bt 112)
    ◂ leaf "AllowanceTotalAmount" (bt 107)
    ◂ leaf "ChargeTotalAmount" (bt 108)
    ◂ leaf "PrepaidAmount" (bt 113)
    ◂ leaf "PayableRoundingAmount" (bt 114)
    ◂ leaf "PayableAmount" (bt 115))

abbrev pub item : Listing
item =
    holding "Item"
    (leaf "Description" (bt 154)
    ◂ leaf "Name" (bt 153)
    ◂ holding "BuyersItemIdentification" (leaf "ID" (bt 156))
    ◂ holding "SellersItemIdentification" (leaf "ID" (bt 155))
    ◂ holding "StandardItemIdentification" (identifier "ID" 157)
    ◂ holding "OriginCountry" (leaf "IdentificationCode" (bt 159))
    ◂ each groups.ItemClassification (holding "CommodityClassification"
    (leaf_with "ItemClassificationCode" (bt 158) (at "listID" (part 158 1) ∷ at "listVersionID" (part 158 2) ∷ [])))
    ◂ holding "ClassifiedTaxCategory"
    (leaf "ID" (bt 151)
    ◂ leaf "Percent" (bt 152)
    ◂ vat)
    ◂ each groups.ItemAttribute (holding "AdditionalItemProperty"
    (leaf "Name" (bt 160)
    ◂ leaf "Value" (bt 161))))

abbrev pub price : Listing
price =
    holding "Price"
    (leaf "PriceAmount" (bt 146)
    ◂ leaf_with "BaseQuantity" (bt 149) (at "unitCode" (bt 150) ∷ [])
    ◂ holding "AllowanceCharge"
    (leaf "ChargeIndicator" (constant "false")
    ◂ leaf "Amount" (bt 147)
    ◂ leaf "BaseAmount" (bt 148)))

-- a line, by its name and that of its quantity
abbrev pub line : String → String → Listing
line name quantity =
    each groups.InvoiceLine (holding name
    (leaf "ID" (bt 126)
    ◂ leaf "Note" (bt 127)
    ◂ leaf_with quantity (bt 129) (at "unitCode" (bt 130) ∷ [])
    ◂ leaf "LineExtensionAmount" (bt 131)
    ◂ leaf "AccountingCost" (bt 133)
    ◂ holding "InvoicePeriod"
    (leaf "StartDate" (bt 134)
    ◂ leaf "EndDate" (bt 135))
    ◂ holding "OrderLineReference" (leaf "LineID" (bt 132))
    ◂ given (document_type (one_of ("130" ∷ []))) (holding "DocumentReference"
    (identifier "ID" 128
    ◂ leaf "DocumentTypeCode" (constant "130")))
    ◂ line_allowance charging 136 137 138 139 140 groups.LineAllowance
    ◂ line_charge charging 141 142 143 144 145 groups.LineCharge
    ◂ item
    ◂ price))

-- ---- the invoice

unfoldable pub invoice_listing : Listing
invoice_listing =
    element (named spaces.UblInvoice "Invoice") []
    (before_dates
    ◂ leaf "DueDate" (bt 9)
    ◂ leaf "InvoiceTypeCode" (bt 3)
    ◂ note
    ◂ leaf "TaxPointDate" (bt 7)
    ◂ currencies
    ◂ originator
    ◂ contract
    ◂ invoiced_object
    ◂ supporting_documents ("130" ∷ [])
    ◂ holding "ProjectReference" (leaf "ID" (bt 11))
    ◂ seller
    ◂ buyer
    ◂ payee
    ◂ tax_representative
    ◂ delivery
    ◂ payment_means nothing
    ◂ totals
    ◂ line "InvoiceLine" "InvoicedQuantity")

-- ---- the credit note

unfoldable pub credit_note_listing : Listing
credit_note_listing =
    element (named spaces.UblCreditNote "CreditNote") []
    (before_dates
    ◂ leaf "TaxPointDate" (bt 7)
    ◂ leaf "CreditNoteTypeCode" (bt 3)
    ◂ note
    ◂ currencies
    ◂ contract
    ◂ invoiced_object
    ◂ given (document_type (one_of ("50" ∷ []))) (holding "AdditionalDocumentReference"
    (leaf "ID" (bt 11)
    ◂ leaf "DocumentTypeCode" (constant "50")))
    ◂ supporting_documents ("130" ∷ "50" ∷ [])
    ◂ originator
    ◂ seller
    ◂ buyer
    ◂ payee
    ◂ tax_representative
    ◂ delivery
    ◂ payment_means (leaf "PaymentDueDate" (spread (bt 9)))
    ◂ totals
    ◂ line "CreditNoteLine" "CreditedQuantity")

-- ---- their rows

unfoldable pub invoice_rows : List Row
invoice_rows = rows_of invoice_listing

unfoldable pub credit_note_rows : List Row
credit_note_rows = rows_of credit_note_listing
