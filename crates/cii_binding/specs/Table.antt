-- The table of CII D16B, after CEN/TS 16931-3-3: the elements in the order of writing.
use Rattle.std.specs.Prelude.{List, [], ◌∷◌}
use Rattle.term_table.specs.declared.groups.Group.TheVariants as groups
use Rattle.bind_rows.specs.declared.names.Namespace.TheVariants as spaces
use Rattle.bind_rows.specs.declared.rows.Form.TheVariants as forms
use Rattle.bind_rows.specs.declared.rows.Row.{Row}
use Rattle.bind_rows.specs.declared.rows.Written.TheVariants as written
use Rattle.bind_table.specs.Listings.{Listing, bt, part, constant, spread, in_form, when, named, element, at, ◌◂◌, each, always, given, rows_of}
use Rattle.cii_binding.specs.Parts.{holding, leaf_in, leaf, leaf_with, type_code, date_leaf, date, identifier, global_identifier, identifiers, address}
use Rattle.cii_binding.specs.Parts.{tax_registration, contact, electronic_address, reference, period, charging}
use Rattle.bind_table.specs.Charges.{document_allowance, document_charge, line_allowance, line_charge}

abbrev pub context : Listing
context =
    element (named spaces.CiiInvoice "ExchangedDocumentContext") []
    (holding "BusinessProcessSpecifiedDocumentContextParameter" (leaf "ID" (bt 23))
    ◂ holding "GuidelineSpecifiedDocumentContextParameter" (leaf "ID" (bt 24)))

abbrev pub document : Listing
document =
    element (named spaces.CiiInvoice "ExchangedDocument") []
    (leaf "ID" (bt 1)
    ◂ leaf "TypeCode" (bt 3)
    ◂ holding "IssueDateTime" (date 2)
    ◂ each groups.InvoiceNote (holding "IncludedNote"
    (leaf "Content" (bt 22)
    ◂ leaf "SubjectCode" (bt 21))))

-- ---- a line

abbrev pub product : Listing
product =
    holding "SpecifiedTradeProduct"
    (global_identifier (bt 157) 157
    ◂ leaf "SellerAssignedID" (bt 155)
    ◂ leaf "BuyerAssignedID" (bt 156)
    ◂ leaf "Name" (bt 153)
    ◂ leaf "Description" (bt 154)
    ◂ each groups.ItemAttribute (holding "ApplicableProductCharacteristic"
    (leaf "Description" (bt 160)
    ◂ leaf "Value" (bt 161)))
    ◂ each groups.ItemClassification (holding "DesignatedProductClassification"
    (leaf_with "ClassCode" (bt 158) (at "listID" (part 158 1) ∷ at "listVersionID" (part 158 2) ∷ [])))
    ◂ holding "OriginTradeCountry" (leaf "ID" (bt 159)))

abbrev pub line_agreement : Listing
line_agreement =
    holding "SpecifiedLineTradeAgreement"
    (holding "BuyerOrderReferencedDocument" (leaf "LineID" (bt 132))
    ◂ holding "GrossPriceProductTradePrice"
    (leaf "ChargeAmount" (bt 148)
    ◂ holding "AppliedTradeAllowanceCharge"
    (holding "ChargeIndicator" (leaf_in spaces.CiiUnqualified "Indicator" (constant "false") [])
    ◂ leaf "ActualAmount" (bt 147)))
    ◂ holding "NetPriceProductTradePrice"
    (leaf "ChargeAmount" (bt 146)
    ◂ leaf_with "BasisQuantity" (bt 149) (at "unitCode" (bt 150) ∷ [])))

abbrev pub line_settlement : Listing
line_settlement =
    holding "SpecifiedLineTradeSettlement"
    (holding "ApplicableTradeTax"
    (leaf "TypeCode" (constant "VAT")
    ◂ leaf "CategoryCode" (bt 151)
    ◂ leaf "RateApplicablePercent" (bt 152))
    ◂ period 134 135
    ◂ line_allowance charging 136 137 138 139 140 groups.LineAllowance
    ◂ line_charge charging 141 142 143 144 145 groups.LineCharge
    ◂ holding "SpecifiedTradeSettlementLineMonetarySummation" (leaf "LineTotalAmount" (bt 131))
    ◂ given (type_code "130") (holding "AdditionalReferencedDocument"
    (leaf "IssuerAssignedID" (bt 128)
    ◂ leaf "TypeCode" (constant "130")
    ◂ leaf "ReferenceTypeCode" (part 128 1)))
    ◂ holding "ReceivableSpecifiedTradeAccountingAccount" (leaf "ID" (bt 133)))

abbrev pub line : Listing
line =
    each groups.InvoiceLine (holding "IncludedSupplyChainTradeLineItem"
    (holding "AssociatedDocumentLineDocument"
    (leaf "LineID" (bt 126)
    ◂ holding "IncludedNote" (leaf "Content" (bt 127)))
    ◂ product
    ◂ line_agreement
    ◂ holding "SpecifiedLineTradeDelivery" (leaf_with "BilledQuantity" (bt 129) (at "unitCode" (bt 130) ∷ []))
    ◂ line_settlement))

-- ---- the agreement

abbrev pub seller : Listing
seller =
    holding "SellerTradeParty"
    (each groups.SellerIdentifier (leaf "ID" (bt 29))
    ◂ each groups.SellerSchemedIdentifier (global_identifier (bt 29) 29)
    ◂ leaf "Name" (bt 27)
    ◂ leaf "Description" (bt 33)
    ◂ holding "SpecifiedLegalOrganization"
    (identifier "ID" 30
    ◂ leaf "TradingBusinessName" (bt 28))
    ◂ contact 41 42 43
    ◂ address 35 36 162 37 38 39 40
    ◂ electronic_address 34
    ◂ tax_registration 31 "VA"
    ◂ tax_registration 32 "FC")

abbrev pub buyer : Listing
buyer =
    holding "BuyerTradeParty"
    (identifiers 46
    ◂ leaf "Name" (bt 44)
    ◂ holding "SpecifiedLegalOrganization"
    (identifier "ID" 47
    ◂ leaf "TradingBusinessName" (bt 45))
    ◂ contact 56 57 58
    ◂ address 50 51 163 52 53 54 55
    ◂ electronic_address 49
    ◂ tax_registration 48 "VA")

abbrev pub agreement : Listing
agreement =
    holding "ApplicableHeaderTradeAgreement"
    (leaf "BuyerReference" (bt 10)
    ◂ seller
    ◂ buyer
    ◂ holding "SellerTaxRepresentativeTradeParty"
    (leaf "Name" (bt 62)
    ◂ address 64 65 164 66 67 68 69
    ◂ tax_registration 63 "VA")
    ◂ reference "SellerOrderReferencedDocument" 14
    ◂ reference "BuyerOrderReferencedDocument" 13
    ◂ reference "ContractReferencedDocument" 12
    ◂ each groups.SupportingDocument (given (type_code "916") (holding "AdditionalReferencedDocument"
    (leaf "IssuerAssignedID" (bt 122)
    ◂ leaf "URIID" (bt 124)
    ◂ leaf "TypeCode" (constant "916")
    ◂ leaf "Name" (bt 123)
    ◂ leaf_with "AttachmentBinaryObject" (bt 125) (at "mimeCode" (part 125 1) ∷ at "filename" (part 125 2) ∷ []))))
    ◂ given (type_code "50") (holding "AdditionalReferencedDocument"
    (leaf "IssuerAssignedID" (bt 17)
    ◂ leaf "TypeCode" (constant "50")))
    ◂ given (type_code "130") (holding "AdditionalReferencedDocument"
    (leaf "IssuerAssignedID" (bt 18)
    ◂ leaf "TypeCode" (constant "130")
    ◂ leaf "ReferenceTypeCode" (part 18 1)))
    ◂ holding "SpecifiedProcuringProject"
    (leaf "ID" (bt 11)
    ◂ leaf "Name" (constant "Project reference")))

-- ---- the delivery, which is always written

abbrev pub delivery : Listing
delivery =
    always (holding "ApplicableHeaderTradeDelivery"
    (holding "ShipToTradeParty"
    (identifiers 71
    ◂ leaf "Name" (bt 70)
    ◂ address 75 76 165 77 78 79 80)
    ◂ holding "ActualDeliverySupplyChainEvent" (holding "OccurrenceDateTime" (date 72))
    ◂ reference "DespatchAdviceReferencedDocument" 16
    ◂ reference "ReceivingAdviceReferencedDocument" 15))

-- ---- the settlement

abbrev pub payment_means : Listing
payment_means =
    each groups.CreditTransfer (holding "SpecifiedTradeSettlementPaymentMeans"
    (leaf "TypeCode" (spread (bt 81))
    ◂ leaf "Information" (spread (bt 82))
    ◂ holding "ApplicableTradeSettlementFinancialCard"
    (leaf "ID" (spread (bt 87))
    ◂ leaf "CardholderName" (spread (bt 88)))
    ◂ holding "PayerPartyDebtorFinancialAccount" (leaf "IBANID" (spread (bt 91)))
    ◂ holding "PayeePartyCreditorFinancialAccount"
    (leaf "IBANID" (when written.IfIban (bt 84))
    ◂ leaf "AccountName" (bt 85)
    ◂ leaf "ProprietaryID" (when written.IfNotIban (bt 84)))
    ◂ holding "PayeeSpecifiedCreditorFinancialInstitution" (leaf "BICID" (bt 86))))

abbrev pub vat_breakdown : Listing
vat_breakdown =
    each groups.VatBreakdown (holding "ApplicableTradeTax"
    (leaf "CalculatedAmount" (bt 117)
    ◂ leaf "TypeCode" (constant "VAT")
    ◂ leaf "ExemptionReason" (bt 120)
    ◂ leaf "BasisAmount" (bt 116)
    ◂ leaf "CategoryCode" (bt 118)
    ◂ leaf "ExemptionReasonCode" (bt 121)
    ◂ holding "TaxPointDate" (date_leaf spaces.CiiUnqualified "DateString" (spread (bt 7)))
    ◂ leaf "DueDateTypeCode" (in_form forms.DueDateTypeCode (spread (bt 8)))
    ◂ leaf "RateApplicablePercent" (bt 119)))

abbrev pub summation : Listing
summation =
    holding "SpecifiedTradeSettlementHeaderMonetarySummation"
    (leaf "LineTotalAmount" (bt 106)
    ◂ leaf "ChargeTotalAmount" (bt 108)
    ◂ leaf "AllowanceTotalAmount" (bt 107)
    ◂ leaf "TaxBasisTotalAmount" (bt 109)
    ◂ leaf "TaxTotalAmount" (when written.VatTotal (bt 110))
    ◂ leaf "TaxTotalAmount" (when written.AccountingVatTotal (bt 111))
    ◂ leaf "RoundingAmount" (bt 114)
    ◂ leaf "GrandTotalAmount" (bt 112)
    ◂ leaf "TotalPrepaidAmount" (bt 113)
    ◂ leaf "DuePayableAmount" (bt 115))

abbrev pub settlement : Listing
settlement =
    holding "ApplicableHeaderTradeSettlement"
    (leaf "CreditorReferenceID" (bt 90)
    ◂ leaf "PaymentReference" (bt 83)
    ◂ leaf "TaxCurrencyCode" (bt 6)
    ◂ leaf "InvoiceCurrencyCode" (bt 5)
    ◂ holding "PayeeTradeParty"
    (identifiers 60
    ◂ leaf "Name" (bt 59)
    ◂ holding "SpecifiedLegalOrganization" (identifier "ID" 61))
    ◂ payment_means
    ◂ vat_breakdown
    ◂ period 73 74
    ◂ document_allowance charging 92 93 94 95 96 97 98 groups.DocumentAllowance
    ◂ document_charge charging 99 100 101 102 103 104 105 groups.DocumentCharge
    ◂ holding "SpecifiedTradePaymentTerms"
    (leaf "Description" (bt 20)
    ◂ holding "DueDateDateTime" (date 9)
    ◂ leaf "DirectDebitMandateID" (bt 89))
    ◂ summation
    ◂ each groups.PrecedingInvoice (holding "InvoiceReferencedDocument"
    (leaf "IssuerAssignedID" (bt 25)
    ◂ holding "FormattedIssueDateTime" (date_leaf spaces.CiiQualified "DateTimeString" (bt 26))))
    ◂ holding "ReceivableSpecifiedTradeAccountingAccount" (leaf "ID" (bt 19)))

-- ---- the whole

unfoldable pub cii_listing : Listing
cii_listing =
    element (named spaces.CiiInvoice "CrossIndustryInvoice") []
    (context
    ◂ document
    ◂ element (named spaces.CiiInvoice "SupplyChainTradeTransaction") []
    (line
    ◂ agreement
    ◂ delivery
    ◂ settlement))

unfoldable pub cii_rows : List Row
cii_rows = rows_of cii_listing
