-- The groups of EN 16931-1: which stands in which, how often, and of which one context consists.
use Rattle.std.specs.Prelude.{ℕ, ◌+◌, ◌/◌, ◌%◌, ◌==◌, nat_lt, Bool, true, false, List, [], ◌∷◌, ◌++◌, Option, find, codes, if◌then◌else◌}
use Rattle.std.specs.Option.{option_map_or}
use Rattle.term_table.specs.declared.groups.Group.{Group}
use Rattle.term_table.specs.declared.groups.Group.TheVariants as groups
use Rattle.term_table.specs.declared.groups.Occurrence.{Occurrence}
use Rattle.term_table.specs.declared.groups.Occurrence.TheVariants as occurs
use Rattle.term_table.specs.SemanticModel.{Section, semantic_model}

-- the group's number in the standard, from 101 for this program's own and 0 for the invoice
abbrev pub number_of : Group → ℕ
number_of groups.Root = 0
number_of groups.InvoiceNote = 1
number_of groups.ProcessControl = 2
number_of groups.PrecedingInvoice = 3
number_of groups.Seller = 4
number_of groups.SellerAddress = 5
number_of groups.SellerContact = 6
number_of groups.Buyer = 7
number_of groups.BuyerAddress = 8
number_of groups.BuyerContact = 9
number_of groups.Payee = 10
number_of groups.TaxRepresentative = 11
number_of groups.TaxRepresentativeAddress = 12
number_of groups.Delivery = 13
number_of groups.InvoicingPeriod = 14
number_of groups.DeliveryAddress = 15
number_of groups.PaymentInstructions = 16
number_of groups.CreditTransfer = 17
number_of groups.PaymentCard = 18
number_of groups.DirectDebit = 19
number_of groups.DocumentAllowance = 20
number_of groups.DocumentCharge = 21
number_of groups.DocumentTotals = 22
number_of groups.VatBreakdown = 23
number_of groups.SupportingDocument = 24
number_of groups.InvoiceLine = 25
number_of groups.LinePeriod = 26
number_of groups.LineAllowance = 27
number_of groups.LineCharge = 28
number_of groups.PriceDetails = 29
number_of groups.LineVat = 30
number_of groups.ItemInformation = 31
number_of groups.ItemAttribute = 32
number_of groups.SellerIdentifier = 101
number_of groups.SellerSchemedIdentifier = 102
number_of groups.ItemClassification = 103

abbrev pub same_group : Group → Group → Bool
same_group a b = number_of a == number_of b

-- the group's section of the semantic model
abbrev pub section_of : Group → Option Section
section_of group = find (λ (s : Section). same_group s.group group) semantic_model

unfoldable pub parent_of : Group → Group
parent_of group = option_map_or (λ (s : Section). s.parent) (section_of group) groups.Root

unfoldable pub occurrence_of : Group → Occurrence
occurrence_of group = option_map_or (λ (s : Section). s.occurrence) (section_of group) occurs.Once

abbrev pub may_repeat : Occurrence → Bool
may_repeat occurs.Once = false
may_repeat occurs.AtMostOnce = false
may_repeat occurs.AnyNumber = true
may_repeat occurs.AtLeastOnce = true

-- The group may stand several times, so that its occurrences are contexts.
abbrev pub is_repeated : Group → Bool
is_repeated group = may_repeat (occurrence_of group)

-- ---- how a group is printed

-- a number below 100
abbrev pub two_digits : ℕ → List ℕ
two_digits n = if nat_lt n 10 then (48 + n) ∷ [] else (48 + n / 10) ∷ (48 + n % 10) ∷ []

-- by its number in the standard; this program's own groups by the term that they stand for
abbrev pub label_of : Group → List ℕ
label_of groups.Root = codes "invoice"
label_of groups.SellerIdentifier = codes "P-29"
label_of groups.SellerSchemedIdentifier = codes "P-29S"
label_of groups.ItemClassification = codes "P-158"
label_of group = codes "BG-" ++ two_digits (number_of group)

-- the name of a group, after the standard; of this program's own groups, what stands in them
abbrev pub name_of : Group → List ℕ
name_of groups.Root = codes "Invoice"
name_of groups.InvoiceNote = codes "Invoice note"
name_of groups.ProcessControl = codes "Process control"
name_of groups.PrecedingInvoice = codes "Preceding invoice reference"
name_of groups.Seller = codes "Seller"
name_of groups.SellerIdentifier = codes "Seller identifier without a scheme"
name_of groups.SellerSchemedIdentifier = codes "Seller identifier with its scheme"
name_of groups.SellerAddress = codes "Seller postal address"
name_of groups.SellerContact = codes "Seller contact"
name_of groups.Buyer = codes "Buyer"
name_of groups.BuyerAddress = codes "Buyer postal address"
name_of groups.BuyerContact = codes "Buyer contact"
name_of groups.Payee = codes "Payee"
name_of groups.TaxRepresentative = codes "Seller tax representative"
name_of groups.TaxRepresentativeAddress = codes "Tax representative postal address"
name_of groups.Delivery = codes "Delivery information"
name_of groups.InvoicingPeriod = codes "Invoicing period"
name_of groups.DeliveryAddress = codes "Deliver to address"
name_of groups.PaymentInstructions = codes "Payment instructions"
name_of groups.CreditTransfer = codes "Credit transfer"
name_of groups.PaymentCard = codes "Payment card information"
name_of groups.DirectDebit = codes "Direct debit"
name_of groups.DocumentAllowance = codes "Document level allowances"
name_of groups.DocumentCharge = codes "Document level charges"
name_of groups.DocumentTotals = codes "Document totals"
name_of groups.VatBreakdown = codes "VAT breakdown"
name_of groups.SupportingDocument = codes "Additional supporting documents"
name_of groups.InvoiceLine = codes "Invoice line"
name_of groups.LinePeriod = codes "Invoice line period"
name_of groups.LineAllowance = codes "Invoice line allowances"
name_of groups.LineCharge = codes "Invoice line charges"
name_of groups.PriceDetails = codes "Price details"
name_of groups.LineVat = codes "Line VAT information"
name_of groups.ItemInformation = codes "Item information"
name_of groups.ItemClassification = codes "Item classification"
name_of groups.ItemAttribute = codes "Item attributes"
