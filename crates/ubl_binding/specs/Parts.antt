-- The pieces of the listings of UBL 2.1: how its elements are named, its guards, and what stands in addresses, tax
-- schemes, allowances and charges wherever they stand.
use Prim.Native.String.{String}
use Rattle.std.specs.Prelude.{ℕ, List, [], ◌∷◌, codes}
use Rattle.bind_rows.specs.declared.names.Namespace.TheVariants as spaces
use Rattle.bind_rows.specs.declared.names.Leaf.TheVariants as leaves
use Rattle.bind_rows.specs.declared.guards.Guard.{Guard}
use Rattle.bind_rows.specs.declared.guards.Test.{Test}
use Rattle.bind_rows.specs.declared.rows.Check.TheVariants as checks
use Rattle.bind_table.specs.Charges.{Charging}
use Rattle.bind_table.specs.Listings.{Listing, nothing, Value, Placed, bt, term, part, constant, checked, named, element, at_element, at, ◌◂◌}
use Rattle.bind_table.specs.Listings.{guard}

-- Below the root an element that holds elements is in the namespace of aggregates, and one that holds a value in that
-- of basic components.
abbrev pub holding : String → Listing → Listing
holding name inside = element (named spaces.UblAggregate name) [] inside

abbrev pub leaf : String → Value → Listing
leaf name value = element (named spaces.UblBasic name) (at_element value ∷ []) nothing

abbrev pub leaf_with : String → Value → List Placed → Listing
leaf_with name value attributes = element (named spaces.UblBasic name) (at_element value ∷ attributes) nothing

-- an identifier with its scheme
abbrev pub identifier : String → ℕ → Listing
identifier name number = leaf_with name (bt number) (at "schemeID" (part number 1) ∷ [])

-- ---- guards

abbrev pub document_type : Test → Guard
document_type test = guard (named spaces.UblBasic "DocumentTypeCode" ∷ []) leaves.Element test

abbrev pub scheme : Test → Guard
scheme test = guard (named spaces.UblBasic "ID" ∷ []) (leaves.Attribute (codes "schemeID")) test

abbrev pub tax_scheme : Test → Guard
tax_scheme test = guard (named spaces.UblAggregate "TaxScheme" ∷ named spaces.UblBasic "ID" ∷ []) leaves.Element test

abbrev pub charge_indicator : Test → Guard
charge_indicator test = guard (named spaces.UblBasic "ChargeIndicator" ∷ []) leaves.Element test

-- ---- addresses, tax schemes

-- ADDRESS: lines 1, 2 and 3, city, post code, country subdivision, country
abbrev pub address : ℕ → ℕ → ℕ → ℕ → ℕ → ℕ → ℕ → Listing
address a b c d e f g =
    leaf "StreetName" (bt a)
    ◂ leaf "AdditionalStreetName" (bt b)
    ◂ leaf "CityName" (bt d)
    ◂ leaf "PostalZone" (bt e)
    ◂ leaf "CountrySubentity" (bt f)
    ◂ holding "AddressLine" (leaf "Line" (bt c))
    ◂ holding "Country" (leaf "IdentificationCode" (bt g))

abbrev pub vat : Listing
vat = holding "TaxScheme" (leaf "ID" (constant "VAT"))

-- ---- allowances and charges

-- What an allowance or a charge of a line is: its amount, base amount and percentage, reason and reason code.
abbrev pub sums : String → ℕ → ℕ → ℕ → ℕ → ℕ → Listing
sums indicator a b p t k =
    leaf "ChargeIndicator" (checked (checks.Indicator (term a)) (constant indicator))
    ◂ leaf "AllowanceChargeReasonCode" (bt k)
    ◂ leaf "AllowanceChargeReason" (bt t)
    ◂ leaf "MultiplierFactorNumeric" (bt p)
    ◂ leaf "Amount" (bt a)
    ◂ leaf "BaseAmount" (bt b)

-- One of the document has its VAT category code and rate too.
abbrev pub taxed : ℕ → ℕ → Listing
taxed c r = holding "TaxCategory" (leaf "ID" (bt c) ◂ leaf "Percent" (bt r) ◂ vat)

abbrev pub charging : Charging
charging = record { indicator = charge_indicator; around = holding "AllowanceCharge"; sums = sums; taxed = taxed }
