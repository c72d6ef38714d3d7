-- The pieces of the listing of CII D16B: how its elements are named, its guards, and what stands in addresses, dates,
-- parties, tax registrations, allowances and charges wherever they stand.
use Prim.Native.String.{String}
use Rattle.std.specs.Prelude.{ℕ, List, [], ◌∷◌, codes}
use Rattle.bind_rows.specs.declared.names.Namespace.{Namespace}
use Rattle.bind_rows.specs.declared.names.Namespace.TheVariants as spaces
use Rattle.bind_rows.specs.declared.names.Leaf.TheVariants as leaves
use Rattle.bind_rows.specs.declared.guards.Guard.{Guard}
use Rattle.bind_rows.specs.declared.guards.Test.{Test}
use Rattle.bind_rows.specs.declared.rows.Check.TheVariants as checks
use Rattle.bind_rows.specs.declared.rows.Form.TheVariants as forms
use Rattle.bind_rows.specs.declared.rows.Written.TheVariants as written
use Rattle.bind_table.specs.Charges.{Charging}
use Rattle.bind_table.specs.Listings.{Listing, nothing, Value, Placed, bt, term, part, constant, in_form, when, checked, named, element, at_element, at, ◌◂◌}
use Rattle.bind_table.specs.Listings.{given, guard, one_of}

-- Most elements are in the namespace of aggregates.
abbrev pub holding : String → Listing → Listing
holding name inside = element (named spaces.CiiAggregate name) [] inside

abbrev pub leaf_in : Namespace → String → Value → List Placed → Listing
leaf_in namespace name value attributes = element (named namespace name) (at_element value ∷ attributes) nothing

abbrev pub leaf : String → Value → Listing
leaf name value = leaf_in spaces.CiiAggregate name value []

abbrev pub leaf_with : String → Value → List Placed → Listing
leaf_with name value attributes = leaf_in spaces.CiiAggregate name value attributes

-- ---- guards

abbrev pub type_code : String → Guard
type_code code = guard (named spaces.CiiAggregate "TypeCode" ∷ []) leaves.Element (one_of (code ∷ []))

abbrev pub charge_indicator : Test → Guard
charge_indicator test = guard (named spaces.CiiAggregate "ChargeIndicator" ∷ named spaces.CiiUnqualified "Indicator" ∷ []) leaves.Element test

-- ---- dates, identifiers, addresses

abbrev pub plain_date : Value → Value
plain_date value = checked checks.Format (in_form forms.PlainDate value)

-- a date as a leaf of its own, in the namespace and with the name
abbrev pub date_leaf : Namespace → String → Value → Listing
date_leaf namespace name value = leaf_in namespace name (plain_date value) (at "format" (constant "102") ∷ [])

abbrev pub date : ℕ → Listing
date number = date_leaf spaces.CiiUnqualified "DateTimeString" (bt number)

-- an identifier with a scheme that may be absent
abbrev pub identifier : String → ℕ → Listing
identifier name number = leaf_with name (bt number) (at "schemeID" (part number 1) ∷ [])

-- one whose element has to have a scheme
abbrev pub global_identifier : Value → ℕ → Listing
global_identifier value number = leaf_with "GlobalID" (checked checks.Scheme value) (at "schemeID" (part number 1) ∷ [])

-- IDS: an identifier stands in one element without a scheme, and in another with it
abbrev pub identifiers : ℕ → Listing
identifiers number = leaf "ID" (when written.IfNoScheme (bt number)) ◂ global_identifier (when written.IfScheme (bt number)) number

-- ADDRESS: lines 1, 2 and 3, city, post code, country subdivision, country
abbrev pub address : ℕ → ℕ → ℕ → ℕ → ℕ → ℕ → ℕ → Listing
address a b c d e f g =
    holding "PostalTradeAddress"
    (leaf "PostcodeCode" (bt e)
    ◂ leaf "LineOne" (bt a)
    ◂ leaf "LineTwo" (bt b)
    ◂ leaf "LineThree" (bt c)
    ◂ leaf "CityName" (bt d)
    ◂ leaf "CountryID" (bt g)
    ◂ leaf "CountrySubDivisionName" (bt f))

-- TAXID: a registration with a tax authority, by its scheme
abbrev pub tax_registration : ℕ → String → Listing
tax_registration number scheme =
    given (guard (named spaces.CiiAggregate "ID" ∷ []) (leaves.Attribute (codes "schemeID")) (one_of (scheme ∷ []))) (holding "SpecifiedTaxRegistration"
    (leaf_with "ID" (bt number) (at "schemeID" (constant scheme) ∷ [])))

abbrev pub contact : ℕ → ℕ → ℕ → Listing
contact person telephone email =
    holding "DefinedTradeContact"
    (leaf "PersonName" (bt person)
    ◂ holding "TelephoneUniversalCommunication" (leaf "CompleteNumber" (bt telephone))
    ◂ holding "EmailURIUniversalCommunication" (leaf "URIID" (bt email)))

abbrev pub electronic_address : ℕ → Listing
electronic_address number = holding "URIUniversalCommunication" (identifier "URIID" number)

abbrev pub reference : String → ℕ → Listing
reference name number = holding name (leaf "IssuerAssignedID" (bt number))

abbrev pub period : ℕ → ℕ → Listing
period start end = holding "BillingSpecifiedPeriod" (holding "StartDateTime" (date start) ◂ holding "EndDateTime" (date end))

-- ---- allowances and charges

-- What an allowance or a charge of a line is: its amount, base amount and percentage, reason and reason code.
abbrev pub sums : String → ℕ → ℕ → ℕ → ℕ → ℕ → Listing
sums indicator a b p t k =
    holding "ChargeIndicator" (leaf_in spaces.CiiUnqualified "Indicator" (checked (checks.Indicator (term a)) (constant indicator)) [])
    ◂ leaf "CalculationPercent" (bt p)
    ◂ leaf "BasisAmount" (bt b)
    ◂ leaf "ActualAmount" (bt a)
    ◂ leaf "ReasonCode" (bt k)
    ◂ leaf "Reason" (bt t)

-- One of the document has its VAT category code and rate too.
abbrev pub taxed : ℕ → ℕ → Listing
taxed c r = holding "CategoryTradeTax" (leaf "TypeCode" (constant "VAT") ◂ leaf "CategoryCode" (bt c) ◂ leaf "RateApplicablePercent" (bt r))

abbrev pub charging : Charging
charging = record { indicator = charge_indicator; around = holding "SpecifiedTradeAllowanceCharge"; sums = sums; taxed = taxed }
