-- The namespaces of UBL 2.1 and CII D16B, with the prefixes that are written for them, and the declarations of each
-- syntax.
use Rattle.std.specs.Prelude.{ℕ, List, [], ◌∷◌, ◌++◌, map, codes}
use Rattle.xml_write.specs.Canonical.{Declaration}
use Rattle.bind_rows.specs.declared.names.Namespace.{Namespace}
use Rattle.bind_rows.specs.declared.names.Namespace.TheVariants as spaces

abbrev pub ubl : List ℕ → List ℕ
ubl name = codes "urn:oasis:names:specification:ubl:schema:xsd:" ++ name

abbrev pub cii : List ℕ → List ℕ
cii name = codes "urn:un:unece:uncefact:data:standard:" ++ name

abbrev pub uri_of : Namespace → List ℕ
uri_of spaces.UblInvoice = ubl (codes "Invoice-2")
uri_of spaces.UblCreditNote = ubl (codes "CreditNote-2")
uri_of spaces.UblAggregate = ubl (codes "CommonAggregateComponents-2")
uri_of spaces.UblBasic = ubl (codes "CommonBasicComponents-2")
uri_of spaces.CiiInvoice = cii (codes "CrossIndustryInvoice:100")
uri_of spaces.CiiAggregate = cii (codes "ReusableAggregateBusinessInformationEntity:100")
uri_of spaces.CiiUnqualified = cii (codes "UnqualifiedDataType:100")
uri_of spaces.CiiQualified = cii (codes "QualifiedDataType:100")

-- none for the default namespace
abbrev pub prefix_of : Namespace → List ℕ
prefix_of spaces.UblInvoice = []
prefix_of spaces.UblCreditNote = []
prefix_of spaces.UblAggregate = codes "cac"
prefix_of spaces.UblBasic = codes "cbc"
prefix_of spaces.CiiInvoice = codes "rsm"
prefix_of spaces.CiiAggregate = codes "ram"
prefix_of spaces.CiiUnqualified = codes "udt"
prefix_of spaces.CiiQualified = codes "qdt"

-- the namespaces that the root of a document declares, by its own
abbrev pub declared_by : Namespace → List Namespace
declared_by spaces.UblInvoice = spaces.UblInvoice ∷ spaces.UblAggregate ∷ spaces.UblBasic ∷ []
declared_by spaces.UblCreditNote = spaces.UblCreditNote ∷ spaces.UblAggregate ∷ spaces.UblBasic ∷ []
declared_by spaces.CiiInvoice = spaces.CiiInvoice ∷ spaces.CiiAggregate ∷ spaces.CiiUnqualified ∷ spaces.CiiQualified ∷ []
declared_by _ = []

abbrev pub declaration_of : Namespace → Declaration
declaration_of namespace = record { prefix = prefix_of namespace; uri = uri_of namespace }

-- the declarations with which a tree is written as canonical text
abbrev pub declarations_of : Namespace → List Declaration
declarations_of root = map declaration_of (declared_by root)
