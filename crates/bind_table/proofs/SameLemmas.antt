-- What is compared as the same is equal.
use Rattle.std.proofs.Common.{◌≡◌, ℕ, Bool, true, false, ◌&&◌, ◌==◌, List, [], ◌∷◌, Option, Some, None, refl, sym, ap, ◌∙◌, find}
use Rattle.std.specs.Cmp.Lexicographic.{pointwise}
use Rattle.std.specs.Str.{bytes_eq}
use Rattle.std.proofs.lemmas.Bool.{eqb-true}
use Rattle.std.proofs.lemmas.Option.{same_Some}
use Rattle.std.proofs.lemmas.Slice.Eq.{bytes_eq-Decides}
use Rattle.term_table.specs.declared.groups.Group.{Group}
use Rattle.term_table.specs.declared.groups.Group.TheVariants as groups
use Rattle.term_table.specs.Groups as terms
use Rattle.bind_rows.specs.declared.names.Namespace.{Namespace}
use Rattle.bind_rows.specs.declared.names.Namespace.TheVariants as spaces
use Rattle.bind_rows.specs.declared.names.ElementName.{ElementName}
use Rattle.bind_rows.specs.declared.names.Leaf.{Leaf}
use Rattle.bind_rows.specs.declared.names.Leaf.TheVariants as leaves
use Rattle.bind_rows.specs.declared.guards.Place.{Place}
use Rattle.bind_rows.specs.declared.guards.Test.{Test}
use Rattle.bind_rows.specs.declared.guards.Test.TheVariants as tests
use Rattle.bind_rows.specs.declared.guards.Guard.{Guard}
use Rattle.bind_rows.specs.declared.rows.Step.{Step}
use Rattle.bind_rows.specs.Same.{number_of, choose, same_namespace, same_name, same_leaf, same_place, same_test, same_guard, same_group, same_or_none}
use Rattle.bind_rows.specs.Same.{same_flag, same_rest_of_step, same_step}

both : (a b : Bool) → (a && b) ≡ true → (a ≡ true) × (b ≡ true)
both true b e = (refl, e)
both false b e = cc

pub pointwise-sound : {A : Type 0} (E : A → A → Bool) → ((a b : A) → E a b ≡ true → a ≡ b) → (xs ys : List A) → pointwise E xs ys ≡ true → xs ≡ ys
pointwise-sound E sound [] [] e = refl
pointwise-sound E sound [] (y ∷ ys) e = cc
pointwise-sound E sound (x ∷ xs) [] e = cc
pointwise-sound E sound (x ∷ xs) (y ∷ ys) e =
    let h = both (E x y) (pointwise E xs ys) e in
    ap (λ z. z ∷ xs) (sound x y h.0) ∙ ap (λ zs. y ∷ zs) (pointwise-sound E sound xs ys h.1)

text-sound : (a b : List ℕ) → bytes_eq a b ≡ true → a ≡ b
text-sound a b e = (bytes_eq-Decides a b).0 e

spaces_all : List Namespace
spaces_all = spaces.UblInvoice ∷ spaces.UblCreditNote ∷ spaces.UblAggregate ∷ spaces.UblBasic ∷ spaces.CiiInvoice ∷ spaces.CiiAggregate ∷ spaces.CiiUnqualified
    ∷ spaces.CiiQualified ∷ []

space_at : ℕ → Option Namespace
space_at n = find (λ s. number_of s == n) spaces_all

space_at-number_of : (s : Namespace) → space_at (number_of s) ≡ Some s
unfolding space_at spaces_all
space_at-number_of spaces.UblInvoice = refl
space_at-number_of spaces.UblCreditNote = refl
space_at-number_of spaces.UblAggregate = refl
space_at-number_of spaces.UblBasic = refl
space_at-number_of spaces.CiiInvoice = refl
space_at-number_of spaces.CiiAggregate = refl
space_at-number_of spaces.CiiUnqualified = refl
space_at-number_of spaces.CiiQualified = refl

namespace-sound : (a b : Namespace) → same_namespace a b ≡ true → a ≡ b
namespace-sound a b e = same_Some _ _ (sym (space_at-number_of a) ∙ (ap space_at (eqb-true (number_of a) (number_of b) e) ∙ space_at-number_of b))

groups_all : List Group
groups_all = groups.Root ∷ groups.InvoiceNote ∷ groups.ProcessControl ∷ groups.PrecedingInvoice ∷ groups.Seller ∷ groups.SellerAddress ∷ groups.SellerContact ∷
    groups.Buyer ∷ groups.BuyerAddress ∷ groups.BuyerContact ∷ groups.Payee ∷ groups.TaxRepresentative ∷ groups.TaxRepresentativeAddress ∷ groups.Delivery ∷
    groups.InvoicingPeriod ∷ groups.DeliveryAddress ∷ groups.PaymentInstructions ∷ groups.CreditTransfer ∷ groups.PaymentCard ∷ groups.DirectDebit ∷
    groups.DocumentAllowance ∷ groups.DocumentCharge ∷ groups.DocumentTotals ∷ groups.VatBreakdown ∷ groups.SupportingDocument ∷ groups.InvoiceLine ∷
    groups.LinePeriod ∷ groups.LineAllowance ∷ groups.LineCharge ∷ groups.PriceDetails ∷ groups.LineVat ∷ groups.ItemInformation ∷ groups.ItemAttribute ∷
    groups.SellerIdentifier ∷ groups.SellerSchemedIdentifier ∷ groups.ItemClassification ∷ []

group_at : ℕ → Option Group
group_at n = find (λ g. terms.number_of g == n) groups_all

group_at-number_of : (g : Group) → group_at (terms.number_of g) ≡ Some g
unfolding group_at groups_all
group_at-number_of groups.Root = refl
group_at-number_of groups.InvoiceNote = refl
group_at-number_of groups.ProcessControl = refl
group_at-number_of groups.PrecedingInvoice = refl
group_at-number_of groups.Seller = refl
group_at-number_of groups.SellerAddress = refl
group_at-number_of groups.SellerContact = refl
group_at-number_of groups.Buyer = refl
group_at-number_of groups.BuyerAddress = refl
group_at-number_of groups.BuyerContact = refl
group_at-number_of groups.Payee = refl
group_at-number_of groups.TaxRepresentative = refl
group_at-number_of groups.TaxRepresentativeAddress = refl
group_at-number_of groups.Delivery = refl
group_at-number_of groups.InvoicingPeriod = refl
group_at-number_of groups.DeliveryAddress = refl
group_at-number_of groups.PaymentInstructions = refl
group_at-number_of groups.CreditTransfer = refl
group_at-number_of groups.PaymentCard = refl
group_at-number_of groups.DirectDebit = refl
group_at-number_of groups.DocumentAllowance = refl
group_at-number_of groups.DocumentCharge = refl
group_at-number_of groups.DocumentTotals = refl
group_at-number_of groups.VatBreakdown = refl
group_at-number_of groups.SupportingDocument = refl
group_at-number_of groups.InvoiceLine = refl
group_at-number_of groups.LinePeriod = refl
group_at-number_of groups.LineAllowance = refl
group_at-number_of groups.LineCharge = refl
group_at-number_of groups.PriceDetails = refl
group_at-number_of groups.LineVat = refl
group_at-number_of groups.ItemInformation = refl
group_at-number_of groups.ItemAttribute = refl
group_at-number_of groups.SellerIdentifier = refl
group_at-number_of groups.SellerSchemedIdentifier = refl
group_at-number_of groups.ItemClassification = refl

pub group-sound : (a b : Group) → same_group a b ≡ true → a ≡ b
group-sound a b e = same_Some _ _ (sym (group_at-number_of a) ∙ (ap group_at (eqb-true (terms.number_of a) (terms.number_of b) e) ∙ group_at-number_of b))

or_none-sound : (a b : Option Group) → same_or_none a b ≡ true → a ≡ b
or_none-sound None None e = refl
or_none-sound None (Some b) e = cc
or_none-sound (Some a) None e = cc
or_none-sound (Some a) (Some b) e = ap Some (group-sound a b e)

flag-sound : (a b : Bool) → same_flag a b ≡ true → a ≡ b
flag-sound true true e = refl
flag-sound true false e = cc
flag-sound false true e = cc
flag-sound false false e = refl

pub name-sound : (a b : ElementName) → same_name a b ≡ true → a ≡ b
name-sound a b e =
    let h = both (same_namespace a.namespace b.namespace) (bytes_eq a.local b.local) e in
    let p = namespace-sound a.namespace b.namespace h.0 in
    let q = text-sound a.local b.local h.1 in
    λ i. record { namespace = p i; local = q i }

pub leaf-sound : (a b : Leaf) → same_leaf a b ≡ true → a ≡ b
leaf-sound leaves.Element leaves.Element e = refl
leaf-sound leaves.Element (leaves.Attribute b) e = cc
leaf-sound (leaves.Attribute a) leaves.Element e = cc
leaf-sound (leaves.Attribute a) (leaves.Attribute b) e = ap leaves.Attribute (text-sound a b e)

place-sound : (a b : Place) → same_place a b ≡ true → a ≡ b
place-sound a b e =
    let h = both (pointwise same_name a.path b.path) (same_leaf a.leaf b.leaf) e in
    let p = pointwise-sound same_name name-sound a.path b.path h.0 in
    let q = leaf-sound a.leaf b.leaf h.1 in
    λ i. record { path = p i; leaf = q i }

test-sound : (a b : Test) → same_test a b ≡ true → a ≡ b
test-sound (tests.OneOf a) (tests.OneOf b) e = ap tests.OneOf (pointwise-sound bytes_eq text-sound a b e)
test-sound (tests.OneOf a) (tests.NoneOf b) e = cc
test-sound (tests.OneOf a) tests.Present e = cc
test-sound (tests.OneOf a) tests.Absent e = cc
test-sound (tests.NoneOf a) (tests.OneOf b) e = cc
test-sound (tests.NoneOf a) (tests.NoneOf b) e = ap tests.NoneOf (pointwise-sound bytes_eq text-sound a b e)
test-sound (tests.NoneOf a) tests.Present e = cc
test-sound (tests.NoneOf a) tests.Absent e = cc
test-sound tests.Present (tests.OneOf b) e = cc
test-sound tests.Present (tests.NoneOf b) e = cc
test-sound tests.Present tests.Present e = refl
test-sound tests.Present tests.Absent e = cc
test-sound tests.Absent (tests.OneOf b) e = cc
test-sound tests.Absent (tests.NoneOf b) e = cc
test-sound tests.Absent tests.Present e = cc
test-sound tests.Absent tests.Absent e = refl

guard-sound : (a b : Guard) → same_guard a b ≡ true → a ≡ b
guard-sound a b e =
    let h = both (same_place a.place b.place) (same_test a.test b.test) e in
    let p = place-sound a.place b.place h.0 in
    let q = test-sound a.test b.test h.1 in
    λ i. record { place = p i; test = q i }

chosen : (t : Bool) (b : Bool) → choose t (λ _. b) (λ _. false) ≡ true → (t ≡ true) × (b ≡ true)
chosen true b e = (refl, e)
chosen false b e = cc

pub step-sound : (a b : Step) → same_step a b ≡ true → a ≡ b
step-sound a b e =
    let h = chosen (a.number == b.number) (same_rest_of_step a b) e in
    let h1 = both (same_name a.name b.name) _ h.1 in
    let h2 = both (same_flag a.always b.always) _ h1.1 in
    let h3 = both (same_or_none a.group b.group) (pointwise same_guard a.guards b.guards) h2.1 in
    let n = eqb-true a.number b.number h.0 in
    let m = name-sound a.name b.name h1.0 in
    let f = flag-sound a.always b.always h2.0 in
    let g = or_none-sound a.group b.group h3.0 in
    let gs = pointwise-sound same_guard guard-sound a.guards b.guards h3.1 in
    λ i. record { name = m i; number = n i; always = f i; group = g i; guards = gs i }
