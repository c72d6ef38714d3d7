-- Groups are the same where their numbers are, and rows that begin with the same group stand in the same one.
use Rattle.std.proofs.Common.{◌≡◌, ℕ, ◌+◌, zero, suc, Bool, true, false, ◌&&◌, List, [], ◌∷◌, Option, Some, None, refl, sym, ap, ◌∙◌, subst, add-zero, zero-add}
use Rattle.std.proofs.Common.{find, arith}
use Rattle.std.proofs.lemmas.Bool.{false≢true}
use Rattle.std.specs.Prelude.{◌==◌, slice_get}
use Rattle.std.specs.Option.{option_map}
use Rattle.std.proofs.lemmas.Option.{same_Some}
use Rattle.std.proofs.lemmas.Bool.Decides.{nat_tests}
use Rattle.term_table.specs.declared.groups.Group.{Group}
use Rattle.term_table.specs.declared.groups.Group.TheVariants as groups
use Rattle.term_table.specs.declared.terms.TermRow.{TermRow}
use Rattle.term_table.specs.SemanticModel.{terms, extension_rows, listing_rows}
use Rattle.term_table.specs.Groups.{number_of, same_group, parent_of, occurrence_of}
use Rattle.term_table.specs.Contexts.{outer_group, inner_group, same_groups}
use Rattle.term_table.specs.Places.{first_row}

all_groups : List Group
all_groups =
    groups.Root ∷ groups.InvoiceNote ∷ groups.ProcessControl ∷ groups.PrecedingInvoice ∷ groups.Seller ∷ groups.SellerAddress ∷ groups.SellerContact ∷
    groups.Buyer ∷ groups.BuyerAddress ∷ groups.BuyerContact ∷ groups.Payee ∷ groups.TaxRepresentative ∷ groups.TaxRepresentativeAddress ∷ groups.Delivery ∷
    groups.InvoicingPeriod ∷ groups.DeliveryAddress ∷ groups.PaymentInstructions ∷ groups.CreditTransfer ∷ groups.PaymentCard ∷ groups.DirectDebit ∷
    groups.DocumentAllowance ∷ groups.DocumentCharge ∷ groups.DocumentTotals ∷ groups.VatBreakdown ∷ groups.SupportingDocument ∷ groups.InvoiceLine ∷
    groups.LinePeriod ∷ groups.LineAllowance ∷ groups.LineCharge ∷ groups.PriceDetails ∷ groups.LineVat ∷ groups.ItemInformation ∷ groups.ItemAttribute ∷
    groups.SellerIdentifier ∷ groups.SellerSchemedIdentifier ∷ groups.ItemClassification ∷ []

group_at : ℕ → Option Group
group_at n = find (λ g. number_of g == n) all_groups

group_at-number_of : (g : Group) → group_at (number_of g) ≡ Some g
unfolding group_at all_groups
group_at-number_of groups.Root = refl
group_at-number_of groups.InvoiceNote = refl
group_at-number_of groups.ProcessControl = refl
group_at-number_of groups.PrecedingInvoice = refl
group_at-number_of groups.Seller = refl
group_at-number_of groups.SellerAddress = refl
group_at-number_of groups.SellerContact = refl
group_at-number_of groups.Buyer = refl
group_at-number_of groups.BuyerAddress = refl
group_at-number_of groups.BuyerContact = refl
group_at-number_of groups.Payee = refl
group_at-number_of groups.TaxRepresentative = refl
group_at-number_of groups.TaxRepresentativeAddress = refl
group_at-number_of groups.Delivery = refl
group_at-number_of groups.InvoicingPeriod = refl
group_at-number_of groups.DeliveryAddress = refl
group_at-number_of groups.PaymentInstructions = refl
group_at-number_of groups.CreditTransfer = refl
group_at-number_of groups.PaymentCard = refl
group_at-number_of groups.DirectDebit = refl
group_at-number_of groups.DocumentAllowance = refl
group_at-number_of groups.DocumentCharge = refl
group_at-number_of groups.DocumentTotals = refl
group_at-number_of groups.VatBreakdown = refl
group_at-number_of groups.SupportingDocument = refl
group_at-number_of groups.InvoiceLine = refl
group_at-number_of groups.LinePeriod = refl
group_at-number_of groups.LineAllowance = refl
group_at-number_of groups.LineCharge = refl
group_at-number_of groups.PriceDetails = refl
group_at-number_of groups.LineVat = refl
group_at-number_of groups.ItemInformation = refl
group_at-number_of groups.ItemAttribute = refl
group_at-number_of groups.SellerIdentifier = refl
group_at-number_of groups.SellerSchemedIdentifier = refl
group_at-number_of groups.ItemClassification = refl

pub same_group_is : (a b : Group) → same_group a b ≡ true → a ≡ b
same_group_is a b h =
    let e : number_of a ≡ number_of b = grind (arith, nat_tests) in
    same_Some _ _ (sym (group_at-number_of a) ∙ (ap group_at e ∙ group_at-number_of b))

pub same_group_itself : (a : Group) → same_group a a ≡ true
same_group_itself a = grind (arith, nat_tests)

-- ---- where the rows of a group begin

-- where the rows of a group begin, or the row itself
abbrev pub start : ℕ → Option Group → ℕ
start row None = row
start row (Some group) = first_row group

pub same_groups_is : (a b : Option Group) → same_groups a b ≡ true → a ≡ b
same_groups_is None None h = refl
same_groups_is None (Some b) h = absurd (false≢true h)
same_groups_is (Some a) None h = absurd (false≢true h)
same_groups_is (Some a) (Some b) h = ap Some (same_group_is a b h)

-- what a row says of the group that it stands in
at_row : (Group → Option Group) → ℕ → Option (Option Group)
at_row f row = option_map (λ (r : TermRow). f r.group) (slice_get listing_rows row)

is_at : Option (Option Group) → Option Group → Bool
is_at None g = false
is_at (Some f) g = same_groups f g

is_at-true : (o : Option (Option Group)) (g : Option Group) → is_at o g ≡ true → o ≡ Some g
unfolding is_at
is_at-true None g h = absurd (false≢true h)
is_at-true (Some f) g h = ap Some (same_groups_is f g h)

-- The rows from a number on begin where a row of the same group stands.
starts_within : (Group → Option Group) → ℕ → List TermRow → Bool
starts_within f row [] = true
starts_within f row (r ∷ rows) = is_at (at_row f (start row (f r.group))) (f r.group) && starts_within f (row + 1) rows

outer_starts : starts_within outer_group 0 listing_rows ≡ true
unfolding starts_within terms extension_rows listing_rows at_row is_at parent_of occurrence_of first_row
outer_starts = refl

inner_starts : starts_within inner_group 0 listing_rows ≡ true
unfolding starts_within terms extension_rows listing_rows at_row is_at parent_of occurrence_of first_row
inner_starts = refl

pub both : (a b : Bool) → (a && b) ≡ true → (a ≡ true) × (b ≡ true)
both true b e = (refl, e)
both false b e = cc

starts_at : (f : Group → Option Group) (row : ℕ) (rows : List TermRow) (k : ℕ) (r : TermRow) → starts_within f row rows ≡ true → slice_get rows k ≡ Some r
    → at_row f (start (row + k) (f r.group)) ≡ Some (f r.group)
unfolding starts_within
starts_at f row [] zero r h e = cc
starts_at f row [] (suc k) r h e = cc
starts_at f row (x ∷ rows) zero r h e =
    let p = both _ _ h in
    let same : x ≡ r = same_Some _ _ e in
    let q = is_at-true _ _ p.0 in
    subst (λ (y : TermRow). at_row f (start (row + 0) (f y.group)) ≡ Some (f y.group)) same (rw add-zero q)
starts_at f row (x ∷ rows) (suc k) r h e =
    let p = both _ _ h in
    let n : row + 1 + k ≡ row + suc k = omega arith in
    subst (λ m. at_row f (start m (f r.group)) ≡ Some (f r.group)) n (starts_at f (row + 1) rows k r p.1 e)

-- Where the rows of two groups begin at the same place, the groups are the same.
pub same_outer_start : (j k : ℕ) (r q : TermRow) → slice_get listing_rows j ≡ Some r → slice_get listing_rows k ≡ Some q
    → start j (outer_group r.group) ≡ start k (outer_group q.group) → outer_group r.group ≡ outer_group q.group
same_outer_start j k r q e f s =
    let a = starts_at outer_group 0 listing_rows j r outer_starts e in
    let b = starts_at outer_group 0 listing_rows k q outer_starts f in
    same_Some _ _ (sym a ∙ (ap (at_row outer_group) (rw (zero-add, zero-add) s) ∙ b))

pub same_inner_start : (j k : ℕ) (r q : TermRow) → slice_get listing_rows j ≡ Some r → slice_get listing_rows k ≡ Some q
    → start j (inner_group r.group) ≡ start k (inner_group q.group) → inner_group r.group ≡ inner_group q.group
same_inner_start j k r q e f s =
    let a = starts_at inner_group 0 listing_rows j r inner_starts e in
    let b = starts_at inner_group 0 listing_rows k q inner_starts f in
    same_Some _ _ (sym a ∙ (ap (at_row inner_group) (rw (zero-add, zero-add) s) ∙ b))
