-- In a well-formed table inner groups stand in invoice lines alone, and groups are told apart by their numbers.
use Rattle.std.proofs.Common.{◌≡◌, ℕ, Bool, true, false, List, [], get_or, Option, Some, None, refl, sym, ap, ◌∙◌}
use Rattle.std.specs.Prelude.{slice_get, is_none, is_some, Ok}
use Rattle.std.proofs.lemmas.Bool.{false≢true, and_parts, and_from}
use Rattle.std.proofs.lemmas.List.Quantifiers.{position-Some}
use Rattle.term_table.specs.declared.groups.Group.{Group}
use Rattle.term_table.specs.declared.groups.Group.TheVariants as groups
use Rattle.term_table.specs.declared.terms.Term.{Term}
use Rattle.term_table.specs.declared.terms.TermRow.{TermRow}
use Rattle.term_table.specs.declared.terms.DataType.TheVariants as data_types
use Rattle.term_table.specs.declared.terms.Mark.TheVariants as marks
use Rattle.term_table.specs.SemanticModel.{same_term, listing_rows}
use Rattle.term_table.specs.Groups.{same_group, parent_of, occurrence_of}
use Rattle.term_table.specs.Contexts.{outer_group, inner_group, same_groups, stands_in}
use Rattle.term_table.specs.Rows.{row_in, is_row_in}
use Rattle.bind_rows.specs.declared.names.Namespace.TheVariants as spaces
use Rattle.bind_rows.specs.declared.rows.Step.{Step}
use Rattle.bind_rows.specs.declared.rows.Row.{Row}
use Rattle.bind_rows.specs.declared.rows.Content.{Content}
use Rattle.bind_rows.specs.declared.rows.Content.TheVariants as contents
use Rattle.bind_rows.specs.Same.{same_step}
use Rattle.bind_table.specs.Sound.{is_unplaced}
use Rattle.bind_table.specs.WellFormed.{first_fault}
use Rattle.bind_table.proofs.SoundLemmas.{sound-at}
use Rattle.bind_meaning.specs.Picks.{has_any_term, term_in}

-- ---- groups

-- steps that are compared as the same are equal
abbrev pub StepLaw : Type 0
StepLaw = (s t : Step) → same_step s t ≡ true → s ≡ t

step_of : Group → Step
step_of group = record { name = record { namespace = spaces.UblInvoice; local = [] }; number = 0; always = false; group = Some group; guards = [] }

pub same_group-is : StepLaw → (a b : Group) → same_group a b ≡ true → a ≡ b
unfolding step_of
same_group-is law a b h =
    let e : step_of a ≡ step_of b = law (step_of a) (step_of b) (and_from (same_group a b) true h refl) in
    let f : Some a ≡ Some b = ap (λ (s : Step). s.group) e in
    cc

-- where a group is inner, its outer one is the invoice line
abbrev is_in_lines : Group → Bool
is_in_lines group = elim (inner_group group) [ None ↦ true | Some inner ↦ same_groups (outer_group group) (Some groups.InvoiceLine) ]

in-lines : (group : Group) → is_in_lines group ≡ true
unfolding parent_of occurrence_of
in-lines groups.Root = refl
in-lines groups.InvoiceNote = refl
in-lines groups.ProcessControl = refl
in-lines groups.PrecedingInvoice = refl
in-lines groups.Seller = refl
in-lines groups.SellerIdentifier = refl
in-lines groups.SellerSchemedIdentifier = refl
in-lines groups.SellerAddress = refl
in-lines groups.SellerContact = refl
in-lines groups.Buyer = refl
in-lines groups.BuyerAddress = refl
in-lines groups.BuyerContact = refl
in-lines groups.Payee = refl
in-lines groups.TaxRepresentative = refl
in-lines groups.TaxRepresentativeAddress = refl
in-lines groups.Delivery = refl
in-lines groups.InvoicingPeriod = refl
in-lines groups.DeliveryAddress = refl
in-lines groups.PaymentInstructions = refl
in-lines groups.CreditTransfer = refl
in-lines groups.PaymentCard = refl
in-lines groups.DirectDebit = refl
in-lines groups.DocumentAllowance = refl
in-lines groups.DocumentCharge = refl
in-lines groups.DocumentTotals = refl
in-lines groups.VatBreakdown = refl
in-lines groups.SupportingDocument = refl
in-lines groups.InvoiceLine = refl
in-lines groups.LinePeriod = refl
in-lines groups.LineAllowance = refl
in-lines groups.LineCharge = refl
in-lines groups.PriceDetails = refl
in-lines groups.LineVat = refl
in-lines groups.ItemInformation = refl
in-lines groups.ItemClassification = refl
in-lines groups.ItemAttribute = refl

same_groups-is : StepLaw → (a b : Option Group) → same_groups a b ≡ true → a ≡ b
same_groups-is law None None h = refl
same_groups-is law None (Some b) h = absurd (false≢true h)
same_groups-is law (Some a) None h = absurd (false≢true h)
same_groups-is law (Some a) (Some b) h = ap Some (same_group-is law a b h)

outer-is : StepLaw → (outer : Option Group) (inner group : Group) → stands_in group outer (Some inner) ≡ true → outer ≡ Some groups.InvoiceLine
outer-is law outer inner group h =
    let parts = and_parts (same_groups outer (outer_group group)) (same_groups (Some inner) (inner_group group)) h in
    let in_is : Some inner ≡ inner_group group = same_groups-is law (Some inner) (inner_group group) parts.1 in
    let lines : same_groups (outer_group group) (Some groups.InvoiceLine) ≡ true =
    ap (λ (o : Option Group). elim o [ None ↦ true | Some i ↦ same_groups (outer_group group) (Some groups.InvoiceLine) ]) in_is ∙ in-lines group in
    same_groups-is law outer (outer_group group) parts.0 ∙ same_groups-is law (outer_group group) (Some groups.InvoiceLine) lines

-- ---- rows of a well-formed table

blank : TermRow
blank = record { term = record { number = 0; part = 0 }; group = groups.Root; data_type = data_types.T; mark = marks.Optional; list = None }

some_of : (o : Option ℕ) → is_none o ≡ false → (k : ℕ) × (o ≡ Some k)
some_of None h = absurd (false≢true (sym h))
some_of (Some k) h = (k, refl)

known-row : StepLaw → (term : Term) (row : Row) (inner : Group) → is_none (row_in term row.outer row.inner) ≡ false → row.inner ≡ Some inner
    → row.outer ≡ Some groups.InvoiceLine
known-row law term row inner h e =
    let found = some_of (row_in term row.outer row.inner) h in
    let at = position-Some (is_row_in term row.outer row.inner) listing_rows found.0 blank found.1 in
    let stands = and_parts (same_term (get_or listing_rows found.0 blank).term term)
    (stands_in (get_or listing_rows found.0 blank).group row.outer row.inner) at.1 in
    outer-is law row.outer inner (get_or listing_rows found.0 blank).group
    (ap (stands_in (get_or listing_rows found.0 blank).group row.outer) (sym e) ∙ stands.1)

-- A row with a term and an inner group stands in invoice lines.
pub nested-row : StepLaw → (rows : List Row) → first_fault rows ≡ Ok tt → (i : ℕ) (row : Row) → slice_get rows i ≡ Some row → has_any_term row ≡ true
    → (inner : Group) → row.inner ≡ Some inner → row.outer ≡ Some groups.InvoiceLine
nested-row law rows h i row e t inner is = go row.content refl
  where
    go : (content : Content) → row.content ≡ content → row.outer ≡ Some groups.InvoiceLine
    go (contents.Term term) c = known-row law term row inner (ap (is_unplaced row) (sym c) ∙ (sound-at rows i row h e).known) is
    go (contents.Constant text) c = absurd (false≢true (ap (λ x. is_some (term_in x)) (sym c) ∙ t))
