-- An invoice has no first lack exactly where it is valid.
use Rattle.std.proofs.Common.{◌≡◌, ℕ, ◌<◌, Bool, true, false, ◌&&◌, ◌||◌, List, [], ◌∷◌, length, Option, Some, None, refl, sym, ap, ◌∙◌, subst, ◌⊎◌, inl, inr}
use Rattle.std.proofs.Common.{arith}
use Rattle.std.specs.Prelude.{◌==◌, ◌↔◌, not, filter, map, slice_get, is_none, option_map, option_and_then, if◌then◌else◌, Contains}
use Rattle.std.specs.List.{list_any}
use Rattle.std.proofs.lemmas.Option.{same_Some, slice_get_within, get_or_from_slice_get, slice_get-get_or}
use Rattle.std.proofs.lemmas.Bool.{false≢true}
use Rattle.std.proofs.lemmas.Bool.Decides.{nat_tests}
use Rattle.code_lists.specs.CodeFiles.{Lists, allows}
use Rattle.code_lists.specs.declared.names.List.{List as CodeList}
use Rattle.term_table.specs.declared.groups.Group.{Group}
use Rattle.term_table.specs.declared.groups.Group.TheVariants as groups
use Rattle.term_table.specs.declared.groups.Occurrence.{Occurrence}
use Rattle.term_table.specs.declared.groups.Occurrence.TheVariants as occurs
use Rattle.term_table.specs.declared.terms.Mark.{Mark}
use Rattle.term_table.specs.declared.terms.Mark.TheVariants as marks
use Rattle.term_table.specs.declared.terms.Term.{Term}
use Rattle.term_table.specs.declared.terms.TermRow.{TermRow}
use Rattle.term_table.specs.declared.contexts.Slot.{Slot}
use Rattle.term_table.specs.declared.contexts.Context.{Context}
use Rattle.term_table.specs.declared.contexts.Seat.{Seat}
use Rattle.term_table.specs.SemanticModel.{same_term, terms}
use Rattle.term_table.specs.Groups.{parent_of, occurrence_of, may_repeat}
use Rattle.term_table.specs.Contexts.{has_context, same_slot, same_context, is_inside, slot_group, same_groups, outer_group}
use Rattle.term_table.specs.declared.terms.DataType.TheVariants as data_types
use Rattle.term_table.specs.Rows.{row_of}
use Rattle.term_table.specs.Places.{first_row, place, place_of}
use Rattle.term_table.proofs.GroupLemmas.{both}
use Rattle.term_table.proofs.SeatLemmas.{same_term_is}
use Rattle.inv_terms.specs.declared.values.Value.{Value}
use Rattle.inv_terms.specs.declared.values.Value.TheVariants as values
use Rattle.inv_terms.specs.declared.entries.Entry.{Entry}
use Rattle.inv_terms.specs.Listing.{seat_of}
use Rattle.inv_terms.proofs.PushLemmas.{same_slot_itself, and_pair}
use Rattle.inv_terms.specs.declared.violations.Name.{Name}
use Rattle.inv_terms.specs.declared.violations.Name.TheVariants as names
use Rattle.inv_terms.specs.declared.violations.TermFault.TheVariants as faults
use Rattle.inv_terms.specs.declared.violations.ModelViolation.{ModelViolation}
use Rattle.inv_terms.specs.Lacking.{is_at, has, has_term, is_around, shows_its_group, stands, decided, first_decided, is_there, whole_term, is_needed}
use Rattle.inv_terms.specs.Lacking.{is_missing, is_slot_in, has_occurrence, is_at_least_once, lacks_group, missing_at}
use Rattle.inv_terms.specs.Validity.{first_violation, list_of, code_in, is_outside, is_unlisted, unlisted}
use Rattle.inv_terms.specs.Whole.{IsContextOf, Stands, ShowsGroup, IsThere, IsMandatory, HasOccurrence, IsWhole, IsListed, IsValid, seats_in, IsViolation}
use Rattle.inv_terms.proofs.ContextLemmas.{here, there, member_cases, no_member, context_is}
use Rattle.inv_terms.proofs.FirstLemmas.{told, each_violation}

bool_cases : (b : Bool) → (b ≡ true) ⊎ (b ≡ false)
bool_cases true = inl refl
bool_cases false = inr refl

either : (a b : Bool) → (a || b) ≡ true → (a ≡ true) ⊎ (b ≡ true)
either true b h = inl refl
either false b h = inr h

or_left : (a b : Bool) → a ≡ true → (a || b) ≡ true
or_left a b h = rw h refl

or_right : (a b : Bool) → b ≡ true → (a || b) ≡ true
or_right true b h = refl
or_right false b h = h

-- ---- tests of some element

any_from : {X : Type 0} (p : X → Bool) (xs : List X) → list_any p xs ≡ true → (x : X) × Contains xs x × (p x ≡ true)
any_from p [] h = absurd (false≢true h)
any_from p (x ∷ xs) h = elim (either (p x) _ h) [
  | inl now ↦ (x, here x xs, now)
  | inr later ↦ (let w = any_from p xs later in (w.0, there x w.0 xs w.1, w.2))
]

any_to : {X : Type 0} (p : X → Bool) (xs : List X) (x : X) → Contains xs x → p x ≡ true → list_any p xs ≡ true
any_to p [] x w h = absurd (no_member x w)
any_to p (y ∷ xs) x w h = elim (member_cases y x xs w) [ inl e ↦ or_left _ _ (ap p e ∙ h) | inr m ↦ or_right _ _ (any_to p xs x m h) ]

-- over the seats in a context
seats_from : (p : Seat → Bool) (q : Entry → Bool) (es : List Entry) → list_any p (map seat_of (filter q es)) ≡ true → (e : Entry) × Contains es e × (q e ≡ true)
    × (p (seat_of e) ≡ true)
seats_from p q [] h = absurd (false≢true h)
seats_from p q (e ∷ es) h = elim (bool_cases (q e)) [
  | inl kept ↦ elim (either (p (seat_of e)) _ (sym (ap (λ b. list_any p (map seat_of (if b then e ∷ filter q es else filter q es))) kept) ∙ h)) [
    | inl now ↦ (e, here e es, kept, now)
    | inr later ↦ (let w = seats_from p q es later in (w.0, there e w.0 es w.1, w.2, w.3))
  ]
  | inr gone ↦ (let w = seats_from p q es (sym (ap (λ b. list_any p (map seat_of (if b then e ∷ filter q es else filter q es))) gone) ∙ h) in
      (w.0, there e w.0 es w.1, w.2, w.3))
]

seats_to : (p : Seat → Bool) (q : Entry → Bool) (es : List Entry) (e : Entry) → Contains es e → q e ≡ true → p (seat_of e) ≡ true →
    list_any p (map seat_of (filter q es)) ≡ true
seats_to p q [] e w h k = absurd (no_member e w)
seats_to p q (f ∷ es) e w h k = elim (member_cases f e es w) [
  | inl is ↦
      let kept : q f ≡ true = ap q is ∙ h in
      rw kept (or_left _ _ (ap (λ x. p (seat_of x)) is ∙ k))
  | inr m ↦ elim (bool_cases (q f)) [
    | inl kept ↦ rw kept (or_right _ _ (seats_to p q es e m h k))
    | inr gone ↦ rw gone (seats_to p q es e m h k)
  ]
]

-- ---- terms that stand

inside_itself : (c : Context) → is_inside c c ≡ true
inside_itself c = and_pair _ _ (level c.outer) (level c.inner)
  where
    level : (o : Option Slot) → (is_none o || same_slot o o) ≡ true
    level None = refl
    level (Some s) = same_slot_itself (Some s)

term_itself : (t : Term) → same_term t t ≡ true
term_itself t =
    let a : (t.number == t.number) ≡ true = grind (arith, nat_tests) in
    let b : (t.part == t.part) ≡ true = grind (arith, nat_tests) in
    and_pair _ _ a b

context_itself : (c : Context) → same_context c c ≡ true
context_itself c = and_pair _ _ (same_slot_itself c.outer) (same_slot_itself c.inner)

module _ (es : List Entry) (c : Context) where
  within : Entry → Bool
  within e = is_inside c e.context

  stands_from : (term : Term) → has (seats_in es c) c term ≡ true → Stands es c term
  unfolding within
  stands_from term h =
      let w = seats_from (is_at c term) within es h in
      let k = both (same_term w.0.term term) _ w.3 in
      record { entry = w.0; member = w.1; term_is = same_term_is w.0.term term k.0; context_is = context_is w.0.context c k.1 }

  stands_to : (term : Term) → Stands es c term → has (seats_in es c) c term ≡ true
  unfolding within
  stands_to term s = seats_to (is_at c term) within es s.entry s.member
      (ap (is_inside c) s.context_is ∙ inside_itself c)
      (and_pair _ _ (ap (λ t. same_term t term) s.term_is ∙ term_itself term) (ap (λ x. same_context x c) s.context_is ∙ context_itself c))

  shows_from : (g : Group) → stands (seats_in es c) g ≡ true → ShowsGroup es c g
  unfolding within
  shows_from g h =
      let r = any_from (λ (row : TermRow). is_around g row.group && (shows_its_group row.term && has_term (seats_in es c) row.term)) terms h in
      let k = both (is_around g r.0.group) _ r.2 in
      let l = both (shows_its_group r.0.term) _ k.1 in
      let w = seats_from (λ (s : Seat). same_term s.term r.0.term) within es l.1 in
      record { entry = w.0; member = w.1; within = w.2; row = r.0; is_row = r.1; term_is = same_term_is w.0.term r.0.term w.3; around = k.0; counts = l.0 }

  shows_to : (g : Group) → ShowsGroup es c g → stands (seats_in es c) g ≡ true
  unfolding within
  shows_to g s =
      any_to (λ (row : TermRow). is_around g row.group && (shows_its_group row.term && has_term (seats_in es c) row.term)) terms s.row s.is_row
      (and_pair _ _ s.around (and_pair _ _ s.counts
      (seats_to (λ (x : Seat). same_term x.term s.row.term) within es s.entry s.member s.within (ap (λ t. same_term t s.row.term) s.term_is ∙
      term_itself s.row.term))))

  occurrence_from : (g : Group) → has_occurrence (seats_in es c) g ≡ true → HasOccurrence es c g
  unfolding within
  occurrence_from g h =
      let w = seats_from (λ (s : Seat). is_slot_in g s.context.outer || is_slot_in g s.context.inner) within es h in
      record { entry = w.0; member = w.1; within = w.2; occurrence = w.3 }

  occurrence_to : (g : Group) → HasOccurrence es c g → has_occurrence (seats_in es c) g ≡ true
  unfolding within
  occurrence_to g o = seats_to (λ (s : Seat). is_slot_in g s.context.outer || is_slot_in g s.context.inner) within es o.entry o.member o.within o.occurrence

-- ---- groups that are there

three_up : (g : Group) → parent_of (parent_of (parent_of g)) ≡ groups.Root
unfolding parent_of
three_up groups.Root = refl
three_up groups.InvoiceNote = refl
three_up groups.ProcessControl = refl
three_up groups.PrecedingInvoice = refl
three_up groups.Seller = refl
three_up groups.SellerIdentifier = refl
three_up groups.SellerSchemedIdentifier = refl
three_up groups.SellerAddress = refl
three_up groups.SellerContact = refl
three_up groups.Buyer = refl
three_up groups.BuyerAddress = refl
three_up groups.BuyerContact = refl
three_up groups.Payee = refl
three_up groups.TaxRepresentative = refl
three_up groups.TaxRepresentativeAddress = refl
three_up groups.Delivery = refl
three_up groups.InvoicingPeriod = refl
three_up groups.DeliveryAddress = refl
three_up groups.PaymentInstructions = refl
three_up groups.CreditTransfer = refl
three_up groups.PaymentCard = refl
three_up groups.DirectDebit = refl
three_up groups.DocumentAllowance = refl
three_up groups.DocumentCharge = refl
three_up groups.DocumentTotals = refl
three_up groups.VatBreakdown = refl
three_up groups.SupportingDocument = refl
three_up groups.InvoiceLine = refl
three_up groups.LinePeriod = refl
three_up groups.LineAllowance = refl
three_up groups.LineCharge = refl
three_up groups.PriceDetails = refl
three_up groups.LineVat = refl
three_up groups.ItemInformation = refl
three_up groups.ItemClassification = refl
three_up groups.ItemAttribute = refl

root_once : occurrence_of groups.Root ≡ occurs.Once
unfolding occurrence_of
root_once = refl

root_parent : parent_of groups.Root ≡ groups.Root
unfolding parent_of
root_parent = refl

abbrev decided_as : Occurrence → List Seat → Group → Option Bool
decided_as o seats g = elim o [
  | occurs.Once ↦ None
  | occurs.AtMostOnce ↦ Some (stands seats g)
  | occurs.AnyNumber ↦ Some true
  | occurs.AtLeastOnce ↦ Some true
]

module _ (es : List Entry) (c : Context) where
  level_from : (g : Group) (ds : List (Option Bool)) → first_decided (decided (seats_in es c) g ∷ ds) ≡ true →
      (first_decided ds ≡ true → IsThere es c (parent_of g)) → IsThere es c g
  level_from g ds h above = go (occurrence_of g) refl (h)
    where
      go : (o : Occurrence) → occurrence_of g ≡ o → first_decided (decided_as o (seats_in es c) g ∷ ds) ≡ true → IsThere es c g
      go occurs.Once e k = IsThere.once g e (above k)
      go occurs.AtMostOnce e k = IsThere.shown g e (shows_from es c g k)
      go occurs.AnyNumber e k = IsThere.repeated g (ap may_repeat e)
      go occurs.AtLeastOnce e k = IsThere.repeated g (ap may_repeat e)

  there_from : (g : Group) → is_there (seats_in es c) g ≡ true → IsThere es c g
  there_from g h =
      level_from g (decided (seats_in es c) (parent_of g) ∷ decided (seats_in es c) (parent_of (parent_of g)) ∷ []) h (λ k.
      level_from (parent_of g) (decided (seats_in es c) (parent_of (parent_of g)) ∷ []) k (λ l.
      level_from (parent_of (parent_of g)) [] l (λ _. subst (IsThere es c) (sym (three_up g)) IsThere.invoice)))

  decided_once : (g : Group) → occurrence_of g ≡ occurs.Once → decided (seats_in es c) g ≡ None
  decided_once g e = ap (λ o. decided_as o (seats_in es c) g) e

  drop_third : (x y : Option Bool) → first_decided (x ∷ y ∷ None ∷ []) ≡ first_decided (x ∷ y ∷ [])
  drop_third None None = refl
  drop_third None (Some b) = refl
  drop_third (Some a) y = refl

  there_to : (g : Group) → IsThere es c g → is_there (seats_in es c) g ≡ true
  there_to g IsThere.invoice =
      let d = decided_once groups.Root root_once in
      ap (λ x. first_decided (x ∷ decided (seats_in es c) (parent_of groups.Root) ∷ decided (seats_in es c) (parent_of (parent_of groups.Root)) ∷ [])) d
      ∙ (ap (λ x. first_decided (None ∷ decided (seats_in es c) x ∷ decided (seats_in es c) (parent_of x) ∷ [])) root_parent
      ∙ (ap (λ x. first_decided (None ∷ x ∷ decided (seats_in es c) (parent_of groups.Root) ∷ [])) d
      ∙ (ap (λ x. first_decided (None ∷ None ∷ decided (seats_in es c) x ∷ [])) root_parent ∙ ap (λ x. first_decided (None ∷ None ∷ x ∷ [])) d)))
  there_to g (IsThere.repeated group r) = go (occurrence_of group) refl (r)
    where
      go : (o : Occurrence) → occurrence_of group ≡ o → may_repeat o ≡ true → is_there (seats_in es c) group ≡ true
      go occurs.Once e k = absurd (false≢true k)
      go occurs.AtMostOnce e k = absurd (false≢true k)
      go occurs.AnyNumber e k =
          ap (λ o. first_decided (decided_as o (seats_in es c) group ∷ decided (seats_in es c) (parent_of group) ∷ decided (seats_in es c)
          (parent_of (parent_of group)) ∷ [])) e
      go occurs.AtLeastOnce e k =
          ap (λ o. first_decided (decided_as o (seats_in es c) group ∷ decided (seats_in es c) (parent_of group) ∷ decided (seats_in es c)
          (parent_of (parent_of group)) ∷ [])) e
  there_to g (IsThere.once group e above) =
      let up = there_to (parent_of group) above in
      let last : decided (seats_in es c) (parent_of (parent_of (parent_of group))) ≡ None = ap (decided (seats_in es c)) (three_up group) ∙
      decided_once groups.Root root_once in
      let a = decided (seats_in es c) (parent_of group) in
      let b = decided (seats_in es c) (parent_of (parent_of group)) in
      ap (λ x. first_decided (x ∷ a ∷ b ∷ [])) (decided_once group e) ∙ (sym (drop_third a b) ∙ (ap (λ x. first_decided (a ∷ b ∷ x ∷ [])) (sym last) ∙ up))
  there_to g (IsThere.shown group e s) =
      let a = decided (seats_in es c) (parent_of group) in
      let b = decided (seats_in es c) (parent_of (parent_of group)) in
      ap (λ o. first_decided (decided_as o (seats_in es c) group ∷ a ∷ b ∷ [])) e ∙ shows_to es c group s

-- ---- what is mandatory

abbrev needed_as : Mark → List Seat → Context → TermRow → Bool
needed_as m seats c row = elim m [
  | marks.One ↦ is_there seats row.group
  | marks.Optional ↦ false
  | marks.After ↦ has seats c (whole_term row.term)
]

at_least_once : (g : Group) → occurrence_of g ≡ occurs.AtLeastOnce → (g ≡ groups.VatBreakdown) ⊎ (g ≡ groups.InvoiceLine)
unfolding occurrence_of
at_least_once groups.Root h = absurd (false≢true (ap is_at_least_once h))
at_least_once groups.InvoiceNote h = absurd (false≢true (ap is_at_least_once h))
at_least_once groups.ProcessControl h = absurd (false≢true (ap is_at_least_once h))
at_least_once groups.PrecedingInvoice h = absurd (false≢true (ap is_at_least_once h))
at_least_once groups.Seller h = absurd (false≢true (ap is_at_least_once h))
at_least_once groups.SellerIdentifier h = absurd (false≢true (ap is_at_least_once h))
at_least_once groups.SellerSchemedIdentifier h = absurd (false≢true (ap is_at_least_once h))
at_least_once groups.SellerAddress h = absurd (false≢true (ap is_at_least_once h))
at_least_once groups.SellerContact h = absurd (false≢true (ap is_at_least_once h))
at_least_once groups.Buyer h = absurd (false≢true (ap is_at_least_once h))
at_least_once groups.BuyerAddress h = absurd (false≢true (ap is_at_least_once h))
at_least_once groups.BuyerContact h = absurd (false≢true (ap is_at_least_once h))
at_least_once groups.Payee h = absurd (false≢true (ap is_at_least_once h))
at_least_once groups.TaxRepresentative h = absurd (false≢true (ap is_at_least_once h))
at_least_once groups.TaxRepresentativeAddress h = absurd (false≢true (ap is_at_least_once h))
at_least_once groups.Delivery h = absurd (false≢true (ap is_at_least_once h))
at_least_once groups.InvoicingPeriod h = absurd (false≢true (ap is_at_least_once h))
at_least_once groups.DeliveryAddress h = absurd (false≢true (ap is_at_least_once h))
at_least_once groups.PaymentInstructions h = absurd (false≢true (ap is_at_least_once h))
at_least_once groups.CreditTransfer h = absurd (false≢true (ap is_at_least_once h))
at_least_once groups.PaymentCard h = absurd (false≢true (ap is_at_least_once h))
at_least_once groups.DirectDebit h = absurd (false≢true (ap is_at_least_once h))
at_least_once groups.DocumentAllowance h = absurd (false≢true (ap is_at_least_once h))
at_least_once groups.DocumentCharge h = absurd (false≢true (ap is_at_least_once h))
at_least_once groups.DocumentTotals h = absurd (false≢true (ap is_at_least_once h))
at_least_once groups.VatBreakdown h = inl refl
at_least_once groups.SupportingDocument h = absurd (false≢true (ap is_at_least_once h))
at_least_once groups.InvoiceLine h = inr refl
at_least_once groups.LinePeriod h = absurd (false≢true (ap is_at_least_once h))
at_least_once groups.LineAllowance h = absurd (false≢true (ap is_at_least_once h))
at_least_once groups.LineCharge h = absurd (false≢true (ap is_at_least_once h))
at_least_once groups.PriceDetails h = absurd (false≢true (ap is_at_least_once h))
at_least_once groups.LineVat h = absurd (false≢true (ap is_at_least_once h))
at_least_once groups.ItemInformation h = absurd (false≢true (ap is_at_least_once h))
at_least_once groups.ItemClassification h = absurd (false≢true (ap is_at_least_once h))
at_least_once groups.ItemAttribute h = absurd (false≢true (ap is_at_least_once h))

-- the first rows of the two groups that have to stand
record FirstRow (g : Group) : Type 0 where
  row : TermRow
  is_row : slice_get terms (first_row g) ≡ Some row
  group_is : row.group ≡ g
  up : parent_of g ≡ groups.Root
  outer : outer_group g ≡ Some g

vat_breakdown : FirstRow groups.VatBreakdown
unfolding terms first_row parent_of occurrence_of
vat_breakdown = record {
  row = record { term = record { number = 116; part = 0 }; group = groups.VatBreakdown; data_type = data_types.A; mark = marks.One; list = None };
  is_row = refl;
  group_is = refl;
  up = refl;
  outer = refl;
}

invoice_line : FirstRow groups.InvoiceLine
unfolding terms first_row parent_of occurrence_of
invoice_line = record {
  row = record { term = record { number = 126; part = 0 }; group = groups.InvoiceLine; data_type = data_types.I; mark = marks.One; list = None };
  is_row = refl;
  group_is = refl;
  up = refl;
  outer = refl;
}

root_outer : outer_group groups.Root ≡ None
unfolding parent_of occurrence_of
root_outer = refl

first_row_of : (g : Group) → occurrence_of g ≡ occurs.AtLeastOnce → FirstRow g
first_row_of g h = elim (at_least_once g h) [ inl e ↦ subst FirstRow (sym e) vat_breakdown | inr e ↦ subst FirstRow (sym e) invoice_line ]

no_outer : (o : Option Group) → same_groups o None ≡ true → o ≡ None
no_outer None h = refl
no_outer (Some g) h = absurd (false≢true h)

and_false : (a b : Bool) → a ≡ false → (a && b) ≡ false
and_false a b h = rw h refl

-- In a context of the invoice's own terms such a group has no terms of its own.
outside : (g : Group) (c : Context) → FirstRow g → has_context (parent_of g) c ≡ true → has_context g c ≡ false
outside g c f h =
    let root : has_context groups.Root c ≡ true = ap (λ x. has_context x c) (sym f.up) ∙ h in
    let none : slot_group c.outer ≡ None = no_outer (slot_group c.outer) (ap (same_groups (slot_group c.outer)) (sym root_outer) ∙
    (both (same_groups (slot_group c.outer) (outer_group groups.Root)) _ root).0) in
    and_false (same_groups (slot_group c.outer) (outer_group g)) _ (ap (λ o. same_groups o (outer_group g)) none ∙ ap (same_groups None) f.outer)

named : {X : Type 0} (b : Bool) (x : X) → (if b then Some x else None) ≡ None → b ≡ false
named true x h = absurd (let k : Some x ≡ None = h in cc)
named false x h = refl

not_false_is : (b : Bool) → not b ≡ false → b ≡ true
not_false_is true h = refl
not_false_is false h = absurd (false≢true (sym h))

not_true_is : (b : Bool) → not b ≡ true → b ≡ false
not_true_is true h = absurd (false≢true h)
not_true_is false h = refl

and_second : (a b : Bool) → (a && b) ≡ false → a ≡ true → b ≡ false
and_second a b h k = sym (ap (λ x. x && b) k) ∙ h

false_unless : (b : Bool) → (b ≡ true → ⊥) → b ≡ false
false_unless true h = absurd (h refl)
false_unless false h = refl

module _ (es : List Entry) (c : Context) where
  needed : (row : TermRow) → IsMandatory es c row → is_needed (seats_in es c) c row ≡ true
  needed row (inl w) = ap (λ m. needed_as m (seats_in es c) c row) w.0 ∙ there_to es c row.group w.1
  needed row (inr w) = ap (λ m. needed_as m (seats_in es c) c row) w.0 ∙ stands_to es c (whole_term row.term) w.1

  mandatory : (row : TermRow) → is_needed (seats_in es c) c row ≡ true → IsMandatory es c row
  mandatory row h = go row.mark refl h
    where
      go : (m : Mark) → row.mark ≡ m → needed_as m (seats_in es c) c row ≡ true → IsMandatory es c row
      go marks.One e k = inl (e, there_from es c row.group k)
      go marks.Optional e k = absurd (false≢true k)
      go marks.After e k = inr (e, stands_from es c (whole_term row.term) k)

  whole_from : ((k : ℕ) (row : TermRow) → slice_get terms k ≡ Some row → missing_at (seats_in es c) c k row ≡ None) → IsWhole es c
  whole_from h = record {
    mandatory = λ row w at m.
        let is_row : slice_get terms w.0 ≡ Some row = slice_get-get_or terms w.0 row w.1 ∙ ap Some w.2 in
        let none : (if is_missing (seats_in es c) c row then Some (names.Term row.term) else None) ≡ None =
        sym (ap (λ b. if b then (if is_missing (seats_in es c) c row then Some (names.Term row.term) else None) else
        (if lacks_group (seats_in es c) c w.0 row then Some (names.Group row.group) else None)) at) ∙ h w.0 row is_row in
        let stands_there : not (has (seats_in es c) c row.term) ≡ false = and_second (is_needed (seats_in es c) c row) _ (named _ (names.Term row.term) none)
        (needed row m) in
        stands_from es c row.term (not_false_is _ stands_there);
    occurring = λ g o at.
        let f = first_row_of g o in
        let k = first_row g in
        let off : has_context f.row.group c ≡ false = ap (λ x. has_context x c) f.group_is ∙ outside g c f at in
        let none : (if lacks_group (seats_in es c) c k f.row then Some (names.Group f.row.group) else None) ≡ None =
        sym (ap (λ b. if b then (if is_missing (seats_in es c) c f.row then Some (names.Term f.row.term) else None) else
        (if lacks_group (seats_in es c) c k f.row then Some (names.Group f.row.group) else None)) off) ∙ h k f.row f.is_row in
        let violations : lacks_group (seats_in es c) c k f.row ≡ false = named _ (names.Group f.row.group) none in
        let once : is_at_least_once (occurrence_of f.row.group) ≡ true = ap (λ x. is_at_least_once (occurrence_of x)) f.group_is ∙ ap is_at_least_once o in
        let first : (k == first_row f.row.group) ≡ true = ap (λ x. k == first_row x) f.group_is ∙ same_number k in
        let around : has_context (parent_of f.row.group) c ≡ true = ap (λ x. has_context (parent_of x) c) f.group_is ∙ at in
        let shown : not (has_occurrence (seats_in es c) f.row.group) ≡ false = and_second _ _ (and_second _ _ (and_second _ _ violations once) first) around in
        occurrence_from es c g (ap (has_occurrence (seats_in es c)) (sym f.group_is) ∙ not_false_is _ shown);
  }
    where
      same_number : (n : ℕ) → (n == n) ≡ true
      same_number n = grind (arith, nat_tests)

  whole_to : IsWhole es c → (k : ℕ) (row : TermRow) → slice_get terms k ≡ Some row → missing_at (seats_in es c) c k row ≡ None
  whole_to w k row is_row = elim (bool_cases (has_context row.group c)) [
    | inl at ↦
        let gone : is_missing (seats_in es c) c row ≡ false = false_unless _ (λ m.
        let p = both (is_needed (seats_in es c) c row) _ m in
        let l : k < length terms = slice_get_within terms k row is_row in
        let s = w.mandatory row (k, l, get_or_from_slice_get terms k row row is_row) at (mandatory row p.0) in
        false≢true (sym (not_true_is _ p.1) ∙ stands_to es c row.term s)) in
        rw (at, gone) refl
    | inr off ↦
        let gone : lacks_group (seats_in es c) c k row ≡ false = false_unless _ (λ m.
        let p = both (is_at_least_once (occurrence_of row.group)) _ m in
        let q = both (k == first_row row.group) _ p.1 in
        let r = both (has_context (parent_of row.group) c) _ q.1 in
        false≢true (sym (not_true_is _ r.1) ∙ occurrence_to es c row.group (w.occurring row.group (at_least (occurrence_of row.group) p.0) r.0))) in
        rw (off, gone) refl
  ]
    where
      at_least : (o : Occurrence) → is_at_least_once o ≡ true → o ≡ occurs.AtLeastOnce
      at_least occurs.Once h = absurd (false≢true h)
      at_least occurs.AtMostOnce h = absurd (false≢true h)
      at_least occurs.AnyNumber h = absurd (false≢true h)
      at_least occurs.AtLeastOnce h = refl

-- ---- codes

code_is : (v : Value) (code : List ℕ) → code_in v ≡ Some code → v ≡ values.Code code
code_is (values.Code c) code h = ap values.Code (same_Some _ _ h)
code_is (values.Text t) code h = absurd (let k : None ≡ Some code = h in cc)
code_is (values.Identifier t) code h = absurd (let k : None ≡ Some code = h in cc)
code_is (values.Amount t) code h = absurd (let k : None ≡ Some code = h in cc)
code_is (values.Quantity t) code h = absurd (let k : None ≡ Some code = h in cc)
code_is (values.Percent t) code h = absurd (let k : None ≡ Some code = h in cc)
code_is (values.Date t) code h = absurd (let k : None ≡ Some code = h in cc)
code_is (values.Base64 t) code h = absurd (let k : None ≡ Some code = h in cc)

outside_is : (lists : Lists) (list : Option CodeList) (code : Option (List ℕ)) → is_outside lists list code ≡ true
    → (l : CodeList) × (x : List ℕ) × (list ≡ Some l) × (code ≡ Some x) × (allows lists l x ≡ false)
outside_is lists None code h = absurd (false≢true h)
outside_is lists (Some l) None h = absurd (false≢true h)
outside_is lists (Some l) (Some x) h = (l, x, refl, refl, not_true_is _ h)

-- A term with a list has a place.
has_place : (e : Entry) (list : CodeList) → list_of e.term e.context ≡ Some list → (place : List ℕ) × (place_of e.term e.context ≡ Some place)
has_place e list h = go (row_of e.term e.context) refl
  where
    go : (o : Option ℕ) → row_of e.term e.context ≡ o → (place : List ℕ) × (place_of e.term e.context ≡ Some place)
    go (Some row) k = (place row e.context, ap (option_map (λ r. place r e.context)) k)
    go None k = absurd (let z : None ≡ Some list = sym (ap (λ o. option_and_then (λ (row : TermRow). row.list) (option_and_then (slice_get terms) o)) k) ∙ h in
        cc)

-- ---- the law

listed_from : (es : List Entry) (lists : Lists) → ((violation : ModelViolation) → IsViolation es lists violation → ⊥) → IsListed es lists
listed_from es lists none e list code member list_is value_is = elim (bool_cases (allows lists list code)) [
  | inl allowed ↦ allowed
  | inr refused ↦
      let p = has_place e list list_is in
      let found : is_unlisted lists e ≡ true = ap (λ o. is_outside lists o (code_in e.value)) list_is ∙
      (ap (λ v. is_outside lists (Some list) (code_in v)) value_is ∙ ap not refused) in
      let violation : ModelViolation = record { place = p.0; fault = faults.CodeNotListed e.term } in
      let is : unlisted lists e ≡ Some violation = rw (found, p.1) refl in
      absurd (none violation (inr (e, member, is)))
]

unlisted_is : (lists : Lists) (e : Entry) (violation : ModelViolation) → unlisted lists e ≡ Some violation → is_unlisted lists e ≡ true
unlisted_is lists e violation h = go (is_unlisted lists e) refl h
  where
    go : (b : Bool) → is_unlisted lists e ≡ b
        → (if b then option_map (λ place. record { place = place; fault = faults.CodeNotListed e.term }) (place_of e.term e.context) else None)
        ≡ Some violation →
        is_unlisted lists e ≡ true
    go true k l = k
    go false k l = absurd (let z : None ≡ Some violation = l in cc)

no_violation : (es : List Entry) (lists : Lists) → IsValid es lists → (violation : ModelViolation) → IsViolation es lists violation → ⊥
no_violation es lists v violation (inl m) =
    let none = whole_to es m.context (v.whole m.context m.is_context) m.number m.row m.is_row in
    let z : None ≡ Some m.name = sym none ∙ m.missing in
    cc
no_violation es lists v violation (inr w) =
    let o = outside_is lists (list_of w.0.term w.0.context) (code_in w.0.value) (unlisted_is lists w.0 violation w.2) in
    false≢true (sym o.4 ∙ v.listed w.0 o.0 o.1 w.1 o.2 (code_is w.0.value o.1 o.3))

pub valid : (es : List Entry) (lists : Lists) → ((first_violation es lists ≡ None) ↔ IsValid es lists)
valid es lists = (there_is, nothing)
  where
    there_is : first_violation es lists ≡ None → IsValid es lists
    there_is h = record {
      whole = λ c shown. whole_from es c (λ k row is_row. every c shown k row is_row (missing_at (seats_in es c) c k row) refl);
      listed = listed_from es lists (refused h);
    }
      where
        refused : first_violation es lists ≡ None → (violation : ModelViolation) → IsViolation es lists violation → ⊥
        refused h violation is =
            let w = each_violation es lists violation is in
            let z : None ≡ Some w.0 = sym h ∙ w.1 in
            cc

        every : (c : Context) → IsContextOf es c → (k : ℕ) (row : TermRow) → slice_get terms k ≡ Some row → (o : Option Name) →
            missing_at (seats_in es c) c k row ≡ o
            → missing_at (seats_in es c) c k row ≡ None
        every c shown k row is_row None e = e
        every c shown k row is_row (Some name) e = absurd (refused h (record { place = place k c; fault = faults.Missing name })
            (inl (record { context = c; is_context = shown; number = k; row = row; is_row = is_row; name = name; missing = e; violation_is = refl })))

    nothing : IsValid es lists → first_violation es lists ≡ None
    nothing v = go (first_violation es lists) refl
      where
        go : (o : Option ModelViolation) → first_violation es lists ≡ o → first_violation es lists ≡ None
        go None e = e
        go (Some l) e = absurd (no_violation es lists v l (told es lists l e))
