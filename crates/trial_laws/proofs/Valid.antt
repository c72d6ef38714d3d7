-- The generated entries are valid: in each context they have the terms that a sample with one line has, which lacks nothing.
use Rattle.std.proofs.Common.{◌≡◌, ℕ, ◌*◌, ◌≤◌, Bool, true, false, not, ◌&&◌, ◌||◌, List, ◌++◌, Option, Some, None, refl, sym, ap, ◌∙◌, subst, arith, lit<, ◌⊎◌}
use Rattle.std.proofs.Common.{inl, inr}
use Rattle.std.specs.Prelude.{is_some, is_none, option_map, Contains, decimal}
use Rattle.std.specs.List.{list_all, list_any}
use Rattle.std.proofs.lemmas.Bool.{false≢true}
use Rattle.code_lists.specs.CodeFiles.{allows, built_in_lists}
use Rattle.term_table.specs.declared.groups.Group.{Group}
use Rattle.term_table.specs.declared.groups.Group.TheVariants as groups
use Rattle.term_table.specs.declared.contexts.Slot.{Slot}
use Rattle.term_table.specs.declared.contexts.Context.{Context}
use Rattle.term_table.specs.SemanticModel.{same_term, terms, extension_rows, listing_rows}
use Rattle.term_table.specs.Groups.{parent_of, occurrence_of}
use Rattle.term_table.specs.Contexts.{has_context, is_inside, same_slot, same_context, root_context, outer_context}
use Rattle.term_table.specs.Places.{first_row}
use Rattle.term_table.proofs.SeatLemmas.{same_term_is}
use Rattle.inv_terms.specs.declared.values.Value.TheVariants as values
use Rattle.inv_terms.specs.declared.entries.Entry.{Entry}
use Rattle.inv_terms.specs.Lacking.{is_slot_in}
use Rattle.inv_terms.specs.Validity.{first_violation, list_of, code_in, is_outside, is_unlisted}
use Rattle.inv_terms.specs.Whole.{IsContextOf, IsWhole, IsListed, IsValid}
use Rattle.inv_terms.proofs.PushLemmas.{same_slot_itself, same_slot_is, and_pair}
use Rattle.inv_terms.proofs.ContextLemmas.{append_cases, context_is}
use Rattle.inv_terms.proofs.ValidLemmas.{valid}
use Rattle.trial_invoice.specs.Amounts.{sum_of_nets}
use Rattle.trial_invoice.specs.Generated.{occurrence, amount, head, line, trial_entries}
use Rattle.trial_laws.proofs.Entries.{Each, both, not-true, or-cases, each-test, each-map, each-member, any-found, all-entries, each-entries, head-member}
use Rattle.trial_laws.proofs.Entries.{line-member}
use Rattle.trial_laws.proofs.Mirrors.{HasLike, inside-itself, whole}

-- ---- the sample

abbrev pub sample : List Entry
sample = head 0 ++ line 1

sample-lacks : first_violation sample built_in_lists ≡ None
unfolding terms extension_rows listing_rows parent_of occurrence_of first_row
sample-lacks = refl

sample-valid : IsValid sample built_in_lists
sample-valid = (valid sample built_in_lists).0 sample-lacks

-- ---- contexts

abbrev in_slot : Option Slot → Context
in_slot slot = record { outer = slot; inner = None }

-- the first occurrence of its group
abbrev first_of : Slot → Slot
first_of slot = record { group = slot.group; index = 1 }

abbrev like : Context → Context
like c = record { outer = option_map first_of c.outer; inner = None }

inside-like : (slot : Option Slot) (x : Context) → is_inside (in_slot slot) x ≡ true → is_inside (like (in_slot slot)) (like x) ≡ true
inside-like None x h = refl
inside-like (Some s) x h =
    let w = both (false || same_slot (Some s) x.outer) (true || same_slot None x.inner) h in
    let same : Some s ≡ x.outer = same_slot_is (Some s) x.outer w.0 in
    and_pair (false || same_slot (Some (first_of s)) (option_map first_of x.outer)) (true || same_slot None None)
    (ap (λ (o : Option Slot). same_slot (Some (first_of s)) (option_map first_of o)) (sym same) ∙ same_slot_itself (Some (first_of s))) refl

has-like : (slot : Option Slot) (group : Group) → has_context group (in_slot slot) ≡ has_context group (like (in_slot slot))
has-like None group = refl
has-like (Some s) group = refl

in-group-like : (group : Group) (x : Context) → is_none x.inner ≡ true → (is_slot_in group x.outer || is_slot_in group x.inner) ≡ true →
    (is_slot_in group (option_map first_of x.outer) || false) ≡ true
in-group-like group x none h = go x.outer x.inner none h
  where
    go : (o i : Option Slot) → is_none i ≡ true → (is_slot_in group o || is_slot_in group i) ≡ true → (is_slot_in group (option_map first_of o) || false) ≡ true
    go o (Some s) none h = absurd (false≢true none)
    go None None none h = h
    go (Some s) None none h = h

-- ---- each entry has one like it in the sample

abbrev is_twin : Entry → Entry → Bool
is_twin e f = same_term f.term e.term && same_context f.context (like e.context)

abbrev HasTwin : Entry → Type 0
HasTwin e = (list_any (is_twin e) sample ≡ true) × (is_none e.context.inner ≡ true)

head-twins : (sum : ℕ) → list_all (λ e. list_any (is_twin e) sample && is_none e.context.inner) (head sum) ≡ true
head-twins sum = refl

line-twins : (i : ℕ) → list_all (λ e. list_any (is_twin e) sample && is_none e.context.inner) (line i) ≡ true
line-twins i = refl

twins : (n : ℕ) → Each HasTwin (trial_entries n)
twins n =
    let p : Entry → Bool = λ (e : Entry). list_any (is_twin e) sample && is_none e.context.inner in
    each-map (λ (e : Entry). p e ≡ true) HasTwin (trial_entries n) (λ e h. both (list_any (is_twin e) sample) (is_none e.context.inner) h)
    (each-test p (trial_entries n) (all-entries p head-twins line-twins n))

forth : (n : ℕ) (slot : Option Slot) (e : Entry) → Contains (trial_entries n) e → is_inside (in_slot slot) e.context ≡ true →
    HasLike (in_slot slot) (like (in_slot slot)) sample e
forth n slot e member within =
    let t = each-member HasTwin (trial_entries n) (twins n) e member in
    let w = any-found (is_twin e) sample t.0 in
    let k = both (same_term w.0.term e.term) (same_context w.0.context (like e.context)) w.2 in
    let at : w.0.context ≡ like e.context = context_is w.0.context (like e.context) k.1 in
    record {
      other = w.0;
      member = w.1;
      term = same_term_is w.0.term e.term k.0;
      within = ap (is_inside (like (in_slot slot))) at ∙ inside-like slot e.context within;
      here = λ same. at ∙ ap like same;
      groups = λ group h. ap (λ (x : Context). is_slot_in group x.outer || is_slot_in group x.inner) at ∙ in-group-like group e.context t.1 h;
    }

-- ---- and each of the sample one among them

-- in the invoice itself and in the breakdown, the very same
abbrev is_same : Entry → Entry → Bool
is_same f e = same_term e.term f.term && same_context e.context f.context

same-there : (sum : ℕ) → list_all (λ f. list_any (is_same f) (head sum ++ line 1)) sample ≡ true
same-there sum = refl

back-same : (n : ℕ) → 1 ≤ n → (slot : Option Slot) → like (in_slot slot) ≡ in_slot slot → (f : Entry) → Contains sample f →
    is_inside (like (in_slot slot)) f.context ≡ true
    → HasLike (like (in_slot slot)) (in_slot slot) (trial_entries n) f
back-same n some slot same f member within =
    let t = each-member (λ (x : Entry). list_any (is_same x) (head (sum_of_nets n) ++ line 1) ≡ true) sample
    (each-test (λ x. list_any (is_same x) (head (sum_of_nets n) ++ line 1)) sample (same-there (sum_of_nets n))) f member in
    let w = any-found (is_same f) (head (sum_of_nets n) ++ line 1) t in
    let k = both (same_term w.0.term f.term) (same_context w.0.context f.context) w.2 in
    let at : w.0.context ≡ f.context = context_is w.0.context f.context k.1 in
    record {
      other = w.0;
      member = elim (append_cases w.0 (head (sum_of_nets n)) (line 1) w.1) [ inl a ↦ head-member n w.0 a | inr b ↦ line-member n 1 w.0 (omega arith) some b ];
      term = same_term_is w.0.term f.term k.0;
      within = ap (is_inside (in_slot slot)) at ∙ (ap (λ (c : Context). is_inside c f.context) (sym same) ∙ within);
      here = λ h. at ∙ (h ∙ same);
      groups = λ group h. ap (λ (x : Context). is_slot_in group x.outer || is_slot_in group x.inner) at ∙ h;
    }

-- in a line, the one of its term there
abbrev pub in_line : ℕ → Context
in_line i = occurrence groups.InvoiceLine i

abbrev is_like_in : ℕ → Entry → Bool
is_like_in i f = not (is_inside (in_line 1) f.context) || (same_context f.context (in_line 1) && list_any (λ (e : Entry). same_term e.term f.term) (line i))

like-there : (i : ℕ) → list_all (is_like_in i) sample ≡ true
like-there i = refl

of-line : (i : ℕ) → Each (λ (e : Entry). e.context ≡ in_line i) (line i)
of-line i = (refl, (refl, (refl, (refl, (refl, (refl, (refl, (refl, tt))))))))

not-neither : (a b : Bool) → a ≡ true → (not a || b) ≡ true → b ≡ true
not-neither true b h k = k
not-neither false b h k = absurd (false≢true h)

back-line : (n i : ℕ) → 1 ≤ i → i ≤ n → (f : Entry) → Contains sample f → is_inside (in_line 1) f.context ≡ true →
    HasLike (in_line 1) (in_line i) (trial_entries n) f
back-line n i low high f member within =
    let t = each-member (λ (x : Entry). is_like_in i x ≡ true) sample (each-test (is_like_in i) sample (like-there i)) f member in
    let u = not-neither (is_inside (in_line 1) f.context) (same_context f.context (in_line 1) && list_any (λ (e : Entry). same_term e.term f.term) (line i))
    within t in
    let v = both (same_context f.context (in_line 1)) (list_any (λ (e : Entry). same_term e.term f.term) (line i)) u in
    let w = any-found (λ (e : Entry). same_term e.term f.term) (line i) v.1 in
    let first : f.context ≡ in_line 1 = context_is f.context (in_line 1) v.0 in
    let at : w.0.context ≡ in_line i = each-member (λ (e : Entry). e.context ≡ in_line i) (line i) (of-line i) w.0 w.1 in
    record {
      other = w.0;
      member = line-member n i w.0 low high w.1;
      term = same_term_is w.0.term f.term w.2;
      within = ap (is_inside (in_line i)) at ∙ inside-itself (in_line i);
      here = λ h. at;
      groups = λ group h. ap (λ (x : Context). is_slot_in group x.outer || is_slot_in group x.inner) at ∙
          (sym (ap (λ (x : Context). is_slot_in group x.outer || is_slot_in group x.inner) first) ∙ h);
    }

-- ---- each context

abbrev pub breakdown : Context
breakdown = occurrence groups.VatBreakdown 1

whole-same : (n : ℕ) → 1 ≤ n → (slot : Option Slot) → like (in_slot slot) ≡ in_slot slot → IsWhole sample (like (in_slot slot)) →
    IsWhole (trial_entries n) (in_slot slot)
whole-same n some slot same k =
    whole (trial_entries n) (in_slot slot) sample (like (in_slot slot))
    (record { contexts = has-like slot; forth = forth n slot; back = back-same n some slot same }) k

whole-line : (n i : ℕ) → 1 ≤ i → i ≤ n → IsWhole (trial_entries n) (in_line i)
whole-line n i low high =
    let slot : Option Slot = Some (record { group = groups.InvoiceLine; index = i }) in
    whole (trial_entries n) (in_line i) sample (in_line 1) (record { contexts = has-like slot; forth = forth n slot; back = back-line n i low high })
    (sample-valid.whole (in_line 1) (inr (sample_line, (18, lit< tt, refl), inl (refl, refl))))
  where
    sample_line : Entry
    sample_line = record { context = occurrence groups.InvoiceLine 1; term = record { number = 126; part = 0 }; value = values.Identifier (decimal 1) }

whole-root : (n : ℕ) → 1 ≤ n → IsWhole (trial_entries n) root_context
whole-root n some = whole-same n some None refl (sample-valid.whole root_context (inl refl))

whole-breakdown : (n : ℕ) → 1 ≤ n → IsWhole (trial_entries n) breakdown
whole-breakdown n some =
    whole-same n some (Some (record { group = groups.VatBreakdown; index = 1 })) refl
    (sample-valid.whole breakdown (inr (sample_entry, (14, lit< tt, refl), inl (refl, refl))))
  where
    sample_entry : Entry
    sample_entry = record { context = occurrence groups.VatBreakdown 1; term = record { number = 116; part = 0 }; value = amount (100 * 0) }

-- where an entry stands
abbrev pub Place : ℕ → Entry → Type 0
Place n e = ((e.context ≡ root_context) ⊎ (e.context ≡ breakdown)) ⊎ ((i : ℕ) × (1 ≤ i) × (i ≤ n) × (e.context ≡ in_line i))

head-contexts : (sum : ℕ) → list_all (λ (e : Entry). same_context e.context root_context || same_context e.context breakdown) (head sum) ≡ true
head-contexts sum = refl

pub places : (n : ℕ) → Each (Place n) (trial_entries n)
places n =
    each-entries (Place n) n
    (each-map (λ (e : Entry). (same_context e.context root_context || same_context e.context breakdown) ≡ true) (Place n) (head (sum_of_nets n))
    (λ e h. inl (elim (or-cases (same_context e.context root_context) (same_context e.context breakdown) h) [
      | inl a ↦ inl (context_is e.context root_context a)
      | inr b ↦ inr (context_is e.context breakdown b)
    ]))
    (each-test (λ (e : Entry). same_context e.context root_context || same_context e.context breakdown) (head (sum_of_nets n)) (head-contexts (sum_of_nets n))))
    (λ i low high. each-map (λ (e : Entry). e.context ≡ in_line i) (Place n) (line i) (λ e h. inr (i, low, high, h)) (of-line i))

some-inner : (o : Option Slot) → is_none o ≡ true → is_some o ≡ true → ⊥
some-inner None h k = false≢true k
some-inner (Some s) h k = false≢true h

whole-at : (n : ℕ) → 1 ≤ n → (e : Entry) → Contains (trial_entries n) e → IsWhole (trial_entries n) (outer_context e.context)
whole-at n some e member = elim (each-member (Place n) (trial_entries n) (places n) e member) [
  | inl first ↦ elim first [
    | inl a ↦ subst (λ (c : Context). IsWhole (trial_entries n) (outer_context c)) (sym a) (whole-root n some)
    | inr b ↦ subst (λ (c : Context). IsWhole (trial_entries n) (outer_context c)) (sym b) (whole-breakdown n some)
  ]
  | inr w ↦ subst (λ (c : Context). IsWhole (trial_entries n) (outer_context c)) (sym w.3) (whole-line n w.0 w.1 w.2)
]

whole-everywhere : (n : ℕ) → 1 ≤ n → (c : Context) → IsContextOf (trial_entries n) c → IsWhole (trial_entries n) c
whole-everywhere n some c (inl root) = subst (IsWhole (trial_entries n)) (sym root) (whole-root n some)
whole-everywhere n some c (inr w) = elim w.2 [
  | inl outer ↦ subst (IsWhole (trial_entries n)) (sym outer.0) (whole-at n some w.0 w.1)
  | inr inner ↦ absurd (some-inner w.0.context.inner (each-member HasTwin (trial_entries n) (twins n) w.0 w.1).1 inner.1)
]

-- ---- each code is listed

head-listed : (sum : ℕ) → list_all (λ (e : Entry). not (is_unlisted built_in_lists e)) (head sum) ≡ true
unfolding terms extension_rows listing_rows parent_of occurrence_of
head-listed sum = refl

line-listed : (i : ℕ) → list_all (λ (e : Entry). not (is_unlisted built_in_lists e)) (line i) ≡ true
unfolding terms extension_rows listing_rows parent_of occurrence_of
line-listed i = refl

not-false : (b : Bool) → not b ≡ false → b ≡ true
not-false true h = refl
not-false false h = absurd (false≢true (sym h))

listed : (n : ℕ) → IsListed (trial_entries n) built_in_lists
listed n = λ e list code member list_is code_is.
    let p : Entry → Bool = λ (x : Entry). not (is_unlisted built_in_lists x) in
    let inside : is_unlisted built_in_lists e ≡ false =
    not-true (is_unlisted built_in_lists e) (each-member (λ (x : Entry). p x ≡ true) (trial_entries n)
    (each-test p (trial_entries n) (all-entries p head-listed line-listed n)) e member) in
    let moved : is_outside built_in_lists (list_of e.term e.context) (code_in e.value) ≡ not (allows built_in_lists list code) =
    λ i. is_outside built_in_lists (list_is i) (code_in (code_is i)) in
    not-false (allows built_in_lists list code) (sym moved ∙ inside)

pub trial-valid : (n : ℕ) → 1 ≤ n → IsValid (trial_entries n) built_in_lists
trial-valid n some = record { whole = whole-everywhere n some; listed = listed n }
