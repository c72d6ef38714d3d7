-- What stands in the places of an invoice: an attached document whose size is known is base64.
use Rattle.std.proofs.Common.{◌≡◌, ℕ, zero, suc, ◌-◌, ◌<◌, ◌≤◌, Bool, true, false, List, [], ◌∷◌, map, length, refl, ap, sym, ◌∙◌, subst, inl, inr, arith}
use Rattle.std.proofs.Common.{get_or}
use Rattle.std.specs.Prelude.{Option, Some, None, Result, Ok, Err, option_map, slice_get, bytes_eq, encode_utf8_all, Contains, if◌then◌else◌}
use Rattle.std.proofs.lemmas.Bool.{cases_lt, and_from, and_parts}
use Rattle.std.proofs.lemmas.List.{length-append, length-map, get_or_append_left, get_or_at}
use Rattle.std.proofs.lemmas.Option.{same_Some, slice_get_within, slice_get-get_or, slice_get-map}
use Rattle.std.proofs.lemmas.Slice.Eq.{bytes_eq-Decides}
use Rattle.base64.specs.GeneralPurpose.{encode_of, decode_of}
use Rattle.base64.specs.Engines.{standard}
use Rattle.term_table.specs.declared.groups.Group.{Group}
use Rattle.term_table.specs.declared.groups.Group.TheVariants as groups
use Rattle.term_table.specs.declared.terms.Term.{Term}
use Rattle.term_table.specs.declared.contexts.Slot.{Slot}
use Rattle.term_table.specs.declared.contexts.Context.{Context}
use Rattle.term_table.specs.Contexts.{is_inside, same_context, root_context}
use Rattle.term_table.specs.SemanticModel.{same_term}
use Rattle.inv_terms.specs.declared.values.Value.{Value}
use Rattle.inv_terms.specs.declared.entries.Entry.{Entry}
use Rattle.inv_terms.specs.declared.attachments.AttachFault.{AttachFault}
use Rattle.inv_terms.specs.declared.attachments.AttachFault.TheVariants as faults
use Rattle.inv_terms.specs.Attachments.{attached_document, base64_in, without_white_space, decoded}
use Rattle.inv_terms.specs.Listing.{IsInvoice, is_at, value_in, last_outer, in_outer}
use Rattle.inv_terms.proofs.ContextLemmas.{context_is}
use Rattle.inv_terms.proofs.PushLemmas.{same_slot_itself}
use Rattle.page_values.specs.Places.{Place, numbers_to, slot, entries_in, occurrence, value_at, size_of, size_of_value, document_context, size_in, sizes_of}
use Rattle.page_values.specs.Places.{size_of_number, size_at, invoice_place}
use Rattle.page_laws.proofs.BareLemmas.{Bare, Bare-base64}
use Rattle.page_laws.proofs.MemberLemmas.{filter-member, find-filter}
use Rattle.page_laws.proofs.AttachedLemmas.{attached-entry, entry-of, document_slot}

-- An attached document that has a size has no byte but those of base64.
abbrev pub IsSafe : Place → Type 0
IsSafe place = (term : Term) (value : Value) (text : List ℕ) (size : ℕ) → value_at place term ≡ Some value → base64_in value ≡ Some text
    → size_at place ≡ Some size → Bare (encode_utf8_all (without_white_space text))

-- ---- texts that have a size

same-text : (q : Bool) (bytes wanted : List ℕ) → (if q then Some wanted else None) ≡ Some bytes → q ≡ true
same-text true bytes wanted e = refl
same-text false bytes wanted e = cc

decoded-bare : (text bytes : List ℕ) → decoded text ≡ Some bytes → Bare text
decoded-bare text bytes h = by (decode_of standard text) h
  where
    by : {E : Type 0} (r : Result (List ℕ) E)
        → elim r [ Err e ↦ None | Ok wanted ↦ if bytes_eq (encode_of standard wanted) text then Some wanted else None ] ≡ Some bytes → Bare text
    by (Err e) k = cc
    by (Ok wanted) k =
        let same : encode_of standard wanted ≡ text = (bytes_eq-Decides (encode_of standard wanted) text).0 (same-text _ bytes wanted k) in
        subst Bare same (Bare-base64 wanted)

sized-bare : (text : List ℕ) (size : ℕ) → size_of text ≡ Some size → Bare (encode_utf8_all (without_white_space text))
sized-bare text size h = by (decoded (encode_utf8_all (without_white_space text))) refl h
  where
    Bytes : Option (List ℕ) → Result (List ℕ) AttachFault
    Bytes o = elim o [ None ↦ Err faults.NotBase64 | Some bytes ↦ Ok bytes ]

    Size : Option (List ℕ) → Option ℕ
    Size o = elim (Bytes o) [ Ok bytes ↦ Some (length bytes) | Err fault ↦ None ]

    by : (o : Option (List ℕ)) → decoded (encode_utf8_all (without_white_space text)) ≡ o → Size o ≡ Some size
        → Bare (encode_utf8_all (without_white_space text))
    by None e k = cc
    by (Some bytes) e k = decoded-bare (encode_utf8_all (without_white_space text)) bytes e

sized-value : (value : Value) (text : List ℕ) (size : ℕ) → base64_in value ≡ Some text → size_of_value value ≡ Some size
    → Bare (encode_utf8_all (without_white_space text))
sized-value value text size b h =
    sized-bare text size (sym (ap (λ (o : Option (List ℕ)). elim o [ None ↦ None | Some t ↦ size_of t ]) b) ∙ h)

sized-in : (es : List Entry) (k : ℕ) (value : Value) (text : List ℕ) (size : ℕ) → value_in es attached_document (document_context k) ≡ Some value
    → base64_in value ≡ Some text → size_in es k ≡ Some size → Bare (encode_utf8_all (without_white_space text))
sized-in es k value text size v b h =
    sized-value value text size b (sym (ap (λ (o : Option Value). elim o [ None ↦ None | Some x ↦ size_of_value x ]) v) ∙ h)

-- ---- sizes by their numbers

length-numbers : (n : ℕ) → length (numbers_to n) ≡ n
length-numbers zero = refl
length-numbers (suc n) = length-append (numbers_to n) (suc n ∷ []) ∙ omega (arith, length-numbers n)

number-at : (n k : ℕ) → k < n → get_or (numbers_to n) k 0 ≡ suc k
number-at zero k h = absurd (omega arith)
number-at (suc n) k h = elim (cases_lt k n) [
  | inl below ↦ get_or_append_left (numbers_to n) (suc n ∷ []) 0 k (omega (arith, length-numbers n)) ∙ number-at n k below
  | inr above ↦ (let last : n ≡ k = omega arith in
      get_or_at (numbers_to n) (suc n) [] 0 k (length-numbers n ∙ last) ∙ ap suc last)
]

size-with : (f : ℕ → Option ℕ) (n k size : ℕ) → 1 ≤ k → size_of_number (map f (numbers_to n)) k ≡ Some size → f k ≡ Some size
size-with f n k size first h = by (slice_get (map f (numbers_to n)) (k - 1)) refl h
  where
    Or : Option (Option ℕ) → Option ℕ
    Or o = elim o [ None ↦ None | Some s ↦ s ]

    by : (o : Option (Option ℕ)) → slice_get (map f (numbers_to n)) (k - 1) ≡ o → Or o ≡ Some size → f k ≡ Some size
    by None e g = cc
    by (Some s) e g =
        let within : k - 1 < length (map f (numbers_to n)) = slice_get_within _ _ _ e in
        let below : k - 1 < n = omega (arith, length-map (numbers_to n) f, length-numbers n) in
        let at : slice_get (numbers_to n) (k - 1) ≡ Some (get_or (numbers_to n) (k - 1) 0) =
        slice_get-get_or (numbers_to n) (k - 1) 0 (omega (arith, length-numbers n)) in
        let it : get_or (numbers_to n) (k - 1) 0 ≡ k = number-at n (k - 1) below ∙ omega arith in
        let found : slice_get (map f (numbers_to n)) (k - 1) ≡ Some (f k) =
        slice_get-map f (numbers_to n) (k - 1) ∙ (ap (option_map f) at ∙ ap (λ x. Some (f x)) it) in
        same_Some _ _ (sym found ∙ e) ∙ g

-- ---- the places of an invoice

same-slot-outer : (c : Context) (s : Slot) → c ≡ in_outer s → c.outer ≡ Some s
same-slot-outer c s e = ap (λ (x : Context). x.outer) e

-- what has base64 in a place is an attached document
pub record IsAttachedAt (c : Context) (term : Term) : Type 0 where
  pub number : ℕ
  pub first : 1 ≤ number
  pub term_is : term ≡ attached_document
  pub context_is : c ≡ in_outer (document_slot number)

attached-at : (es inside : List Entry) (c : Context) (term : Term) (value : Value) (text : List ℕ) → IsInvoice es
    → ((e : Entry) → Contains inside e → Contains es e) → value_in inside term c ≡ Some value → base64_in value ≡ Some text → IsAttachedAt c term
attached-at es inside c term value text invoice within v b =
    let found = entry-of inside term c value v in
    let it = attached-entry es found.entry text invoice (within found.entry found.member) (ap base64_in found.value_is ∙ b) in
    record {
      number = it.number;
      first = it.first;
      term_is = sym found.term_is ∙ it.term;
      context_is = sym found.context_is ∙ it.context;
    }

pub invoice-safe : (es : List Entry) → IsInvoice es → IsSafe (invoice_place es)
invoice-safe es invoice term value text size v b s =
    let it = attached-at es es root_context term value text invoice (λ e m. m) v b in
    let none : None ≡ Some (document_slot it.number) = same-slot-outer root_context (document_slot it.number) it.context_is in
    cc

-- an occurrence in the invoice
module _ (es : List Entry) (invoice : IsInvoice es) (group : Group) (k : ℕ) where
  around : Context
  around = in_outer (slot group k)

  is-inside : (term : Term) (e : Entry) → is_at term around e ≡ true → is_inside around e.context ≡ true
  unfolding around
  is-inside term e h =
      let parts = and_parts (same_term e.term term) (same_context e.context around) h in
      let same : e.context ≡ around = context_is e.context around parts.1 in
      ap (is_inside around) same ∙ and_from _ true (same_slot_itself (Some (slot group k))) refl

  seen : (term : Term) → value_in (entries_in around es) term around ≡ value_in es term around
  seen term = ap (option_map (λ (e : Entry). e.value)) (find-filter (is_at term around) (λ (e : Entry). is_inside around e.context) (is-inside term) es)

  pub outer-safe : IsSafe (occurrence (invoice_place es) group k)
  unfolding around
  outer-safe term value text size v b s =
      let within = filter-member (λ (e : Entry). is_inside around e.context) es in
      let it = attached-at es (entries_in around es) around term value text invoice within v b in
      let slots : slot group k ≡ document_slot it.number = same_Some _ _ (same-slot-outer around (document_slot it.number) it.context_is) in
      let number : k ≡ it.number = ap (λ (x : Slot). x.index) slots in
      let stated : value_in es attached_document (document_context it.number) ≡ Some value =
      sym (ap (λ c. value_in es attached_document c) it.context_is) ∙ (sym (ap (λ t. value_in es t around) it.term_is) ∙ (sym (seen term) ∙ v)) in
      let size_is : size_in es it.number ≡ Some size =
      size-with (size_in es) (last_outer es groups.SupportingDocument) it.number size it.first
      (sym (ap (size_of_number (sizes_of es)) number) ∙ s) in
      sized-in es it.number value text size stated b size_is

  -- an occurrence inside it
  pub inner-safe : (inner : Group) (j : ℕ) → IsSafe (occurrence (occurrence (invoice_place es) group k) inner j)
  unfolding around
  inner-safe inner j term value text size v b s =
      let c : Context = record { outer = Some (slot group k); inner = Some (slot inner j) } in
      let within : (e : Entry) → Contains (entries_in c (entries_in around es)) e → Contains es e = λ e m.
      filter-member (λ (x : Entry). is_inside around x.context) es e
      (filter-member (λ (x : Entry). is_inside c x.context) (entries_in around es) e m) in
      let it = attached-at es (entries_in c (entries_in around es)) c term value text invoice within v b in
      let none : Some (slot inner j) ≡ None = ap (λ (x : Context). x.inner) it.context_is in
      cc
