-- How much the document of an invoice weighs at most, by the lines of its table alone: by the terms that may stand in each kind of context, how often
-- groups occur, and how long texts are.
use Rattle.std.proofs.Common.{◌≡◌, ℕ, zero, suc, ◌+◌, ◌≤◌, Bool, true, false, not, ◌&&◌, ◌||◌, List, [], ◌∷◌, ◌++◌, map, length, Option, Some, None, refl, sym}
use Rattle.std.proofs.Common.{ap, ◌∙◌, subst, arith, le_refl, ◌⊎◌, inl, inr, length-append}
use Rattle.std.specs.Prelude.{is_some, is_none, option_and_then, flat_map}
use Rattle.std.specs.List.{list_any, range_with_len}
use Rattle.std.proofs.lemmas.Bool.{false≢true}
use Rattle.inv_base.specs.Tree.{Name, Attribute, Forest, an_element}
use Rattle.term_table.specs.declared.groups.Group.{Group}
use Rattle.term_table.specs.declared.terms.Term.{Term}
use Rattle.term_table.specs.declared.terms.DataType.{DataType}
use Rattle.term_table.specs.declared.contexts.Slot.{Slot}
use Rattle.term_table.specs.declared.contexts.Context.{Context}
use Rattle.term_table.specs.Contexts.{root_context, slot_group}
use Rattle.inv_terms.specs.declared.values.Value.{Value}
use Rattle.inv_terms.specs.declared.entries.Entry.{Entry}
use Rattle.inv_terms.specs.Values.{spelled}
use Rattle.inv_terms.specs.Listing.{value_in}
use Rattle.bind_rows.specs.declared.names.Leaf.{Leaf}
use Rattle.bind_rows.specs.declared.names.Leaf.TheVariants as leaves
use Rattle.bind_rows.specs.declared.rows.Step.{Step}
use Rattle.bind_rows.specs.declared.rows.Row.{Row}
use Rattle.bind_rows.specs.declared.rows.Form.{Form}
use Rattle.bind_rows.specs.declared.rows.Form.TheVariants as forms
use Rattle.bind_rows.specs.declared.rows.Content.{Content}
use Rattle.bind_rows.specs.declared.rows.Content.TheVariants as contents
use Rattle.bind_rows.specs.declared.rows.Written.{Written}
use Rattle.bind_rows.specs.declared.rows.Written.TheVariants as written
use Rattle.bind_rows.specs.Added.{is_typed, data_type_of_form}
use Rattle.bind_table.specs.Lines.{Plan, Cell, nothing, a_line, plan_of}
use Rattle.bind_meaning.specs.Currencies.{currency_id}
use Rattle.bind_meaning.specs.Values.{form_for}
use Rattle.bind_meaning.specs.Writing.{is_iban, scheme_of, slot_for, context_for, formed, if_so, if_due, filled, has_slots, is_of_type, of_type, of_form}
use Rattle.bind_meaning.specs.Writing.{value_for, term_text, row_text, writes_entry}
use Rattle.bind_meaning.specs.Trees.{outer_count, inner_count, outer_spots, inner_spots, or_here, spots, cells_hold, either, holds, name_of, shows_currency}
use Rattle.bind_meaning.specs.Trees.{currency_term, attribute, currency_attribute, is_at_element, currency_of_cell, constant_or_text, attribute_of_cell}
use Rattle.bind_meaning.specs.Trees.{attributes, text_of_cell, with_text, element_text, has_constant, is_constant, line_holds, is_due, is_emitted}
use Rattle.bind_meaning.specs.Trees.{holds_further, elements, written_lines, document_of}
use Rattle.trial_laws.proofs.Weights.{Scale, IsScale, attributes_weight, weight}

-- ---- what is known of an invoice

-- Which terms may stand in a context of the kind: the invoice itself, or an occurrence of a group. How often a group occurs at most, and how long the
-- text of a value is at most.
pub record Known : Type 0 where
  pub stands : Option Group → Term → Bool
  pub most : Group → ℕ
  pub long : ℕ

pub record AreKnown (known : Known) (es : List Entry) : Type 0 where
  pub terms : (c : Context) (term : Term) (value : Value) → value_in es term c ≡ Some value → known.stands (slot_group c.outer) term ≡ true
  pub texts : (form : Form) (c d : Context) (term : Term) (value : Value) → value_in es term d ≡ Some value → length (formed form es c value) ≤ known.long
  pub outer : (group : Group) → outer_count es group ≤ known.most group
  pub inner : (slot : Slot) (group : Group) → inner_count es slot group ≡ 0

-- ---- what a row may write

abbrev pub group_at : Row → Option Group → Option Group
group_at row kind = elim row.outer [ None ↦ None | Some group ↦ kind ]

abbrev pub stands_beside : Known → Written → Option Group → Bool
stands_beside known written.Always kind = false
stands_beside known written.Never kind = false
stands_beside known written.IfIban kind = false
stands_beside known written.IfNotIban kind = false
stands_beside known written.IfScheme kind = false
stands_beside known written.IfNoScheme kind = false
stands_beside known (written.OrPlaceholder placeholder) kind = known.stands kind placeholder.beside
stands_beside known written.VatTotal kind = false
stands_beside known written.AccountingVatTotal kind = false

abbrev pub placeholder_length : Written → ℕ
placeholder_length written.Always = 0
placeholder_length written.Never = 0
placeholder_length written.IfIban = 0
placeholder_length written.IfNotIban = 0
placeholder_length written.IfScheme = 0
placeholder_length written.IfNoScheme = 0
placeholder_length (written.OrPlaceholder placeholder) = length placeholder.text
placeholder_length written.VatTotal = 0
placeholder_length written.AccountingVatTotal = 0

abbrev pub may_write_term : Known → Row → Option Group → Term → Bool
may_write_term known row kind term = either (known.stands (group_at row kind) term) (λ _. stands_beside known row.written (group_at row kind))

abbrev pub may_write : Known → Option Group → Row → Bool
may_write known kind row = elim row.content [ (contents.Term term) ↦ may_write_term known row kind term | (contents.Constant text) ↦ false ]

abbrev pub has_text : Known → Option Group → Row → Bool
has_text known kind row = elim row.content [ (contents.Term term) ↦ may_write_term known row kind term | (contents.Constant text) ↦ true ]

abbrev pub text_length : Known → Row → ℕ
text_length known row = elim row.content [ (contents.Term term) ↦ known.long + placeholder_length row.written | (contents.Constant text) ↦ length text ]

-- ---- which lines may be written

-- the kinds of the contexts in which a line is written, by the kind of the context around it
abbrev pub reached : Option Group → Option Group → List (Option Group)
reached kind None = kind ∷ []
reached kind (Some group) = elim kind [ None ↦ None ∷ (Some group ∷ []) | Some outer ↦ Some outer ∷ [] ]

abbrev pub cells_may_hold : Known → List Cell → Option Group → Bool
cells_may_hold known cells kind = list_any (λ (cell : Cell). may_write known kind cell.row) cells

abbrev pub may_hold : Known → Plan → Option Group → Bool
may_hold known nothing kind = false
may_hold known (a_line s cells inside rest) kind =
    either (list_any (λ k. either (cells_may_hold known cells k) (λ _. may_hold known inside k)) (reached kind s.group)) (λ _. may_hold known rest kind)

abbrev pub may_emit : Known → Step → List Cell → Plan → Option Group → Bool
may_emit known s cells inside kind =
    either (either (cells_may_hold known cells kind) (λ _. may_hold known inside kind))
    (λ _. either s.always (λ _. either (has_constant cells) (λ _. is_constant cells inside)))

-- ---- how much they weigh at most

abbrev pub unspaced : List ℕ → Name
unspaced local = record { uri = []; local = local }

abbrev pub currency_room : Scale → Known → Step → Cell → ℕ
currency_room scale known s cell = elim (is_at_element cell && shows_currency s cell.row) [ true ↦ scale.given (unspaced currency_id) known.long | false ↦ 0 ]

abbrev pub attribute_room : Scale → Known → Option Group → Cell → ℕ
attribute_room scale known kind cell = elim cell.row.leaf [
  | leaves.Element ↦ 0
  | (leaves.Attribute local) ↦ elim (has_text known kind cell.row) [ true ↦ scale.given (unspaced local) (text_length known cell.row) | false ↦ 0 ]
]

abbrev pub text_room : Known → Option Group → Cell → ℕ
text_room known kind cell = elim (is_at_element cell) [
  | true ↦ elim (has_text known kind cell.row) [ true ↦ text_length known cell.row | false ↦ 0 ]
  | false ↦ 0
]

abbrev pub added : (Cell → ℕ) → List Cell → ℕ
added f [] = 0
added f (cell ∷ cells) = f cell + added f cells

abbrev pub line_room : Scale → Known → Step → List Cell → Option Group → ℕ → ℕ
line_room scale known s cells kind inside =
    scale.join (scale.base (name_of s.name) + (added (currency_room scale known s) cells + added (attribute_room scale known kind) cells))
    (scale.join (scale.text (added (text_room known kind) cells)) inside)

-- a line in one context of the kind
abbrev pub once : Scale → Known → Step → List Cell → Plan → (Option Group → ℕ) → Option Group → ℕ
once scale known s cells inside deeper kind = elim (may_emit known s cells inside kind) [ true ↦ line_room scale known s cells kind (deeper kind) | false ↦ 0 ]

-- a line in all contexts where it is written
abbrev pub spread : Scale → Known → (Option Group → ℕ) → Option Group → Option Group → ℕ → ℕ
spread scale known own None kind behind = scale.join (own kind) behind
spread scale known own (Some group) kind behind = elim kind [
  | None ↦ scale.join (own None) (scale.join (scale.times (known.most group) (own (Some group))) behind)
  | Some outer ↦ scale.join (own (Some outer)) behind
]

abbrev pub room : Scale → Known → Plan → Option Group → ℕ
room scale known nothing kind = 0
room scale known (a_line s cells inside rest) kind =
    spread scale known (once scale known s cells inside (λ k. room scale known inside k)) s.group kind (room scale known rest kind)

-- ---- small lemmas

either-cases : (a : Bool) (f : Unit {0} → Bool) → either a f ≡ true → (a ≡ true) ⊎ (f tt ≡ true)
either-cases true f h = inl refl
either-cases false f h = inr h

either-left : (a : Bool) (f : Unit {0} → Bool) → a ≡ true → either a f ≡ true
either-left true f h = refl
either-left false f h = absurd (false≢true h)

either-right : (a : Bool) (f : Unit {0} → Bool) → f tt ≡ true → either a f ≡ true
either-right true f h = refl
either-right false f h = h

or-cases : (a b : Bool) → (a || b) ≡ true → (a ≡ true) ⊎ (b ≡ true)
or-cases true b h = inl refl
or-cases false b h = inr h

or-left : (a b : Bool) → a ≡ true → (a || b) ≡ true
or-left true b h = refl
or-left false b h = absurd (false≢true h)

or-right : (a b : Bool) → b ≡ true → (a || b) ≡ true
or-right true b h = refl
or-right false b h = h

any-weaker : {X : Type 0} (p q : X → Bool) (xs : List X) → ((x : X) → p x ≡ true → q x ≡ true) → list_any p xs ≡ true → list_any q xs ≡ true
any-weaker p q [] f h = absurd (false≢true h)
any-weaker p q (x ∷ xs) f h = elim (or-cases (p x) (list_any p xs) h) [
  | inl now ↦ or-left (q x) (list_any q xs) (f x now)
  | inr later ↦ or-right (q x) (list_any q xs) (any-weaker p q xs f later)
]

some-not-none : {X : Type 0} (x : X) → ◌≡◌ {A = Option X} None (Some x) → ⊥
some-not-none x h = cc

some-same : {X : Type 0} (x y : X) → Some x ≡ Some y → x ≡ y
some-same x y h = cc

some-found : {X : Type 0} (o : Option X) → is_some o ≡ true → (x : X) × (o ≡ Some x)
some-found None h = absurd (false≢true h)
some-found (Some x) h = (x, refl)

up : (a b c : ℕ) → a ≤ b → b ≤ c → a ≤ c
up a b c h k = omega arith

abbrev pub in_slot : Option Slot → Context
in_slot slot = record { outer = slot; inner = None }

so-text : (b : Bool) (text t : List ℕ) → if_so b text ≡ Some t → (b ≡ true) × (text ≡ t)
so-text true text t h = (refl, some-same text t h)
so-text false text t h = absurd (some-not-none t h)

record IsRoomy (known : Known) (row : Row) (kind : Option Group) (term : Term) (text : List ℕ) : Type 0 where
  may : may_write_term known row kind term ≡ true
  fits : length text ≤ known.long + placeholder_length row.written

first-part : (a b c : ℕ) → a ≤ b → a ≤ b + c
first-part a b c h = omega arith

second-part : (a b c : ℕ) → a ≤ c → a ≤ b + c
second-part a b c h = omega arith

-- ---- what a row writes is known

module _ (known : Known) (es : List Entry) (are : AreKnown known es) where
  of-type-same : (data_type : DataType) (value v : Value) → of_type data_type value ≡ Some v → value ≡ v
  of-type-same data_type value v h = go (is_of_type data_type value) h
    where
      go : (b : Bool) → ◌≡◌ {A = Option Value} (elim b [ true ↦ Some value | false ↦ None ]) (Some v) → value ≡ v
      go true k = some-same value v k
      go false k = absurd (some-not-none v k)

  of-form-same : (form : Form) (value v : Value) → of_form form value ≡ Some v → value ≡ v
  of-form-same form value v h = go (data_type_of_form form) h
    where
      go : (o : Option DataType) → ◌≡◌ {A = Option Value} (elim o [ None ↦ Some value | Some data_type ↦ of_type data_type value ]) (Some v) → value ≡ v
      go None k = some-same value v k
      go (Some data_type) k = of-type-same data_type value v k

  and-then-some : (form : Form) (o : Option Value) (v : Value) → option_and_then (of_form form) o ≡ Some v → o ≡ Some v
  and-then-some form None v h = absurd (some-not-none v h)
  and-then-some form (Some value) v h = ap Some (of-form-same form value v h)

  value-from : (row : Row) (term : Term) (c : Context) (v : Value) → value_for row es term c ≡ Some v → value_in es term c ≡ Some v
  value-from row term c v h = go (is_typed (form_for row.form term)) h
    where
      within : (b : Bool) → ◌≡◌ {A = Option Value} (elim b [ true ↦ option_and_then (of_form (form_for row.form term)) (value_in es term c) | false ↦ None ])
          (Some v) → value_in es term c ≡ Some v
      within true k = and-then-some (form_for row.form term) (value_in es term c) v k
      within false k = absurd (some-not-none v k)

      go : (b : Bool)
          → ◌≡◌ {A = Option Value} (elim b [
            | true ↦ elim (has_slots row c) [ true ↦ option_and_then (of_form (form_for row.form term)) (value_in es term c) | false ↦ None ]
            | false ↦ value_in es term c
          ]) (Some v) → value_in es term c ≡ Some v
      go true k = within (has_slots row c) k
      go false k = k

  due-text : (w : Written) (term : Term) (c : Context) (text t : List ℕ) → if_due w es term c text ≡ Some t → text ≡ t
  due-text written.Always term c text t h = some-same text t h
  due-text written.Never term c text t h = absurd (some-not-none t h)
  due-text written.IfIban term c text t h = (so-text (is_iban text) text t h).1
  due-text written.IfNotIban term c text t h = (so-text (not (is_iban text)) text t h).1
  due-text written.IfScheme term c text t h = (so-text (is_some (value_in es (scheme_of term) c)) text t h).1
  due-text written.IfNoScheme term c text t h = (so-text (is_none (value_in es (scheme_of term) c)) text t h).1
  due-text (written.OrPlaceholder placeholder) term c text t h = some-same text t h
  due-text written.VatTotal term c text t h = some-same text t h
  due-text written.AccountingVatTotal term c text t h = some-same text t h

  value-stands : (c : Context) (term : Term) → is_some (value_in es term c) ≡ true → known.stands (slot_group c.outer) term ≡ true
  value-stands c term h = let w = some-found (value_in es term c) h in are.terms c term w.0 w.1

  filled-text : (w : Written) (c : Context) (t : List ℕ) → filled w es c ≡ Some t → (stands_beside known w (slot_group c.outer) ≡ true) ×
      (length t ≤ placeholder_length w)
  filled-text written.Always c t h = absurd (some-not-none t h)
  filled-text written.Never c t h = absurd (some-not-none t h)
  filled-text written.IfIban c t h = absurd (some-not-none t h)
  filled-text written.IfNotIban c t h = absurd (some-not-none t h)
  filled-text written.IfScheme c t h = absurd (some-not-none t h)
  filled-text written.IfNoScheme c t h = absurd (some-not-none t h)
  filled-text (written.OrPlaceholder placeholder) c t h =
      let w = so-text (is_some (value_in es placeholder.beside c)) placeholder.text t h in
      (value-stands c placeholder.beside w.0, subst (λ (x : List ℕ). length t ≤ length x) (sym w.1) (le_refl (length t)))
  filled-text written.VatTotal c t h = absurd (some-not-none t h)
  filled-text written.AccountingVatTotal c t h = absurd (some-not-none t h)

  kind-is : (row : Row) (slot : Option Slot) → slot_group (slot_for row.outer slot) ≡ group_at row (slot_group slot)
  kind-is row slot = go row.outer
    where
      go : (o : Option Group) → ◌≡◌ {A = Option Group} (slot_group (slot_for o slot)) (elim o [ None ↦ None | Some group ↦ slot_group slot ])
      go None = refl
      go (Some group) = refl

  term-roomy : (row : Row) (slot : Option Slot) (term : Term) (text : List ℕ) → term_text row es term (context_for row (in_slot slot)) ≡ Some text →
      IsRoomy known row (slot_group slot) term text
  term-roomy row slot term text h = go (value_for row es term (context_for row (in_slot slot))) refl h
    where
      go : (o : Option Value) → value_for row es term (context_for row (in_slot slot)) ≡ o
          → ◌≡◌ {A = Option (List ℕ)} (elim o [
            | None ↦ filled row.written es (context_for row (in_slot slot))
            | Some value ↦ if_due row.written es term (context_for row (in_slot slot))
                (formed (form_for row.form term) es (context_for row (in_slot slot)) value)
          ]) (Some text) → IsRoomy known row (slot_group slot) term text
      go None e k =
          let w = filled-text row.written (context_for row (in_slot slot)) text k in
          record {
            may = either-right (known.stands (group_at row (slot_group slot)) term) (λ _. stands_beside known row.written (group_at row (slot_group slot)))
                (ap (stands_beside known row.written) (sym (kind-is row slot)) ∙ w.0);
            fits = second-part (length text) known.long (placeholder_length row.written) w.1;
          }
      go (Some value) e k =
          let there = value-from row term (context_for row (in_slot slot)) value e in
          let same = due-text row.written term (context_for row (in_slot slot)) (formed (form_for row.form term) es (context_for row (in_slot slot)) value) text
          k in
          record {
            may = either-left (known.stands (group_at row (slot_group slot)) term) (λ _. stands_beside known row.written (group_at row (slot_group slot)))
                (ap (λ (x : Option Group). known.stands x term) (sym (kind-is row slot)) ∙ are.terms (context_for row (in_slot slot)) term value there);
            fits = first-part (length text) known.long (placeholder_length row.written)
                (subst (λ (x : List ℕ). length x ≤ known.long) same
                (are.texts (form_for row.form term) (context_for row (in_slot slot)) (context_for row (in_slot slot)) term value there));
          }

  row-may : (row : Row) (slot : Option Slot) → writes_entry row es (in_slot slot) ≡ true → may_write known (slot_group slot) row ≡ true
  row-may row slot h = go row.content h
    where
      go : (content : Content) → is_some (elim content [
        | (contents.Term term) ↦ term_text row es term (context_for row (in_slot slot))
        | (contents.Constant text) ↦ None
      ]) ≡ true
          → elim content [ (contents.Term term) ↦ may_write_term known row (slot_group slot) term | (contents.Constant text) ↦ false ] ≡ true
      go (contents.Term term) k = let w = some-found (term_text row es term (context_for row (in_slot slot))) k in (term-roomy row slot term w.0 w.1).may
      go (contents.Constant text) k = absurd (false≢true k)

  text-roomy : (row : Row) (slot : Option Slot) (text : List ℕ) → constant_or_text es (in_slot slot) row ≡ Some text
      → (has_text known (slot_group slot) row ≡ true) × (length text ≤ text_length known row)
  text-roomy row slot text h = go row.content refl h
    where
      row_is : (content : Content) → row.content ≡ content →
          ◌≡◌ {A = Option (List ℕ)} (row_text row es (in_slot slot))
          (elim content [ (contents.Term term) ↦ term_text row es term (context_for row (in_slot slot)) | (contents.Constant text) ↦ None ])
      row_is content e = λ i. elim (e i) [ (contents.Term term) ↦ term_text row es term (context_for row (in_slot slot)) | (contents.Constant text) ↦ None ]

      go : (content : Content) → row.content ≡ content →
          ◌≡◌ {A = Option (List ℕ)} (elim content [ (contents.Constant constant) ↦ Some constant | (contents.Term term) ↦ row_text row es (in_slot slot) ])
          (Some text)
          → (elim content [ (contents.Term term) ↦ may_write_term known row (slot_group slot) term | (contents.Constant text) ↦ true ] ≡ true)
          × (length text ≤ elim content [ (contents.Term term) ↦ known.long + placeholder_length row.written | (contents.Constant constant) ↦ length constant ])
      go (contents.Term term) e k = let w = term-roomy row slot term text (sym (row_is (contents.Term term) e) ∙ k) in (w.may, w.fits)
      go (contents.Constant constant) e k = (refl, subst (λ (x : List ℕ). length x ≤ length constant) (some-same constant text k) (le_refl (length constant)))

  -- ---- contexts in which a line is written

  cells-may : (cells : List Cell) (slot : Option Slot) → cells_hold es cells (in_slot slot) ≡ true → cells_may_hold known cells (slot_group slot) ≡ true
  cells-may cells slot h = any-weaker (λ (cell : Cell). writes_entry cell.row es (in_slot slot))
      (λ (cell : Cell). may_write known (slot_group slot) cell.row) cells (λ cell k. row-may cell.row slot k) h

  no-inner : (slot : Slot) (group : Group) → spots es (in_slot (Some slot)) (Some group) ≡ in_slot (Some slot) ∷ []
  no-inner slot group = ap (λ n. or_here (in_slot (Some slot)) (inner_spots slot group n)) (are.inner slot group)

  or-here-any : (p : Context → Bool) (c : Context) (ds : List Context) → list_any p (or_here c ds) ≡ true → (p c ≡ true) ⊎ (list_any p ds ≡ true)
  or-here-any p c [] h = elim (or-cases (p c) false h) [ inl now ↦ inl now | inr later ↦ absurd (false≢true later) ]
  or-here-any p c (d ∷ ds) h = inr h

  any-one : (p : Context → Bool) (c : Context) → list_any p (c ∷ []) ≡ true → p c ≡ true
  any-one p c h = elim (or-cases (p c) false h) [ inl now ↦ now | inr later ↦ absurd (false≢true later) ]

  module _ (p : Context → Bool) (q : Option Group → Bool) (weaker : (slot : Option Slot) → p (in_slot slot) ≡ true → q (slot_group slot) ≡ true) where
    range-any : (group : Group) (a n : ℕ) → list_any p (map (λ k. record { outer = Some (record { group = group; index = k }); inner = None })
        (range_with_len a n)) ≡ true → q (Some group) ≡ true
    range-any group a zero h = absurd (false≢true h)
    range-any group a (suc n) h =
        let one : Context = in_slot (Some (record { group = group; index = a })) in
        let others : List Context = map (λ k. record { outer = Some (record { group = group; index = k }); inner = None }) (range_with_len (a + 1) n) in
        elim (or-cases (p one) (list_any p others) h) [
          | inl now ↦ weaker (Some (record { group = group; index = a })) now
          | inr later ↦ range-any group (a + 1) n later
        ]

    spots-any : (slot : Option Slot) (group : Option Group) → list_any p (spots es (in_slot slot) group) ≡ true →
        list_any q (reached (slot_group slot) group) ≡ true
    spots-any slot None h = or-left (q (slot_group slot)) false (weaker slot (any-one p (in_slot slot) h))
    spots-any None (Some group) h = elim (or-here-any p (in_slot None) (outer_spots group (outer_count es group)) h) [
      | inl here ↦ or-left (q None) (list_any q (Some group ∷ [])) (weaker None here)
      | inr there ↦ or-right (q None) (list_any q (Some group ∷ [])) (or-left (q (Some group)) false (range-any group 1 (outer_count es group) there))
    ]
    spots-any (Some slot) (Some group) h =
        or-left (q (Some slot.group)) false (weaker (Some slot) (any-one p (in_slot (Some slot)) (sym (ap (list_any p) (no-inner slot group)) ∙ h)))

  hold-may : (plan : Plan) (slot : Option Slot) → holds es plan (in_slot slot) ≡ true → may_hold known plan (slot_group slot) ≡ true
  hold-may nothing slot h = absurd (false≢true h)
  hold-may (a_line s cells inside rest) slot h =
      let p : Context → Bool = λ d. either (cells_hold es cells d) (λ _. holds es inside d) in
      let q : Option Group → Bool = λ k. either (cells_may_hold known cells k) (λ _. may_hold known inside k) in
      elim (either-cases (list_any p (spots es (in_slot slot) s.group)) (λ _. holds es rest (in_slot slot)) h) [
        | inl here ↦ either-left (list_any q (reached (slot_group slot) s.group)) (λ _. may_hold known rest (slot_group slot))
            (spots-any p q (λ o k. elim (either-cases (cells_hold es cells (in_slot o)) (λ _. holds es inside (in_slot o)) k) [
              | inl own ↦ either-left (cells_may_hold known cells (slot_group o)) (λ _. may_hold known inside (slot_group o)) (cells-may cells o own)
              | inr deep ↦ either-right (cells_may_hold known cells (slot_group o)) (λ _. may_hold known inside (slot_group o)) (hold-may inside o deep)
            ]) slot s.group here)
        | inr later ↦ either-right (list_any q (reached (slot_group slot) s.group)) (λ _. may_hold known rest (slot_group slot)) (hold-may rest slot later)
      ]

  line-may : (cells : List Cell) (inside : Plan) (slot : Option Slot) → line_holds es cells inside (in_slot slot) ≡ true →
      either (cells_may_hold known cells (slot_group slot)) (λ _. may_hold known inside (slot_group slot)) ≡ true
  line-may cells inside slot h = elim (either-cases (cells_hold es cells (in_slot slot)) (λ _. holds es inside (in_slot slot)) h) [
    | inl own ↦ either-left (cells_may_hold known cells (slot_group slot)) (λ _. may_hold known inside (slot_group slot)) (cells-may cells slot own)
    | inr deep ↦ either-right (cells_may_hold known cells (slot_group slot)) (λ _. may_hold known inside (slot_group slot)) (hold-may inside slot deep)
  ]

  due-may : (held : Bool) (cells : List Cell) (inside : Plan) → is_due held cells inside ≡ true →
      either (has_constant cells) (λ _. is_constant cells inside) ≡ true
  due-may true cells inside h = elim (or-cases (has_constant cells) (is_constant cells inside) h) [
    | inl own ↦ either-left (has_constant cells) (λ _. is_constant cells inside) own
    | inr all ↦ either-right (has_constant cells) (λ _. is_constant cells inside) all
  ]
  due-may false cells inside h = absurd (false≢true h)

  emit-may : (s : Step) (cells : List Cell) (inside : Plan) (held : Bool) (slot : Option Slot) → is_emitted es s cells inside held (in_slot slot) ≡ true →
      may_emit known s cells inside (slot_group slot) ≡ true
  emit-may s cells inside held slot h =
      let own : Bool = either (cells_may_hold known cells (slot_group slot)) (λ _. may_hold known inside (slot_group slot)) in
      let fixed : Unit {0} → Bool = λ _. either s.always (λ _. either (has_constant cells) (λ _. is_constant cells inside)) in
      elim (either-cases (line_holds es cells inside (in_slot slot)) (λ _. s.always || is_due held cells inside) h) [
        | inl holding ↦ either-left own fixed (line-may cells inside slot holding)
        | inr other ↦ either-right own fixed (elim (or-cases s.always (is_due held cells inside) other) [
          | inl always ↦ either-left s.always (λ _. either (has_constant cells) (λ _. is_constant cells inside)) always
          | inr due ↦ either-right s.always (λ _. either (has_constant cells) (λ _. is_constant cells inside)) (due-may held cells inside due)
        ])
      ]

  -- ---- what an element weighs

  module _ (scale : Scale) (is : IsScale scale) where
    attributes-append : (xs ys : List Attribute) → attributes_weight scale (xs ++ ys) ≡ attributes_weight scale xs + attributes_weight scale ys
    attributes-append [] ys = omega arith
    attributes-append (x ∷ xs) ys = let e : attributes_weight scale (xs ++ ys) ≡ attributes_weight scale xs + attributes_weight scale ys =
        attributes-append xs ys in omega arith

    all-attributes : (f : Cell → List Attribute) (g : Cell → ℕ) → ((cell : Cell) → attributes_weight scale (f cell) ≤ g cell) → (cells : List Cell) →
        attributes_weight scale (flat_map f cells) ≤ added g cells
    all-attributes f g each [] = le_refl 0
    all-attributes f g each (cell ∷ cells) =
        let first : attributes_weight scale (f cell) ≤ g cell = each cell in
        let others : attributes_weight scale (flat_map f cells) ≤ added g cells = all-attributes f g each cells in
        let sum : attributes_weight scale (f cell ++ flat_map f cells) ≡ attributes_weight scale (f cell) + attributes_weight scale (flat_map f cells) =
        attributes-append (f cell) (flat_map f cells) in
        omega arith

    one-attribute : (local value : List ℕ) (n : ℕ) → length value ≤ n → attributes_weight scale (attribute local value ∷ []) ≤ scale.given (unspaced local) n
    one-attribute local value n h = let k : scale.given (unspaced local) (length value) ≤ scale.given (unspaced local) n =
        is.longer (unspaced local) (length value) n h in omega arith

    none-at-all : (n : ℕ) → 0 ≤ n
    none-at-all n = omega arith

    currency-weighs : (row : Row) → attributes_weight scale (currency_attribute es row) ≤ scale.given (unspaced currency_id) known.long
    currency-weighs row = go (value_in es (currency_term row.written) root_context) refl
      where
        go : (o : Option Value) → value_in es (currency_term row.written) root_context ≡ o
            → attributes_weight scale (elim o [ None ↦ [] | Some value ↦ attribute currency_id (spelled value) ∷ [] ]) ≤ scale.given
            (unspaced currency_id) known.long
        go None e = none-at-all (scale.given (unspaced currency_id) known.long)
        go (Some value) e = one-attribute currency_id (spelled value) known.long
            (are.texts forms.Model root_context root_context (currency_term row.written) value e)

    currency-roomy : (s : Step) (c : Context) (cell : Cell) → attributes_weight scale (currency_of_cell es s c cell) ≤ currency_room scale known s cell
    currency-roomy s c cell = go (is_at_element cell) (shows_currency s cell.row) (is_some (row_text cell.row es c))
      where
        go : (a b d : Bool) → attributes_weight scale (elim (a && (b && d)) [ true ↦ currency_attribute es cell.row | false ↦ [] ]) ≤ elim (a &&
            b) [ true ↦ scale.given (unspaced currency_id) known.long | false ↦ 0 ]
        go true true true = currency-weighs cell.row
        go true true false = none-at-all (scale.given (unspaced currency_id) known.long)
        go true false d = le_refl 0
        go false b d = le_refl 0

    attribute-roomy : (slot : Option Slot) (cell : Cell) → attributes_weight scale (attribute_of_cell es (in_slot slot) cell) ≤ attribute_room scale known
        (slot_group slot) cell
    attribute-roomy slot cell = go cell.row.leaf
      where
        text_of : (local : List ℕ) (o : Option (List ℕ)) → constant_or_text es (in_slot slot) cell.row ≡ o
            → attributes_weight scale (elim o [ None ↦ [] | Some text ↦ attribute local text ∷ [] ]) ≤ elim (has_text known (slot_group slot) cell.row)
            [ true ↦ scale.given (unspaced local) (text_length known cell.row) | false ↦ 0 ]
        text_of local None e = none-at-all (elim (has_text known (slot_group slot) cell.row) [
          | true ↦ scale.given (unspaced local) (text_length known cell.row)
          | false ↦ 0
        ])
        text_of local (Some text) e =
            let w = text-roomy cell.row slot text e in
            subst (λ (b : Bool). attributes_weight scale (attribute local text ∷ []) ≤ elim b [
              | true ↦ scale.given (unspaced local) (text_length known cell.row)
              | false ↦ 0
            ]) (sym w.0)
            (one-attribute local text (text_length known cell.row) w.1)

        go : (leaf : Leaf)
            → attributes_weight scale (elim leaf [
              | leaves.Element ↦ []
              | (leaves.Attribute local) ↦ elim (constant_or_text es (in_slot slot) cell.row) [ None ↦ [] | Some text ↦ attribute local text ∷ [] ]
            ])
            ≤ elim leaf [
              | leaves.Element ↦ 0
              | (leaves.Attribute local) ↦ elim (has_text known (slot_group slot) cell.row)
                  [ true ↦ scale.given (unspaced local) (text_length known cell.row) | false ↦ 0 ]
            ]
        go leaves.Element = le_refl 0
        go (leaves.Attribute local) = text_of local (constant_or_text es (in_slot slot) cell.row) refl

    line-attributes : (s : Step) (cells : List Cell) (slot : Option Slot)
        → attributes_weight scale (attributes es s cells (in_slot slot)) ≤ added (currency_room scale known s) cells + added
        (attribute_room scale known (slot_group slot)) cells
    line-attributes s cells slot =
        let c : Context = in_slot slot in
        let sum : attributes_weight scale (attributes es s cells c) ≡ attributes_weight scale
        (flat_map (currency_of_cell es s c) cells) + attributes_weight scale (flat_map (attribute_of_cell es c) cells) =
        attributes-append (flat_map (currency_of_cell es s c) cells) (flat_map (attribute_of_cell es c) cells) in
        let currencies : attributes_weight scale (flat_map (currency_of_cell es s c) cells) ≤ added (currency_room scale known s) cells =
        all-attributes (currency_of_cell es s c) (currency_room scale known s) (currency-roomy s c) cells in
        let others : attributes_weight scale (flat_map (attribute_of_cell es c) cells) ≤ added (attribute_room scale known (slot_group slot)) cells =
        all-attributes (attribute_of_cell es c) (attribute_room scale known (slot_group slot)) (attribute-roomy slot) cells in
        omega arith

    cell-text : (slot : Option Slot) (cell : Cell) → length (text_of_cell es (in_slot slot) cell) ≤ text_room known (slot_group slot) cell
    cell-text slot cell = go (is_at_element cell)
      where
        text_of : (o : Option (List ℕ)) → constant_or_text es (in_slot slot) cell.row ≡ o
            → length {A = ℕ} (elim o [ None ↦ [] | Some text ↦ text ]) ≤ elim (has_text known (slot_group slot) cell.row) [
              | true ↦ text_length known cell.row
              | false ↦ 0
            ]
        text_of None e = none-at-all (elim (has_text known (slot_group slot) cell.row) [ true ↦ text_length known cell.row | false ↦ 0 ])
        text_of (Some text) e = let w = text-roomy cell.row slot text e in
            subst (λ (b : Bool). length text ≤ elim b [ true ↦ text_length known cell.row | false ↦ 0 ]) (sym w.0) w.1

        go : (b : Bool) → length {A = ℕ} (elim b [ true ↦ elim (constant_or_text es (in_slot slot) cell.row) [ None ↦ [] | Some text ↦ text ] | false ↦ [] ])
            ≤ elim b [ true ↦ elim (has_text known (slot_group slot) cell.row) [ true ↦ text_length known cell.row | false ↦ 0 ] | false ↦ 0 ]
        go true = text_of (constant_or_text es (in_slot slot) cell.row) refl
        go false = le_refl 0

    line-text : (slot : Option Slot) (cells : List Cell) → length (element_text es cells (in_slot slot)) ≤ added (text_room known (slot_group slot)) cells
    line-text slot [] = le_refl 0
    line-text slot (cell ∷ cells) =
        let first : length (text_of_cell es (in_slot slot) cell) ≤ text_room known (slot_group slot) cell = cell-text slot cell in
        let others : length (element_text es cells (in_slot slot)) ≤ added (text_room known (slot_group slot)) cells = line-text slot cells in
        let sum : length (text_of_cell es (in_slot slot) cell ++ element_text es cells (in_slot slot)) ≡ length (text_of_cell es (in_slot slot) cell) + length
        (element_text es cells (in_slot slot)) =
        length-append (text_of_cell es (in_slot slot) cell) (element_text es cells (in_slot slot)) in
        omega arith

    text-weighs : (text : List ℕ) (f : Forest) → weight scale (with_text text f) ≤ scale.join (scale.text (length text)) (weight scale f)
    text-weighs [] f = is.more (scale.text 0) (weight scale f)
    text-weighs (c ∷ text) f = le_refl (scale.join (scale.text (length (c ∷ text))) (weight scale f))

    -- an element of a line, beside others
    element-weighs : (s : Step) (cells : List Cell) (slot : Option Slot) (f behind : Forest) (n m : ℕ) → weight scale f ≤ n → weight scale behind ≤ m
        → weight scale (an_element (name_of s.name) (attributes es s cells (in_slot slot)) (with_text (element_text es cells (in_slot slot)) f) behind)
        ≤ scale.join (line_room scale known s cells (slot_group slot) n) m
    element-weighs s cells slot f behind n m h k =
        let text : List ℕ = element_text es cells (in_slot slot) in
        let given : ℕ = scale.base (name_of s.name) + attributes_weight scale (attributes es s cells (in_slot slot)) in
        let own : ℕ = scale.base (name_of s.name) + (added (currency_room scale known s) cells + added (attribute_room scale known (slot_group slot)) cells) in
        let words : ℕ = scale.text (added (text_room known (slot_group slot)) cells) in
        let attributes_fit : given ≤ own = let a = line-attributes s cells slot in omega arith in
        let text_fits : weight scale (with_text text f) ≤ scale.join words n =
        up (weight scale (with_text text f)) (scale.join (scale.text (length text)) (weight scale f)) (scale.join words n) (text-weighs text f)
        (is.both (scale.text (length text)) (weight scale f) words n
        (is.longer_text (length text) (added (text_room known (slot_group slot)) cells) (line-text slot cells)) h) in
        let inner : scale.join (weight scale (with_text text f)) (weight scale behind) ≤ scale.join (scale.join words n) m =
        is.both (weight scale (with_text text f)) (weight scale behind) (scale.join words n) m text_fits k in
        up (scale.join given (scale.join (weight scale (with_text text f)) (weight scale behind))) (scale.join own (scale.join (scale.join words n) m))
        (scale.join (scale.join own (scale.join words n)) m)
        (is.both given (scale.join (weight scale (with_text text f)) (weight scale behind)) own (scale.join (scale.join words n) m) attributes_fit inner)
        (is.grouped own (scale.join words n) m)

    -- ---- all contexts of a line

    module _ (p : Context → Bool) (make : Context → Forest → Forest) (own : Option Group → ℕ)
        (each : (slot : Option Slot) → p (in_slot slot) ≡ true → (f : Forest) (m : ℕ) → weight scale f ≤ m →
        weight scale (make (in_slot slot) f) ≤ scale.join (own (slot_group slot)) m) where
      one-weighs : (slot : Option Slot) (f : Forest) (m : ℕ) → weight scale f ≤ m →
          weight scale (elim (p (in_slot slot)) [ true ↦ make (in_slot slot) f | false ↦ f ]) ≤ scale.join (own (slot_group slot)) m
      one-weighs slot f m h = go (p (in_slot slot)) refl
        where
          go : (b : Bool) → p (in_slot slot) ≡ b → weight scale (elim b [ true ↦ make (in_slot slot) f | false ↦ f ]) ≤ scale.join (own (slot_group slot)) m
          go true e = each slot e f m h
          go false e = up (weight scale f) m (scale.join (own (slot_group slot)) m) h (is.more (own (slot_group slot)) m)

      range-weighs : (group : Group) (a n : ℕ) (f : Forest) (m : ℕ) → weight scale f ≤ m
          → weight scale (elements p make (map (λ k. record { outer = Some (record { group = group; index = k }); inner = None }) (range_with_len a n))
          f) ≤ scale.join (scale.times n (own (Some group))) m
      range-weighs group a zero f m h = up (weight scale f) m (scale.join (scale.times 0 (own (Some group))) m) h (is.more (scale.times 0 (own (Some group))) m)
      range-weighs group a (suc n) f m h =
          let others : Forest = elements p make (map (λ k. record { outer = Some (record { group = group; index = k }); inner = None })
          (range_with_len (a + 1) n)) f in
          let first : Forest = elim (p (in_slot (Some (record { group = group; index = a }))))
          [ true ↦ make (in_slot (Some (record { group = group; index = a }))) others | false ↦ others ] in
          up (weight scale first)
          (scale.join (own (Some group)) (scale.join (scale.times n (own (Some group))) m)) (scale.join (scale.times (suc n) (own (Some group))) m)
          (one-weighs (Some (record { group = group; index = a })) others (scale.join (scale.times n (own (Some group))) m)
          (range-weighs group (a + 1) n f m h))
          (is.again n (own (Some group)) m)

      outer-weighs : (group : Group) (n : ℕ) (f : Forest) (m : ℕ) → n ≤ known.most group → weight scale f ≤ m
          → weight scale (elements p make (or_here (in_slot None) (outer_spots group n)) f) ≤ scale.join (own None)
          (scale.join (scale.times (known.most group) (own (Some group))) m)
      outer-weighs group zero f m few h =
          up (weight scale (elim (p (in_slot None)) [ true ↦ make (in_slot None) f | false ↦ f ])) (scale.join (own None) m)
          (scale.join (own None) (scale.join (scale.times (known.most group) (own (Some group))) m))
          (one-weighs None f m h) (is.both (own None) m (own None) (scale.join (scale.times (known.most group) (own (Some group))) m) (le_refl (own None))
          (is.more (scale.times (known.most group) (own (Some group))) m))
      outer-weighs group (suc n) f m few h =
          let all : Forest = elements p make (outer_spots group (suc n)) f in
          let so_many : scale.join (scale.times (suc n) (own (Some group))) m ≤ scale.join (scale.times (known.most group) (own (Some group))) m =
          is.both (scale.times (suc n) (own (Some group))) m (scale.times (known.most group) (own (Some group))) m
          (is.fewer (suc n) (known.most group) (own (Some group)) few) (le_refl m) in
          up (weight scale all) (scale.join (scale.times (known.most group) (own (Some group))) m)
          (scale.join (own None) (scale.join (scale.times (known.most group) (own (Some group))) m))
          (up (weight scale all) (scale.join (scale.times (suc n) (own (Some group))) m) (scale.join (scale.times (known.most group) (own (Some group))) m)
          (range-weighs group 1 (suc n) f m h) so_many)
          (is.more (own None) (scale.join (scale.times (known.most group) (own (Some group))) m))

      spots-weigh : (slot : Option Slot) (group : Option Group) (f : Forest) (m : ℕ) → weight scale f ≤ m
          → weight scale (elements p make (spots es (in_slot slot) group) f) ≤ spread scale known own group (slot_group slot) m
      spots-weigh slot None f m h = one-weighs slot f m h
      spots-weigh None (Some group) f m h = outer-weighs group (outer_count es group) f m (are.outer group) h
      spots-weigh (Some slot) (Some group) f m h =
          subst (λ (cs : List Context). weight scale (elements p make cs f) ≤ scale.join (own (Some slot.group)) m) (sym (no-inner slot group))
          (one-weighs (Some slot) f m h)

    -- ---- all lines

    pub lines-weigh : (plan : Plan) (held : Bool) (slot : Option Slot) → weight scale (written_lines es plan held (in_slot slot)) ≤ room scale known plan
        (slot_group slot)
    lines-weigh nothing held slot = le_refl 0
    lines-weigh (a_line s cells inside rest) held slot =
        let deeper : Option Group → ℕ = λ k. room scale known inside k in
        spots-weigh (is_emitted es s cells inside held)
        (λ d f. an_element (name_of s.name) (attributes es s cells d)
        (with_text (element_text es cells d) (written_lines es inside (holds_further es cells inside held d) d)) f)
        (once scale known s cells inside deeper)
        (λ o there f m h.
        let line : ℕ = line_room scale known s cells (slot_group o) (deeper (slot_group o)) in
        let element : Forest =
        an_element (name_of s.name) (attributes es s cells (in_slot o))
        (with_text (element_text es cells (in_slot o)) (written_lines es inside (holds_further es cells inside held (in_slot o)) (in_slot o))) f in
        subst (λ (b : Bool). weight scale element ≤ scale.join (elim b [ true ↦ line | false ↦ 0 ]) m) (sym (emit-may s cells inside held o there))
        (element-weighs s cells o (written_lines es inside (holds_further es cells inside held (in_slot o)) (in_slot o)) f (deeper (slot_group o)) m
        (lines-weigh inside (holds_further es cells inside held (in_slot o)) o) h))
        slot s.group (written_lines es rest held (in_slot slot)) (room scale known rest (slot_group slot)) (lines-weigh rest held slot)

    pub document-weighs : (rows : List Row) → weight scale (document_of rows es) ≤ room scale known (plan_of rows) None
    unfolding document_of
    document-weighs rows = lines-weigh (plan_of rows) false None
