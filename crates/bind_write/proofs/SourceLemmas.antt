-- What is looked up among the entries of one occurrence is what all entries have.
use Rattle.std.proofs.Common.{◌⊎◌, inl, inr, ◌≡◌, ℕ, ◌==◌, Bool, true, false, ◌&&◌, ◌||◌, cond, List, [], ◌∷◌, Option, Some, None, refl, ap, sym, ◌∙◌}
use Rattle.std.proofs.Common.{subst, arith, fold, max, map}
use Rattle.std.specs.Prelude.{filter, find, option_map, option_and_then, is_none, is_some, not, nat_eq, if◌then◌else◌}
use Rattle.std.proofs.lemmas.Bool.Decides.{nat_tests}
use Rattle.std.proofs.lemmas.List.Elements.{All-filter}
use Rattle.std.proofs.lemmas.List.Kept.{AllPairs-filter}
use Rattle.term_table.specs.declared.groups.Group.{Group}
use Rattle.term_table.specs.declared.terms.Term.{Term}
use Rattle.term_table.specs.declared.contexts.Slot.{Slot}
use Rattle.term_table.specs.declared.contexts.Context.{Context}
use Rattle.term_table.specs.declared.contexts.Seat.{Seat}
use Rattle.term_table.specs.Contexts.{same_slot, same_context, is_inside, outer_context, root_context}
use Rattle.term_table.specs.Groups.{number_of, same_group}
use Rattle.term_table.specs.SemanticModel.{same_term}
use Rattle.term_table.specs.Places.{seat_place}
use Rattle.term_table.specs.Runs.{IsInOrder, MayFollow, is_in}
use Rattle.inv_terms.specs.declared.entries.Entry.{Entry}
use Rattle.inv_terms.specs.declared.values.Value.{Value}
use Rattle.inv_terms.specs.Values.{spelled}
use Rattle.inv_terms.specs.Listing.{seat_of, is_at}
use Rattle.inv_terms.specs.Listing as listing
use Rattle.bind_rows.specs.declared.rows.Content.TheVariants as contents
use Rattle.bind_rows.specs.declared.rows.Form.{Form}
use Rattle.bind_rows.specs.declared.rows.Form.TheVariants as forms
use Rattle.bind_rows.specs.declared.rows.Row.{Row}
use Rattle.bind_rows.specs.declared.rows.Written.{Written}
use Rattle.bind_rows.specs.declared.rows.Written.TheVariants as written
use Rattle.bind_rows.specs.Added.{is_typed}
use Rattle.bind_meaning.specs.Values.{subject_code, form_for}
use Rattle.bind_meaning.specs.Writing.{coded_note, formed, if_so, scheme_of, if_due, filled, has_slots, of_form, value_for, term_text, row_text, context_for}
use Rattle.bind_meaning.specs.Trees.{index_in, inner_count, constant_or_text}
use Rattle.bind_write.specs.Sources.{run_of, HasSameValues}
use Rattle.bind_write.specs.Spots.{inner_count_of}

-- ---- the number of a slot, as an invoice's listing says it and as a document's tree does

chosen : (b : Bool) (n : ℕ) → (if b then n else 0) ≡ elim b [ true ↦ n | false ↦ 0 ]
chosen true n = refl
chosen false n = refl

pub same-index : (group : Group) (slot : Option Slot) → listing.index_in group slot ≡ index_in group slot
same-index group None = refl
same-index group (Some slot) = chosen (same_group slot.group group) slot.index

-- ---- lists that are filtered

abbrev kept_or : {X : Type 0} → Bool → X → List X → List X
kept_or b x xs = cond b (x ∷ xs) xs

map-kept : {X Y : Type 0} (f : X → Y) (b : Bool) (x : X) (xs : List X) (ys : List Y) → map f xs ≡ ys → map f (kept_or b x xs) ≡ kept_or b (f x) ys
map-kept f true x xs ys e = ap (λ z. f x ∷ z) e
map-kept f false x xs ys e = e

pub map-filter : {X Y : Type 0} (f : X → Y) (p : Y → Bool) (xs : List X) → map f (filter (λ x. p (f x)) xs) ≡ filter p (map f xs)
map-filter f p [] = refl
map-filter f p (x ∷ xs) = map-kept f (p (f x)) x (filter (λ y. p (f y)) xs) (filter p (map f xs)) (map-filter f p xs)

not_it : {A : Type 0} (b : Bool) → (b ≡ true → false ≡ true) → (a c : A) → cond b a c ≡ c
not_it true g a c = let h = g refl in cc
not_it false g a c = refl

find-kept : {X : Type 0} (q : X → Bool) (b : Bool) (x : X) (xs ys : List X) → (q x ≡ true → b ≡ true) → find q xs ≡ find q ys →
    find q (kept_or b x xs) ≡ cond (q x) (Some x) (find q ys)
find-kept q true x xs ys h e = ap (λ z. cond (q x) (Some x) z) e
find-kept q false x xs ys h e = e ∙ sym (not_it (q x) h (Some x) (find q ys))

pub find-filter : {X : Type 0} (q p : X → Bool) → ((x : X) → q x ≡ true → p x ≡ true) → (xs : List X) → find q (filter p xs) ≡ find q xs
find-filter q p h [] = refl
find-filter q p h (x ∷ xs) = find-kept q (p x) x (filter p xs) xs (h x) (find-filter q p h xs)

filter-all : {X : Type 0} (p : X → Bool) → ((x : X) → p x ≡ true) → (xs : List X) → filter p xs ≡ xs
filter-all p h [] = refl
filter-all p h (x ∷ xs) = ap (λ b. kept_or b x (filter p xs)) (h x) ∙ ap (λ z. x ∷ z) (filter-all p h xs)

-- ---- runs

pub whole_run : (es : List Entry) → es ≡ run_of es root_context
whole_run es = sym (filter-all (λ (e : Entry). is_inside root_context e.context) (λ e. refl) es)

pub run_order : (es : List Entry) (c : Context) → IsInOrder (map seat_of es) → IsInOrder (map seat_of (run_of es c))
run_order es c o =
    let e : filter (is_in (outer_context c)) (map seat_of es) ≡ map seat_of (run_of es c) = sym (map-filter seat_of (is_in (outer_context c)) es) in
    subst IsInOrder e (record {
      placed = All-filter (is_in (outer_context c)) (λ (x : Seat). is_some (seat_place x) ≡ true) (map seat_of es) o.placed;
      order = AllPairs-filter MayFollow (is_in (outer_context c)) (map seat_of es) o.order;
    })

both : (a b : Bool) → (a && b) ≡ true → (a ≡ true) × (b ≡ true)
both true b e = (refl, e)
both false b e = cc

nat_eq-sym : (m n : ℕ) → nat_eq m n ≡ true → nat_eq n m ≡ true
nat_eq-sym m n e = grind (arith, nat_tests)

and_both : (a b : Bool) → a ≡ true → b ≡ true → (a && b) ≡ true
and_both a b e f = ap (λ x. x && b) e ∙ f

pub same_slot-sym : (a b : Option Slot) → same_slot a b ≡ true → same_slot b a ≡ true
same_slot-sym None None e = refl
same_slot-sym None (Some b) e = cc
same_slot-sym (Some a) None e = cc
same_slot-sym (Some a) (Some b) e =
    let h = both (same_group a.group b.group) (a.index == b.index) e in
    and_both (same_group b.group a.group) (b.index == a.index) (nat_eq-sym (number_of a.group) (number_of b.group) h.0) (nat_eq-sym a.index b.index h.1)

or_true : (a b : Bool) → b ≡ true → ((a || b) && true) ≡ true
or_true true b e = refl
or_true false b e = ap (λ x. x && true) e

in_run : (c d : Context) (e : Entry) (term : Term) → d.outer ≡ c.outer → is_at term d e ≡ true → is_inside (outer_context c) e.context ≡ true
in_run c d e term same at =
    let h = both (same_slot e.context.outer d.outer) (same_slot e.context.inner d.inner) (both (same_term e.term term) (same_context e.context d) at).1 in
    or_true (is_none c.outer) (same_slot c.outer e.context.outer) (same_slot-sym e.context.outer c.outer (ap (same_slot e.context.outer) (sym same) ∙ h.0))

-- a context around another that has an outer occurrence has the same one
pub same_outer : (d c : Option Slot) (r : Bool) → is_some d ≡ not r → r ≡ false → (d ≡ None) ⊎ (d ≡ c) → d ≡ c
same_outer d c r e f (inl none) = absurd (let y : false ≡ true = ap is_some (sym none) ∙ (e ∙ ap not f) in cc)
same_outer d c r e f (inr same) = same

pub run_values : (es : List Entry) (c d : Context) → d.outer ≡ c.outer → HasSameValues es (run_of es c) d
run_values es c d same = λ term.
    ap (option_map (λ (e : Entry). e.value)) (find-filter (is_at term d) (λ (e : Entry). is_inside (outer_context c) e.context)
    (λ e at. in_run c d e term same at) es)

-- ---- occurrences

max-kept : (n v : ℕ) (b : Bool) (g : Entry → ℕ) (e : Entry) (es : List Entry) → (b ≡ true → v ≡ g e) → (b ≡ false → v ≡ 0) →
    fold max n (map g (kept_or b e es)) ≡ fold max (max n v) (map g es)
max-kept n v true g e es h k = ap (λ x. fold max (max n x) (map g es)) (sym (h refl))
max-kept n v false g e es h k = ap (λ x. fold max x (map g es)) (let z : n ≡ max n v = omega (arith, k refl) in z)

max-filter : (f g : Entry → ℕ) (p : Entry → Bool) → ((e : Entry) → p e ≡ true → f e ≡ g e) → ((e : Entry) → p e ≡ false → f e ≡ 0)
    → (es : List Entry) (n : ℕ) → fold max n (map f es) ≡ fold max n (map g (filter p es))
max-filter f g p h k [] n = refl
max-filter f g p h k (e ∷ es) n = max-filter f g p h k es (max n (f e)) ∙ sym (max-kept n (f e) (p e) g e (filter p es) (h e) (k e))

abbrev inner_index : Group → Option Slot → Bool → ℕ
inner_index group slot b = elim b [ true ↦ index_in group slot | false ↦ 0 ]

not_true : (b : Bool) → (b ≡ true → ⊥) → b ≡ false
not_true true h = absurd (h refl)
not_true false h = refl

from_run : (c : Context) (outer : Slot) (x : Entry) → c.outer ≡ Some outer → is_inside (outer_context c) x.context ≡ true →
    same_slot (Some outer) x.context.outer ≡ true
from_run c outer x e p =
    let P : Option Slot → Type 0 = λ y. ((is_none y || same_slot y x.context.outer) && true) ≡ true in
    (both (same_slot (Some outer) x.context.outer) true (subst P e p)).0

pub inner_counts : (es : List Entry) (outer : Slot) (c : Context) (group : Group) → c.outer ≡ Some outer →
    inner_count es outer group ≡ inner_count_of (run_of es c) group
inner_counts es outer c group e =
    let here : Entry → Bool = λ x. same_slot x.context.outer (Some outer) in
    let run : Entry → Bool = λ x. is_inside (outer_context c) x.context in
    let back : (x : Entry) → run x ≡ true → here x ≡ true = λ x p. same_slot-sym (Some outer) x.context.outer (from_run c outer x e p) in
    let forth : (x : Entry) → here x ≡ true → run x ≡ true =
    λ x p. or_true (is_none c.outer) (same_slot c.outer x.context.outer) (ap (λ y. same_slot y x.context.outer) e ∙
    same_slot-sym x.context.outer (Some outer) p) in
    max-filter (λ x. inner_index group x.context.inner (here x)) (λ x. index_in group x.context.inner) run
    (λ x p. ap (inner_index group x.context.inner) (back x p))
    (λ x p. ap (inner_index group x.context.inner) (not_true (here x) (λ t. let q = forth x t in cc)))
    es 0

-- ---- what a row writes by the entries of one occurrence

module _ (es run : List Entry) (c : Context) (same : HasSameValues es run c) where
  formed-same : (form : Form) (value : Value) → formed form run c value ≡ formed form es c value
  formed-same forms.Model value = refl
  formed-same forms.PlainDate value = refl
  formed-same forms.DueDateTypeCode value = refl
  formed-same forms.CodedNote value = ap (λ code. coded_note code (spelled value)) (same subject_code)
  formed-same (forms.Typed data_type) value = refl
  formed-same forms.TypedPlainDate value = refl

  due-same : (rule : Written) (term : Term) (text : List ℕ) → if_due rule run term c text ≡ if_due rule es term c text
  due-same written.Always term text = refl
  due-same written.Never term text = refl
  due-same written.IfIban term text = refl
  due-same written.IfNotIban term text = refl
  due-same written.IfScheme term text = ap (λ value. if_so (is_some value) text) (same (scheme_of term))
  due-same written.IfNoScheme term text = ap (λ value. if_so (is_none value) text) (same (scheme_of term))
  due-same (written.OrPlaceholder placeholder) term text = refl
  due-same written.VatTotal term text = refl
  due-same written.AccountingVatTotal term text = refl

  filled-same : (rule : Written) → filled rule run c ≡ filled rule es c
  filled-same written.Always = refl
  filled-same written.Never = refl
  filled-same written.IfIban = refl
  filled-same written.IfNotIban = refl
  filled-same written.IfScheme = refl
  filled-same written.IfNoScheme = refl
  filled-same (written.OrPlaceholder placeholder) = ap (λ value. if_so (is_some value) placeholder.text) (same placeholder.beside)
  filled-same written.VatTotal = refl
  filled-same written.AccountingVatTotal = refl

  value-same : (row : Row) (term : Term) → value_for row run term c ≡ value_for row es term c
  value-same row term =
      ap (λ value. elim (is_typed (form_for row.form term)) [
        | true ↦ elim (has_slots row c) [ true ↦ option_and_then (of_form (form_for row.form term)) value | false ↦ None ]
        | false ↦ value
      ]) (same term)

  -- the same text
  pub text-same : (row : Row) (term : Term) → term_text row run term c ≡ term_text row es term c
  text-same row term =
      go (value_for row run term c)
      ∙ ap (λ o. elim o [ None ↦ filled row.written es c | Some value ↦ if_due row.written es term c (formed (form_for row.form term) es c value) ])
      (value-same row term)
    where
      go : (o : Option Value)
          → ◌≡◌ {A = Option (List ℕ)} (elim o [
            | None ↦ filled row.written run c
            | Some value ↦ if_due row.written run term c (formed (form_for row.form term) run c value)
          ])
          (elim o [ None ↦ filled row.written es c | Some value ↦ if_due row.written es term c (formed (form_for row.form term) es c value) ])
      go None = filled-same row.written
      go (Some value) = due-same row.written term (formed (form_for row.form term) run c value) ∙
          ap (if_due row.written es term c) (formed-same (form_for row.form term) value)

  pub writes-same : {A : Type 0} (f : A → List ℕ) (w : Option A) (row : Row) (term : Term) → option_map f w ≡ term_text row run term c →
      is_some w ≡ is_some (term_text row es term c)
  writes-same {A = A} f w row term e = mapped w ∙ ap is_some (e ∙ text-same row term)
    where
      mapped : (o : Option A) → is_some o ≡ is_some (option_map f o)
      mapped None = refl
      mapped (Some x) = refl

-- ---- what a row with a term writes

pub row-said : (es : List Entry) (c d : Context) (row : Row) (term : Term) → row.content ≡ contents.Term term → d ≡ context_for row c →
    term_text row es term d ≡ row_text row es c
row-said es c d row term is e = ap (term_text row es term) e ∙
    ap (λ x. elim x [ (contents.Term t) ↦ term_text row es t (context_for row c) | (contents.Constant text) ↦ None ]) (sym is)

pub row-written : (es : List Entry) (c : Context) (row : Row) (term : Term) → row.content ≡ contents.Term term → row_text row es c ≡ constant_or_text es c row
row-written es c row term is = ap (λ x. elim x [ (contents.Constant text) ↦ Some text | (contents.Term t) ↦ row_text row es c ]) (sym is)
