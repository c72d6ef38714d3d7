-- The value that a row writes: that of its term, unless a user added the row and it refuses the value, since it is of another
-- type or stands in a context without the row's groups.
use Rattle.std.proofs.Common.{◌≡◌, Bool, true, false, ◌&&◌, List, Option, Some, None, ◌⊎◌, inl, inr, refl, sym, ap, ◌∙◌}
use Rattle.std.specs.Prelude.{is_some, option_and_then}
use Rattle.std.specs.List.{list_all}
use Rattle.std.proofs.lemmas.Bool.{false≢true}
use Rattle.term_table.specs.declared.terms.DataType.{DataType}
use Rattle.term_table.specs.declared.terms.Term.{Term}
use Rattle.term_table.specs.SemanticModel.{is_extension}
use Rattle.term_table.specs.declared.contexts.Context.{Context}
use Rattle.inv_terms.specs.declared.values.Value.{Value}
use Rattle.inv_terms.specs.declared.entries.Entry.{Entry}
use Rattle.inv_terms.specs.Listing.{value_in}
use Rattle.bind_rows.specs.declared.rows.Content.TheVariants as contents
use Rattle.bind_rows.specs.declared.rows.Form.{Form}
use Rattle.bind_rows.specs.declared.rows.Form.TheVariants as forms
use Rattle.bind_rows.specs.declared.rows.Row.{Row}
use Rattle.bind_rows.specs.declared.rows.Written.{Written}
use Rattle.bind_rows.specs.declared.rows.Written.TheVariants as written
use Rattle.bind_rows.specs.Same.{choose}
use Rattle.bind_rows.specs.Added.{data_type_of_form, is_typed, is_added_type, adds_term, is_element, is_unguarded, is_once, is_always, is_unjudged}
use Rattle.bind_rows.specs.Added.{is_root_or_line, is_unmarked, is_added}
use Rattle.bind_meaning.specs.Values.{form_for}
use Rattle.bind_meaning.specs.Writing.{has_slots, is_of_type, of_type, of_form, value_for}
use Rattle.binding_laws.specs.Plain.{is_of_one_term}
use Rattle.binding_laws.proofs.ListLemmas.{both-true}

pub one-untyped : (form : Form) → is_of_one_term form ≡ true → is_typed form ≡ false
one-untyped forms.Model h = refl
one-untyped forms.PlainDate h = refl
one-untyped forms.DueDateTypeCode h = refl
one-untyped forms.CodedNote h = absurd (false≢true h)
one-untyped (forms.Typed data_type) h = absurd (false≢true h)
one-untyped forms.TypedPlainDate h = absurd (false≢true h)

-- ---- rows that a user added

-- It has an added term, is always written, and says a type that such a term may have.
pub record SaysAdded (row : Row) : Type 0 where
  pub term : adds_term row.content ≡ true
  pub always : row.written ≡ written.Always
  pub type : is_added_type (data_type_of_form row.form) ≡ true

always-is : (rule : Written) → is_always rule ≡ true → rule ≡ written.Always
always-is written.Always h = refl
always-is written.Never h = absurd (false≢true h)
always-is written.IfIban h = absurd (false≢true h)
always-is written.IfNotIban h = absurd (false≢true h)
always-is written.IfScheme h = absurd (false≢true h)
always-is written.IfNoScheme h = absurd (false≢true h)
always-is (written.OrPlaceholder placeholder) h = absurd (false≢true h)
always-is written.VatTotal h = absurd (false≢true h)
always-is written.AccountingVatTotal h = absurd (false≢true h)

pub added-says : (row : Row) → is_added row ≡ true → SaysAdded row
added-says row h = go (adds_term row.content) refl h
  where
    marked : adds_term row.content ≡ true → is_unmarked row ≡ true → SaysAdded row
    marked term k =
        let a = both-true (is_element row.leaf) _ k in
        let b = both-true (list_all is_unguarded row.path) _ a.1 in
        let c = both-true (is_once row.repeats) _ b.1 in
        let d = both-true (is_always row.written) _ c.1 in
        record {
          term = term;
          always = always-is row.written d.0;
          type = (both-true (is_unjudged row.check) (is_added_type (data_type_of_form row.form))
              d.1).1;
        }

    go : (b : Bool) → adds_term row.content ≡ b → choose b (λ _. is_root_or_line row.outer row.inner && is_unmarked row) (λ _. false) ≡ true → SaysAdded row
    go true e k = marked e (both-true (is_root_or_line row.outer row.inner) (is_unmarked row) k).1
    go false e k = absurd (false≢true k)

pub typed-form : (form : Form) (term : Term) → is_added_type (data_type_of_form form) ≡ true → is_extension term ≡ true → form_for form term ≡ form
typed-form forms.Model term k e = refl
typed-form forms.PlainDate term k e = absurd (false≢true k)
typed-form forms.DueDateTypeCode term k e = absurd (false≢true k)
typed-form forms.CodedNote term k e = absurd (false≢true k)
typed-form (forms.Typed data_type) term k e = λ i. elim (e i && k i) [ true ↦ forms.Typed data_type | false ↦ forms.Model ]
typed-form forms.TypedPlainDate term k e = ap (λ b. elim b [ true ↦ forms.TypedPlainDate | false ↦ forms.Model ]) e

pub type-typed : (form : Form) → is_added_type (data_type_of_form form) ≡ true → is_typed form ≡ true
type-typed forms.Model k = absurd (false≢true k)
type-typed forms.PlainDate k = absurd (false≢true k)
type-typed forms.DueDateTypeCode k = absurd (false≢true k)
type-typed forms.CodedNote k = absurd (false≢true k)
type-typed (forms.Typed data_type) k = refl
type-typed forms.TypedPlainDate k = refl

-- Its form is one for its term.
pub added-typed : (row : Row) (term : Term) → row.content ≡ contents.Term term → is_added row ≡ true → is_typed (form_for row.form term) ≡ true
added-typed row term content h =
    let w = added-says row h in
    ap is_typed (typed-form row.form term w.type (sym (ap adds_term content) ∙ w.term)) ∙ type-typed row.form w.type

-- ---- the value

-- what is written of a value in such a context by such a form
abbrev passed : Bool → Bool → Form → Option Value → Option Value
passed typed slots form o = elim typed [ true ↦ elim slots [ true ↦ option_and_then (of_form form) o | false ↦ None ] | false ↦ o ]

-- A row whose form has no type writes the term's value.
pub as-modelled : (row : Row) (es : List Entry) (term : Term) (c : Context) → is_typed (form_for row.form term) ≡ false →
    value_for row es term c ≡ value_in es term c
as-modelled row es term c h = ap (λ b. passed b (has_slots row c) (form_for row.form term) (value_in es term c)) h

-- Where the term has no value, there is none to write.
pub none-for-none : (row : Row) (es : List Entry) (term : Term) (c : Context) → value_in es term c ≡ None → value_for row es term c ≡ None
none-for-none row es term c h =
    ap (passed (is_typed (form_for row.form term)) (has_slots row c) (form_for row.form term)) h ∙ go (is_typed (form_for row.form term)) (has_slots row c)
  where
    go : (a b : Bool) → passed a b (form_for row.form term) None ≡ None
    go true true = refl
    go true false = refl
    go false b = refl

-- It writes the term's value, or nothing.
pub taken-or-refused : (row : Row) (es : List Entry) (term : Term) (c : Context) →
    (value_for row es term c ≡ value_in es term c) ⊎ (value_for row es term c ≡ None)
taken-or-refused row es term c = go (is_typed (form_for row.form term)) (has_slots row c) (value_in es term c)
  where
    by-type : (b : Bool) (v : Value) → ((elim b [ true ↦ Some v | false ↦ None ]) ≡ Some v) ⊎ ((elim b [ true ↦ Some v | false ↦ None ]) ≡ None)
    by-type true v = inl refl
    by-type false v = inr refl

    by-data_type : (o : Option DataType) (v : Value) → ((elim o [ None ↦ Some v | Some data_type ↦ of_type data_type v ]) ≡ Some v) ⊎
        ((elim o [ None ↦ Some v | Some data_type ↦ of_type data_type v ]) ≡ None)
    by-data_type None v = inl refl
    by-data_type (Some data_type) v = by-type (is_of_type data_type v) v

    go : (a b : Bool) (o : Option Value) → (passed a b (form_for row.form term) o ≡ o) ⊎ (passed a b (form_for row.form term) o ≡ None)
    go false b o = inl refl
    go true false o = inr refl
    go true true None = inl refl
    go true true (Some v) = by-data_type (data_type_of_form (form_for row.form term)) v

-- A row whose form has a type takes a value of that type in a context with its groups.
pub takes-value : (row : Row) (es : List Entry) (term : Term) (c : Context) (v : Value) → is_typed (form_for row.form term) ≡ true → has_slots row c ≡ true →
    value_in es term c ≡ Some v
    → of_form (form_for row.form term) v ≡ Some v → value_for row es term c ≡ Some v
takes-value row es term c v typed slots is own = (λ i. passed (typed i) (slots i) (form_for row.form term) (is i)) ∙ own

-- What a row whose form has a type takes is of that type.
pub taken-is : (row : Row) (es : List Entry) (term : Term) (c : Context) (v : Value) → is_typed (form_for row.form term) ≡ true → value_in es term c ≡ Some v →
    is_some (value_for row es term c) ≡ true
    → of_form (form_for row.form term) v ≡ Some v
taken-is row es term c v typed is some =
    go (has_slots row c) (data_type_of_form (form_for row.form term)) ((λ i. is_some (passed (sym typed i) (has_slots row c) (form_for row.form term) (sym is
    i)))
    ∙ some)
  where
    by-type : (b : Bool) → is_some (elim b [ true ↦ Some v | false ↦ None ]) ≡ true → ◌≡◌ {A = Option Value} (elim b [ true ↦ Some v | false ↦ None ]) (Some v)
    by-type true h = refl
    by-type false h = absurd (false≢true h)

    go : (b : Bool) (o : Option DataType) → is_some (elim b [ true ↦ elim o [ None ↦ Some v | Some data_type ↦ of_type data_type v ] | false ↦ None ]) ≡ true
        → ◌≡◌ {A = Option Value} (elim o [ None ↦ Some v | Some data_type ↦ of_type data_type v ]) (Some v)
    go true None h = refl
    go true (Some data_type) h = by-type (is_of_type data_type v) h
    go false o h = absurd (false≢true h)

-- A row whose form has a type writes something only in a context with its groups.
pub slots-there : (row : Row) (es : List Entry) (term : Term) (c : Context) → is_typed (form_for row.form term) ≡ true →
    is_some (value_for row es term c) ≡ true → has_slots row c ≡ true
slots-there row es term c typed some =
    go (has_slots row c) (ap (λ b. is_some (passed b (has_slots row c) (form_for row.form term) (value_in es term c))) (sym typed) ∙ some)
  where
    go : (b : Bool) → is_some (passed true b (form_for row.form term) (value_in es term c)) ≡ true → b ≡ true
    go true h = refl
    go false h = absurd (false≢true h)
