-- What is known of an invoice, as it holds of its entries, and of those of a row that writes its values as they are.
use Rattle.std.proofs.Common.{◌≡◌, ℕ, true, false, List, [], Option, Some, None, inl, inr, refl, ap, ◌∙◌, subst}
use Rattle.std.specs.Prelude.{is_none, option_map}
use Rattle.std.proofs.lemmas.Bool.{false≢true}
use Rattle.term_table.specs.declared.groups.Group.{Group}
use Rattle.term_table.specs.declared.terms.Term.{Term}
use Rattle.term_table.specs.declared.contexts.Context.{Context}
use Rattle.term_table.specs.Contexts.{outer_context}
use Rattle.inv_terms.specs.declared.values.Value.{Value}
use Rattle.inv_terms.specs.declared.entries.Entry.{Entry}
use Rattle.inv_terms.specs.Values.{trimmed, spelled}
use Rattle.inv_terms.specs.Listing.{value_in}
use Rattle.bind_rows.specs.declared.rows.Form.{Form}
use Rattle.bind_rows.specs.declared.rows.Form.TheVariants as forms
use Rattle.bind_rows.specs.declared.rows.Row.{Row}
use Rattle.bind_rows.specs.declared.rows.Written.{Written}
use Rattle.bind_rows.specs.declared.rows.Written.TheVariants as written
use Rattle.bind_rows.specs.Same.{same_or_none}
use Rattle.bind_rows.specs.Added.{is_typed}
use Rattle.bind_table.proofs.SameLemmas.{group-sound}
use Rattle.bind_meaning.specs.Values.{form_for}
use Rattle.bind_meaning.specs.Elements.{is_full}
use Rattle.bind_meaning.specs.Writing.{context_for, slot_for, formed, if_due, filled, term_text}
use Rattle.bind_meaning.specs.Trees.{spots}
use Rattle.binding_laws.specs.Apart.{Unlike, Together, Known, without, unknown, beyond, holds_none, is_as_it_is, is_of_group}
use Rattle.binding_laws.proofs.ListLemmas.{both-true}
use Rattle.binding_laws.proofs.ReachLemmas.{Among}
use Rattle.binding_laws.proofs.GoneLemmas.{none-of-none}
use Rattle.binding_laws.proofs.TakenLemmas.{as-modelled}

-- What is known of the invoice holds of its entries, inside an element in the context.
pub record Knows (known : Known) (es : List Entry) (c : Context) : Type 0 where
  pub gone : holds_none known.gone es ≡ true
  pub unlike : (u : Unlike) → Among u known.unlike → (d : Context) (v : Value) → value_in es u.term d ≡ Some v → trimmed (spelled v) ≡ u.text → ⊥
  pub full : (x : Together) → Among x known.together → (d : Context) (v : Value) → value_in es x.part d ≡ Some v → is_full (trimmed (spelled v)) ≡ true
  pub stands : (x : Together) → Among x known.together → (d : Context) → Among d (spots es c (Some x.group)) → (v : Value) →
      value_in es x.term (outer_context d) ≡ Some v → (w : Value) × (value_in es x.part (outer_context d) ≡ Some w)

pub knows-without : (gone : List Term) (es : List Entry) (c : Context) → holds_none gone es ≡ true → Knows (without gone) es c
knows-without gone es c unheld = record { gone = unheld; unlike = λ u a. absurd a; full = λ x a. absurd a; stands = λ x a. absurd a }

pub knows-nothing : (es : List Entry) (c : Context) → Knows unknown es c
knows-nothing es c = knows-without [] es c (none-of-none es)

pub known-inside : (known : Known) (es : List Entry) (o : Option Group) (c d : Context) → Among d (spots es c o) → Knows known es c →
    Knows (beyond o known) es d
known-inside known es None c d (inl e) knows = subst (Knows known es) e knows
known-inside known es None c d (inr z) knows = absurd z
known-inside known es (Some g) c d a knows = record { gone = knows.gone; unlike = knows.unlike; full = λ x b. absurd b; stands = λ x b. absurd b }

-- ---- rows that write values as they are

rule-and-form : (rule : Written) (form : Form) → (elim rule [ written.Always ↦ elim form [ forms.Model ↦ true | _ ↦ false ] | _ ↦ false ]) ≡ true →
    (rule ≡ written.Always) × (form ≡ forms.Model)
rule-and-form written.Always forms.Model h = (refl, refl)
rule-and-form written.Always forms.PlainDate h = absurd (false≢true h)
rule-and-form written.Always forms.DueDateTypeCode h = absurd (false≢true h)
rule-and-form written.Always forms.CodedNote h = absurd (false≢true h)
rule-and-form written.Always (forms.Typed data_type) h = absurd (false≢true h)
rule-and-form written.Always forms.TypedPlainDate h = absurd (false≢true h)
rule-and-form written.Never form h = absurd (false≢true h)
rule-and-form written.IfIban form h = absurd (false≢true h)
rule-and-form written.IfNotIban form h = absurd (false≢true h)
rule-and-form written.IfScheme form h = absurd (false≢true h)
rule-and-form written.IfNoScheme form h = absurd (false≢true h)
rule-and-form (written.OrPlaceholder placeholder) form h = absurd (false≢true h)
rule-and-form written.VatTotal form h = absurd (false≢true h)
rule-and-form written.AccountingVatTotal form h = absurd (false≢true h)

pub written-as-it-is : (es : List Entry) (row : Row) (term : Term) (c : Context) → is_as_it_is row term ≡ true →
    term_text row es term c ≡ option_map spelled (value_in es term c)
written-as-it-is es row term c h =
    let w = rule-and-form row.written (form_for row.form term) h in
    let modelled = as-modelled row es term c (ap is_typed w.1) in
    (λ i. elim (modelled i) [ None ↦ filled (w.0 i) es c | Some value ↦ if_due (w.0 i) es term c (formed (w.1 i) es c value) ]) ∙ go (value_in es term c)
  where
    go : (o : Option Value) → ◌≡◌ {A = Option (List ℕ)} (elim o [ None ↦ None | Some value ↦ Some (spelled value) ]) (option_map spelled o)
    go None = refl
    go (Some v) = refl

-- ---- rows of a group

pub or-none-is : (o : Option Group) (g : Group) → same_or_none o (Some g) ≡ true → o ≡ Some g
or-none-is None g h = absurd (false≢true h)
or-none-is (Some f) g h = ap Some (group-sound f g h)

no-group-is : (o : Option Group) → is_none o ≡ true → o ≡ None
no-group-is None h = refl
no-group-is (Some g) h = absurd (false≢true h)

pub context-of-group : (g : Group) (row : Row) (d : Context) → is_of_group g row ≡ true → context_for row d ≡ outer_context d
context-of-group g row d h =
    let w = both-true (same_or_none row.outer (Some g)) (is_none row.inner) h in
    (λ i. record { outer = slot_for (or-none-is row.outer g w.0 i) d.outer; inner = slot_for (no-group-is row.inner w.1 i) d.inner })
