-- What a row of a term writes by itself, where it is written or not by the value and its scheme alone.
use Rattle.std.proofs.Common.{◌≡◌, ℕ, Bool, true, false, not, ◌&&◌, List, [], ◌∷◌, Option, Some, None, ◌⊎◌, inl, inr, refl, sym, ap, ◌∙◌}
use Rattle.std.specs.Prelude.{is_some, is_none}
use Rattle.std.proofs.lemmas.Bool.{false≢true}
use Rattle.term_table.specs.declared.terms.Term.{Term}
use Rattle.term_table.specs.declared.contexts.Context.{Context}
use Rattle.inv_terms.specs.declared.values.Value.{Value}
use Rattle.inv_terms.specs.declared.entries.Entry.{Entry}
use Rattle.inv_terms.specs.Listing.{value_in}
use Rattle.bind_rows.specs.declared.rows.Content.{Content}
use Rattle.bind_rows.specs.declared.rows.Content.TheVariants as contents
use Rattle.bind_rows.specs.declared.rows.Row.{Row}
use Rattle.bind_rows.specs.declared.rows.Written.{Written}
use Rattle.bind_rows.specs.declared.rows.Written.TheVariants as written
use Rattle.bind_meaning.specs.Values.{form_for}
use Rattle.bind_rows.specs.Added.{is_typed}
use Rattle.bind_meaning.specs.Writing.{context_for, formed, is_iban, if_so, scheme_of, if_due, filled, value_for, term_text, row_text, writes_entry}
use Rattle.binding_laws.specs.Plain.{is_by_value}
use Rattle.binding_laws.proofs.TakenLemmas.{as-modelled, taken-or-refused}
use Rattle.binding_laws.proofs.CellLemmas.{own_text, own_strings, in_a_list}

abbrev pub text_by : Option (List ℕ) → Content → Option (List ℕ)
text_by o content = elim content [ (contents.Constant text) ↦ Some text | (contents.Term t) ↦ o ]

abbrev pub or_nothing : Option (List ℕ) → List ℕ
or_nothing o = elim o [ None ↦ [] | Some text ↦ text ]

-- Nothing stands in place of the value, or it stands itself.
abbrev pub IsUnfilled : List Entry → Row → Term → Context → Type 0
IsUnfilled es row term c = (filled row.written es c ≡ None) ⊎ (is_some (value_for row es term c) ≡ true)

-- a rule on the value and its scheme alone has no placeholder
no-placeholder : (es : List Entry) (rule : Written) → is_by_value rule ≡ true → (c : Context) → filled rule es c ≡ None
no-placeholder es written.Always h c = refl
no-placeholder es written.Never h c = refl
no-placeholder es written.IfIban h c = refl
no-placeholder es written.IfNotIban h c = refl
no-placeholder es written.IfScheme h c = refl
no-placeholder es written.IfNoScheme h c = refl
no-placeholder es (written.OrPlaceholder placeholder) h c = absurd (false≢true h)
no-placeholder es written.VatTotal h c = refl
no-placeholder es written.AccountingVatTotal h c = refl

pub by-value : (es : List Entry) (row : Row) (term : Term) → is_by_value row.written ≡ true → (d : Context) → IsUnfilled es row term (context_for row d)
by-value es row term h d = inl (no-placeholder es row.written h (context_for row d))

module _ (es : List Entry) (row : Row) (term : Term) (content : row.content ≡ contents.Term term)
    (unfilled : (d : Context) → IsUnfilled es row term (context_for row d)) where
  -- what the row writes of a value
  abbrev pub due : Context → Option Value → Option (List ℕ)
  due c o = elim o [ None ↦ None | Some value ↦ if_due row.written es term c (formed (form_for row.form term) es c value) ]

  pub written-as : (d : Context) → row_text row es d ≡ due (context_for row d) (value_for row es term (context_for row d))
  written-as d =
      ap (λ x. elim x [ (contents.Term t) ↦ term_text row es t (context_for row d) | (contents.Constant text) ↦ None ]) content
      ∙ go (unfilled d)
    where
      standing : (o : Option Value) → is_some o ≡ true
          → ◌≡◌ {A = Option (List ℕ)} (elim o [
            | None ↦ filled row.written es (context_for row d)
            | Some value ↦ if_due row.written es term (context_for row d) (formed (form_for row.form term) es (context_for row d) value)
          ])
          (elim o [ None ↦ None | Some value ↦ if_due row.written es term (context_for row d) (formed (form_for row.form term) es (context_for row d) value) ])
      standing None k = absurd (false≢true k)
      standing (Some v) k = refl

      go : IsUnfilled es row term (context_for row d)
          → ◌≡◌ {A = Option (List ℕ)} (elim (value_for row es term (context_for row d)) [
            | None ↦ filled row.written es (context_for row d)
            | Some value ↦ if_due row.written es term (context_for row d) (formed (form_for row.form term) es (context_for row d) value)
          ])
          (elim (value_for row es term (context_for row d)) [
            | None ↦ None
            | Some value ↦ if_due row.written es term (context_for row d) (formed (form_for row.form term) es (context_for row d) value)
          ])
      go (inl none) = ap (λ o. elim (value_for row es term (context_for row d)) [
        | None ↦ o
        | Some value ↦ if_due row.written es term (context_for row d) (formed (form_for row.form term) es (context_for row d) value)
      ]) none
      go (inr stands) = standing (value_for row es term (context_for row d)) stands

  -- it writes something only of a value that it takes
  pub written-value : (d : Context) → writes_entry row es d ≡ true → is_some (value_for row es term (context_for row d)) ≡ true
  written-value d h = go (value_for row es term (context_for row d)) (sym (ap is_some (written-as d)) ∙ h)
    where
      go : (o : Option Value) → is_some (due (context_for row d) o) ≡ true → is_some o ≡ true
      go None k = absurd (false≢true k)
      go (Some v) k = refl

  -- where it writes the term's value, its rule lets that pass
  pub due-as : (d : Context) (v : Value) → value_in es term (context_for row d) ≡ Some v → writes_entry row es d ≡ true
      → is_some (if_due row.written es term (context_for row d) (formed (form_for row.form term) es (context_for row d) v)) ≡ true
  due-as d v at h = go (taken-or-refused row es term (context_for row d))
    where
      go : (value_for row es term (context_for row d) ≡ value_in es term (context_for row d)) ⊎ (value_for row es term (context_for row d) ≡ None)
          → is_some (if_due row.written es term (context_for row d) (formed (form_for row.form term) es (context_for row d) v)) ≡ true
      go (inl same) = sym (ap is_some (written-as d ∙ (ap (due (context_for row d)) same ∙ ap (due (context_for row d)) at))) ∙ h
      go (inr none) = absurd (false≢true (sym (ap is_some none) ∙ written-value d h))

  -- a rule lets the whole text pass, or nothing
  due-or-not : (rule : Written) (c : Context) (text : List ℕ) → (if_due rule es term c text ≡ None) ⊎ (if_due rule es term c text ≡ Some text)
  due-or-not written.Always c text = inr refl
  due-or-not written.Never c text = inl refl
  due-or-not written.IfIban c text = by-test (is_iban text)
    where
      by-test : (b : Bool) → (if_so b text ≡ None) ⊎ (if_so b text ≡ Some text)
      by-test true = inr refl
      by-test false = inl refl
  due-or-not written.IfNotIban c text = by-test (not (is_iban text))
    where
      by-test : (b : Bool) → (if_so b text ≡ None) ⊎ (if_so b text ≡ Some text)
      by-test true = inr refl
      by-test false = inl refl
  due-or-not written.IfScheme c text = by-test (is_some (value_in es (scheme_of term) c))
    where
      by-test : (b : Bool) → (if_so b text ≡ None) ⊎ (if_so b text ≡ Some text)
      by-test true = inr refl
      by-test false = inl refl
  due-or-not written.IfNoScheme c text = by-test (is_none (value_in es (scheme_of term) c))
    where
      by-test : (b : Bool) → (if_so b text ≡ None) ⊎ (if_so b text ≡ Some text)
      by-test true = inr refl
      by-test false = inl refl
  due-or-not (written.OrPlaceholder placeholder) c text = inr refl
  due-or-not written.VatTotal c text = inr refl
  due-or-not written.AccountingVatTotal c text = inr refl

  abbrev pub value_text : Context → Option Value → List ℕ
  value_text c o = elim o [ None ↦ [] | Some value ↦ formed (form_for row.form term) es c value ]

  pub text-as : (d : Context) → own_text es d row
      ≡ (elim (is_some (value_in es term (context_for row d)) &&
      writes_entry row es d) [ true ↦ value_text (context_for row d) (value_in es term (context_for row d)) | false ↦ [] ])
  text-as d = ap (λ (x : Content). or_nothing (text_by (row_text row es d) x)) content ∙ by-value-for (taken-or-refused row es term (context_for row d))
    where
      here : (o : Option (List ℕ)) (v : Value) → o ≡ if_due row.written es term (context_for row d) (formed (form_for row.form term) es (context_for row d) v)
          → (if_due row.written es term (context_for row d) (formed (form_for row.form term) es (context_for row d) v) ≡ None)
          ⊎ (if_due row.written es term (context_for row d) (formed (form_for row.form term) es (context_for row d) v) ≡ Some
          (formed (form_for row.form term) es (context_for row d) v))
          → or_nothing o ≡ (elim (is_some o) [ true ↦ formed (form_for row.form term) es (context_for row d) v | false ↦ [] ])
      here o v e (inl k) = ap (λ x. or_nothing x) (e ∙ k) ∙
          sym (ap (λ x. elim (is_some x) [ true ↦ formed (form_for row.form term) es (context_for row d) v | false ↦ [] ]) (e ∙ k))
      here o v e (inr k) = ap (λ x. or_nothing x) (e ∙ k) ∙
          sym (ap (λ x. elim (is_some x) [ true ↦ formed (form_for row.form term) es (context_for row d) v | false ↦ [] ]) (e ∙ k))

      go : (o : Option (List ℕ)) (w : Option Value) → o ≡ due (context_for row d) w →
          or_nothing o ≡ (elim (is_some w && is_some o) [ true ↦ value_text (context_for row d) w | false ↦ [] ])
      go o None e = ap (λ x. or_nothing x) e
      go o (Some v) e = here o v e (due-or-not row.written (context_for row d) (formed (form_for row.form term) es (context_for row d) v))

      -- a value that is refused isn't written
      refused : (o : Option (List ℕ)) (w : Option Value) → o ≡ None →
          or_nothing o ≡ (elim (is_some w && is_some o) [ true ↦ value_text (context_for row d) w | false ↦ [] ])
      refused o None e = ap (λ x. or_nothing x) e
      refused o (Some v) e = ap (λ x. or_nothing x) e ∙
          sym (ap (λ x. elim (is_some x) [ true ↦ formed (form_for row.form term) es (context_for row d) v | false ↦ [] ]) e)

      by-value-for : (value_for row es term (context_for row d) ≡ value_in es term (context_for row d)) ⊎ (value_for row es term (context_for row d) ≡ None)
          → or_nothing (row_text row es d)
          ≡ (elim (is_some (value_in es term (context_for row d)) &&
          is_some (row_text row es d)) [ true ↦ value_text (context_for row d) (value_in es term (context_for row d)) | false ↦ [] ])
      by-value-for (inl same) = go (row_text row es d) (value_in es term (context_for row d)) (written-as d ∙ ap (due (context_for row d)) same)
      by-value-for (inr none) = refused (row_text row es d) (value_in es term (context_for row d)) (written-as d ∙ ap (due (context_for row d)) none)

  -- where it is always written, at an attribute, and its form has no type
  pub strings-as : row.written ≡ written.Always → is_typed (form_for row.form term) ≡ false → (d : Context) → own_strings es d row
      ≡ (elim (value_in es term (context_for row d)) [ None ↦ [] | Some value ↦ formed (form_for row.form term) es (context_for row d) value ∷ [] ])
  strings-as always untyped d =
      ap (λ (x : Content). in_a_list (text_by (row_text row es d) x)) content
      ∙ (ap in_a_list (written-as d ∙ ap (due (context_for row d)) (as-modelled row es term (context_for row d) untyped)) ∙
      mapped (value_in es term (context_for row d)))
    where
      mapped : (o : Option Value) → ◌≡◌ {A = List (List ℕ)} (in_a_list (due (context_for row d) o))
          (elim o [ None ↦ [] | Some value ↦ formed (form_for row.form term) es (context_for row d) value ∷ [] ])
      mapped None = refl
      mapped (Some value) = ap (λ rule. in_a_list (if_due rule es term (context_for row d) (formed (form_for row.form term) es (context_for row d) value)))
          always
