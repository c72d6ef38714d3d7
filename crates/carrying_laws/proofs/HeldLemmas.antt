-- Each invoice that meets the conditions of carrying is held by a complete table.
use Rattle.std.proofs.Common.{◌≡◌, ℕ, Bool, true, false, not, ◌&&◌, ◌||◌, List, Option, Some, None, ◌⊎◌, inl, inr, refl, sym, ap, ◌∙◌, subst}
use Rattle.std.specs.Prelude.{is_some, option_map, codes, Ok, if◌then◌else◌}
use Rattle.std.specs.List.{list_all, list_any}
use Rattle.std.specs.Str.{bytes_eq}
use Rattle.std.proofs.lemmas.Bool.{false≢true}
use Rattle.std.proofs.lemmas.Option.{same_Some}
use Rattle.std.proofs.lemmas.Slice.Eq.{bytes_eq-Decides}
use Rattle.inv_base.specs.Characters.{is_char}
use Rattle.code_lists.specs.CodeFiles.{Lists}
use Rattle.term_table.specs.declared.groups.Group.{Group}
use Rattle.term_table.specs.declared.terms.DataType.{DataType}
use Rattle.term_table.specs.declared.terms.DataType.TheVariants as data_types
use Rattle.term_table.specs.declared.terms.Term.{Term}
use Rattle.term_table.specs.declared.terms.TermRow.{TermRow}
use Rattle.term_table.specs.Rows.{HasType}
use Rattle.term_table.specs.SemanticModel.{same_term, is_extension, terms}
use Rattle.term_table.proofs.ExtensionLemmas.{one-type}
use Rattle.term_table.specs.Contexts.{slot_group, root_context, outer_group, inner_group}
use Rattle.term_table.proofs.SeatLemmas.{same_term_is}
use Rattle.inv_terms.specs.declared.values.Value.{Value}
use Rattle.inv_terms.specs.declared.values.Value.TheVariants as values
use Rattle.inv_terms.specs.declared.entries.Entry.{Entry}
use Rattle.inv_terms.specs.Listing.{value_in, Fits, IsInvoice, is_placed}
use Rattle.inv_terms.specs.Values.{spelled, code_of, value_by, value_of}
use Rattle.inv_terms.specs.Whole.{IsValid}
use Rattle.bind_rows.specs.declared.rows.Content.{Content}
use Rattle.bind_rows.specs.declared.rows.Content.TheVariants as contents
use Rattle.bind_rows.specs.declared.rows.Form.{Form}
use Rattle.bind_rows.specs.declared.rows.Form.TheVariants as forms
use Rattle.bind_rows.specs.declared.rows.Row.{Row}
use Rattle.bind_table.specs.Lines.{plan_of}
use Rattle.bind_meaning.specs.Values.{form_for}
use Rattle.bind_meaning.specs.Picks.{term_in, has_term}
use Rattle.bind_meaning.specs.Trees.{either}
use Rattle.bind_carrying.specs.Carrying.{bt, is_bt, same_text, has_image, entries_fail, entries_carried}
use Rattle.bind_carrying.specs.Tables.{document_type_of, is_ubl}
use Rattle.binding_laws.specs.Apart.{holds_none}
use Rattle.binding_laws.specs.Known.{known_of}
use Rattle.binding_laws.specs.Covered.{accounting_terms, is_other_text, is_imaged, is_read_back, reads_back, is_written_plainly_in, has_currencies}
use Rattle.binding_laws.specs.Covered.{is_unmistaken, left_out, holds_plainly}
use Rattle.binding_laws.specs.Faultless.{is_if_scheme}
use Rattle.binding_laws.proofs.ReachLemmas.{Among}
use Rattle.binding_laws.proofs.ListLemmas.{both-true, not-true}
use Rattle.carrying_laws.specs.Complete.{also, lets_all, is_if_iban, is_if_not_iban, is_if_no_scheme, is_as_modelled, has_writer, has_attribute, has_coder}
use Rattle.carrying_laws.specs.Complete.{rows_with, is_written_in, writes_model, is_readable, reads_term, adds_plainly, mistakes_none, is_complete}
use Rattle.carrying_laws.proofs.Disjuncts.{either-or, also-both, or-first, or-second, or-either, and-true}
use Rattle.carrying_laws.proofs.ConditionLemmas.{image-stands, currencies-stand, entries-keep, row-kept, added-kept}
use Rattle.carrying_laws.proofs.ModelLemmas as model
use Rattle.carrying_laws.proofs.ModelLemmas.{any-found, all-each, each-all, all-fails, modelled}
use Rattle.carrying_laws.proofs.WrittenLemmas.{by-one, by-iban, by-scheme, by-attribute, by-code}
use Rattle.carrying_laws.proofs.AddedLemmas.{added-row, added-reads, added-writes}
use Rattle.carrying_laws.proofs.MistakenLemmas.{unmistaken}

-- ---- a value of BT-8 is a code

type-of-8 : (data_type : DataType) → HasType (bt 8) data_type → data_type ≡ data_types.C
unfolding terms
type-of-8 data_type h = one-type (bt 8) data_type data_types.C h refl

code-by : (o : Option (List ℕ)) (v : Value) → option_map values.Code o ≡ Some v → (code : List ℕ) × (v ≡ values.Code code)
code-by None v h = absurd (false≢true (ap is_some h))
code-by (Some code) v h = (code, sym (same_Some _ _ h))

code-if : (b : Bool) (text : List ℕ) (v : Value) → (if b then value_by data_types.C text else None) ≡ Some v → (code : List ℕ) × (v ≡ values.Code code)
code-if true text v h = code-by (code_of text) v h
code-if false text v h = absurd (false≢true (ap is_some h))

code-value : (text : List ℕ) (v : Value) → value_of data_types.C text ≡ Some v → (code : List ℕ) × (v ≡ values.Code code)
unfolding value_of
code-value text v h = code-if (list_all is_char text) text v h

code-of-8 : (v : Value) → Fits (bt 8) v → (code : List ℕ) × (v ≡ values.Code code)
code-of-8 v f = code-value f.text v (ap (λ l. value_of l f.text) (sym (type-of-8 f.data_type f.typed)) ∙ f.read)

or-last : (b : Bool) → (b || false) ≡ b
or-last true = refl
or-last false = refl

image-by-code : (code : List ℕ) → is_imaged (values.Code code) ≡ has_image code
image-by-code code = ap (λ b. bytes_eq (codes "3") code || (bytes_eq (codes "35") code || b)) (or-last (bytes_eq (codes "432") code))

-- ---- the table and an invoice that it is to hold

module _ (rows : List Row) (complete : is_complete rows ≡ true) (es : List Entry) (lists : Lists) (invoice : IsInvoice es) (valid : IsValid es lists)
    (carried : entries_carried rows es ≡ Ok tt) (none : holds_none (left_out rows) es ≡ true) where
  keeps : entries_fail rows es ≡ None
  keeps = entries-keep rows es carried

  abbrev ubl : Bool
  ubl = is_ubl (document_type_of rows)

  abbrev left : List Term
  left = left_out rows

  not-left : (e : Entry) → Among e es → list_any (same_term e.term) left ≡ false
  not-left e a = not-true _ (all-each (λ (x : Entry). not (list_any (same_term x.term) left)) es none e a)

  record Tests : Type 0 where
    writes : writes_model (plan_of rows) (known_of rows) left rows ubl ≡ true
    reads : list_all (reads_term left) rows ≡ true
    totals : list_all (same_term (bt 111)) (accounting_terms rows) ≡ true
    adds : adds_plainly (plan_of rows) rows ≡ true
    mistakes : mistakes_none (known_of rows) rows ubl ≡ true

  tests : Tests
  tests =
      let a = both-true (writes_model (plan_of rows) (known_of rows) left rows ubl) _ complete in
      let b = both-true (list_all (reads_term left) rows) _ a.1 in
      let c = both-true (list_all (same_term (bt 111)) (accounting_terms rows)) _ b.1 in
      let d = both-true (adds_plainly (plan_of rows) rows) (mistakes_none (known_of rows) rows ubl) c.1 in
      record { writes = a.0; reads = b.0; totals = c.0; adds = d.0; mistakes = d.1 }

  -- ---- each entry is written

  written-in : (e : Entry) → Among e es → is_extension e.term ≡ false →
      is_written_in (plan_of rows) (known_of rows) left rows ubl e.term (slot_group e.context.outer) (slot_group e.context.inner) ≡ true
  written-in e a of_model =
      let m = modelled e of_model (all-each is_placed es invoice.placed e a) in
      ap (λ t. is_written_in (plan_of rows) (known_of rows) left rows ubl t (slot_group e.context.outer) (slot_group e.context.inner)) (sym m.term_is)
      ∙ (ap (λ o. is_written_in (plan_of rows) (known_of rows) left rows ubl m.row.term o (slot_group e.context.inner)) m.outer
      ∙ (ap (λ o. is_written_in (plan_of rows) (known_of rows) left rows ubl m.row.term (outer_group m.row.group) o) m.inner
      ∙ all-each (λ (r : TermRow). is_written_in (plan_of rows) (known_of rows) left rows ubl r.term (outer_group r.group) (inner_group r.group)) terms
      tests.writes m.row m.known))

  module _ (e : Entry) (known : Among e es) (of_model : is_extension e.term ≡ false) where
    abbrev outer : Option Group
    outer = slot_group e.context.outer

    abbrev inner : Option Group
    inner = slot_group e.context.inner

    abbrev own : List Row
    own = rows_with e.term rows

    abbrev one : Bool
    one = has_writer (plan_of rows) (known_of rows) rows e.term outer inner (λ row. lets_all row.written) own

    abbrev ibans : Bool
    ibans = has_writer (plan_of rows) (known_of rows) rows e.term outer inner (λ row. is_if_iban row.written && is_as_modelled e.term row) own

    abbrev others : Bool
    others = has_writer (plan_of rows) (known_of rows) rows e.term outer inner (λ row. is_if_not_iban row.written && is_as_modelled e.term row) own

    abbrev schemed : Bool
    schemed = has_writer (plan_of rows) (known_of rows) rows e.term outer inner (λ row. is_if_scheme row.written) own

    abbrev unschemed : Bool
    unschemed = has_writer (plan_of rows) (known_of rows) rows e.term outer inner (λ row. is_if_no_scheme row.written) own

    abbrev part : Bool
    part = has_attribute (plan_of rows) (known_of rows) rows ubl e.term outer inner own

    abbrev coded : Bool
    coded = has_coder (plan_of rows) rows ubl e.term outer inner

    abbrev in_part : Bool
    in_part = either part (λ _. coded)

    abbrev in_schemes : Bool
    in_schemes = either (also schemed (λ _. unschemed)) (λ _. in_part)

    abbrev in_ibans : Bool
    in_ibans = either (also ibans (λ _. others)) (λ _. in_schemes)

    abbrev in_one : Bool
    in_one = either one (λ _. in_ibans)

    fifth : (part ≡ true) ⊎ (coded ≡ true) → is_written_plainly_in (plan_of rows) rows es e ≡ true
    fifth (inl k) = by-attribute (plan_of rows) rows es e known of_model keeps lists valid k
    fifth (inr k) = by-code (plan_of rows) rows es e known of_model keeps lists valid k

    fourth : (also schemed (λ _. unschemed) ≡ true) ⊎ (in_part ≡ true) → is_written_plainly_in (plan_of rows) rows es e ≡ true
    fourth (inl k) = let w = also-both schemed (λ _. unschemed) k in by-scheme (plan_of rows) rows es e known of_model w.0 w.1
    fourth (inr k) = fifth (either-or part (λ _. coded) k)

    third : (also ibans (λ _. others) ≡ true) ⊎ (in_schemes ≡ true) → is_written_plainly_in (plan_of rows) rows es e ≡ true
    third (inl k) = let w = also-both ibans (λ _. others) k in by-iban (plan_of rows) rows es e known of_model w.0 w.1
    third (inr k) = fourth (either-or (also schemed (λ _. unschemed)) (λ _. in_part) k)

    second : (one ≡ true) ⊎ (in_ibans ≡ true) → is_written_plainly_in (plan_of rows) rows es e ≡ true
    second (inl k) = by-one (plan_of rows) rows es e known of_model k
    second (inr k) = third (either-or (also ibans (λ _. others)) (λ _. in_schemes) k)

    first : (list_any (same_term e.term) left ≡ true) ⊎ (in_one ≡ true) → is_written_plainly_in (plan_of rows) rows es e ≡ true
    first (inl k) = absurd (false≢true (sym (not-left e known) ∙ k))
    first (inr k) = second (either-or one (λ _. in_ibans) k)

    entry-written : is_written_plainly_in (plan_of rows) rows es e ≡ true
    entry-written = first (either-or (list_any (same_term e.term) left) (λ _. in_one) (written-in e known of_model))

    -- ---- each entry is read back

    form-reads : (form : Form) → is_readable form e.term ≡ true → is_read_back form e.value ≡ true
    form-reads forms.Model h = refl
    form-reads forms.PlainDate h = refl
    form-reads forms.DueDateTypeCode h =
        let term : e.term ≡ bt 8 = same_term_is e.term (bt 8) h in
        let code = code-of-8 e.value (subst (λ t. Fits t e.value) term (model.all-holds (λ (x : Entry). Fits x.term x.value) e es invoice.fit known)) in
        ap is_imaged code.1 ∙ (image-by-code code.0 ∙ (ap (λ v. has_image (spelled v)) (sym code.1) ∙ image-stands rows es keeps e known h))
    form-reads forms.CodedNote h = refl
    form-reads (forms.Typed data_type) h = absurd (false≢true (sym of_model ∙ h))
    form-reads forms.TypedPlainDate h = absurd (false≢true (sym of_model ∙ h))

    row-reads : (row : Row) → Among row rows → (not (has_term e.term row) || is_read_back (form_for row.form e.term) e.value) ≡ true
    row-reads row a = go row.content refl (all-each (reads_term left) rows tests.reads row a)
      where
        there : (term : Term) → row.content ≡ contents.Term term → has_term e.term row ≡ same_term term e.term
        there term content = ap (λ (x : Content). elim (term_in x) [ None ↦ false | Some t ↦ same_term t e.term ]) content

        nowhere : (text : List ℕ) → row.content ≡ contents.Constant text → has_term e.term row ≡ false
        nowhere text content = ap (λ (x : Content). elim (term_in x) [ None ↦ false | Some t ↦ same_term t e.term ]) content

        at : (list_any (same_term e.term) left ≡ true) ⊎ (is_readable (form_for row.form e.term) e.term ≡ true) →
            is_read_back (form_for row.form e.term) e.value ≡ true
        at (inl k) = absurd (false≢true (sym (not-left e known) ∙ k))
        at (inr k) = form-reads (form_for row.form e.term) k

        own-form : (term : Term) → term ≡ e.term → (list_any (same_term term) left || is_readable (form_for row.form term) term) ≡ true →
            is_read_back (form_for row.form e.term) e.value ≡ true
        own-form term same h = at (or-either (list_any (same_term e.term) left) (is_readable (form_for row.form e.term) e.term)
            (subst (λ t. (list_any (same_term t) left || is_readable (form_for row.form t) t) ≡ true) same h))

        by-term : (term : Term) → row.content ≡ contents.Term term → (list_any (same_term term) left || is_readable (form_for row.form term) term) ≡ true →
            (b : Bool) → same_term term e.term ≡ b
            → (not (has_term e.term row) || is_read_back (form_for row.form e.term) e.value) ≡ true
        by-term term content h true same = or-second (not (has_term e.term row)) _ (own-form term (same_term_is term e.term same) h)
        by-term term content h false same = or-first (not (has_term e.term row)) _ (ap not (there term content ∙ same))

        go : (content : Content) → row.content ≡ content
            → (elim content [
              | (contents.Term term) ↦ list_any (same_term term) left || is_readable (form_for row.form term) term
              | (contents.Constant text) ↦ true
            ]) ≡ true
            → (not (has_term e.term row) || is_read_back (form_for row.form e.term) e.value) ≡ true
        go (contents.Term term) content h = by-term term content h (same_term term e.term) refl
        go (contents.Constant text) content h = or-first (not (has_term e.term row)) _ (ap not (nowhere text content))

    entry-read : reads_back rows e ≡ true
    entry-read = each-all (λ (row : Row). not (has_term e.term row) || is_read_back (form_for row.form e.term) e.value) rows row-reads

    pub modelled-held : (reads_back rows e ≡ true) × (is_written_plainly_in (plan_of rows) rows es e ≡ true)
    modelled-held = (entry-read, entry-written)

  -- an entry of the model by these tests, one of an added term by its own row
  held-by : (e : Entry) → Among e es → (b : Bool) → is_extension e.term ≡ b → (reads_back rows e ≡ true) ×
      (is_written_plainly_in (plan_of rows) rows es e ≡ true)
  held-by e known false own = modelled-held e known own
  held-by e known true own =
      let row = added-row rows es e own (added-kept rows e (row-kept rows es carried e known) own) tests.adds in
      (added-reads rows es e own row, added-writes rows es e own row invoice known)

  pub entry-held : (e : Entry) → Among e es → (not (list_any (same_term e.term) left) &&
      (reads_back rows e && is_written_plainly_in (plan_of rows) rows es e)) ≡ true
  entry-held e known =
      let w = held-by e known (is_extension e.term) refl in
      and-true (not (list_any (same_term e.term) left)) (reads_back rows e && is_written_plainly_in (plan_of rows) rows es e) (ap not (not-left e known))
      (and-true (reads_back rows e) (is_written_plainly_in (plan_of rows) rows es e) w.0 w.1)

  -- ---- the two currencies

  other-text : (a b : List ℕ) → bytes_eq b a ≡ false → not (bytes_eq a b) ≡ true
  other-text a b h = go (bytes_eq a b) refl
    where
      go : (x : Bool) → bytes_eq a b ≡ x → not x ≡ true
      go true e = absurd (false≢true (sym h ∙ (bytes_eq-Decides b a).1 (sym ((bytes_eq-Decides a b).0 e))))
      go false e = refl

  differ : (five six : Option Value) → is_some five ≡ true → is_some six ≡ true → same_text six five ≡ false →
      is_other_text (option_map spelled five) (option_map spelled six) ≡ true
  differ None six h k d = absurd (false≢true h)
  differ (Some a) None h k d = absurd (false≢true k)
  differ (Some a) (Some b) h k d = other-text (spelled a) (spelled b) d

  pub currencies-held : has_currencies rows es ≡ true
  currencies-held = go (holds_none (accounting_terms rows) es) refl
    where
      go : (b : Bool) → holds_none (accounting_terms rows) es ≡ b
          → (b || is_other_text (option_map spelled (value_in es (bt 5) root_context)) (option_map spelled (value_in es (bt 6) root_context))) ≡ true
      go true e = refl
      go false e =
          let x = all-fails (λ (y : Entry). not (list_any (same_term y.term) (accounting_terms rows))) es e in
          let t = any-found (same_term x.0.term) (accounting_terms rows) (model.not-false (list_any (same_term x.0.term) (accounting_terms rows)) x.1.1) in
          let total : bt 111 ≡ x.0.term =
          same_term_is (bt 111) t.0 (all-each (same_term (bt 111)) (accounting_terms rows) tests.totals t.0 t.1.0) ∙ sym (same_term_is x.0.term t.0 t.1.1) in
          let w = currencies-stand rows es keeps x.0 x.1.0 (ap (is_bt 111 0) (sym total)) in
          differ (value_in es (bt 5) root_context) (value_in es (bt 6) root_context) (model.currency-stands es lists valid) w.0 w.1

  entry-unmistaken : (e : Entry) → Among e es → is_unmistaken (plan_of rows) rows es e ≡ true
  entry-unmistaken e a = unmistaken (plan_of rows) rows es keeps lists valid e a (all-each is_placed es invoice.placed e a) tests.mistakes

  pub held : holds_plainly rows es ≡ true
  held =
      and-true (list_all (λ (e : Entry). not (list_any (same_term e.term) left) && (reads_back rows e && is_written_plainly_in (plan_of rows) rows es e)) es)
      (has_currencies rows es && list_all (is_unmistaken (plan_of rows) rows es) es)
      (each-all (λ (e : Entry). not (list_any (same_term e.term) left) && (reads_back rows e && is_written_plainly_in (plan_of rows) rows es e)) es entry-held)
      (and-true (has_currencies rows es) (list_all (is_unmistaken (plan_of rows) rows es) es) currencies-held
      (each-all (is_unmistaken (plan_of rows) rows es) es entry-unmistaken))
