-- A row that is covered writes an entry's value where its rule lets it pass; of two that exclude one another one does.
use Rattle.std.proofs.Common.{◌≡◌, ℕ, Bool, true, false, not, ◌&&◌, ◌||◌, List, Option, Some, None, ◌⊎◌, inl, inr, refl, sym, ap, ◌∙◌, subst}
use Rattle.std.specs.Prelude.{◌==◌, nat_le, is_some, is_none, if◌then◌else◌}
use Rattle.std.specs.List.{list_all, list_any}
use Rattle.std.specs.Cmp.Lexicographic.{pointwise}
use Rattle.std.proofs.lemmas.Bool.{eqb-true, false≢true}
use Rattle.std.proofs.lemmas.Option.{same_Some}
use Rattle.code_lists.specs.CodeFiles.{Lists}
use Rattle.term_table.specs.declared.groups.Group.{Group}
use Rattle.term_table.specs.declared.terms.Term.{Term}
use Rattle.term_table.specs.declared.contexts.Slot.{Slot}
use Rattle.term_table.specs.declared.contexts.Context.{Context}
use Rattle.term_table.specs.declared.terms.TermRow.{TermRow}
use Rattle.term_table.specs.SemanticModel.{same_term, is_extension, terms}
use Rattle.term_table.specs.Groups.{is_repeated}
use Rattle.term_table.specs.Contexts.{slot_group, same_groups, stands_in}
use Rattle.term_table.proofs.SeatLemmas.{same_term_is}
use Rattle.inv_terms.specs.declared.values.Value.{Value}
use Rattle.inv_terms.specs.declared.entries.Entry.{Entry}
use Rattle.inv_terms.specs.Values.{spelled}
use Rattle.inv_terms.specs.Listing.{value_in}
use Rattle.inv_terms.specs.Whole.{IsValid}
use Rattle.bind_rows.specs.declared.rows.Content.{Content}
use Rattle.bind_rows.specs.declared.rows.Content.TheVariants as contents
use Rattle.bind_rows.specs.declared.rows.Row.{Row}
use Rattle.bind_rows.specs.declared.rows.Form.{Form}
use Rattle.bind_rows.specs.declared.rows.Form.TheVariants as forms
use Rattle.bind_rows.specs.declared.rows.Written.{Written}
use Rattle.bind_rows.specs.declared.rows.Written.TheVariants as written
use Rattle.bind_rows.specs.Same.{same_step}
use Rattle.bind_table.specs.Lines.{Plan}
use Rattle.bind_meaning.specs.Values.{subject_code, form_for}
use Rattle.bind_meaning.specs.Writing.{slot_for, context_for, formed, is_iban, scheme_of, if_so, if_due, filled, value_for, term_text, row_text, writes_entry}
use Rattle.binding_laws.specs.Known.{known_of}
use Rattle.binding_laws.specs.Plain.{has_content, is_in_groups, is_written_by}
use Rattle.binding_laws.specs.Covered.{is_noted_in, is_written_plainly_in}
use Rattle.binding_laws.specs.Faultless.{is_if_scheme, is_model}
use Rattle.bind_carrying.specs.Carrying.{bt, is_bt, is_first_part, is_part, main_term, entries_fail}
use Rattle.bind_carrying.specs.Tables.{document_type_of, is_ubl}
use Rattle.binding_laws.proofs.ReachLemmas.{Among}
use Rattle.binding_laws.proofs.ListLemmas.{both-true, not-true}
use Rattle.binding_laws.proofs.FormLemmas.{modelled-untyped}
use Rattle.binding_laws.proofs.TakenLemmas as taken
use Rattle.carrying_laws.specs.Complete.{also, lets_all, is_if_iban, is_if_not_iban, is_if_no_scheme, is_as_modelled, is_of, is_covered_for, is_writer}
use Rattle.carrying_laws.specs.Complete.{has_writer, is_mandatory_mark, is_mandatory_at, is_mandatory, is_own_main, stands_with, lets_beside, is_covered_beside}
use Rattle.carrying_laws.specs.Complete.{is_main, is_beside, has_attribute, is_note_of, is_coder, has_coder, rows_with}
use Rattle.carrying_laws.proofs.Disjuncts.{either-or, or-either, also-both, and-true, element-writes, attribute-writes, code-writes, written-by-row}
use Rattle.carrying_laws.proofs.ModelLemmas.{all-each, any-found, of-filter, value-stands, mandatory-stands}
use Rattle.carrying_laws.proofs.ConditionLemmas.{main-stands}

-- ---- what a row writes in a context of its own

slot-own : (o : Option Slot) (g : Option Group) → same_groups (slot_group o) g ≡ true → slot_for g o ≡ o
slot-own None None h = refl
slot-own None (Some g) h = refl
slot-own (Some s) None h = absurd (false≢true h)
slot-own (Some s) (Some g) h = refl

own-context : (row : Row) (c : Context) → is_in_groups row c ≡ true → context_for row c ≡ c
own-context row c h =
    let w = both-true (same_groups (slot_group c.outer) row.outer) (same_groups (slot_group c.inner) row.inner) h in
    let o : slot_for row.outer c.outer ≡ c.outer = slot-own c.outer row.outer w.0 in
    let i : slot_for row.inner c.inner ≡ c.inner = slot-own c.inner row.inner w.1 in
    λ z. record { outer = o z; inner = i z }

some-value : (o : Option Value) → is_some o ≡ true → (v : Value) × (o ≡ Some v)
some-value None h = absurd (false≢true h)
some-value (Some v) h = (v, refl)

text-as : (row : Row) (es : List Entry) (term : Term) (c : Context) (v : Value) → row.content ≡ contents.Term term → is_in_groups row c ≡ true →
    value_for row es term c ≡ Some v
    → row_text row es c ≡ if_due row.written es term c (formed (form_for row.form term) es c v)
text-as row es term c v content groups is =
    ap (λ (x : Content). elim x [ (contents.Term t) ↦ term_text row es t (context_for row c) | (contents.Constant text) ↦ None ]) content
    ∙ (ap (term_text row es term) (own-context row c groups)
    ∙ ap (λ (o : Option Value). elim o [ None ↦ filled row.written es c | Some x ↦ if_due row.written es term c (formed (form_for row.form term) es c x) ]) is)

-- The row writes the value, where it takes it and its rule lets it pass.
pub takes-and-writes : (row : Row) (es : List Entry) (term : Term) (c : Context) (v : Value) → row.content ≡ contents.Term term → is_in_groups row c ≡ true →
    value_in es term c ≡ Some v → value_for row es term c ≡ Some v
    → is_some (if_due row.written es term c (formed (form_for row.form term) es c v)) ≡ true → is_written_by row term es c ≡ true
takes-and-writes row es term c v content groups is takes due =
    and-true (is_in_groups row c) (is_some (value_in es term c) && writes_entry row es c) groups
    (and-true (is_some (value_in es term c)) (writes_entry row es c) (ap is_some is) (ap is_some (text-as row es term c v content groups takes) ∙ due))

-- It takes each value of a term of the model.
writes-value : (row : Row) (es : List Entry) (term : Term) (c : Context) (v : Value) → is_extension term ≡ false → row.content ≡ contents.Term term →
    is_in_groups row c ≡ true → value_in es term c ≡ Some v
    → is_some (if_due row.written es term c (formed (form_for row.form term) es c v)) ≡ true → is_written_by row term es c ≡ true
writes-value row es term c v own content groups is due =
    takes-and-writes row es term c v content groups is (taken.as-modelled row es term c (modelled-untyped row.form term own) ∙ is) due

-- ---- rules

all-due : (rule : Written) → lets_all rule ≡ true → (es : List Entry) (term : Term) (c : Context) (text : List ℕ) → is_some (if_due rule es term c text) ≡ true
all-due written.Always h es term c text = refl
all-due written.Never h es term c text = absurd (false≢true h)
all-due written.IfIban h es term c text = absurd (false≢true h)
all-due written.IfNotIban h es term c text = absurd (false≢true h)
all-due written.IfScheme h es term c text = absurd (false≢true h)
all-due written.IfNoScheme h es term c text = absurd (false≢true h)
all-due (written.OrPlaceholder placeholder) h es term c text = refl
all-due written.VatTotal h es term c text = refl
all-due written.AccountingVatTotal h es term c text = refl

if-so-some : (b : Bool) (text : List ℕ) → b ≡ true → is_some (if_so b text) ≡ true
if-so-some b text h = ap (λ x. is_some (if_so x text)) h

iban-rule : (rule : Written) → is_if_iban rule ≡ true → rule ≡ written.IfIban
iban-rule written.IfIban h = refl
iban-rule written.Always h = absurd (false≢true h)
iban-rule written.Never h = absurd (false≢true h)
iban-rule written.IfNotIban h = absurd (false≢true h)
iban-rule written.IfScheme h = absurd (false≢true h)
iban-rule written.IfNoScheme h = absurd (false≢true h)
iban-rule (written.OrPlaceholder placeholder) h = absurd (false≢true h)
iban-rule written.VatTotal h = absurd (false≢true h)
iban-rule written.AccountingVatTotal h = absurd (false≢true h)

not-iban-rule : (rule : Written) → is_if_not_iban rule ≡ true → rule ≡ written.IfNotIban
not-iban-rule written.IfNotIban h = refl
not-iban-rule written.Always h = absurd (false≢true h)
not-iban-rule written.Never h = absurd (false≢true h)
not-iban-rule written.IfIban h = absurd (false≢true h)
not-iban-rule written.IfScheme h = absurd (false≢true h)
not-iban-rule written.IfNoScheme h = absurd (false≢true h)
not-iban-rule (written.OrPlaceholder placeholder) h = absurd (false≢true h)
not-iban-rule written.VatTotal h = absurd (false≢true h)
not-iban-rule written.AccountingVatTotal h = absurd (false≢true h)

scheme-rule : (rule : Written) → is_if_scheme rule ≡ true → rule ≡ written.IfScheme
scheme-rule written.IfScheme h = refl
scheme-rule written.Always h = absurd (false≢true h)
scheme-rule written.Never h = absurd (false≢true h)
scheme-rule written.IfIban h = absurd (false≢true h)
scheme-rule written.IfNotIban h = absurd (false≢true h)
scheme-rule written.IfNoScheme h = absurd (false≢true h)
scheme-rule (written.OrPlaceholder placeholder) h = absurd (false≢true h)
scheme-rule written.VatTotal h = absurd (false≢true h)
scheme-rule written.AccountingVatTotal h = absurd (false≢true h)

no-scheme-rule : (rule : Written) → is_if_no_scheme rule ≡ true → rule ≡ written.IfNoScheme
no-scheme-rule written.IfNoScheme h = refl
no-scheme-rule written.Always h = absurd (false≢true h)
no-scheme-rule written.Never h = absurd (false≢true h)
no-scheme-rule written.IfIban h = absurd (false≢true h)
no-scheme-rule written.IfNotIban h = absurd (false≢true h)
no-scheme-rule written.IfScheme h = absurd (false≢true h)
no-scheme-rule (written.OrPlaceholder placeholder) h = absurd (false≢true h)
no-scheme-rule written.VatTotal h = absurd (false≢true h)
no-scheme-rule written.AccountingVatTotal h = absurd (false≢true h)

as-modelled : (form : Form) → is_model form ≡ true → form ≡ forms.Model
as-modelled forms.Model h = refl
as-modelled forms.PlainDate h = absurd (false≢true h)
as-modelled forms.DueDateTypeCode h = absurd (false≢true h)
as-modelled forms.CodedNote h = absurd (false≢true h)
as-modelled (forms.Typed data_type) h = absurd (false≢true h)
as-modelled forms.TypedPlainDate h = absurd (false≢true h)

term-content : (content : Content) (term : Term) → has_content term content ≡ true → content ≡ contents.Term term
term-content (contents.Term other) term h = ap contents.Term (same_term_is other term h)
term-content (contents.Constant text) term h = absurd (false≢true h)

not-some : {X : Type 0} (o : Option X) → is_some o ≡ false → is_none o ≡ true
not-some None h = refl
not-some (Some x) h = absurd (false≢true (sym h))

-- ---- main terms are those of the model

small : (n k : ℕ) → (n == k) ≡ true → nat_le 1001 k ≡ false → nat_le 1001 n ≡ false
small n k h s = subst (λ m. nat_le 1001 m ≡ false) (sym (eqb-true n k h)) s

or-small : (n k : ℕ) (rest : Bool) → nat_le 1001 k ≡ false → (rest ≡ true → nat_le 1001 n ≡ false) → ((n == k) || rest) ≡ true → nat_le 1001 n ≡ false
or-small n k rest s later h = go (n == k) refl h
  where
    go : (b : Bool) → (n == k) ≡ b → (b || rest) ≡ true → nat_le 1001 n ≡ false
    go true e l = small n k e s
    go false e l = later l

small-first : (n : ℕ) → is_first_part n ≡ true → nat_le 1001 n ≡ false
small-first n =
    or-small n 30 _ refl (or-small n 34 _ refl (or-small n 46 _ refl (or-small n 47 _ refl (or-small n 49 _ refl (or-small n 60 _ refl
    (or-small n 61 _ refl (or-small n 71 _ refl (or-small n 125 _ refl (λ h. small n 157 h refl)))))))))

small-part : (ubl : Bool) (term : Term) → is_part ubl term ≡ true → nat_le 1001 term.number ≡ false
small-part ubl term h = elim (or-either (term.part == 1 && (is_first_part term.number || (ubl && (term.number == 18 || term.number == 128))))
    (is_bt 125 2 term) h) [
      | inl a ↦ elim (or-either (is_first_part term.number) (ubl && (term.number == 18 || term.number == 128)) (both-true (term.part == 1) _ a).1) [
        | inl b ↦ small-first term.number b
        | inr b ↦ or-small term.number 18 (term.number == 128) refl (λ k. small term.number 128 k refl)
            (both-true ubl (term.number == 18 || term.number == 128) b).1
      ]
      | inr a ↦ small term.number 125 (both-true (term.number == 125) (term.part == 2) a).0 refl
    ]

main-small : (ubl : Bool) (term main : Term) → main_term ubl term ≡ Some main → is_extension main ≡ false
main-small ubl term main h = go (is_part ubl term) refl (is_bt 150 0 term) (ubl && is_bt 82 0 term) h
  where
    go : (a : Bool) → is_part ubl term ≡ a → (b c : Bool) →
        (if a then Some (bt term.number) else (if b then Some (bt 149) else (if c then Some (bt 81) else None))) ≡ Some main → is_extension main ≡ false
    go true e b c k = ap is_extension (sym (same_Some _ _ k)) ∙ ap (λ x. x && nat_le term.number 1099) (small-part ubl term e)
    go false e true c k = ap is_extension (sym (same_Some _ _ k))
    go false e false true k = ap is_extension (sym (same_Some _ _ k))
    go false e false false k = absurd (false≢true (ap is_some k))

model-terms : list_all (λ (r : TermRow). not (is_extension r.term)) terms ≡ true
unfolding terms
model-terms = refl

-- a term that stands wherever another does, is one of the model
main-modelled : (ubl : Bool) (term : Term) (outer inner : Option Group) (main : Term) → stands_with ubl term outer inner main ≡ true → is_extension main ≡ false
main-modelled ubl term outer inner main h = go (either-or (is_own_main ubl term main) (λ _. is_mandatory main outer inner) h)
  where
    own-main : (o : Option Term) → main_term ubl term ≡ o → (elim o [ None ↦ false | Some t ↦ same_term t main ]) ≡ true → is_extension main ≡ false
    own-main None is k = absurd (false≢true k)
    own-main (Some t) is k = ap is_extension (sym (same_term_is t main k)) ∙ main-small ubl term t is

    go : (is_own_main ubl term main ≡ true) ⊎ (is_mandatory main outer inner ≡ true) → is_extension main ≡ false
    go (inl a) = own-main (main_term ubl term) refl a
    go (inr b) =
        let found = any-found (is_mandatory_at main outer inner) terms b in
        let w = also-both (same_term found.0.term main) (λ _. is_mandatory_mark found.0.mark &&
        (is_repeated found.0.group && stands_in found.0.group outer inner)) found.1.1 in
        ap is_extension (sym (same_term_is found.0.term main w.0)) ∙
        not-true (is_extension found.0.term) (all-each (λ (r : TermRow). not (is_extension r.term)) terms model-terms found.0 found.1.0)

-- ---- an entry of the model by the rows of a table

module _ (plan : Plan) (rows : List Row) (es : List Entry) (e : Entry) (known : Among e es) (modelled : is_extension e.term ≡ false) where
  abbrev outer : Option Group
  outer = slot_group e.context.outer

  abbrev inner : Option Group
  inner = slot_group e.context.inner

  stands-here : is_some (value_in es e.term e.context) ≡ true
  stands-here = value-stands es e e.term e.context known refl refl

  -- a row that has_writer finds
  record Writer (lets : Row → Bool) : Type 0 where
    pub row : Row
    pub among : Among row rows
    pub content : row.content ≡ contents.Term e.term
    pub passes : lets row ≡ true
    pub groups : is_in_groups row e.context ≡ true
    pub covered : is_covered_for plan (known_of rows) rows e.term row ≡ true

  writer : (lets : Row → Bool) → has_writer plan (known_of rows) rows e.term outer inner lets (rows_with e.term rows) ≡ true → Writer lets
  writer lets h =
      let found = any-found (is_writer plan (known_of rows) rows e.term outer inner lets) (rows_with e.term rows) h in
      let row : Row = found.0 in
      let at = of-filter (λ (r : Row). has_content e.term r.content) row rows found.1.0 in
      let w = also-both (lets row && is_of outer inner row) (λ _. is_covered_for plan (known_of rows) rows e.term row) found.1.1 in
      let v = both-true (lets row) (is_of outer inner row) w.0 in
      record {
        row = row;
        among = at.0;
        content = term-content row.content e.term at.1;
        passes = v.0;
        groups = v.1;
        covered = w.1;
      }

  by-writer : (lets : Row → Bool) (w : Writer lets) (v : Value) → value_in es e.term e.context ≡ Some v
      → is_some (if_due w.row.written es e.term e.context (formed (form_for w.row.form e.term) es e.context v)) ≡ true →
      is_written_plainly_in plan rows es e ≡ true
  by-writer lets w v is due =
      written-by-row plan rows es e w.row w.among
      (element-writes plan rows es e w.row w.covered (writes-value w.row es e.term e.context v modelled w.content w.groups is due))

  pub by-one : has_writer plan (known_of rows) rows e.term outer inner (λ row. lets_all row.written) (rows_with e.term rows) ≡ true →
      is_written_plainly_in plan rows es e ≡ true
  by-one h =
      let w = writer (λ row. lets_all row.written) h in
      let v = some-value (value_in es e.term e.context) stands-here in
      by-writer (λ row. lets_all row.written) w v.0 v.1
      (all-due w.row.written w.passes es e.term e.context (formed (form_for w.row.form e.term) es e.context v.0))

  pub by-iban : has_writer plan (known_of rows) rows e.term outer inner (λ row. is_if_iban row.written && is_as_modelled e.term row)
      (rows_with e.term rows) ≡ true
      → has_writer plan (known_of rows) rows e.term outer inner (λ row. is_if_not_iban row.written && is_as_modelled e.term row) (rows_with e.term rows) ≡ true
      → is_written_plainly_in plan rows es e ≡ true
  by-iban h k =
      let v = some-value (value_in es e.term e.context) stands-here in
      go v.0 v.1 (is_iban (spelled v.0)) refl
    where
      go : (v : Value) → value_in es e.term e.context ≡ Some v → (b : Bool) → is_iban (spelled v) ≡ b → is_written_plainly_in plan rows es e ≡ true
      go v is true iban =
          let lets : Row → Bool = λ row. is_if_iban row.written && is_as_modelled e.term row in
          let w = writer lets h in
          let p = both-true (is_if_iban w.row.written) (is_as_modelled e.term w.row) w.passes in
          by-writer lets w v is
          (ap (λ rule. is_some (if_due rule es e.term e.context (formed (form_for w.row.form e.term) es e.context v))) (iban-rule w.row.written p.0)
          ∙ (ap (λ form. is_some (if_due written.IfIban es e.term e.context (formed form es e.context v))) (as-modelled (form_for w.row.form e.term) p.1)
          ∙ if-so-some (is_iban (spelled v)) (spelled v) iban))
      go v is false iban =
          let lets : Row → Bool = λ row. is_if_not_iban row.written && is_as_modelled e.term row in
          let w = writer lets k in
          let p = both-true (is_if_not_iban w.row.written) (is_as_modelled e.term w.row) w.passes in
          by-writer lets w v is
          (ap (λ rule. is_some (if_due rule es e.term e.context (formed (form_for w.row.form e.term) es e.context v))) (not-iban-rule w.row.written p.0)
          ∙ (ap (λ form. is_some (if_due written.IfNotIban es e.term e.context (formed form es e.context v))) (as-modelled (form_for w.row.form e.term) p.1)
          ∙ if-so-some (not (is_iban (spelled v))) (spelled v) (ap not iban)))

  pub by-scheme : has_writer plan (known_of rows) rows e.term outer inner (λ row. is_if_scheme row.written) (rows_with e.term rows) ≡ true
      → has_writer plan (known_of rows) rows e.term outer inner (λ row. is_if_no_scheme row.written) (rows_with e.term rows) ≡ true →
      is_written_plainly_in plan rows es e ≡ true
  by-scheme h k =
      let v = some-value (value_in es e.term e.context) stands-here in
      go v.0 v.1 (is_some (value_in es (scheme_of e.term) e.context)) refl
    where
      go : (v : Value) → value_in es e.term e.context ≡ Some v → (b : Bool) → is_some (value_in es (scheme_of e.term) e.context) ≡ b →
          is_written_plainly_in plan rows es e ≡ true
      go v is true scheme =
          let lets : Row → Bool = λ row. is_if_scheme row.written in
          let w = writer lets h in
          by-writer lets w v is
          (ap (λ rule. is_some (if_due rule es e.term e.context (formed (form_for w.row.form e.term) es e.context v))) (scheme-rule w.row.written w.passes)
          ∙ if-so-some (is_some (value_in es (scheme_of e.term) e.context)) (formed (form_for w.row.form e.term) es e.context v) scheme)
      go v is false scheme =
          let lets : Row → Bool = λ row. is_if_no_scheme row.written in
          let w = writer lets k in
          by-writer lets w v is
          (ap (λ rule. is_some (if_due rule es e.term e.context (formed (form_for w.row.form e.term) es e.context v))) (no-scheme-rule w.row.written w.passes)
          ∙ if-so-some (is_none (value_in es (scheme_of e.term) e.context)) (formed (form_for w.row.form e.term) es e.context v)
          (not-some (value_in es (scheme_of e.term) e.context) scheme))

  -- ---- at an attribute

  -- the main term's value passes, where the entry stands
  main-due : (main : Term) (rule : Written) → lets_beside e.term main rule ≡ true → (text : List ℕ) → is_some (if_due rule es main e.context text) ≡ true
  main-due main rule h text = go (either-or (lets_all rule) (λ _. is_if_scheme rule && same_term (scheme_of main) e.term) h)
    where
      go : (lets_all rule ≡ true) ⊎ ((is_if_scheme rule && same_term (scheme_of main) e.term) ≡ true) → is_some (if_due rule es main e.context text) ≡ true
      go (inl a) = all-due rule a es main e.context text
      go (inr b) =
          let w = both-true (is_if_scheme rule) (same_term (scheme_of main) e.term) b in
          ap (λ r. is_some (if_due r es main e.context text)) (scheme-rule rule w.0)
          ∙ if-so-some (is_some (value_in es (scheme_of main) e.context)) text
          (ap (λ t. is_some (value_in es t e.context)) (same_term_is (scheme_of main) e.term w.1) ∙ stands-here)

  own-main : (ubl : Bool) (main : Term) → is_own_main ubl e.term main ≡ true → main_term ubl e.term ≡ Some main
  own-main ubl main h = go (main_term ubl e.term) refl h
    where
      go : (o : Option Term) → main_term ubl e.term ≡ o → (elim o [ None ↦ false | Some t ↦ same_term t main ]) ≡ true → main_term ubl e.term ≡ Some main
      go None is k = absurd (false≢true k)
      go (Some t) is k = is ∙ ap Some (same_term_is t main k)

  module _ (keeps : entries_fail rows es ≡ None) (lists : Lists) (valid : IsValid es lists) where
    pub main-here : (main : Term) → stands_with (is_ubl (document_type_of rows)) e.term outer inner main ≡ true → is_some (value_in es main e.context) ≡ true
    main-here main h = go (either-or (is_own_main (is_ubl (document_type_of rows)) e.term main) (λ _. is_mandatory main outer inner) h)
      where
        go : (is_own_main (is_ubl (document_type_of rows)) e.term main ≡ true) ⊎ (is_mandatory main outer inner ≡ true) → is_some (value_in es main e.context)
            ≡ true
        go (inl a) = main-stands rows es keeps e known main (own-main (is_ubl (document_type_of rows)) main a)
        go (inr b) = mandatory-stands es lists valid e known main b

    by-main : (row main : Row) (term : Term) → Among row rows → Among main rows → main.content ≡ contents.Term term →
        is_main plan (known_of rows) (is_ubl (document_type_of rows)) e.term outer inner row main term ≡ true → is_written_plainly_in plan rows es e ≡ true
    by-main row main term a b content h =
        let ubl : Bool = is_ubl (document_type_of rows) in
        let w = also-both (pointwise same_step row.path main.path)
        (λ _. also (is_of outer inner main && lets_beside e.term term main.written)
        (λ _. also (stands_with ubl e.term outer inner term) (λ _. is_covered_beside plan (known_of rows) e.term row main term))) h in
        let v = also-both (is_of outer inner main && lets_beside e.term term main.written)
        (λ _. also (stands_with ubl e.term outer inner term) (λ _. is_covered_beside plan (known_of rows) e.term row main term)) w.1 in
        let u = both-true (is_of outer inner main) (lets_beside e.term term main.written) v.0 in
        let t = also-both (stands_with ubl e.term outer inner term) (λ _. is_covered_beside plan (known_of rows) e.term row main term) v.1 in
        let x = some-value (value_in es term e.context) (main-here term t.0) in
        written-by-row plan rows es e row a
        (attribute-writes plan rows es e row main term b content t.1
        (writes-value main es term e.context x.0 (main-modelled ubl e.term outer inner term t.0) content u.0 x.1
        (main-due term main.written u.1 (formed (form_for main.form term) es e.context x.0))))

    by-beside : (row main : Row) → Among row rows → Among main rows → is_beside plan (known_of rows) (is_ubl (document_type_of rows)) e.term outer inner row
        main ≡ true
        → is_written_plainly_in plan rows es e ≡ true
    by-beside row main a b h = go main.content refl h
      where
        go : (content : Content) → main.content ≡ content
            → (elim content [
              | (contents.Term main_t) ↦ is_main plan (known_of rows) (is_ubl (document_type_of rows)) e.term outer inner row main main_t
              | (contents.Constant text) ↦ false
            ]) ≡ true → is_written_plainly_in plan rows es e ≡ true
        go (contents.Term term) content k = by-main row main term a b content k
        go (contents.Constant text) content k = absurd (false≢true k)

    pub by-attribute : has_attribute plan (known_of rows) rows (is_ubl (document_type_of rows)) e.term outer inner (rows_with e.term rows) ≡ true →
        is_written_plainly_in plan rows es e ≡ true
    by-attribute h =
        let found = any-found (λ (row : Row). list_any (is_beside plan (known_of rows) (is_ubl (document_type_of rows)) e.term outer inner row) rows)
        (rows_with e.term rows) h in
        let row : Row = found.0 in
        let main = any-found (is_beside plan (known_of rows) (is_ubl (document_type_of rows)) e.term outer inner row) rows found.1.1 in
        by-beside row main.0 (of-filter (λ (r : Row). has_content e.term r.content) row rows found.1.0).0 main.1.0 main.1.1

    -- ---- a subject code

    by-note : (row : Row) (term : Term) → Among row rows → row.content ≡ contents.Term term → same_term e.term subject_code ≡ true →
        is_note_of plan rows (is_ubl (document_type_of rows)) e.term outer inner row term ≡ true → is_written_plainly_in plan rows es e ≡ true
    by-note row term a content code h =
        let ubl : Bool = is_ubl (document_type_of rows) in
        let w = also-both (lets_all row.written && is_of outer inner row)
        (λ _. also (stands_with ubl e.term outer inner term) (λ _. is_noted_in plan rows row term)) h in
        let v = both-true (lets_all row.written) (is_of outer inner row) w.0 in
        let u = also-both (stands_with ubl e.term outer inner term) (λ _. is_noted_in plan rows row term) w.1 in
        let x = some-value (value_in es term e.context) (main-here term u.0) in
        written-by-row plan rows es e row a
        (code-writes plan rows es e row term content code u.1
        (writes-value row es term e.context x.0 (main-modelled ubl e.term outer inner term u.0) content v.1 x.1
        (all-due row.written v.0 es term e.context (formed (form_for row.form term) es e.context x.0))))

    by-coder : (row : Row) → Among row rows → same_term e.term subject_code ≡ true → is_coder plan rows (is_ubl (document_type_of rows)) e.term outer inner
        row ≡ true →
        is_written_plainly_in plan rows es e ≡ true
    by-coder row a code h = go row.content refl h
      where
        go : (content : Content) → row.content ≡ content
            → (elim content [
              | (contents.Term term) ↦ is_note_of plan rows (is_ubl (document_type_of rows)) e.term outer inner row term
              | (contents.Constant text) ↦ false
            ]) ≡ true → is_written_plainly_in plan rows es e ≡ true
        go (contents.Term term) content k = by-note row term a content code k
        go (contents.Constant text) content k = absurd (false≢true k)

    pub by-code : has_coder plan rows (is_ubl (document_type_of rows)) e.term outer inner ≡ true → is_written_plainly_in plan rows es e ≡ true
    by-code h =
        let w = also-both (same_term e.term subject_code) (λ _. list_any (is_coder plan rows (is_ubl (document_type_of rows)) e.term outer inner) rows) h in
        let found = any-found (is_coder plan rows (is_ubl (document_type_of rows)) e.term outer inner) rows w.1 in
        by-coder found.0 found.1.0 w.0 found.1.1
