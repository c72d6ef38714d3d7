-- An entry of a term that a user added is written by the table's row of it, and read back by the row's type.
use Rattle.std.proofs.Common.{◌≡◌, Bool, true, false, not, ◌&&◌, ◌||◌, List, [], ◌∷◌, Option, Some, None, inl, inr, refl, sym, ap, ◌∙◌}
use Rattle.std.specs.Prelude.{is_some, is_none}
use Rattle.std.specs.List.{list_any}
use Rattle.std.proofs.lemmas.Bool.{false≢true}
use Rattle.term_table.specs.declared.groups.Group.{Group}
use Rattle.term_table.specs.declared.terms.DataType.{DataType}
use Rattle.term_table.specs.declared.terms.Term.{Term}
use Rattle.term_table.specs.declared.contexts.Slot.{Slot}
use Rattle.term_table.specs.SemanticModel.{same_term, is_extension}
use Rattle.term_table.specs.Contexts.{slot_group, same_groups}
use Rattle.term_table.proofs.GroupLemmas.{same_group_itself}
use Rattle.term_table.proofs.SeatLemmas.{same_term_is}
use Rattle.inv_terms.specs.declared.values.Value.{Value}
use Rattle.inv_terms.specs.declared.entries.Entry.{Entry}
use Rattle.inv_terms.specs.Listing.{IsInvoice}
use Rattle.bind_rows.specs.declared.rows.Content.{Content}
use Rattle.bind_rows.specs.declared.rows.Content.TheVariants as contents
use Rattle.bind_rows.specs.declared.rows.Form.{Form}
use Rattle.bind_rows.specs.declared.rows.Form.TheVariants as forms
use Rattle.bind_rows.specs.declared.rows.Row.{Row}
use Rattle.bind_rows.specs.Same.{same_or_none}
use Rattle.bind_rows.specs.Added.{data_type_of_form, is_added}
use Rattle.bind_table.specs.Lines.{plan_of}
use Rattle.bind_table.proofs.SameLemmas.{group-sound}
use Rattle.bind_meaning.specs.Values.{form_for}
use Rattle.bind_meaning.specs.Picks.{term_in, has_term}
use Rattle.bind_meaning.specs.Trees.{either}
use Rattle.bind_meaning.specs.Writing.{has_slots, is_of_type, of_form, formed, if_due}
use Rattle.bind_carrying.specs.Carrying.{has_groups, says_type, is_row_of}
use Rattle.binding_laws.specs.Plain.{is_one, has_content, is_in_groups, is_plain_in, is_written_by}
use Rattle.binding_laws.specs.Covered.{is_read_back, reads_back, is_written_plainly_in}
use Rattle.binding_laws.proofs.ListLemmas.{both-true}
use Rattle.binding_laws.proofs.PlainLemmas.{own-value}
use Rattle.binding_laws.proofs.ReachLemmas.{Among, among-filter}
use Rattle.binding_laws.proofs.TakenLemmas.{added-says, typed-form, added-typed, takes-value}
use Rattle.carrying_laws.specs.Complete.{also, is_plain_alone, adds_plainly, rows_with}
use Rattle.carrying_laws.proofs.Disjuncts.{also-both, or-first, and-true, written-by-row}
use Rattle.carrying_laws.proofs.ModelLemmas.{all-each, each-all, any-found}
use Rattle.carrying_laws.proofs.WrittenLemmas.{takes-and-writes}

-- ---- parts of the tests

same-or-none-is : (a b : Option Group) → same_or_none a b ≡ true → a ≡ b
same-or-none-is None None h = refl
same-or-none-is None (Some b) h = absurd (false≢true h)
same-or-none-is (Some a) None h = absurd (false≢true h)
same-or-none-is (Some a) (Some b) h = ap Some (group-sound a b h)

same-groups-itself : (o : Option Group) → same_groups o o ≡ true
same-groups-itself None = refl
same-groups-itself (Some g) = same_group_itself g

slot-there : (s : Option Slot) → (is_none (slot_group s) || is_some s) ≡ true
slot-there None = refl
slot-there (Some s) = refl

content-of : (term : Term) (content : Content) → (elim (term_in content) [ None ↦ false | Some t ↦ same_term t term ]) ≡ true → content ≡ contents.Term term
content-of term (contents.Term other) h = ap contents.Term (same_term_is other term h)
content-of term (contents.Constant text) h = absurd (false≢true h)

content-has : (term : Term) (content : Content) → (elim (term_in content) [ None ↦ false | Some t ↦ same_term t term ]) ≡ true → has_content term content ≡ true
content-has term (contents.Term other) h = h
content-has term (contents.Constant text) h = absurd (false≢true h)

-- a value of the type that the form says is written and read back
says-own : (form : Form) (v : Value) → says_type form v ≡ true → of_form form v ≡ Some v
says-own form v h = go (data_type_of_form form) h
  where
    go : (o : Option DataType) → (elim o [ None ↦ false | Some data_type ↦ is_of_type data_type v ]) ≡ true
        → ◌≡◌ {A = Option Value} (elim o [ None ↦ Some v | Some data_type ↦ elim (is_of_type data_type v) [ true ↦ Some v | false ↦ None ] ]) (Some v)
    go None k = absurd (false≢true k)
    go (Some data_type) k = ap (λ b. elim b [ true ↦ Some v | false ↦ None ]) k

says-back : (form : Form) (v : Value) → says_type form v ≡ true → is_read_back form v ≡ true
says-back forms.Model v h = absurd (false≢true h)
says-back forms.PlainDate v h = absurd (false≢true h)
says-back forms.DueDateTypeCode v h = absurd (false≢true h)
says-back forms.CodedNote v h = absurd (false≢true h)
says-back (forms.Typed data_type) v h = h
says-back forms.TypedPlainDate v h = h

only-one : {X : Type 0} (one : List X → Bool) → one [] ≡ false → ((x y : X) (xs : List X) → one (x ∷ (y ∷ xs)) ≡ false) → (xs : List X) → one xs ≡ true →
    (a b : X) → Among a xs → Among b xs → a ≡ b
only-one one none more [] h a b m n = absurd m
only-one one none more (x ∷ (y ∷ xs)) h a b m n = absurd (false≢true (sym (more x y xs) ∙ h))
only-one {X = X} one none more (x ∷ []) h a b m n = sym (at a m) ∙ at b n
  where
    at : (c : X) → Among c (x ∷ []) → x ≡ c
    at c (inl s) = s
    at c (inr z) = absurd z

-- ---- the row

module _ (rows : List Row) (es : List Entry) (e : Entry) (own : is_extension e.term ≡ true) where
  pub record IsAddedRow : Type 0 where
    pub row : Row
    pub among : Among row rows
    pub added : is_added row ≡ true
    pub has : has_term e.term row ≡ true
    pub content : row.content ≡ contents.Term e.term
    pub outer : row.outer ≡ slot_group e.context.outer
    pub inner : row.inner ≡ slot_group e.context.inner
    pub type : says_type row.form e.value ≡ true
    pub plain : is_plain_in (plan_of rows) row e.term ≡ true
    pub alone : is_one (rows_with e.term rows) ≡ true

  pub added-row : list_any (is_row_of e) rows ≡ true → adds_plainly (plan_of rows) rows ≡ true → IsAddedRow
  added-row h adds =
      let found = any-found (is_row_of e) rows h in
      let row : Row = found.0 in
      let a = both-true (is_added row) _ found.1.1 in
      let b = both-true (has_term e.term row) _ a.1 in
      let c = both-true (has_groups row e.context) (says_type row.form e.value) b.1 in
      let d = both-true (same_or_none row.outer (slot_group e.context.outer)) (same_or_none row.inner (slot_group e.context.inner)) c.0 in
      let content = content-of e.term row.content b.0 in
      let plain = also-both (is_plain_in (plan_of rows) row e.term) (λ _. is_one (rows_with e.term rows))
      (by-content row content
      (by-test row a.0 (all-each (λ (r : Row). either (not (is_added r)) (λ _. is_plain_alone (plan_of rows) rows r)) rows adds row found.1.0))) in
      record {
        row = row;
        among = found.1.0;
        added = a.0;
        has = b.0;
        content = content;
        outer = same-or-none-is row.outer (slot_group e.context.outer) d.0;
        inner = same-or-none-is row.inner (slot_group e.context.inner) d.1;
        type = c.1;
        plain = plain.0;
        alone = plain.1;
      }
    where
      by-test : (row : Row) → is_added row ≡ true → either (not (is_added row)) (λ _. is_plain_alone (plan_of rows) rows row) ≡ true →
          is_plain_alone (plan_of rows) rows row ≡ true
      by-test row added k = sym (ap (λ b. either (not b) (λ _. is_plain_alone (plan_of rows) rows row)) added) ∙ k

      by-content : (row : Row) → row.content ≡ contents.Term e.term → is_plain_alone (plan_of rows) rows row ≡ true →
          also (is_plain_in (plan_of rows) row e.term) (λ _. is_one (rows_with e.term rows)) ≡ true
      by-content row content k =
          sym (ap (λ (x : Content). elim x [
            | (contents.Term t) ↦ also (is_plain_in (plan_of rows) row t) (λ _. is_one (rows_with t rows))
            | (contents.Constant text) ↦ false
          ]) content) ∙ k

  module _ (r : IsAddedRow) where
    typed : form_for r.row.form e.term ≡ r.row.form
    typed = typed-form r.row.form e.term (added-says r.row r.added).type own

    groups : is_in_groups r.row e.context ≡ true
    groups =
        and-true (same_groups (slot_group e.context.outer) r.row.outer) (same_groups (slot_group e.context.inner) r.row.inner)
        (ap (same_groups (slot_group e.context.outer)) r.outer ∙ same-groups-itself (slot_group e.context.outer))
        (ap (same_groups (slot_group e.context.inner)) r.inner ∙ same-groups-itself (slot_group e.context.inner))

    slots : has_slots r.row e.context ≡ true
    slots =
        and-true (is_none r.row.outer || is_some e.context.outer) (is_none r.row.inner || is_some e.context.inner)
        (ap (λ g. is_none g || is_some e.context.outer) r.outer ∙ slot-there e.context.outer)
        (ap (λ g. is_none g || is_some e.context.inner) r.inner ∙ slot-there e.context.inner)

    -- ---- it writes the entry

    pub added-writes : IsInvoice es → Among e es → is_written_plainly_in (plan_of rows) rows es e ≡ true
    added-writes invoice known =
        let value = own-value es e invoice.listed known in
        let takes = takes-value r.row es e.term e.context e.value (added-typed r.row e.term r.content r.added) slots value
        (ap (λ f. of_form f e.value) typed ∙ says-own r.row.form e.value r.type) in
        let due = ap (λ rule. is_some (if_due rule es e.term e.context (formed (form_for r.row.form e.term) es e.context e.value)))
        (added-says r.row r.added).always in
        written-by-row (plan_of rows) rows es e r.row r.among
        (or-first (is_plain_in (plan_of rows) r.row e.term && is_written_by r.row e.term es e.context) _
        (and-true (is_plain_in (plan_of rows) r.row e.term) (is_written_by r.row e.term es e.context) r.plain
        (takes-and-writes r.row es e.term e.context e.value r.content groups value takes due)))

    -- ---- and each row of the term reads it back, since there is no other

    pub added-reads : reads_back rows e ≡ true
    added-reads = each-all (λ (other : Row). not (has_term e.term other) || is_read_back (form_for other.form e.term) e.value) rows
        (λ other a. by other a (has_term e.term other) refl)
      where
        in-rows : (other : Row) → Among other rows → has_term e.term other ≡ true → Among other (rows_with e.term rows)
        in-rows other a has = among-filter (λ (x : Row). has_content e.term x.content) other rows (content-has e.term other.content has) a

        by : (other : Row) → Among other rows → (b : Bool) → has_term e.term other ≡ b →
            (not (has_term e.term other) || is_read_back (form_for other.form e.term) e.value) ≡ true
        by other a false none = ap (λ b. not b || is_read_back (form_for other.form e.term) e.value) none
        by other a true has =
            let same : r.row ≡ other = only-one is_one refl (λ x y xs. refl) (rows_with e.term rows) r.alone r.row other (in-rows r.row r.among r.has)
            (in-rows other a has) in
            ap (λ b. not b || is_read_back (form_for other.form e.term) e.value) has
            ∙ (ap (λ (x : Row). is_read_back (form_for x.form e.term) e.value) (sym same) ∙
            (ap (λ f. is_read_back f e.value) typed ∙ says-back r.row.form e.value r.type))
