-- The rows of the two VAT totals cover their terms: the currency beside an amount says whose it is.
use Rattle.std.proofs.Common.{◌≡◌, ℕ, ◌<◌, Bool, true, false, not, ◌&&◌, ◌||◌, List, [], ◌∷◌, ◌++◌, length, flat_map, Option, Some, None, ◌⊎◌, inl, inr, All}
use Rattle.std.proofs.Common.{refl, sym, ap, ◌∙◌, subst, arith}
use Rattle.std.specs.Prelude.{is_some, option_map}
use Rattle.std.specs.List.{list_all, list_any}
use Rattle.std.proofs.lemmas.Bool.{false≢true}
use Rattle.std.proofs.lemmas.Bool.Decides.{nat_tests}
use Rattle.inv_base.specs.Tree.{document_nodes}
use Rattle.term_table.specs.declared.terms.Term.{Term}
use Rattle.term_table.specs.declared.terms.DataType.TheVariants as data_types
use Rattle.term_table.specs.declared.contexts.Context.{Context}
use Rattle.term_table.specs.Contexts.{root_context}
use Rattle.term_table.specs.SemanticModel.{same_term, terms}
use Rattle.term_table.proofs.SeatLemmas.{same_term_is}
use Rattle.term_table.specs.Rows.{data_type_of}
use Rattle.inv_terms.specs.declared.values.Value.{Value}
use Rattle.inv_terms.specs.declared.entries.Entry.{Entry}
use Rattle.inv_terms.specs.Values.{is_blank, trimmed, spelled}
use Rattle.inv_terms.specs.Listing.{IsInvoice, value_in}
use Rattle.bind_rows.specs.declared.rows.Content.TheVariants as contents
use Rattle.bind_rows.specs.declared.rows.Row.{Row}
use Rattle.bind_rows.specs.declared.rows.Placeholder.{Placeholder}
use Rattle.bind_rows.specs.declared.rows.Form.{Form}
use Rattle.bind_rows.specs.declared.rows.Form.TheVariants as forms
use Rattle.bind_rows.specs.declared.rows.Written.TheVariants as written
use Rattle.bind_table.specs.Lines.{plan_of}
use Rattle.bind_meaning.specs.Values.{form_for, type_of}
use Rattle.bind_meaning.specs.Elements.{is_full}
use Rattle.bind_meaning.specs.Picks.{has_term, term_in}
use Rattle.bind_meaning.specs.Currencies.{Currencies, invoice_currency, accounting_currency, currency_id, is_accounting}
use Rattle.bind_meaning.specs.Writing.{context_for, formed, if_due, row_text, term_text, filled as filled_text}
use Rattle.bind_meaning.specs.Trees.{is_amount, attribute, document_of, constant_or_text, is_at_element, is_vat_total}
use Rattle.binding_laws.specs.Apart.{is_at_attribute, holds_none}
use Rattle.binding_laws.specs.Plain.{is_whole, is_of_one_term, has_content, rows_at}
use Rattle.binding_laws.specs.Covered.{is_or_placeholder, beside_placeholder, is_accounting_rule, accounting_terms_of, accounting_terms, are_pair}
use Rattle.binding_laws.specs.Covered.{is_of_pair, is_pair_in}
use Rattle.binding_laws.specs.Covered.{currency_text, is_other_text}
use Rattle.binding_laws.specs.Faultless.{is_in_invoice_currency, is_no_row}
use Rattle.binding_laws.specs.Written.{Spot, values_named}
use Rattle.binding_laws.proofs.TreeLemmas.{Each}
use Rattle.binding_laws.proofs.ListLemmas.{append-nil, not-true, or-either}
use Rattle.binding_laws.proofs.CellLemmas.{own_text}
use Rattle.binding_laws.proofs.ReachLemmas.{Among, among-flat_map, own-texts, any-is, all-is, none-is}
use Rattle.binding_laws.proofs.FormLemmas.{Laws, whole-back}
use Rattle.binding_laws.proofs.TakenLemmas.{one-untyped, as-modelled}
use Rattle.binding_laws.proofs.RowLemmas.{Place, places_at, ArePlaced}
use Rattle.binding_laws.proofs.PlainLemmas.{at-value}
use Rattle.binding_laws.proofs.PlacedLemmas.{IsTotalThere, IsPair, test-behind, pair-by-test}
use Rattle.binding_laws.proofs.CurrencyLemmas.{IsCurrency, IsOwnCurrency, AreNamed, AreOwn, currency_at, is_in, in-accounting, accounting-first}
use Rattle.binding_laws.proofs.CurrencyLemmas.{accounting-shown, first-currency, not-accounting, currencies-shown}
use Rattle.binding_laws.proofs.TwinLemmas.{placed-twins, placed-second}
use Rattle.binding_laws.proofs.CoverLemmas.{Absent, IsTotal, IsSpreadHere, fact-at, full-string, row-at}

-- ---- the currencies

pub money-data_type : data_type_of invoice_currency ≡ Some data_types.C
unfolding terms
money-data_type = refl

pub accounting-data_type : data_type_of accounting_currency ≡ Some data_types.C
unfolding terms
accounting-data_type = refl

pub money-form : (form : Form) → form_for form invoice_currency ≡ forms.Model
unfolding terms
money-form forms.Model = refl
money-form forms.PlainDate = refl
money-form forms.DueDateTypeCode = refl
money-form forms.CodedNote = refl
money-form (forms.Typed data_type) = refl
money-form forms.TypedPlainDate = refl

pub accounting-form : (form : Form) → form_for form accounting_currency ≡ forms.Model
unfolding terms
accounting-form forms.Model = refl
accounting-form forms.PlainDate = refl
accounting-form forms.DueDateTypeCode = refl
accounting-form forms.CodedNote = refl
accounting-form (forms.Typed data_type) = refl
accounting-form forms.TypedPlainDate = refl

-- whether a value of the term is an amount in the form
abbrev pub is_amount_as : Form → Term → Bool
is_amount_as form term = elim (type_of (form_for form term) term) [ Some data_types.A ↦ true | _ ↦ false ]

no-amount : (form : Form) → is_amount_as form invoice_currency ≡ false
unfolding terms
no-amount form = ap (λ f. elim (type_of f invoice_currency) [ Some data_types.A ↦ true | _ ↦ false ]) (money-form form)

no-accounting-amount : (form : Form) → is_amount_as form accounting_currency ≡ false
unfolding terms
no-accounting-amount form = ap (λ f. elim (type_of f accounting_currency) [ Some data_types.A ↦ true | _ ↦ false ]) (accounting-form form)

-- a currency is no amount
no-money : (row : Row) (term : Term) → row.content ≡ contents.Term term → is_amount row ≡ true →
    (has_term invoice_currency row || has_term accounting_currency row) ≡ false
no-money row term content amount =
    (λ i. (elim (term_in (content i)) [ None ↦ false | Some t ↦ same_term t invoice_currency ]) ||
    (elim (term_in (content i)) [ None ↦ false | Some t ↦ same_term t accounting_currency ]))
    ∙ (λ i. not-this invoice_currency (no-amount row.form) (same_term term invoice_currency) refl i ||
    not-this accounting_currency (no-accounting-amount row.form) (same_term term accounting_currency) refl i)
  where
    own : is_amount_as row.form term ≡ true
    own = sym (ap (λ x. elim (term_in x) [ None ↦ false | Some t ↦ is_amount_as row.form t ]) content) ∙ amount

    not-this : (money : Term) → is_amount_as row.form money ≡ false → (b : Bool) → same_term term money ≡ b → b ≡ false
    not-this money none false e = refl
    not-this money none true e = absurd (false≢true (sym none ∙ (ap (is_amount_as row.form) (sym (same_term_is term money e)) ∙ own)))

-- a text is that of a value
mapped-text : (o : Option Value) (text : List ℕ) → option_map (λ (value : Value). trimmed (spelled value)) o ≡ Some text → (v : Value) × (o ≡ Some v)
mapped-text None text h = absurd (let z : ◌≡◌ {A = Option (List ℕ)} None (Some text) = h in cc)
mapped-text (Some v) text h = (v, refl)

-- ---- rows of VAT totals

module _ (law : Laws) (rows : List Row) (es : List Entry) (invoice : IsInvoice es) where
  -- beside the amounts of the VAT total the currency of the invoice stands
  pub total-currencies : (row : Row) → rows_at is_at_element (plan_of rows) row.path ≡ row ∷ [] →
      is_no_row (rows_at (is_at_attribute currency_id) (plan_of rows) row.path) ≡ true → row.written ≡ written.VatTotal → (place : Place)
      → Among place (places_at rows es row.path) → Each (IsCurrency es) (values_named currency_id place.spot.attributes)
  total-currencies row alone free rule place a =
      fact-at law rows es invoice row.path (λ (spot : Spot). Each (IsCurrency es) (values_named currency_id spot.attributes))
      (currencies-shown es (plan_of rows) row.path false root_context (ap (list_all (λ (r : Row). is_in_invoice_currency r.written)) alone ∙
      ap (λ x. is_in_invoice_currency x && true) rule) free) place a

  total-shown : (row : Row) → rows_at is_at_element (plan_of rows) row.path ≡ row ∷ [] →
      is_no_row (rows_at (is_at_attribute currency_id) (plan_of rows) row.path) ≡ true → row.written ≡ written.VatTotal → (place : Place)
      → Among place (places_at rows es row.path) → IsOwnCurrency es (currency_at place.spot)
  total-shown row alone free rule place a = first-currency es (values_named currency_id place.spot.attributes) (total-currencies row alone free rule place a)

  pub own-total : (row : Row) (others : List Term) (term : Term) → row.written ≡ written.VatTotal → IsTotalThere rows others row term →
      IsTotal law rows es invoice row
  own-total row others term rule p = record {
    leaf = p.leaf;
    own = λ c own place a full. ap (λ x. is_in c x (currency_at place.spot)) rule ∙
        ap not (not-accounting es c own.0 (currency_at place.spot) (total-shown row p.own p.free rule place a));
    shown = λ other place a. total-shown row p.own p.free rule place a;
  }

  pub no-filled : (row : Row) → (is_or_placeholder row.written ≡ false) → (placeholder : Placeholder) → row.written ≡ written.OrPlaceholder placeholder
      → Absent es placeholder.beside
  no-filled row none placeholder e = absurd (false≢true (sym none ∙ ap is_or_placeholder e))

  -- what stands at the elements of the VAT total in accounting currency, is in that currency
  module _ (differ : holds_none (accounting_terms rows) es ≡ false →
      is_other_text (currency_text es invoice_currency) (currency_text es accounting_currency) ≡ true) (main twin : Row) (p : IsPair rows main twin)
      (known : Among twin rows) where
    -- its term is that of a VAT total in accounting currency
    an-accounting-term : Among p.second.term (accounting_terms rows)
    an-accounting-term =
        among-flat_map accounting_terms_of twin p.second.term rows known
        (subst (Among p.second.term)
        (sym ((λ i. elim (is_accounting_rule (p.twin_rule i))
        [ true ↦ elim (p.second.there.content i) [ (contents.Term term) ↦ term ∷ [] | (contents.Constant text) ↦ [] ] | false ↦ [] ]))) (inl refl))

    -- where it writes something, its term stands in the invoice
    some-text : (d : Context) → is_full (own_text es d twin) ≡ true → is_some (row_text twin es d) ≡ true
    some-text d full =
        let says : constant_or_text es d twin ≡ row_text twin es d =
        ap (λ content. elim content [ (contents.Constant t) ↦ Some t | (contents.Term term) ↦ row_text twin es d ]) p.second.there.content in
        go (row_text twin es d) (sym (ap (λ o. is_full (elim o [ None ↦ [] | Some t ↦ t ])) says) ∙ full)
      where
        go : (o : Option (List ℕ)) → is_full (elim o [ None ↦ [] | Some t ↦ t ]) ≡ true → is_some o ≡ true
        go None k = absurd (false≢true k)
        go (Some t) k = refl

    not-none : (d : Context) → is_some (row_text twin es d) ≡ true → holds_none (accounting_terms rows) es ≡ false
    not-none d some = go (value_in es p.second.term (context_for twin d)) refl (sym (ap is_some says) ∙ some)
      where
        says : row_text twin es d ≡ (elim (value_in es p.second.term (context_for twin d)) [
          | None ↦ filled_text written.AccountingVatTotal es (context_for twin d)
          | Some value ↦ if_due twin.written es p.second.term (context_for twin d) (formed (form_for twin.form p.second.term) es (context_for twin d) value)
        ])
        says =
            ap (λ content. elim content [ (contents.Term term) ↦ term_text twin es term (context_for twin d) | (contents.Constant t) ↦ None ])
            p.second.there.content
            ∙ (ap (λ o. elim o [
              | None ↦ filled_text twin.written es (context_for twin d)
              | Some value ↦ if_due twin.written es p.second.term (context_for twin d) (formed (form_for twin.form p.second.term) es (context_for twin d) value)
            ]) (as-modelled twin es p.second.term (context_for twin d) (one-untyped (form_for twin.form p.second.term) p.second.there.form))
            ∙ ap (λ rule. elim (value_in es p.second.term (context_for twin d)) [
              | None ↦ filled_text rule es (context_for twin d)
              | Some value ↦ if_due twin.written es p.second.term (context_for twin d) (formed (form_for twin.form p.second.term) es (context_for twin d) value)
            ]) p.twin_rule)

        held-so : (b : Bool) → holds_none (accounting_terms rows) es ≡ b → (v : Value) → value_in es p.second.term (context_for twin d) ≡ Some v → b ≡ false
        held-so false e v k = refl
        held-so true e v k =
            let x : Entry = record { context = context_for twin d; term = p.second.term; value = v } in
            let none = all-is (λ (y : Entry). not (list_any (same_term y.term) (accounting_terms rows))) es x e
            (at-value law es invoice p.second.term (context_for twin d) v k) in
            absurd (false≢true (sym (none-is (same_term p.second.term) (accounting_terms rows) p.second.term
            (not-true (list_any (same_term p.second.term) (accounting_terms rows)) none) an-accounting-term)
            ∙ same-term-itself p.second.term))
          where
            same-term-itself : (u : Term) → same_term u u ≡ true
            same-term-itself u = grind (arith, nat_tests)

        go : (o : Option Value) → value_in es p.second.term (context_for twin d) ≡ o → is_some (elim o [
          | None ↦ filled_text written.AccountingVatTotal es (context_for twin d)
          | Some value ↦ if_due twin.written es p.second.term (context_for twin d) (formed (form_for twin.form p.second.term) es (context_for twin d) value)
        ]) ≡ true
            → holds_none (accounting_terms rows) es ≡ false
        go None e k = absurd (false≢true k)
        go (Some v) e k = held-so (holds_none (accounting_terms rows) es) refl v e

    accounting-there : (place : Place) → Among place (places_at rows es twin.path) → is_full place.spot.text ≡ true → (c : Currencies) → AreOwn rows es c →
        is_accounting c (currency_at place.spot) ≡ true
    accounting-there place a full c own =
        let text : place.spot.text ≡ own_text es place.spot.context twin =
        fact-at law rows es invoice twin.path (λ (spot : Spot). spot.text ≡ own_text es spot.context twin)
        (own-texts es twin (plan_of rows) twin.path false root_context p.second.there.own) place a in
        let some : is_some (row_text twin es place.spot.context) ≡ true = some-text place.spot.context (ap is_full (sym text) ∙ full) in
        go some (not-none place.spot.context some) own.1
      where
        go : is_some (row_text twin es place.spot.context) ≡ true → holds_none (accounting_terms rows) es ≡ false →
            (holds_none (accounting_terms rows) es ≡ true) ⊎ AreNamed es c → is_accounting c (currency_at place.spot) ≡ true
        go some held_some (inl none) = absurd (false≢true (sym held_some ∙ none))
        go some held_some (inr n) =
            let v = mapped-text (value_in es accounting_currency root_context) n.second n.second_is in
            let x : Entry = record { context = root_context; term = accounting_currency; value = v.0 } in
            let form = accounting-form twin.form in
            let black : is_full (spelled v.0) ≡ true =
            ap (λ f. is_full (formed f es root_context v.0)) (sym form)
            ∙ full-string law rows es invoice twin accounting_currency x (at-value law es invoice accounting_currency root_context v.0 v.1) refl
            (whole-back es (form_for twin.form accounting_currency) root_context v.0 (ap is_whole form) (ap is_of_one_term form)) in
            let shown = fact-at law rows es invoice twin.path
            (λ (spot : Spot). is_some (row_text twin es spot.context) ≡ true
            → values_named currency_id spot.attributes ≡ values_named currency_id
            (elim (value_in es accounting_currency root_context) [ None ↦ [] | Some value ↦ attribute currency_id (spelled value) ∷ [] ]))
            (accounting-shown es twin p.twin_rule p.second.amount (plan_of rows) twin.path false root_context p.second.there.own p.second.there.free) place a
            some in
            in-accounting es c n (differ held_some) (currency_at place.spot)
            (accounting-first es (values_named currency_id place.spot.attributes) v.0 v.1 (not-true (is_blank (spelled v.0)) black)
            (shown ∙ ap (λ o. values_named currency_id (elim o [ None ↦ [] | Some value ↦ attribute currency_id (spelled value) ∷ [] ])) v.1))

    beside-none : (row : Row) → list_any (λ t. has_term t row) (flat_map beside_placeholder rows) ≡ false → (term : Term)
        → Among term (flat_map beside_placeholder rows)
        → has_term term row ≡ false
    beside-none row none term a = none-is (λ t. has_term t row) (flat_map beside_placeholder rows) term none a

    -- each of the two is spread, but for the elements of the other
    first-here : IsSpreadHere law rows es invoice main p.first.term
    first-here = record {
      front = [];
      back = places_at rows es twin.path;
      placed = placed-twins rows es main.path twin.path p.way p.twins;
      strange = λ place a. elim a [
        | inl x ↦ absurd x
        | inr b ↦ record {
          leaf = p.first.there.leaf;
          out = λ c own full. ap (λ x. is_in c x (currency_at place.spot)) p.rule ∙ ap not (accounting-there place b full c own);
          no_money = no-money main p.first.term p.first.there.content p.first.amount;
          beside = beside-none main p.first.unfilled;
        }
      ];
      own = p.first.there.own;
      leaf = p.first.there.leaf;
      content = p.first.there.content;
      form = p.first.there.form;
      total = inr (own-total main (accounting_terms rows) p.first.term p.rule p.first.there);
      unfilled = λ placeholder e. inl (no-filled main (ap is_or_placeholder p.rule) placeholder e);
      outer = p.first.there.outer;
      inner = p.first.there.inner;
      context = p.first.there.context;
    }

    second-here : IsSpreadHere law rows es invoice twin p.second.term
    second-here = record {
      front = places_at rows es main.path;
      back = [];
      placed = subst (λ l. ArePlaced (document_nodes (document_of rows es)) es twin.path (places_at rows es main.path ++ l))
          (sym (append-nil (places_at rows es twin.path)))
          (placed-second rows es main.path twin.path p.way p.twins);
      strange = λ place a. elim a [
        | inl b ↦ record {
          leaf = p.second.there.leaf;
          out = λ c own full. ap (λ x. is_in c x (currency_at place.spot)) p.twin_rule
              ∙ not-accounting es c own.0 (currency_at place.spot) (total-shown main p.first.there.own p.first.there.free p.rule place b);
          no_money = no-money twin p.second.term p.second.there.content p.second.amount;
          beside = beside-none twin p.second.unfilled;
        }
        | inr x ↦ absurd x
      ];
      own = p.second.there.own;
      leaf = p.second.there.leaf;
      content = p.second.there.content;
      form = p.second.there.form;
      total = inr (record {
        leaf = p.second.there.leaf;
        own = λ c own place a full. ap (λ x. is_in c x (currency_at place.spot)) p.twin_rule ∙ accounting-there place a full c own;
        shown = λ other. absurd (false≢true (sym other ∙ ap is_accounting_rule p.twin_rule));
      });
      unfilled = λ placeholder e. inl (no-filled twin (ap is_or_placeholder p.twin_rule) placeholder e);
      outer = p.second.there.outer;
      inner = p.second.there.inner;
      context = p.second.there.context;
    }

  -- the row of one of the two
  record IsHere (row : Row) : Type 0 where
    term : Term
    here : IsSpreadHere law rows es invoice row term

  pair-here : (holds_none (accounting_terms rows) es ≡ false → is_other_text (currency_text es invoice_currency) (currency_text es accounting_currency) ≡ true)
      → All (λ (r : Row). 0 < length r.path) rows → (row : Row) → Among row rows → is_of_pair (plan_of rows) rows row ≡ true → IsHere row
  pair-here differ long_paths row a h =
      let w = test-behind (is_vat_total row.written) (list_any (λ other. are_pair (plan_of rows) rows row other || are_pair (plan_of rows) rows other row) rows)
      h in
      let v = any-is (λ other. are_pair (plan_of rows) rows row other || are_pair (plan_of rows) rows other row) rows w.1 in
      let i = row-at rows row a in
      let j = row-at rows v.0 v.1.0 in
      elim (or-either (are_pair (plan_of rows) rows row v.0) (are_pair (plan_of rows) rows v.0 row) v.1.1) [
        | inl k ↦ let p = pair-by-test rows i.0 j.0 row v.0 long_paths i.1 j.1 k in record { term = p.first.term; here = first-here differ row v.0 p v.1.0 }
        | inr k ↦ let p = pair-by-test rows j.0 i.0 v.0 row long_paths j.1 i.1 k in record { term = p.second.term; here = second-here differ v.0 row p a }
      ]

  -- the same, of a term that it has
  pub pair-of-term : (holds_none (accounting_terms rows) es ≡ false →
      is_other_text (currency_text es invoice_currency) (currency_text es accounting_currency) ≡ true) → All (λ (r : Row). 0 < length r.path) rows → (row : Row)
      → Among row rows → (term : Term) → is_pair_in (plan_of rows) rows row term ≡ true → IsSpreadHere law rows es invoice row term
  pair-of-term differ long_paths row a term h =
      let w = test-behind (is_of_pair (plan_of rows) rows row) (has_content term row.content) h in
      let k = pair-here differ long_paths row a w.0 in
      subst (IsSpreadHere law rows es invoice row) (same_term_is k.term term (sym (ap (has_content term) k.here.content) ∙ w.1)) k.here
