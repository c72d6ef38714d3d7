-- What rows write of an invoice isn't blank, and beside a term at an attribute the one of the element is written.
use Rattle.std.proofs.Common.{◌≡◌, ℕ, ◌<◌, Bool, true, false, not, ◌&&◌, ◌||◌, List, length, filter, Option, Some, None, inl, inr, All, refl, sym, ap}
use Rattle.std.proofs.Common.{◌∙◌, subst, arith}
use Rattle.std.specs.Prelude.{is_some}
use Rattle.std.specs.List.{list_all, list_any}
use Rattle.std.proofs.lemmas.Bool.{false≢true}
use Rattle.std.proofs.lemmas.Bool.Decides.{nat_tests}
use Rattle.std.proofs.lemmas.Option.{same_Some}
use Rattle.term_table.specs.declared.groups.Group.{Group}
use Rattle.term_table.specs.declared.terms.Term.{Term}
use Rattle.term_table.specs.declared.contexts.Slot.{Slot}
use Rattle.term_table.specs.declared.contexts.Context.{Context}
use Rattle.term_table.specs.Contexts.{root_context}
use Rattle.term_table.specs.SemanticModel.{same_term}
use Rattle.term_table.proofs.SeatLemmas.{same_term_is}
use Rattle.inv_terms.specs.declared.values.Value.{Value}
use Rattle.inv_terms.specs.declared.entries.Entry.{Entry}
use Rattle.inv_terms.specs.Listing.{IsInvoice, value_in}
use Rattle.bind_rows.specs.declared.names.Leaf.TheVariants as leaves
use Rattle.bind_rows.specs.declared.rows.Content.{Content}
use Rattle.bind_rows.specs.declared.rows.Content.TheVariants as contents
use Rattle.bind_rows.specs.declared.rows.Row.{Row}
use Rattle.bind_rows.specs.declared.rows.Written.{Written}
use Rattle.bind_rows.specs.declared.rows.Written.TheVariants as written
use Rattle.bind_table.specs.Lines.{Plan, plan_of}
use Rattle.bind_meaning.specs.Elements.{is_full}
use Rattle.bind_meaning.specs.Picks.{has_term, term_in}
use Rattle.bind_meaning.specs.Trees.{is_vat_total}
use Rattle.bind_meaning.specs.Values.{form_for, subject_code}
use Rattle.bind_meaning.specs.Writing.{context_for, slot_for, formed, if_so, if_due, filled, value_for, term_text, row_text, writes_entry}
use Rattle.binding_laws.specs.Apart.{Known, unknown, is_apart}
use Rattle.binding_laws.specs.Known.{known_of, is_as_known}
use Rattle.binding_laws.specs.Plain.{is_one, is_element, is_always, is_whole, has_content, is_in_groups, is_written_by, is_plain_there, is_plain_with}
use Rattle.binding_laws.specs.Plain.{is_plain_in, is_spread_with, is_spread_in, is_plain_attribute_with, is_plain_attribute_in, is_spread_attribute_in}
use Rattle.binding_laws.specs.Covered.{is_or_placeholder, is_filled_there, is_filled_in, is_total_rule, is_total_there, is_total_in, unpaired_terms, is_of_pair}
use Rattle.binding_laws.specs.Covered.{is_pair_in, is_coded, is_noted_in, writes_code, writes_known_beside, writes_known, writes_beside, writes_plainly}
use Rattle.binding_laws.specs.Covered.{is_written_plainly, is_left_out, reads_back, has_currencies, is_like_placeholder, is_bad_note, is_unmistaken}
use Rattle.binding_laws.specs.Covered.{holds_plainly}
use Rattle.binding_laws.proofs.ListLemmas.{both-true, not-true, or-either}
use Rattle.binding_laws.proofs.ReachLemmas.{Among, among-filter, any-among, any-is, all-is}
use Rattle.binding_laws.proofs.FormLemmas.{Laws, IsBack, back-full}
use Rattle.binding_laws.proofs.TakenLemmas.{taken-or-refused}
use Rattle.binding_laws.proofs.PlainLemmas.{at-value, fits-among}
use Rattle.binding_laws.proofs.PlacedLemmas.{rule-is, attribute-with-test, spread-attribute-by-test}
use Rattle.binding_laws.proofs.KnownLemmas.{Knows}
use Rattle.binding_laws.proofs.AskedLemmas.{knows-asked}
use Rattle.binding_laws.proofs.CoverLemmas.{row-at}
use Rattle.whole_laws.specs.Whole.{is_full_rule, is_only, is_told}
use Rattle.whole_laws.proofs.ElementLemmas.{AreFull, HasMain, HaveMains, one-same, term-told, part-told}

-- ---- what rules write

if-so-is : (b : Bool) (x text : List ℕ) → if_so b x ≡ Some text → x ≡ text
if-so-is true x text h = same_Some _ _ h
if-so-is false x text h = absurd (let z : ◌≡◌ {A = Option (List ℕ)} None (Some text) = h in cc)

no-text : {A : Type 0} (text : List ℕ) → ◌≡◌ {A = Option (List ℕ)} None (Some text) → A
no-text text h = absurd (let z : ◌≡◌ {A = Option (List ℕ)} None (Some text) = h in cc)

due-text : (w : Written) (es : List Entry) (term : Term) (c : Context) (x text : List ℕ) → if_due w es term c x ≡ Some text → x ≡ text
due-text written.Always es term c x text h = same_Some _ _ h
due-text written.Never es term c x text h = no-text text h
due-text written.IfIban es term c x text h = if-so-is _ x text h
due-text written.IfNotIban es term c x text h = if-so-is _ x text h
due-text written.IfScheme es term c x text h = if-so-is _ x text h
due-text written.IfNoScheme es term c x text h = if-so-is _ x text h
due-text (written.OrPlaceholder placeholder) es term c x text h = same_Some _ _ h
due-text written.VatTotal es term c x text h = same_Some _ _ h
due-text written.AccountingVatTotal es term c x text h = same_Some _ _ h

filled-full : (w : Written) (es : List Entry) (c : Context) (text : List ℕ) → is_full_rule w ≡ true → filled w es c ≡ Some text → is_full text ≡ true
filled-full (written.OrPlaceholder placeholder) es c text f h = ap is_full (sym (if-so-is _ placeholder.text text h)) ∙ f
filled-full written.Always es c text f h = no-text text h
filled-full written.Never es c text f h = no-text text h
filled-full written.IfIban es c text f h = no-text text h
filled-full written.IfNotIban es c text f h = no-text text h
filled-full written.IfScheme es c text f h = no-text text h
filled-full written.IfNoScheme es c text f h = no-text text h
filled-full written.VatTotal es c text f h = no-text text h
filled-full written.AccountingVatTotal es c text f h = no-text text h

row-term-text : (row : Row) (es : List Entry) (term : Term) → row.content ≡ contents.Term term → (d : Context)
    → row_text row es d ≡ term_text row es term (context_for row d)
row-term-text row es term e d = ap (λ (x : Content). elim x [
  | (contents.Term t) ↦ term_text row es t (context_for row d)
  | (contents.Constant text) ↦ None
]) e

taken-value : (row : Row) (es : List Entry) (term : Term) (c : Context) (v : Value) → value_for row es term c ≡ Some v → value_in es term c ≡ Some v
taken-value row es term c v h = elim (taken-or-refused row es term c) [
  | inl e ↦ sym e ∙ h
  | inr e ↦ absurd (let z : ◌≡◌ {A = Option Value} None (Some v) = sym e ∙ h in cc)
]

-- ---- so it is

-- A row reads back what it writes of an entry of its term.
abbrev pub AreBack : List Row → List Entry → Type 0
AreBack rows es = (row : Row) → Among row rows → (term : Term) → row.content ≡ contents.Term term → (e : Entry) → Among e es → e.term ≡ term
    → IsBack es (form_for row.form term) e.context e.value

same-term-itself : (u : Term) → same_term u u ≡ true
same-term-itself u = grind (arith, nat_tests)

module _ (law : Laws) (rows : List Row) (told : list_all (is_told rows) rows ≡ true) (es : List Entry) (invoice : IsInvoice es) where
  pub rows-full : AreBack rows es → AreFull rows es
  rows-full back row a term e d text h =
      go (value_for row es term (context_for row d)) refl (sym (row-term-text row es term e d) ∙ h)
    where
      c : Context
      c = context_for row d

      go : (o : Option Value) → value_for row es term (context_for row d) ≡ o
          → (elim o [
            | None ↦ filled row.written es (context_for row d)
            | Some v ↦ if_due row.written es term (context_for row d) (formed (form_for row.form term) es (context_for row d) v)
          ]) ≡ Some text → is_full text ≡ true
      go None is k = filled-full row.written es (context_for row d) text (both-true (is_full_rule row.written) _ (term-told rows told row a term e)).0 k
      go (Some v) is k =
          let at = taken-value row es term (context_for row d) v is in
          let x : Entry = record { context = context_for row d; term = term; value = v } in
          let b = at-value law es invoice term (context_for row d) v at in
          ap is_full (sym (due-text row.written es term (context_for row d) (formed (form_for row.form term) es (context_for row d) v) text k))
          ∙ back-full law row.form term es (context_for row d) v (back row a term e x b refl) (fits-among law es invoice term x es invoice.fit b)

-- ---- the term at the element

content-term : (term : Term) (row : Row) → has_content term row.content ≡ true → has_term term row ≡ true
content-term term row h = go row.content h
  where
    go : (content : Content) → has_content term content ≡ true → elim (term_in content) [ None ↦ false | Some t ↦ same_term t term ] ≡ true
    go (contents.Term t) k = k
    go (contents.Constant text) k = absurd (false≢true k)

slot-again : (o : Option Group) (s : Option Slot) → slot_for o (slot_for o s) ≡ slot_for o s
slot-again None s = refl
slot-again (Some g) s = refl

behind : (b x : Bool) → (elim b [ true ↦ x | false ↦ false ]) ≡ true → (b ≡ true) × (x ≡ true)
behind true x h = (refl, h)
behind false x h = absurd (false≢true h)

some-text : (o : Option (List ℕ)) → is_some o ≡ true → (text : List ℕ) × (o ≡ Some text)
some-text None h = absurd (false≢true h)
some-text (Some text) h = (text, refl)

by-content : {A : Type 0} (content : Content) (f : Term → Bool) → elim content [ (contents.Term t) ↦ f t | (contents.Constant text) ↦ false ] ≡ true
    → ((t : Term) → content ≡ contents.Term t → f t ≡ true → A) → A
by-content (contents.Term t) f h g = g t refl h
by-content (contents.Constant text) f h g = absurd (false≢true h)

module _ (rows : List Row) (es : List Entry) (long : All (λ (r : Row). 0 < length r.path) rows) (row : Row) (among : Among row rows) (term : Term)
    (content : row.content ≡ contents.Term term) (local : List ℕ) (leaf : row.leaf ≡ leaves.Attribute local) (only : is_only rows row term ≡ true)
    (d : Context) where
  abbrev here : Context
  here = context_for row d

  abbrev plan : Plan
  plan = plan_of rows

  always : row.written ≡ written.Always
  always = rule-is row.written (both-true (is_always row.written) _ only).0

  has-it : has_term term row ≡ true
  has-it = ap (λ x. elim (term_in x) [ None ↦ false | Some u ↦ same_term u term ]) content ∙ same-term-itself term

  -- no other row has the term
  same-row : (r : Row) → Among r rows → has_content term r.content ≡ true → r ≡ row
  same-row r a h =
      one-same r row (filter (has_term term) rows) (both-true (is_one (filter (has_term term) rows)) _ (both-true (is_always row.written) _ only).1).0
      (among-filter (has_term term) r rows (content-term term r h) a) (among-filter (has_term term) row rows has-it among)

  not-element : (r : Row) → Among r rows → is_element r.leaf ≡ true → has_content term r.content ≡ true → ⊥
  not-element r a e h = false≢true (sym (ap is_element leaf) ∙ (ap (λ (x : Row). is_element x.leaf) (sym (same-row r a h)) ∙ e))

  not-there : (r : Row) → Among r rows → is_plain_there plan r term ≡ true → ⊥
  not-there r a h =
      let v = both-true (is_one _) _ h in
      let w = both-true (is_element r.leaf) _ v.1 in
      not-element r a w.0 (both-true (has_content term r.content) _ w.1).0

  not-plain : (known : Known) (r : Row) → Among r rows → is_plain_with known plan r term ≡ true → ⊥
  not-plain known r a h = not-there r a (both-true (is_whole (form_for r.form term)) _ (both-true (is_apart known plan r.path) _ h).1).1

  not-spread : (known : Known) (r : Row) → Among r rows → is_spread_with known plan r term ≡ true → ⊥
  not-spread known r a h =
      let v = both-true (is_one _) _ (both-true (is_apart known plan r.path) _ h).1 in
      let w = both-true (is_element r.leaf) _ v.1 in
      not-element r a w.0 (both-true (has_content term r.content) _ w.1).0

  not-filled : (r : Row) → Among r rows → is_filled_in plan r term ≡ true → ⊥
  not-filled r a h =
      let u = behind (is_or_placeholder r.written) (is_filled_there plan r term) h in
      let v = both-true (is_one _) _ (both-true (is_apart unknown plan r.path) _ u.1).1 in
      let w = both-true (is_element r.leaf) _ v.1 in
      not-element r a w.0 (both-true (has_content term r.content) _ w.1).0

  not-total : (r : Row) → Among r rows → is_total_in plan rows r term ≡ true → ⊥
  not-total r a h =
      let u = behind (is_total_rule r.written) (is_total_there plan (unpaired_terms plan rows) r term) h in
      let v = both-true (is_one _) _ (both-true (is_apart _ plan r.path) _ u.1).1 in
      let w = both-true (is_element r.leaf) _ v.1 in
      not-element r a w.0 (both-true (has_content term r.content) _ w.1).0

  not-pair : (r : Row) → Among r rows → is_pair_in plan rows r term ≡ true → ⊥
  not-pair r a h =
      let u = behind (is_of_pair plan rows r) (has_content term r.content) h in
      let total = behind (is_vat_total r.written) _ u.0 in
      false≢true (sym (ap is_vat_total (ap (λ (x : Row). x.written) (same-row r a u.1) ∙ always)) ∙ total.0)

  not-noted : (r : Row) → Among r rows → is_noted_in plan rows r term ≡ true → ⊥
  not-noted r a h =
      let u = behind (is_coded (form_for r.form term)) _ h in
      not-there r a (both-true (is_plain_there plan r term) _ (both-true (is_apart unknown plan r.path) _ u.1).1).0

  -- the subject code has no row where one is written in front of a note
  not-code : (e : Entry) → e.term ≡ term → (r : Row) → writes_code plan rows es e r ≡ true → ⊥
  not-code e is r h =
      by-content r.content (λ t. same_term e.term subject_code && (is_noted_in plan rows r t && is_written_by r t es e.context)) h
      (λ t c k. let v = both-true (same_term e.term subject_code) _ k in
      let w = both-true (is_noted_in plan rows r t) _ v.1 in
      let u = behind (is_coded (form_for r.form t)) _ w.0 in
      let none = not-true (list_any (has_term subject_code) rows)
      (both-true (is_plain_there plan r t) _ (both-true (is_apart unknown plan r.path) _ u.1).1).1 in
      let code : term ≡ subject_code = sym is ∙ same_term_is e.term subject_code v.0 in
      false≢true (sym none ∙ any-among (has_term subject_code) row rows (subst (λ x. has_term x row ≡ true) code has-it) among))

  main-from : (r : Row) → r ≡ row → (main : Row) → Among main rows → r.path ≡ main.path → r.outer ≡ main.outer → r.inner ≡ main.inner
      → main.leaf ≡ leaves.Element → (mt : Term) → main.content ≡ contents.Term mt → is_written_by main mt es here ≡ true → HasMain rows es row d
  main-from r same main a path outer inner at mt has h =
      let w = both-true (is_some (value_in es mt here)) (writes_entry main es here) (both-true (is_in_groups main here) _ h).1 in
      let text = some-text (row_text main es here) w.1 in
      let outer_is : main.outer ≡ row.outer = sym outer ∙ ap (λ (x : Row). x.outer) same in
      let inner_is : main.inner ≡ row.inner = sym inner ∙ ap (λ (x : Row). x.inner) same in
      let again : context_for main here ≡ context_for main d = λ i. record {
        outer = ((λ j. slot_for (outer_is j) (slot_for row.outer d.outer)) ∙ (slot-again row.outer d.outer ∙ (λ j. slot_for (sym outer_is j) d.outer))) i;
        inner = ((λ j. slot_for (inner_is j) (slot_for row.inner d.inner)) ∙ (slot-again row.inner d.inner ∙ (λ j. slot_for (sym inner_is j) d.inner))) i;
      } in
      record {
        main = main;
        among = a;
        path = sym path ∙ ap (λ (x : Row). x.path) same;
        leaf = at;
        term = mt;
        content = has;
        text = text.0;
        writes = row-term-text main es mt has d ∙ (ap (term_text main es mt) (sym again) ∙ (sym (row-term-text main es mt has here) ∙ text.1));
      }

  has-content : (r : Row) (t : Term) → r.content ≡ contents.Term t → t ≡ term → has_content term r.content ≡ true
  has-content r t e is = ap (has_content term) e ∙ (ap (λ x. same_term x term) is ∙ same-term-itself term)

  by-attribute : (known : Known) (r : Row) → Among r rows → (main : Row) → Among main rows → (mt : Term)
      → is_plain_attribute_with known plan r term main mt ≡ true → is_written_by main mt es here ≡ true → HasMain rows es row d
  by-attribute known r a main b mt h k =
      let i = row-at rows r a in
      let j = row-at rows main b in
      let p = (attribute-with-test known rows i.0 j.0 r term main mt long i.1 j.1 h).1 in
      main-from r (same-row r a (has-content r term p.content refl)) main b p.path p.outer p.inner p.beside.leaf mt p.beside.content k

  by-spread : (r : Row) → Among r rows → (main : Row) → Among main rows → (mt : Term)
      → is_spread_attribute_in plan r term main mt ≡ true → is_written_by main mt es here ≡ true → HasMain rows es row d
  by-spread r a main b mt h k =
      let i = row-at rows r a in
      let j = row-at rows main b in
      let p = spread-attribute-by-test rows i.0 j.0 r term main mt long i.1 j.1 h in
      main-from r (same-row r a (has-content r term p.content refl)) main b p.path (p.outer ∙ sym p.beside.outer) (p.inner ∙ sym p.beside.inner)
      p.beside.leaf mt p.beside.content k

  module _ (v : Value) where
    abbrev e : Entry
    e = record { context = here; term = term; value = v }

    by-beside : (r : Row) → Among r rows → list_any (writes_beside plan es e r) rows ≡ true → HasMain rows es row d
    by-beside r a h =
        let w = any-is (writes_beside plan es e r) rows h in
        let main : Row = w.0 in
        by-content main.content (λ mt. (is_plain_attribute_in plan r term main mt || is_spread_attribute_in plan r term main mt) &&
        is_written_by main mt es here) w.1.1
        (λ mt c k. let x = both-true (is_plain_attribute_in plan r term main mt || is_spread_attribute_in plan r term main mt) _ k in
        elim (or-either (is_plain_attribute_in plan r term main mt) (is_spread_attribute_in plan r term main mt) x.0) [
          | inl y ↦ by-attribute unknown r a main w.1.0 mt y x.1
          | inr y ↦ by-spread r a main w.1.0 mt y x.1
        ])

    by-known : (r : Row) → Among r rows → list_any (writes_known_beside (known_of rows) plan es e r) rows ≡ true → HasMain rows es row d
    by-known r a h =
        let w = any-is (writes_known_beside (known_of rows) plan es e r) rows h in
        let main : Row = w.0 in
        by-content main.content (λ mt. is_plain_attribute_with (known_of rows) plan r term main mt && is_written_by main mt es here) w.1.1
        (λ mt c k. let x = both-true (is_plain_attribute_with (known_of rows) plan r term main mt) _ k in
        by-attribute (known_of rows) r a main w.1.0 mt x.0 x.1)

    first : (a b : Bool) → (a && b) ≡ true → a ≡ true
    first a b h = (both-true a b h).0

    by-row : (r : Row) → Among r rows → writes_plainly plan rows es e r ≡ true → HasMain rows es row d
    by-row r a h = elim (or-either (is_plain_in plan r term && is_written_by r term es here) _ h) [
      | inl x ↦ absurd (not-plain unknown r a (first (is_plain_in plan r term) _ x))
      | inr h1 ↦ elim (or-either (is_spread_in plan r term && is_written_by r term es here) _ h1) [
        | inl x ↦ absurd (not-spread unknown r a (first (is_spread_in plan r term) _ x))
        | inr h2 ↦ elim (or-either (list_any (writes_beside plan es e r) rows) _ h2) [
          | inl x ↦ by-beside r a x
          | inr h3 ↦ elim (or-either (is_filled_in plan r term && is_written_by r term es here) _ h3) [
            | inl x ↦ absurd (not-filled r a (first (is_filled_in plan r term) _ x))
            | inr h4 ↦ elim (or-either (is_total_in plan rows r term && is_written_by r term es here) _ h4) [
              | inl x ↦ absurd (not-total r a (first (is_total_in plan rows r term) _ x))
              | inr h5 ↦ elim (or-either (is_pair_in plan rows r term && is_written_by r term es here) _ h5) [
                | inl x ↦ absurd (not-pair r a (first (is_pair_in plan rows r term) _ x))
                | inr h6 ↦ elim (or-either (writes_known (known_of rows) plan rows es e r) _ h6) [
                  | inl x ↦ by-knowing r a x
                  | inr h7 ↦ elim (or-either (is_noted_in plan rows r term && is_written_by r term es here) _ h7) [
                    | inl x ↦ absurd (not-noted r a (first (is_noted_in plan rows r term) _ x))
                    | inr x ↦ absurd (not-code e refl r x)
                  ]
                ]
              ]
            ]
          ]
        ]
      ]
    ]
      where
        by-knowing : (r : Row) → Among r rows → writes_known (known_of rows) plan rows es e r ≡ true → HasMain rows es row d
        by-knowing r a k = elim (or-either (is_plain_with (known_of rows) plan r term && is_written_by r term es here) _ k) [
          | inl x ↦ absurd (not-plain (known_of rows) r a (first (is_plain_with (known_of rows) plan r term) _ x))
          | inr k1 ↦ elim (or-either (is_spread_with (known_of rows) plan r term && is_written_by r term es here) _ k1) [
            | inl x ↦ absurd (not-spread (known_of rows) r a (first (is_spread_with (known_of rows) plan r term) _ x))
            | inr x ↦ by-known r a x
          ]
        ]

-- ---- an invoice that is held

module _ (law : Laws) (rows : List Row) (told : list_all (is_told rows) rows ≡ true) (es : List Entry) (invoice : IsInvoice es)
    (long : All (λ (r : Row). 0 < length r.path) rows) (plainly : holds_plainly rows es ≡ true) where
  written-so : (e : Entry) → Among e es → is_written_plainly rows es e ≡ true
  written-so e a =
      (both-true (reads_back rows e) (is_written_plainly rows es e) (both-true (not (is_left_out rows e.term)) _
      (all-is (λ (x : Entry). not (is_left_out rows x.term) && (reads_back rows x && is_written_plainly rows es x)) es e
      (both-true (list_all (λ (x : Entry). not (is_left_out rows x.term) && (reads_back rows x && is_written_plainly rows es x)) es) _ plainly).0 a)).1).1

  as-known : (e : Entry) → Among e es → is_as_known (known_of rows) es e ≡ true
  as-known e a =
      let others =
      (both-true (list_all (λ (x : Entry). not (is_left_out rows x.term) && (reads_back rows x && is_written_plainly rows es x)) es) _ plainly).1 in
      let w = both-true (not (list_any (is_like_placeholder (plan_of rows) rows es e) rows)) (is_as_known (known_of rows) es e && not (is_bad_note rows es e))
      (all-is (is_unmistaken (plan_of rows) rows es) es e (both-true (has_currencies rows es) _ others).1 a) in
      (both-true (is_as_known (known_of rows) es e) (not (is_bad_note rows es e)) w.1).0

  pub all-known : Knows (known_of rows) es root_context
  all-known = knows-asked law rows es invoice as-known

  pub rows-have-mains : HaveMains rows es
  rows-have-mains row a term content local leaf d text h = go (value_for row es term (context_for row d)) refl (sym (row-term-text row es term content d) ∙ h)
    where
      only : is_only rows row term ≡ true
      only = part-told rows told row a term content local leaf

      go : (o : Option Value) → value_for row es term (context_for row d) ≡ o
          → (elim o [
            | None ↦ filled row.written es (context_for row d)
            | Some v ↦ if_due row.written es term (context_for row d) (formed (form_for row.form term) es (context_for row d) v)
          ]) ≡ Some text → HasMain rows es row d
      go None is k =
          no-text text (ap (λ w. filled w es (context_for row d)) (sym (rule-is row.written (both-true (is_always row.written) _ only).0)) ∙ k)
      go (Some v) is k =
          let x : Entry = record { context = context_for row d; term = term; value = v } in
          let b = at-value law es invoice term (context_for row d) v (taken-value row es term (context_for row d) v is) in
          let w = any-is (writes_plainly (plan_of rows) rows es x) rows (written-so x b) in
          by-row rows es long row a term content local leaf only d v w.0 w.1.0 w.1.1
