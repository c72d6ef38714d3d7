-- In the document that a valid invoice is written as, reading finds no fault.
use Rattle.std.proofs.Common.{◌≡◌, ℕ, suc, ◌+◌, ◌<◌, Bool, true, false, not, ◌&&◌, ◌||◌, List, [], ◌∷◌, ◌++◌, length, map, filter, flat_map, Option, Some, None}
use Rattle.std.proofs.Common.{Ok, Err, ◌⊎◌, inl, inr, All, refl, sym, ap, ◌∙◌, subst, arith}
use Rattle.std.specs.Prelude.{if◌then◌else◌, codes, slice_get, is_some, is_none}
use Rattle.std.specs.List.{list_all, list_any}
use Rattle.std.specs.Ordering.{int_cmp, nat_cmp, is_eq, ordering_then, ordering_reverse}
use Rattle.std.specs.declared.cmp.Ordering.{Ordering}
use Rattle.std.specs.declared.cmp.Ordering.TheVariants as orders
use Rattle.std.specs.Str.{bytes_eq}
use Rattle.std.specs.Cmp.{both_ways}
use Rattle.std.proofs.lemmas.Cmp.{int_cmp_total, nat_cmp_total}
use Rattle.std.proofs.lemmas.Bool.{false≢true}
use Rattle.std.proofs.lemmas.Option.{same_Some}
use Rattle.std.proofs.lemmas.Slice.Eq.{bytes_eq-Decides}
use Rattle.inv_base.specs.Tree.{no_more, Node, document_nodes}
use Rattle.code_lists.specs.CodeFiles.{Lists}
use Rattle.inv_decimal.specs.CivilDay.{CivilDay}
use Rattle.term_table.specs.declared.groups.Occurrence.{Occurrence}
use Rattle.term_table.specs.declared.groups.Occurrence.TheVariants as occurs
use Rattle.term_table.specs.declared.terms.Mark.{Mark}
use Rattle.term_table.specs.declared.terms.Mark.TheVariants as marks
use Rattle.term_table.specs.declared.terms.Term.{Term}
use Rattle.term_table.specs.declared.terms.TermRow.{TermRow}
use Rattle.term_table.specs.declared.contexts.Slot.{Slot}
use Rattle.term_table.specs.declared.contexts.Context.{Context}
use Rattle.term_table.specs.declared.contexts.Seat.{Seat}
use Rattle.term_table.specs.Contexts.{root_context, outer_context, slot_group, stands_in, has_context, same_context, is_inside}
use Rattle.term_table.specs.Groups.{parent_of, occurrence_of, may_repeat as is_repeating, is_repeated}
use Rattle.term_table.specs.SemanticModel.{same_term, terms}
use Rattle.term_table.proofs.SeatLemmas.{same_term_is}
use Rattle.inv_terms.specs.declared.values.Value.{Value}
use Rattle.inv_terms.specs.declared.values.Value.TheVariants as values
use Rattle.inv_terms.specs.declared.entries.Entry.{Entry}
use Rattle.inv_terms.specs.Values.{is_blank, trimmed, spelled, same_value}
use Rattle.inv_terms.specs.Listing.{IsInvoice, value_in, seat_of as seat_of_entry}
use Rattle.inv_terms.specs.Lacking as lacking
use Rattle.inv_terms.specs.Lacking.{whole_term, is_there, first_decided, is_needed, is_missing}
use Rattle.inv_terms.specs.declared.violations.Name.TheVariants as names
use Rattle.inv_terms.specs.Validity.{list_of, code_in, is_outside}
use Rattle.inv_terms.specs.Whole.{IsContextOf, IsValid, seats_in}
use Rattle.inv_terms.proofs.MapLemmas.{any-map}
use Rattle.inv_terms.proofs.ContextLemmas.{context_is}
use Rattle.inv_terms.proofs.PushLemmas.{same_slot_itself}
use Rattle.bind_rows.specs.declared.names.Leaf.{Leaf}
use Rattle.bind_rows.specs.declared.names.Leaf.TheVariants as leaves
use Rattle.bind_rows.specs.declared.rows.Check.{Check}
use Rattle.bind_rows.specs.declared.rows.Check.TheVariants as checks
use Rattle.bind_rows.specs.declared.rows.Content.{Content}
use Rattle.bind_rows.specs.declared.rows.Content.TheVariants as contents
use Rattle.bind_rows.specs.declared.rows.Form.{Form}
use Rattle.bind_rows.specs.declared.rows.Form.TheVariants as forms
use Rattle.bind_rows.specs.declared.rows.Row.{Row}
use Rattle.bind_rows.specs.declared.rows.Written.{Written}
use Rattle.bind_rows.specs.declared.rows.Written.TheVariants as written
use Rattle.bind_table.specs.Lines.{plan_of}
use Rattle.bind_table.specs.WellFormed.{first_fault}
use Rattle.bind_meaning.specs.declared.picked.Seated.{Seated}
use Rattle.bind_meaning.specs.Values.{ParsedValue, subject_code, note, suits, form_for}
use Rattle.bind_meaning.specs.Elements.{attributes_named, string_at, is_full, is_one_of}
use Rattle.bind_meaning.specs.Picks.{Pick, has_term, term_in, has_any_term, Numbered, numbered, rows_where, last_of, leaves_of, picks_of_way, ways}
use Rattle.bind_meaning.specs.Picks.{nodes_picked}
use Rattle.bind_meaning.specs.Currencies.{Currencies, currencies, currency_id, first_full, amount_currency}
use Rattle.bind_meaning.specs.Seats.{Placed, placed, slot_of, context_of, Room, outer_room, inner_room, each_once, rooms}
use Rattle.bind_meaning.specs.declared.fault.BindKind.TheVariants as kinds
use Rattle.bind_meaning.specs.Judging.{Told, told_by, is_of_seat, may_repeat, has_attribute, is_other_format, breaks, is_accounting_total, differs, disagree}
use Rattle.bind_meaning.specs.Judging.{words, wrong_word, seat_of, missing_in, missing_place, name_of, Found, found, place_at, least}
use Rattle.bind_meaning.specs.Terms.{term_picks, constant_picks, place_all, told, entries, passed_over, all_faults, Read, terms_of}
use Rattle.bind_meaning.specs.Writing.{formed, if_so, scheme_of, if_due, row_text}
use Rattle.bind_meaning.specs.Trees.{is_amount, with_text, document_of, is_at_element, is_vat_total}
use Rattle.binding_laws.specs.Apart.{is_attribute_named, is_at_attribute, unknown, is_apart, stands_apart}
use Rattle.binding_laws.specs.Plain as plain
use Rattle.binding_laws.specs.Plain.{groups_of, is_element, has_content, rows_at, IsPlainAttributeThere, is_plain_attribute_in}
use Rattle.binding_laws.specs.Covered.{is_settled, holds_plainly, is_accounting_rule}
use Rattle.binding_laws.specs.Written.{Spot, values_named}
use Rattle.binding_laws.specs.Faultless.{is_in_invoice_currency, is_told_once, all_apart, is_if_scheme, is_needed_beside, is_needed_with, scheme_id}
use Rattle.binding_laws.specs.Faultless.{is_scheme_beside, has_scheme_of, has_scheme, format_name, are_format, has_format, is_no_row, shows_currency_there}
use Rattle.binding_laws.specs.Faultless.{shows_its_currency, are_word, has_word, is_fine, is_faultless}
use Rattle.binding_laws.proofs.TreeLemmas.{Each}
use Rattle.binding_laws.proofs.NodeLemmas.{string-is, and-false}
use Rattle.binding_laws.proofs.GuardLemmas.{text-texts}
use Rattle.binding_laws.proofs.ListLemmas.{both-true, not-true, map-map, flat_map-map, flat_map-none, or-either}
use Rattle.binding_laws.proofs.CellLemmas.{own_text, own_strings, in_a_list}
use Rattle.binding_laws.proofs.ValueLemmas.{text_by, or_nothing}
use Rattle.binding_laws.proofs.AttributeLemmas.{attributes-are}
use Rattle.binding_laws.proofs.ContextLemmas.{Rising, rising-flat_map}
use Rattle.binding_laws.proofs.ReachLemmas.{Among, among-split, among-filter, among-map, any-among, own-texts, any-is, all-is}
use Rattle.binding_laws.proofs.CountLemmas.{each-among}
use Rattle.binding_laws.proofs.PlaceLemmas.{of-flat_map, of-map, of-filter-any}
use Rattle.binding_laws.proofs.SeatingLemmas.{each-from}
use Rattle.binding_laws.proofs.FormLemmas.{Laws, code_said, note-term}
use Rattle.binding_laws.proofs.RowLemmas.{Place, places_at, IsAt, ArePlaced, placed-at, ends_at, spot-strings, string-ends}
use Rattle.binding_laws.proofs.PartLemmas.{own-values}
use Rattle.binding_laws.proofs.PlainLemmas as plain_rows
use Rattle.binding_laws.proofs.PlainLemmas.{at-value, own-value}
use Rattle.binding_laws.proofs.PlacedLemmas.{among-contains, attribute-by-test}
use Rattle.binding_laws.proofs.PassedLemmas.{nothing-passed}
use Rattle.binding_laws.proofs.EntryLemmas.{Tells, one-seat, same-seat}
use Rattle.binding_laws.proofs.LackLemmas.{nothing-missing, all-listed, missing-same, missing-none}
use Rattle.binding_laws.proofs.CurrencyLemmas.{IsCurrency, IsOwnCurrency, AreOwn, currencies-shown, first-currency}
use Rattle.binding_laws.proofs.TotalLemmas.{row-of, amount-of}
use Rattle.binding_laws.proofs.FaultLemmas.{IsFine, IsFair, no-faults}
use Rattle.binding_laws.proofs.OnceLemmas.{MayBoth, picks-rising, same-place, seat-context}
use Rattle.binding_laws.proofs.CoverLemmas.{row-at, fact-at, full-string, part-values}
use Rattle.binding_laws.proofs.BothLemmas.{is_amount_as}
use Rattle.binding_laws.proofs.RoundLemmas.{FromRow, currency-read, numbered-row, row-back, of-picks, context-at, parsed-at, told-by-pick, told-entry}
use Rattle.binding_laws.proofs.RoundLemmas.{entry-told}
use Rattle.binding_laws.proofs.RoundLemmas.{entries-read, none-inside}

-- ---- equal values

cmp-itself : (r : Ordering) → r ≡ ordering_reverse r → is_eq r ≡ true
cmp-itself orders.Less h = absurd (let z : orders.Less ≡ orders.Greater = h in cc)
cmp-itself orders.Equal h = refl
cmp-itself orders.Greater h = absurd (let z : orders.Greater ≡ orders.Less = h in cc)

same-text : (a : List ℕ) → bytes_eq a a ≡ true
same-text a = (bytes_eq-Decides a a).1 refl

same-day : (d : CivilDay) → is_eq (ordering_then (nat_cmp d.year d.year) (ordering_then (nat_cmp d.month d.month) (nat_cmp d.day d.day))) ≡ true
same-day d =
    go (nat_cmp d.year d.year) (nat_cmp d.month d.month) (nat_cmp d.day d.day) (cmp-itself (nat_cmp d.year d.year) (nat_cmp_total.antisymm d.year d.year))
    (cmp-itself (nat_cmp d.month d.month) (nat_cmp_total.antisymm d.month d.month)) (cmp-itself (nat_cmp d.day d.day) (nat_cmp_total.antisymm d.day d.day))
  where
    go : (a b r : Ordering) → is_eq a ≡ true → is_eq b ≡ true → is_eq r ≡ true → is_eq (ordering_then a (ordering_then b r)) ≡ true
    go orders.Less b r h k l = absurd (false≢true h)
    go orders.Greater b r h k l = absurd (false≢true h)
    go orders.Equal orders.Less r h k l = absurd (false≢true k)
    go orders.Equal orders.Greater r h k l = absurd (false≢true k)
    go orders.Equal orders.Equal r h k l = l

same-value : (v : Value) → same_value v v ≡ true
same-value (values.Text a) = same-text a
same-value (values.Identifier a) = same-text a
same-value (values.Code a) = same-text a
same-value (values.Amount a) = cmp-itself (int_cmp a.value a.value) (int_cmp_total.antisymm a.value a.value)
same-value (values.Quantity a) = cmp-itself (int_cmp a.value a.value) (int_cmp_total.antisymm a.value a.value)
same-value (values.Percent a) = cmp-itself (int_cmp a.value a.value) (int_cmp_total.antisymm a.value a.value)
same-value (values.Date a) = same-day a
same-value (values.Base64 a) = same-text a

-- ---- subject codes

no-code-amount : (form : Form) → is_amount_as form subject_code ≡ false
unfolding terms
no-code-amount forms.Model = refl
no-code-amount forms.PlainDate = refl
no-code-amount forms.DueDateTypeCode = refl
no-code-amount forms.CodedNote = refl
no-code-amount (forms.Typed data_type) = refl
no-code-amount forms.TypedPlainDate = refl

-- ---- rows as the tests say of them

some-content : (content : Content) → is_some (term_in content) ≡ false → (text : List ℕ) × (content ≡ contents.Constant text)
some-content (contents.Term term) h = absurd (false≢true (sym h))
some-content (contents.Constant text) h = (text, refl)

element-leaf : (leaf : Leaf) → is_element leaf ≡ true → leaf ≡ leaves.Element
element-leaf leaves.Element h = refl
element-leaf (leaves.Attribute local) h = absurd (false≢true h)

only-one : {X : Type 0} (x y : X) → Among y (x ∷ []) → x ≡ y
only-one x y (inl s) = s
only-one x y (inr z) = absurd z

index-of : {X : Type 0} (x : X) (xs : List X) → Among x xs → (k : ℕ) × (slice_get xs k ≡ Some x)
index-of x [] a = absurd a
index-of x (y ∷ xs) (inl s) = (0, ap Some s)
index-of x (y ∷ xs) (inr a) = let w = index-of x xs a in (suc w.0, w.1)

same-context-itself : (d : Context) → same_context d d ≡ true
same-context-itself d = λ i. same_slot_itself d.outer i && same_slot_itself d.inner i

-- the one row at a place, a constant
record IsConstant (rows : List Row) (test : List ℕ → Bool) : Type 0 where
  row : Row
  only : rows ≡ row ∷ []
  text : List ℕ
  content : row.content ≡ contents.Constant text
  passes : test text ≡ true

constant-row : (test : List ℕ → Bool) (rows : List Row) (one : List Row → Bool) →
    ((r : Row) → one (r ∷ []) ≡ (elim r.content [ (contents.Term term) ↦ false | (contents.Constant text) ↦ test text ]))
    → one [] ≡ false → ((r s : Row) (rs : List Row) → one (r ∷ (s ∷ rs)) ≡ false) → one rows ≡ true → IsConstant rows test
constant-row test [] one f none more h = absurd (false≢true (sym none ∙ h))
constant-row test (r ∷ (s ∷ rs)) one f none more h = absurd (false≢true (sym (more r s rs) ∙ h))
constant-row test (r ∷ []) one f none more h = go r.content refl (sym (f r) ∙ h)
  where
    go : (content : Content) → r.content ≡ content → (elim content [ (contents.Term term) ↦ false | (contents.Constant text) ↦ test text ]) ≡ true →
        IsConstant (r ∷ []) test
    go (contents.Term term) e k = absurd (false≢true k)
    go (contents.Constant text) e k = record { row = r; only = refl; text = text; content = e; passes = k }

-- ---- the document of a valid invoice

module _ (law : Laws) (rows : List Row) (es : List Entry) (invoice : IsInvoice es) (long_paths : All (λ (r : Row). 0 < length r.path) rows)
    (fine : first_fault rows ≡ Ok tt) (settled : is_settled rows ≡ true)
    (plainly : holds_plainly rows es ≡ true) (lists : Lists) (is_valid : IsValid es lists) (faultless : is_faultless rows ≡ true) where
  abbrev doc : List Node
  doc = document_nodes (document_of rows es)

  -- ---- the tests of a table

  rows-apart : all_apart rows ≡ true
  rows-apart = (both-true (all_apart rows) (list_all (is_fine (plan_of rows) rows) rows) faultless).0

  record IsFineRow (row : Row) : Type 0 where
    once : is_told_once row ≡ true
    scheme : has_scheme (plan_of rows) rows row ≡ true
    format : has_format (plan_of rows) row ≡ true
    currency : shows_its_currency (plan_of rows) row ≡ true
    word : has_word (plan_of rows) row ≡ true

  fine-row : (row : Row) → Among row rows → IsFineRow row
  fine-row row a =
      let h = all-is (is_fine (plan_of rows) rows) rows row (both-true (all_apart rows) (list_all (is_fine (plan_of rows) rows) rows) faultless).1 a in
      let u = both-true (is_told_once row) _ h in
      let v = both-true (has_scheme (plan_of rows) rows row) _ u.1 in
      let w = both-true (has_format (plan_of rows) row) _ v.1 in
      let x = both-true (shows_its_currency (plan_of rows) row) (has_word (plan_of rows) row) w.1 in
      record { once = u.0; scheme = v.0; format = w.0; currency = x.0; word = x.1 }

  -- ---- what is picked at an element

  -- the strings of an element's attributes of a name
  place-values : (place : Place) → IsAt doc es place → (local : List ℕ) →
      map (string_at doc) (attributes_named doc local (last_of place.way)) ≡ values_named local place.spot.attributes
  place-values place at local =
      attributes-are doc at.above (last_of place.way) at.name place.spot.attributes (with_text place.spot.text no_more) at.more at.lies local

  record IsElementAt (row : Row) (pick : Pick) : Type 0 where
    place : Place
    among : Among place (places_at rows es row.path)
    at : IsAt doc es place
    way : pick.elements ≡ place.way
    node : last_of place.way ≡ pick.node
    string : place.spot.text ≡ string_at doc pick.node

  element-at : (k : ℕ) (row : Row) → row.leaf ≡ leaves.Element → ArePlaced doc es row.path (places_at rows es row.path) → (pick : Pick) →
      Among pick (nodes_picked doc k row) → IsElementAt row pick
  unfolding ends_at spot-strings
  element-at k row leaf are pick m =
      let w = of-flat_map (picks_of_way doc k row) pick (ways doc row.path 0) m in
      let v = of-map (λ (q : Place). q.way) w.0 (places_at rows es row.path) (subst (Among w.0) are.ways_are w.1.0) in
      let u = of-map (λ n. record { place = k; row = row; elements = w.0; node = n }) pick (leaves_of doc row.leaf (last_of w.0)) w.1.1 in
      let at = each-among (IsAt doc es) v.0 (places_at rows es row.path) are.each v.1.0 in
      let there : Among u.0 (leaves_of doc leaves.Element (last_of w.0)) = subst (λ l. Among u.0 (leaves_of doc l (last_of w.0))) leaf u.1.0 in
      let one : last_of w.0 ≡ u.0 = only-one (last_of w.0) u.0 (of-filter-any (λ n. is_full (string_at doc n)) u.0 (last_of w.0 ∷ []) there).0 in
      let here : Among u.0 (leaves_of doc leaves.Element (last_of v.0.way)) =
      subst (λ way. Among u.0 (leaves_of doc leaves.Element (last_of way))) (sym v.1.1) there in
      let string : Among (string_at doc u.0) (spot-strings leaves.Element v.0.spot) =
      subst (Among (string_at doc u.0)) (string-ends doc leaves.Element at.above (last_of v.0.way) at.name v.0.spot.attributes v.0.spot.text at.more at.lies
      v.0.spot refl refl)
      (among-map (string_at doc) u.0 (leaves_of doc leaves.Element (last_of v.0.way)) here) in
      subst (IsElementAt row) u.1.1
      (record {
        place = v.0;
        among = v.1.0;
        at = at;
        way = sym v.1.1;
        node = ap last_of v.1.1 ∙ one;
        string =
            only-one v.0.spot.text (string_at doc u.0) (of-filter-any is_full (string_at doc u.0) (v.0.spot.text ∷ []) string).0;
      })

  -- a test of some attribute of an element is one of their strings
  some-attribute : (place : Place) → IsAt doc es place → (local : List ℕ) (n : ℕ) → last_of place.way ≡ n → (test : List ℕ → Bool)
      → list_any (λ m. test (string_at doc m)) (attributes_named doc local n) ≡ list_any test (values_named local place.spot.attributes)
  some-attribute place at local n node test =
      ap (λ m. list_any (λ x. test (string_at doc x)) (attributes_named doc local m)) (sym node)
      ∙ (any-map test (string_at doc) (attributes_named doc local (last_of place.way)) ∙ ap (list_any test) (place-values place at local))

  -- ---- indicators are words

  right-word : (pick : Pick) → Among pick (constant_picks doc rows) → wrong_word doc pick ≡ []
  right-word pick a = go pick.row.check refl
    where
      r : (x : Numbered) × (Among x (rows_where (λ (row : Row). not (has_any_term row)) rows) × Among pick (nodes_picked doc x.place x.row))
      r = of-flat_map (λ (x : Numbered). nodes_picked doc x.place x.row) pick (rows_where (λ (row : Row). not (has_any_term row)) rows) a

      is_among : Among r.0 (numbered 1 rows) × (not (has_any_term r.0.row) ≡ true)
      is_among = of-filter-any (λ (x : Numbered). not (has_any_term x.row)) r.0 (numbered 1 rows) r.1.0

      by-place : stands_apart rows r.0.row.path ≡ true → r.0.row.leaf ≡ leaves.Element →
          IsConstant (rows_at is_at_element (plan_of rows) r.0.row.path) (λ text. is_one_of words (trimmed text))
          → is_one_of words (trimmed (string_at doc pick.node)) ≡ true
      by-place apart leaf constant =
          let at = element-at r.0.place r.0.row leaf (placed-at rows es r.0.row.path apart) pick r.1.1 in
          let text : at.place.spot.text ≡ constant.text =
          fact-at law rows es invoice r.0.row.path (λ (spot : Spot). spot.text ≡ own_text es spot.context constant.row)
          (own-texts es constant.row (plan_of rows) r.0.row.path false root_context constant.only) at.place at.among
          ∙ ap (λ (x : Content). or_nothing (text_by (row_text constant.row es at.place.spot.context) x)) constant.content in
          ap (λ s. is_one_of words (trimmed s)) (sym at.string ∙ text) ∙ constant.passes

      is-word : (term : Term) → pick.row.check ≡ checks.Indicator term → is_one_of words (trimmed (string_at doc pick.node)) ≡ true
      is-word term e =
          let row : Row = r.0.row in
          let check : row.check ≡ checks.Indicator term = ap (λ (x : Row). x.check) (sym (row-of doc r.0.place row pick r.1.1)) ∙ e in
          let known : Among row rows = (numbered-row 1 rows r.0 is_among.0).1.1 in
          let h : (has_any_term row || (is_apart unknown (plan_of rows) row.path &&
          (is_element row.leaf && are_word (rows_at is_at_element (plan_of rows) row.path)))) ≡ true =
          sym (ap (λ x. elim x [
            | (checks.Indicator t) ↦ has_any_term row ||
                (is_apart unknown (plan_of rows) row.path && (is_element row.leaf && are_word (rows_at is_at_element (plan_of rows) row.path)))
            | _ ↦ true
          ])
          check) ∙ (fine-row row known).word in
          elim (or-either (has_any_term row) (is_apart unknown (plan_of rows) row.path &&
          (is_element row.leaf && are_word (rows_at is_at_element (plan_of rows) row.path))) h) [
            | inl has ↦ absurd (false≢true (sym (not-true (has_any_term row) is_among.1) ∙ has))
            | inr k ↦
                let u = both-true (is_apart unknown (plan_of rows) row.path) _ k in
                let v = both-true (is_element row.leaf) (are_word (rows_at is_at_element (plan_of rows) row.path)) u.1 in
                by-place u.0 (element-leaf row.leaf v.0)
                (constant-row (λ text. is_one_of words (trimmed text)) (rows_at is_at_element (plan_of rows) row.path) are_word (λ x. refl) refl
                (λ x y ys. refl) v.1)
          ]

      go : (check : Check) → pick.row.check ≡ check → ◌≡◌ {A = List Found} (elim check [
        | (checks.Indicator term) ↦ elim (is_one_of words (trimmed (string_at doc pick.node))) [
          | true ↦ []
          | false ↦ found (place_at pick kinds.BadValue) kinds.BadValue (names.Term term) pick.node ∷ []
        ]
        | _ ↦ []
      ]) []
      go checks.Nothing e = refl
      go checks.Scheme e = refl
      go checks.Format e = refl
      go (checks.Indicator term) e = ap {B = List Found}
          (λ b. elim b [ true ↦ [] | false ↦ found (place_at pick kinds.BadValue) kinds.BadValue (names.Term term) pick.node ∷ [] ]) (is-word term e)

  no-wrong-words : flat_map (wrong_word doc) (constant_picks doc rows) ≡ []
  no-wrong-words = flat_map-none (wrong_word doc) (constant_picks doc rows) (each-from (λ pick. wrong_word doc pick ≡ []) (constant_picks doc rows) right-word)

  -- ---- nothing is missing

  context-of : (e : Entry) → Among e es → IsContextOf es e.context
  context-of e a = go e.context.outer e.context.inner refl refl
    where
      go : (o i : Option Slot) → e.context.outer ≡ o → e.context.inner ≡ i → IsContextOf es e.context
      go o (Some i) f g = inr (e, among-contains e es a, inr (refl, ap is_some g))
      go (Some o) None f g = inr (e, among-contains e es a, inl ((λ z. record { outer = e.context.outer; inner = g z }), ap is_some f))
      go None None f g = inl (λ z. record { outer = f z; inner = g z })

  each-once-among : (x : Room) (rs : List Room) → Among x (each_once rs) → Among x rs
  each-once-among x [] a = a
  each-once-among x (r ∷ rs) (inl s) = inl s
  each-once-among x (r ∷ rs) (inr m) =
      inr (each-once-among x rs (of-filter-any (λ (other : Room). not (same_context r.context other.context)) x (each_once rs) m).0)

  -- ---- what picks say

  abbrev money : Currencies
  money = currencies doc rows

  own_money : AreOwn rows es money
  own_money = currency-read law rows es invoice long_paths fine settled plainly

  abbrev picks : List Pick
  picks = term_picks doc money rows

  abbrev seated : List Placed
  seated = place_all doc picks

  abbrev them : List Told
  them = told doc seated

  abbrev From : Pick → Type 0
  From pick = FromRow law rows es invoice long_paths fine settled plainly pick

  from : (pick : Pick) → Among pick picks → From pick
  from pick a = of-picks law rows es invoice long_paths fine settled plainly money own_money pick a

  at-entry : (pick : Pick) → Among pick picks → (f : From pick) → context_of (placed doc picks pick) ≡ f.told_is.e.context
  at-entry pick a f = context-at law rows es invoice long_paths fine settled plainly money own_money pick a f

  -- ---- rooms are contexts of the invoice

  by-room : (room : Room) (p : Placed) (e : Entry) → Among e es → context_of p ≡ e.context → Among room (outer_room p) ⊎ Among room (inner_room p) →
      IsContextOf es room.context
  by-room room p e a same (inl m) = go p.outer refl m
    where
      go : (o : Option Seated) → p.outer ≡ o → Among room
          (elim o [ None ↦ [] | Some seat ↦ record { context = outer_context (context_of p); element = seat.element } ∷ [] ]) → IsContextOf es room.context
      go None f n = absurd n
      go (Some seat) f (inl s) = inr (
        e,
        among-contains e es a,
        inl (sym (ap (λ (x : Room). x.context) s) ∙ ap outer_context same, ap (λ (d : Context). is_some d.outer) (sym same) ∙ ap (λ o. is_some (slot_of o)) f),
      )
      go (Some seat) f (inr z) = absurd z
  by-room room p e a same (inr m) = go p.inner refl m
    where
      go : (o : Option Seated) → p.inner ≡ o → Among room (elim o [ None ↦ [] | Some seat ↦ record { context = context_of p; element = seat.element } ∷ [] ]) →
          IsContextOf es room.context
      go None f n = absurd n
      go (Some seat) f (inl s) = inr (
        e,
        among-contains e es a,
        inr (sym (ap (λ (x : Room). x.context) s) ∙ same, ap (λ (d : Context). is_some d.inner) (sym same) ∙ ap (λ o. is_some (slot_of o)) f),
      )
      go (Some seat) f (inr z) = absurd z

  room-context : (room : Room) → Among room (rooms seated) → IsContextOf es room.context
  room-context room (inl s) = inl (sym (ap (λ (x : Room). x.context) s))
  room-context room (inr m) =
      let w = of-flat_map (λ p. outer_room p ++ inner_room p) room seated (each-once-among room (flat_map (λ p. outer_room p ++ inner_room p) seated) m) in
      let v = of-map (placed doc picks) w.0 picks w.1.0 in
      let f = from v.0 v.1.0 in
      by-room room w.0 f.told_is.e f.told_is.known (ap context_of (sym v.1.1) ∙ at-entry v.0 v.1.0 f) (among-split room (outer_room w.0) (inner_room w.0) w.1.1)

  seat-is : (t : Told) (e : Entry) → Tells es invoice.listed t e → seat_of t ≡ seat_of_entry e
  seat-is t e k = λ i. record { term = (ap (λ (x : ParsedValue). x.term) k.parsed) i; context = k.context i }

  abbrev seats_inside : Context → List Seat
  seats_inside c = filter (λ (s : Seat). is_inside c s.context) (map seat_of them)

  -- a test of some seat in a context is one of the entries' seats
  seats-same : (c : Context) (p : Seat → Bool) → list_any p (seats_inside c) ≡ list_any p (seats_in es c)
  seats-same c p = both_ways (list_any p (seats_inside c)) (list_any p (seats_in es c)) there back
    where
      there : list_any p (filter (λ (s : Seat). is_inside c s.context) (map seat_of them)) ≡ true → list_any p (seats_in es c) ≡ true
      there h =
          let w = any-is p (seats_inside c) h in
          let v = of-filter-any (λ (s : Seat). is_inside c s.context) w.0 (map seat_of them) w.1.0 in
          let u = of-map seat_of w.0 them v.0 in
          let k = told-entry law rows es invoice long_paths fine settled plainly money own_money u.0 u.1.0 in
          let same : seat_of_entry k.0 ≡ w.0 = sym (seat-is u.0 k.0 k.1.1) ∙ u.1.1 in
          any-among p w.0 (seats_in es c) w.1.1
          (subst (λ s. Among s (seats_in es c)) same
          (among-map seat_of_entry k.0 (filter (λ (e : Entry). is_inside c e.context) es)
          (among-filter (λ (e : Entry). is_inside c e.context) k.0 es (ap (λ (s : Seat). is_inside c s.context) same ∙ v.1) k.1.0)))

      back : list_any p (seats_in es c) ≡ true → list_any p (filter (λ (s : Seat). is_inside c s.context) (map seat_of them)) ≡ true
      back h =
          let w = any-is p (seats_in es c) h in
          let v = of-map seat_of_entry w.0 (filter (λ (e : Entry). is_inside c e.context) es) w.1.0 in
          let u = of-filter-any (λ (e : Entry). is_inside c e.context) v.0 es v.1.0 in
          let k = entry-told law rows es invoice long_paths fine settled plainly money own_money v.0 u.0 in
          let same : seat_of k.0 ≡ w.0 = seat-is k.0 v.0 k.1.1 ∙ v.1.1 in
          any-among p w.0 (seats_inside c) w.1.1
          (among-filter (λ (s : Seat). is_inside c s.context) w.0 (map seat_of them) (ap (λ (s : Seat). is_inside c s.context) (sym v.1.1) ∙ u.1)
          (subst (λ s. Among s (map seat_of them)) same (among-map seat_of k.0 them k.1.0)))

  nothing-violations : (room : Room) → Among room (rooms seated) → missing_in doc (map seat_of them) room ≡ []
  nothing-violations room a =
      ap (λ o. elim o [ None ↦ [] | Some violation ↦ found (missing_place doc room violation.place) kinds.Missing (name_of violation.fault) room.element ∷ [] ])
      (missing-none (seats_inside room.context) room.context 0 terms (λ k row at.
      let zero_more : 0 + k ≡ k = omega arith in
      ap (λ i. lacking.missing_at (seats_inside room.context) room.context i row) zero_more
      ∙ (missing-same (seats_inside room.context) (seats_in es room.context) (seats-same room.context) room.context k row
      ∙ nothing-missing es lists is_valid room.context (room-context room a) k row at)))

  no-violations : flat_map (missing_in doc (map seat_of them)) (rooms seated) ≡ []
  no-violations = flat_map-none (missing_in doc (map seat_of them)) (rooms seated)
      (each-from (λ room. missing_in doc (map seat_of them) room ≡ []) (rooms seated) nothing-violations)

  -- ---- schemes

  or-true : (b : Bool) → (b || true) ≡ true
  or-true true = refl
  or-true false = refl

  inside-itself : (c : Context) → is_inside c c ≡ true
  inside-itself c = (λ i. (is_none c.outer || same_slot_itself c.outer i) && (is_none c.inner || same_slot_itself c.inner i)) ∙
      (λ i. or-true (is_none c.outer) i && or-true (is_none c.inner) i)

  -- the context of an entry lacks nothing that has to stand there
  needed-stands : (e : Entry) → Among e es → (r : TermRow) → Among r terms → has_context r.group e.context ≡ true →
      is_needed (seats_in es e.context) e.context r ≡ true → lacking.has (seats_in es e.context) e.context r.term ≡ true
  needed-stands e a r b here needed =
      let k = index-of r terms b in
      let none = nothing-missing es lists is_valid e.context (context-of e a) k.0 r k.1 in
      let missing : (if is_missing (seats_in es e.context) e.context r then Some (names.Term r.term) else None) ≡ None =
      sym (ap (λ b. if b then (if is_missing (seats_in es e.context) e.context r then Some (names.Term r.term) else None) else
      (if lacking.lacks_group (seats_in es e.context) e.context k.0 r then Some (names.Group r.group) else None)) here) ∙ none in
      go (lacking.has (seats_in es e.context) e.context r.term)
      (sym (ap (λ b. b && not (lacking.has (seats_in es e.context) e.context r.term)) needed) ∙ not-so (is_missing (seats_in es e.context) e.context r) missing)
    where
      not-so : (b : Bool) → (if b then Some (names.Term r.term) else None) ≡ None → b ≡ false
      not-so true h = absurd (let z : Some (names.Term r.term) ≡ None = h in cc)
      not-so false h = refl

      go : (b : Bool) → not b ≡ false → b ≡ true
      go true h = refl
      go false h = absurd (false≢true (sym h))

  repeated-there : (o : Occurrence) (b : Bool) → is_repeating o ≡ true
      → (elim o [ occurs.Once ↦ None | occurs.AtMostOnce ↦ Some b | occurs.AnyNumber ↦ Some true | occurs.AtLeastOnce ↦ Some true ]) ≡ Some true
  repeated-there occurs.Once b h = absurd (false≢true h)
  repeated-there occurs.AtMostOnce b h = absurd (false≢true h)
  repeated-there occurs.AnyNumber b h = refl
  repeated-there occurs.AtLeastOnce b h = refl

  -- a term that has to stand beside another does
  needed-beside : (term : Term) (e : Entry) → Among e es → e.term ≡ term → (r : TermRow) → is_needed_beside term r ≡ true →
      is_needed (seats_in es e.context) e.context r ≡ true
  needed-beside term e a same r h = go r.mark refl h
    where
      go : (mark : Mark) → r.mark ≡ mark →
          (elim r.mark [ marks.One ↦ is_repeated r.group | marks.Optional ↦ false | marks.After ↦ same_term term (whole_term r.term) ]) ≡ true
          → is_needed (seats_in es e.context) e.context r ≡ true
      go marks.One f k =
          let repeated : is_repeated r.group ≡ true =
          sym (ap (λ m. elim m [ marks.One ↦ is_repeated r.group | marks.Optional ↦ false | marks.After ↦ same_term term (whole_term r.term) ]) f) ∙ k in
          ap (λ m. elim m [
            | marks.One ↦ is_there (seats_in es e.context) r.group
            | marks.Optional ↦ false
            | marks.After ↦ lacking.has (seats_in es e.context) e.context (whole_term r.term)
          ]) f
          ∙ ap (λ d. first_decided
          (d ∷ (lacking.decided (seats_in es e.context)
          (parent_of r.group) ∷ (lacking.decided (seats_in es e.context) (parent_of (parent_of r.group)) ∷ []))))
          (repeated-there (occurrence_of r.group) (lacking.stands (seats_in es e.context) r.group) repeated)
      go marks.Optional f k =
          absurd (false≢true (sym
          (ap (λ m. elim m [ marks.One ↦ is_repeated r.group | marks.Optional ↦ false | marks.After ↦ same_term term (whole_term r.term) ]) f) ∙ k))
      go marks.After f k =
          let after : same_term term (whole_term r.term) ≡ true =
          sym (ap (λ m. elim m [ marks.One ↦ is_repeated r.group | marks.Optional ↦ false | marks.After ↦ same_term term (whole_term r.term) ]) f) ∙ k in
          ap (λ m. elim m [
            | marks.One ↦ is_there (seats_in es e.context) r.group
            | marks.Optional ↦ false
            | marks.After ↦ lacking.has (seats_in es e.context) e.context (whole_term r.term)
          ]) f
          ∙ any-among (lacking.is_at e.context (whole_term r.term)) (seat_of_entry e) (seats_in es e.context)
          ((λ i. same_term (same i) (whole_term r.term) && same_context e.context e.context) ∙ (λ i. after i && same-context-itself e.context i))
          (among-map seat_of_entry e (filter (λ (x : Entry). is_inside e.context x.context) es)
          (among-filter (λ (x : Entry). is_inside e.context x.context) e es (inside-itself e.context) a))

  -- the value of a term that stands in a context
  standing-value : (c : Context) (term : Term) → lacking.has (seats_in es c) c term ≡ true → (v : Value) × (value_in es term c ≡ Some v)
  standing-value c term h =
      let w = any-is (lacking.is_at c term) (seats_in es c) h in
      let u = of-map seat_of_entry w.0 (filter (λ (x : Entry). is_inside c x.context) es) w.1.0 in
      let x : Entry = u.0 in
      let known : Among x es = (of-filter-any (λ (y : Entry). is_inside c y.context) x es u.1.0).0 in
      let at = both-true (same_term x.term term) (same_context x.context c) (ap (lacking.is_at c term) u.1.1 ∙ w.1.1) in
      (x.value, (λ i. value_in es (sym (same_term_is x.term term at.0) i) (sym (context_is x.context c at.1) i)) ∙ own-value es x invoice.listed known)

  needed-value : (part term : Term) (e : Entry) → Among e es → e.term ≡ term →
      is_needed_with part term (slot_group e.context.outer) (slot_group e.context.inner) ≡ true → (v : Value) × (value_in es part e.context ≡ Some v)
  needed-value part term e a same h =
      let w = any-is (λ (r : TermRow). same_term r.term part &&
      (stands_in r.group (slot_group e.context.outer) (slot_group e.context.inner) && is_needed_beside term r)) terms h in
      let r : TermRow = w.0 in
      let u = both-true (same_term r.term part) (stands_in r.group (slot_group e.context.outer) (slot_group e.context.inner) &&
      is_needed_beside term r) w.1.1 in
      let v = both-true (stands_in r.group (slot_group e.context.outer) (slot_group e.context.inner)) (is_needed_beside term r) u.1 in
      let stands : lacking.has (seats_in es e.context) e.context r.term ≡ true = needed-stands e a r w.1.0 v.0 (needed-beside term e a same r v.1) in
      standing-value e.context part (ap (lacking.has (seats_in es e.context) e.context) (sym (same_term_is r.term part u.0)) ∙ stands)

  if-scheme-is : (rule : Written) → is_if_scheme rule ≡ true → rule ≡ written.IfScheme
  if-scheme-is written.IfScheme h = refl
  if-scheme-is written.Always h = absurd (false≢true h)
  if-scheme-is written.Never h = absurd (false≢true h)
  if-scheme-is written.IfIban h = absurd (false≢true h)
  if-scheme-is written.IfNotIban h = absurd (false≢true h)
  if-scheme-is written.IfNoScheme h = absurd (false≢true h)
  if-scheme-is (written.OrPlaceholder placeholder) h = absurd (false≢true h)
  if-scheme-is written.VatTotal h = absurd (false≢true h)
  if-scheme-is written.AccountingVatTotal h = absurd (false≢true h)

  due-value : {X : Type 0} (o : Option X) (text : List ℕ) → is_some (if_so (is_some o) text) ≡ true → (x : X) × (o ≡ Some x)
  due-value None text h = absurd (false≢true h)
  due-value (Some x) text h = (x, refl)

  -- the scheme of what is picked stands
  scheme-value : (pick : Pick) (f : From pick) →
      (is_if_scheme pick.row.written || is_needed_with (scheme_of f.term) f.term pick.row.outer pick.row.inner) ≡ true
      → (v : Value) × (value_in es (scheme_of f.term) f.told_is.e.context ≡ Some v)
  scheme-value pick f h = elim (or-either (is_if_scheme pick.row.written) (is_needed_with (scheme_of f.term) f.term pick.row.outer pick.row.inner) h) [
    | inl k ↦ due-value (value_in es (scheme_of f.term) f.told_is.e.context) (formed (form_for pick.row.form f.term) es f.told_is.e.context f.told_is.e.value)
        (sym (ap (λ rule. is_some (if_due rule es f.term f.told_is.e.context (formed (form_for pick.row.form f.term) es f.told_is.e.context f.told_is.e.value)))
        (if-scheme-is pick.row.written k)) ∙ f.told_is.due)
    | inr k ↦ needed-value (scheme_of f.term) f.term f.told_is.e f.told_is.known f.told_is.term_is
        ((λ i. is_needed_with (scheme_of f.term) f.term ((ap (λ (d : Context). slot_group d.outer) (sym f.told_is.context) ∙ f.told_is.picked.outer) i)
        ((ap (λ (d : Context). slot_group d.inner) (sym f.told_is.context) ∙ f.told_is.picked.inner) i))
        ∙ k)
  ]

  beside-says : (row : Row) (term : Term) (part : Row) → is_scheme_beside (plan_of rows) row term part ≡ true
      → (is_attribute_named scheme_id part.leaf ≡ true) × (is_plain_attribute_in (plan_of rows) part (scheme_of term) row term ≡ true)
  beside-says row term part h = go (has_content (scheme_of term) part.content) h
    where
      go : (b : Bool) → (elim b [
        | true ↦ is_attribute_named scheme_id part.leaf && is_plain_attribute_in (plan_of rows) part (scheme_of term) row term
        | false ↦ false
      ]) ≡ true
          → (is_attribute_named scheme_id part.leaf ≡ true) × (is_plain_attribute_in (plan_of rows) part (scheme_of term) row term ≡ true)
      go true k = both-true (is_attribute_named scheme_id part.leaf) (is_plain_attribute_in (plan_of rows) part (scheme_of term) row term) k
      go false k = absurd (false≢true k)

  attribute-is : (name : List ℕ) (leaf : Leaf) (local : List ℕ) → leaf ≡ leaves.Attribute local → is_attribute_named name leaf ≡ true → name ≡ local
  attribute-is name leaf local e h = (bytes_eq-Decides name local).0 (sym (ap (is_attribute_named name) e) ∙ h)

  -- the element at which something is picked
  element-told : (pick : Pick) (f : From pick) → pick.row.leaf ≡ leaves.Element → IsElementAt pick.row pick
  element-told pick f leaf =
      let place : Place = f.told_is.picked.place in
      let there : Among pick.node (leaves_of doc leaves.Element (last_of place.way)) =
      subst (λ l. Among pick.node (leaves_of doc l (last_of place.way))) leaf f.told_is.leaf in
      let node : last_of place.way ≡ pick.node = only-one (last_of place.way) pick.node
      (of-filter-any (λ n. is_full (string_at doc n)) pick.node (last_of place.way ∷ []) there).0 in
      let at = f.told_is.at in
      record {
        place = place;
        among = f.told_is.picked.among;
        at = at;
        way = f.told_is.picked.elements;
        node = node;
        string = sym (ap (string_at doc) (sym node)
            ∙ (string-is doc at.above (last_of place.way) at.name place.spot.attributes (with_text place.spot.text no_more) at.more at.lies ∙
            text-texts place.spot.text));
      }

  -- the context of what is picked at an element is that of the element
  entry-there : (pick : Pick) (f : From pick) (at : IsElementAt pick.row pick) → groups_of pick.row.path ≡ plain.listed pick.row.outer ++
      plain.listed pick.row.inner → f.told_is.e.context ≡ at.place.spot.context
  entry-there pick f at through =
      sym f.told_is.context
      ∙ (seat-context rows es invoice pick f.told_is.picked through f.cover.nested
      ∙ ap (λ (x : Place). x.spot.context) (same-place rows es pick.row.path f.told_is.picked.place at.place f.told_is.picked.among at.among
      (sym f.told_is.picked.elements ∙ at.way)))

  -- the scheme is written beside it
  scheme-by-part : (pick : Pick) (f : From pick) (part : Row) → Among part rows → is_attribute_named scheme_id part.leaf ≡ true →
      IsPlainAttributeThere rows part (scheme_of f.term) pick.row f.term
      → (v : Value) → value_in es (scheme_of f.term) f.told_is.e.context ≡ Some v → has_attribute doc scheme_id pick.node ≡ true
  scheme-by-part pick f part known named p v value =
      let at = element-told pick f p.beside.leaf in
      let c : Context = f.told_is.e.context in
      let x : Entry = record { context = c; term = scheme_of f.term; value = v } in
      let among : Among x es = at-value law es invoice (scheme_of f.term) c v value in
      let string : List ℕ = formed (form_for part.form (scheme_of f.term)) es c v in
      let strings : values_named scheme_id at.place.spot.attributes ≡ string ∷ [] =
      ap (λ local. values_named local at.place.spot.attributes) (attribute-is scheme_id part.leaf p.local p.leaf named)
      ∙ (part-values law rows es invoice part (scheme_of f.term) pick.row f.term p at.place at.among
      ∙ (ap (λ d. elim (value_in es (scheme_of f.term) d) [ None ↦ [] | Some w ↦ formed (form_for part.form (scheme_of f.term)) es d w ∷ [] ])
      (sym (entry-there pick f at p.beside.through))
      ∙ ap (λ o. elim o [ None ↦ [] | Some w ↦ formed (form_for part.form (scheme_of f.term)) es c w ∷ [] ]) value)) in
      some-attribute at.place at.at scheme_id pick.node at.node is_full
      ∙ (ap (list_any is_full) strings
      ∙ ap (λ b. b || false) (full-string law rows es invoice part (scheme_of f.term) x among refl
      (row-back law rows es invoice long_paths fine settled plainly part known (scheme_of f.term) p.content x among refl)))

  scheme-shown : (pick : Pick) (f : From pick) → pick.row.check ≡ checks.Scheme → has_attribute doc scheme_id pick.node ≡ true
  scheme-shown pick f e =
      let row : Row = pick.row in
      let says : has_scheme_of (plan_of rows) rows row f.term ≡ true =
      sym (ap (λ check. elim check [
        | checks.Scheme ↦ elim row.content [
          | (contents.Term term) ↦ has_scheme_of (plan_of rows) rows row term
          | (contents.Constant text) ↦ true
        ]
        | _ ↦ true
      ]) e
      ∙ ap (λ content. elim content [ (contents.Term term) ↦ has_scheme_of (plan_of rows) rows row term | (contents.Constant text) ↦ true ]) f.cover.content)
      ∙ (fine-row row f.known).scheme in
      let u = both-true (is_if_scheme row.written || is_needed_with (scheme_of f.term) f.term row.outer row.inner)
      (list_any (is_scheme_beside (plan_of rows) row f.term) rows) says in
      let w = any-is (is_scheme_beside (plan_of rows) row f.term) rows u.1 in
      let k = beside-says row f.term w.0 w.1.1 in
      let i = row-at rows w.0 w.1.0 in
      let v = scheme-value pick f u.0 in
      scheme-by-part pick f w.0 w.1.0 k.0 (attribute-by-test rows i.0 f.j w.0 (scheme_of f.term) row f.term long_paths i.1 f.at k.1).there v.0 v.1

  -- ---- formats

  abbrev has_other_format : List ℕ → Bool
  has_other_format text = not (is_blank text) && not (bytes_eq (trimmed text) (codes "102"))

  format-there : (row : Row) (pick : Pick) → IsConstant (rows_at (is_at_attribute format_name) (plan_of rows) row.path)
      (λ text. bytes_eq (trimmed text) (codes "102")) → IsElementAt row pick
      → is_other_format doc pick.node ≡ false
  format-there row pick constant at =
      some-attribute at.place at.at format_name pick.node at.node has_other_format
      ∙ (ap (list_any has_other_format)
      (fact-at law rows es invoice row.path (λ (spot : Spot). values_named format_name spot.attributes ≡ own_strings es spot.context constant.row)
      (own-values format_name refl es constant.row (plan_of rows) row.path false root_context constant.only) at.place at.among
      ∙ ap (λ (x : Content). in_a_list (text_by (row_text constant.row es at.place.spot.context) x)) constant.content)
      ∙ (ap (λ b. (not (is_blank constant.text) && not b) || false) constant.passes ∙ ap (λ b. b || false) (and-false (not (is_blank constant.text)))))

  format-shown : (pick : Pick) (f : From pick) → pick.row.check ≡ checks.Format → is_other_format doc pick.node ≡ false
  format-shown pick f e =
      let row : Row = pick.row in
      let says : (is_element row.leaf && are_format (rows_at (is_at_attribute format_name) (plan_of rows) row.path)) ≡ true =
      sym (ap (λ check. elim check [
        | checks.Format ↦ is_element row.leaf && are_format (rows_at (is_at_attribute format_name) (plan_of rows) row.path)
        | _ ↦ true
      ]) e) ∙ (fine-row row f.known).format in
      let u = both-true (is_element row.leaf) (are_format (rows_at (is_at_attribute format_name) (plan_of rows) row.path)) says in
      format-there row pick
      (constant-row (λ text. bytes_eq (trimmed text) (codes "102")) (rows_at (is_at_attribute format_name) (plan_of rows) row.path) are_format (λ x. refl) refl
      (λ x y ys. refl) u.1)
      (element-told pick f (element-leaf row.leaf u.0))

  -- what reading asks of a value's element is there
  breaks-nothing : (pick : Pick) → From pick → breaks doc pick.row.check pick.node ≡ false
  breaks-nothing pick f = go pick.row.check refl
    where
      go : (check : Check) → pick.row.check ≡ check → breaks doc check pick.node ≡ false
      go checks.Nothing e = refl
      go checks.Scheme e = ap not (scheme-shown pick f e)
      go checks.Format e = format-shown pick f e
      go (checks.Indicator term) e = refl

  -- ---- currencies

  currency-shown : (pick : Pick) (f : From pick) → is_amount_as pick.row.form f.term ≡ true → is_accounting_total pick ≡ false →
      IsOwnCurrency es (amount_currency doc pick.node)
  currency-shown pick f amount first = elim f.cover.total [
    | inl no_total ↦ shown no_total
    | inr t ↦
        let place : Place = f.told_is.picked.place in
        let there : Among pick.node (leaves_of doc leaves.Element (last_of place.way)) =
        subst (λ l. Among pick.node (leaves_of doc l (last_of place.way))) t.leaf f.told_is.leaf in
        subst (IsOwnCurrency es) (sym (amount-of doc es place f.told_is.at pick.node there).0)
        (t.shown (no-accounting pick.row.written first) place f.told_is.picked.among)
  ]
    where
      no-accounting : (rule : Written) → (elim rule [ written.AccountingVatTotal ↦ true | _ ↦ false ]) ≡ false → is_accounting_rule rule ≡ false
      no-accounting written.Always h = refl
      no-accounting written.Never h = refl
      no-accounting written.IfIban h = refl
      no-accounting written.IfNotIban h = refl
      no-accounting written.IfScheme h = refl
      no-accounting written.IfNoScheme h = refl
      no-accounting (written.OrPlaceholder placeholder) h = refl
      no-accounting written.VatTotal h = refl
      no-accounting written.AccountingVatTotal h = h

      shown : is_vat_total pick.row.written ≡ false → IsOwnCurrency es (amount_currency doc pick.node)
      shown no_total =
          let row : Row = pick.row in
          let row_amount : is_amount row ≡ true = ap (λ content. elim (term_in content) [ None ↦ false | Some term ↦ is_amount_as row.form term ])
          f.cover.content ∙ amount in
          let says : shows_currency_there (plan_of rows) row ≡ true =
          sym (ap (λ content. elim content [
            | (contents.Term term) ↦ elim (is_amount row &&
                not (is_vat_total row.written)) [ true ↦ shows_currency_there (plan_of rows) row | false ↦ true ]
            | (contents.Constant text) ↦ true
          ])
          f.cover.content
          ∙ (λ i. elim (row_amount i && not (no_total i)) [ true ↦ shows_currency_there (plan_of rows) row | false ↦ true ]))
          ∙ (fine-row row f.known).currency in
          let u = both-true (is_element row.leaf) _ says in
          let v = both-true (list_all (λ (r : Row). is_in_invoice_currency r.written) (rows_at is_at_element (plan_of rows) row.path))
          (is_no_row (rows_at (is_at_attribute currency_id) (plan_of rows) row.path)) u.1 in
          let at = element-told pick f (element-leaf row.leaf u.0) in
          let strings : List (List ℕ) = values_named currency_id at.place.spot.attributes in
          let shown : Each (IsCurrency es) strings =
          fact-at law rows es invoice row.path (λ (spot : Spot). Each (IsCurrency es) (values_named currency_id spot.attributes))
          (currencies-shown es (plan_of rows) row.path false root_context v.0 v.1) at.place at.among in
          let here : first_full (map trimmed strings) ≡ amount_currency doc pick.node =
          ap (λ l. first_full (map trimmed l)) (sym (place-values at.place at.at currency_id))
          ∙ (ap first_full (map-map trimmed (string_at doc) (attributes_named doc currency_id (last_of at.place.way))) ∙
          ap (λ n. first_full (map (λ m. trimmed (string_at doc m)) (attributes_named doc currency_id n))) at.node) in
          subst (IsOwnCurrency es) here (first-currency es strings shown)

  same-currencies : (a b : Option (List ℕ)) → IsOwnCurrency es a → IsOwnCurrency es b → differs a b ≡ false
  same-currencies a b (inl e) y = ap (λ o. differs o b) e
  same-currencies a b (inr x) (inl f) = ap (differs a) f ∙ ap (λ o. differs o None) x.1.1
  same-currencies a b (inr x) (inr y) =
      (λ i. differs (x.1.1 i) (y.1.1 i))
      ∙ ap not (ap (λ v. bytes_eq (trimmed (spelled x.0)) (trimmed (spelled v))) (same_Some _ _ (sym y.1.0 ∙ x.1.0)) ∙ same-text (trimmed (spelled x.0)))

  not-foreign : (pick : Pick) (f : From pick)
      → (elim (is_amount_as pick.row.form f.term && not (is_accounting_total pick)) [
        | true ↦ differs money.invoice (amount_currency doc pick.node)
        | false ↦ false
      ]) ≡ false
  not-foreign pick f = go (is_amount_as pick.row.form f.term) refl (is_accounting_total pick) refl
    where
      go : (b : Bool) → is_amount_as pick.row.form f.term ≡ b → (x : Bool) → is_accounting_total pick ≡ x →
          (elim (b && not x) [ true ↦ differs money.invoice (amount_currency doc pick.node) | false ↦ false ]) ≡ false
      go true e true first = refl
      go true e false first = same-currencies money.invoice (amount_currency doc pick.node) own_money.0 (currency-shown pick f e first)
      go false e x first = refl

  -- ---- each that is told, by itself

  -- an amount is in its currency, and a subject code is none
  own-currency : (pick : Pick) (f : From pick) (e : Entry) → (e ≡ f.told_is.e) ⊎ ((e.term ≡ subject_code) × (form_for pick.row.form f.term ≡ forms.CodedNote))
      → (elim (is_amount_as pick.row.form e.term && not (is_accounting_total pick)) [
        | true ↦ differs money.invoice (amount_currency doc pick.node)
        | false ↦ false
      ]) ≡ false
  own-currency pick f e (inl s) =
      ap (λ u. elim (is_amount_as pick.row.form u && not (is_accounting_total pick)) [
        | true ↦ differs money.invoice (amount_currency doc pick.node)
        | false ↦ false
      ]) (ap (λ (x : Entry). x.term) s ∙ f.told_is.term_is) ∙ not-foreign pick f
  own-currency pick f e (inr k) =
      ap (λ b. elim (b && not (is_accounting_total pick)) [ true ↦ differs money.invoice (amount_currency doc pick.node) | false ↦ false ])
      (ap (is_amount_as pick.row.form) k.0 ∙ no-code-amount pick.row.form)

  fine-told : (t : Told) → Among t them → IsFine es invoice.listed doc lists money t
  fine-told t a =
      let w = told-by-pick law rows es invoice long_paths fine settled plainly money own_money t a in
      let f : From w.pick = w.from in
      let e : Entry = w.entry in
      subst (IsFine es invoice.listed doc lists money) w.is
      (record {
        inside = none-inside law rows es invoice long_paths fine settled plainly money own_money (placed doc picks w.pick)
            (among-contains (placed doc picks w.pick) seated (among-map (placed doc picks) w.pick picks w.among));
        good = breaks-nothing w.pick f;
        listed = (λ i. is_outside lists (list_of e.term ((at-entry w.pick w.among f ∙ sym w.context) i)) (code_in e.value)) ∙
            all-listed es lists is_valid e w.known (plain_rows.placed-at law es invoice e.term e w.known);
        own = own-currency w.pick f e w.kind;
      })

  -- ---- and beside the others

  abbrev the_told : (pick : Pick) → From pick → Told
  the_told pick f = record { placed = placed doc picks pick; parsed = record { term = f.term; value = Some f.told_is.e.value } }

  abbrev the_code : Pick → Value → Told
  the_code pick code = record { placed = placed doc picks pick; parsed = record { term = subject_code; value = Some code } }

  -- a subject code in front of what the pick says
  record IsCodeOf (pick : Pick) (f : From pick) (t : Told) : Type 0 where
    code : Value
    at : value_in es subject_code f.told_is.e.context ≡ Some code
    form : form_for pick.row.form f.term ≡ forms.CodedNote
    is : record { placed = placed doc picks pick; parsed = record { term = subject_code; value = Some code } } ≡ t

  abbrev IsTheTold : Pick → Told → Type 0
  IsTheTold pick t = Among pick picks × ((f : From pick) × ((the_told pick f ≡ t) ⊎ IsCodeOf pick f t))

  -- a note's term, if a code is in front
  is-note : (pick : Pick) (f : From pick) → form_for pick.row.form f.term ≡ forms.CodedNote → f.term ≡ note
  is-note pick f form = note-term pick.row.form f.term (suits pick.row.form f.term) refl form

  -- a row that writes codes in front leaves their term to no row
  no-code-row : (x y : Pick) (f : From x) (g : From y) → form_for y.row.form g.term ≡ forms.CodedNote → f.term ≡ subject_code → ⊥
  no-code-row x y f g form is =
      false≢true (sym (g.cover.codes form)
      ∙ any-among (has_term subject_code) x.row rows
      (ap (λ content. elim (term_in content) [ None ↦ false | Some u ↦ same_term u subject_code ]) f.cover.content ∙ ap (λ u. same_term u subject_code) is)
      f.known)

  abbrev MayBothHere : Pick → Pick → Type 0
  MayBothHere x y = MayBoth law rows es invoice long_paths fine settled plainly (λ row a. (fine-row row a).once) rows-apart money own_money x y

  fair-picks : (x y : Pick) → Among x picks → Among y picks → (f : From x) (g : From y) → MayBothHere x y →
      IsFair es invoice.listed doc lists money (the_told x f) (the_told y g)
  fair-picks x y a b f g h = record { repeats = repeats; agrees = agrees }
    where
      repeats : is_of_seat (the_told x f) (the_told y g) ≡ true → may_repeat y.row.repeats ≡ true
      repeats same =
          let one = one-seat es invoice.listed (the_told x f) (the_told y g) same in
          (h a b f.term f.cover.content (g.cover.content ∙ ap contents.Term (sym one.term)) one.context).1

      agrees : is_of_seat (the_told x f) (the_told y g) ≡ true → disagree (Some f.told_is.e.value) (Some g.told_is.e.value) ≡ false
      agrees same =
          let one = one-seat es invoice.listed (the_told x f) (the_told y g) same in
          let entry : f.told_is.e ≡ g.told_is.e =
          same-seat es invoice.listed f.told_is.e g.told_is.e f.told_is.known g.told_is.known (f.told_is.term_is ∙ (one.term ∙ sym g.told_is.term_is))
          (sym (at-entry x a f) ∙ (one.context ∙ at-entry y b g)) in
          ap not (ap (λ (z : Entry). same_value f.told_is.e.value z.value) (sym entry) ∙ same-value f.told_is.e.value)

  fair-codes : (x y : Pick) → Among x picks → Among y picks → (f : From x) (g : From y) → MayBothHere x y → (c d : Value) →
      value_in es subject_code f.told_is.e.context ≡ Some c → value_in es subject_code g.told_is.e.context ≡ Some d
      → form_for x.row.form f.term ≡ forms.CodedNote → form_for y.row.form g.term ≡ forms.CodedNote →
      IsFair es invoice.listed doc lists money (the_code x c) (the_code y d)
  fair-codes x y a b f g h c d at there form other = record { repeats = repeats; agrees = agrees }
    where
      repeats : is_of_seat (the_code x c) (the_code y d) ≡ true → may_repeat y.row.repeats ≡ true
      repeats same =
          let one = one-seat es invoice.listed (the_code x c) (the_code y d) same in
          (h a b note (f.cover.content ∙ ap contents.Term (is-note x f form)) (g.cover.content ∙ ap contents.Term (is-note y g other)) one.context).1

      agrees : is_of_seat (the_code x c) (the_code y d) ≡ true → disagree (Some c) (Some d) ≡ false
      agrees same =
          let one = one-seat es invoice.listed (the_code x c) (the_code y d) same in
          let context : f.told_is.e.context ≡ g.told_is.e.context = sym (at-entry x a f) ∙ (one.context ∙ at-entry y b g) in
          ap not (ap (same_value c) (same_Some _ _ (sym there ∙ (ap (value_in es subject_code) (sym context) ∙ at))) ∙ same-value c)

  fair-told : (x y : Pick) (t u : Told) → MayBothHere x y → IsTheTold x t → IsTheTold y u → IsFair es invoice.listed doc lists money t u
  fair-told x y t u h (a, (f, p)) (b, (g, q)) = go p q
    where
      go : (the_told x f ≡ t) ⊎ IsCodeOf x f t → (the_told y g ≡ u) ⊎ IsCodeOf y g u → IsFair es invoice.listed doc lists money t u
      go (inl r) (inl s) = subst (λ z. IsFair es invoice.listed doc lists money z u) r
          (subst (IsFair es invoice.listed doc lists money (the_told x f)) s (fair-picks x y a b f g h))
      go (inl r) (inr k) =
          subst (λ z. IsFair es invoice.listed doc lists money z u) r
          (subst (IsFair es invoice.listed doc lists money (the_told x f)) k.is
          (record {
            repeats = λ same. absurd (no-code-row x y f g k.form (one-seat es invoice.listed (the_told x f) (the_code y k.code) same).term);
            agrees = λ same. absurd (no-code-row x y f g k.form (one-seat es invoice.listed (the_told x f) (the_code y k.code) same).term);
          }))
      go (inr k) (inl s) =
          subst (λ z. IsFair es invoice.listed doc lists money z u) k.is
          (subst (IsFair es invoice.listed doc lists money (the_code x k.code)) s
          (record {
            repeats = λ same. absurd (no-code-row y x g f k.form (sym (one-seat es invoice.listed (the_code x k.code) (the_told y g) same).term));
            agrees = λ same. absurd (no-code-row y x g f k.form (sym (one-seat es invoice.listed (the_code x k.code) (the_told y g) same).term));
          }))
      go (inr k) (inr l) =
          subst (λ z. IsFair es invoice.listed doc lists money z u) k.is
          (subst (IsFair es invoice.listed doc lists money (the_code x k.code)) l.is (fair-codes x y a b f g h k.code l.code k.at l.at k.form l.form))

  abbrev told_at : Pick → List Told
  told_at pick = told_by doc (placed doc picks pick)

  abbrev codes_of : Pick → (f : Form) → Context → List Told
  codes_of pick form c = map (λ s. record { placed = placed doc picks pick; parsed = s }) (code_said form es c)

  told-list : (pick : Pick) (f : From pick) → told_at pick ≡ the_told pick f ∷ codes_of pick (form_for pick.row.form f.term) f.told_is.e.context
  told-list pick f =
      ap (map (λ s. record { placed = placed doc picks pick; parsed = s }))
      (parsed-at law rows es invoice long_paths fine settled plainly money own_money pick f.term
      (record { term = f.term; value = Some f.told_is.e.value } ∷ code_said (form_for pick.row.form f.term) es f.told_is.e.context) f.cover.content
      f.told_is.says)

  -- a note and the code in front of it are of two terms
  fair-code : (pick : Pick) (f : From pick) (code : Value) → form_for pick.row.form f.term ≡ forms.CodedNote →
      IsFair es invoice.listed doc lists money (the_told pick f) (the_code pick code)
  fair-code pick f code form = record { repeats = λ same. absurd (never same); agrees = λ same. absurd (never same) }
    where
      never : is_of_seat (the_told pick f) (the_code pick code) ≡ true → ⊥
      never same = false≢true (ap (same_term note) (sym (one-seat es invoice.listed (the_told pick f) (the_code pick code) same).term ∙ is-note pick f form))

  told-rising : (pick : Pick) → Among pick picks → (f : From pick)
      → Rising (IsFair es invoice.listed doc lists money) (the_told pick f ∷ codes_of pick (form_for pick.row.form f.term) f.told_is.e.context)
      × Each (IsTheTold pick) (the_told pick f ∷ codes_of pick (form_for pick.row.form f.term) f.told_is.e.context)
  told-rising pick a f = go (form_for pick.row.form f.term) refl
    where
      coded : (o : Option Value) → value_in es subject_code f.told_is.e.context ≡ o → form_for pick.row.form f.term ≡ forms.CodedNote
          → Rising (IsFair es invoice.listed doc lists money)
          (the_told pick f ∷ map (λ s. record { placed = placed doc picks pick; parsed = s })
          (elim o [ None ↦ [] | Some code ↦ record { term = subject_code; value = Some code } ∷ [] ]))
          × Each (IsTheTold pick) (the_told pick f ∷ map (λ s. record { placed = placed doc picks pick; parsed = s })
          (elim o [ None ↦ [] | Some code ↦ record { term = subject_code; value = Some code } ∷ [] ]))
      coded None at form = ((tt, tt), ((a, (f, inl refl)), tt))
      coded (Some code) at form = (
        ((fair-code pick f code form, tt), (tt, tt)),
        ((a, (f, inl refl)), ((a, (f, inr (record { code = code; at = at; form = form; is = refl }))), tt)),
      )

      go : (g : Form) → form_for pick.row.form f.term ≡ g
          → Rising (IsFair es invoice.listed doc lists money) (the_told pick f ∷ codes_of pick g f.told_is.e.context) ×
          Each (IsTheTold pick) (the_told pick f ∷ codes_of pick g f.told_is.e.context)
      go forms.Model e = ((tt, tt), ((a, (f, inl refl)), tt))
      go forms.PlainDate e = ((tt, tt), ((a, (f, inl refl)), tt))
      go forms.DueDateTypeCode e = ((tt, tt), ((a, (f, inl refl)), tt))
      go (forms.Typed data_type) e = ((tt, tt), ((a, (f, inl refl)), tt))
      go forms.TypedPlainDate e = ((tt, tt), ((a, (f, inl refl)), tt))
      go forms.CodedNote e = coded (value_in es subject_code f.told_is.e.context) refl e

  all-fair : Rising (IsFair es invoice.listed doc lists money) them
  all-fair =
      subst (Rising (IsFair es invoice.listed doc lists money)) (sym (flat_map-map (told_by doc) (placed doc picks) picks))
      (rising-flat_map MayBothHere (IsFair es invoice.listed doc lists money) IsTheTold told_at fair-told picks
      (picks-rising law rows es invoice long_paths fine settled plainly (λ row a. (fine-row row a).once) rows-apart money own_money)
      (each-from (λ pick. Rising (IsFair es invoice.listed doc lists money) (told_at pick) × Each (IsTheTold pick) (told_at pick)) picks
      (λ pick a. let f = from pick a in
      subst (λ l. Rising (IsFair es invoice.listed doc lists money) l × Each (IsTheTold pick) l) (sym (told-list pick f)) (told-rising pick a f))))

  -- ---- the law

  pub no-fault : all_faults doc lists money rows seated ≡ []
  no-fault =
      (λ i. no-faults es invoice.listed doc lists money [] them fine-told (λ u t a b. absurd a) all-fair i ++ (no-wrong-words i ++ no-violations i))

  pub read-exactly : terms_of doc rows lists ≡ Ok (record { entries = es; passed_over = 0 })
  unfolding terms_of
  read-exactly =
      ap (λ l. elim (least l) [ Some first ↦ Err first.fault | None ↦ Ok (record { entries = entries them; passed_over = passed_over doc rows }) ]) no-fault
      ∙ (λ i. Ok (record {
        entries = entries-read law rows es invoice long_paths fine settled plainly money own_money i;
        passed_over =
            nothing-passed rows es i;
      }))

-- ---- to another table and back

pub converted-exactly : Laws → (first second : List Row) (es : List Entry) (lists : Lists) → IsInvoice es → IsValid es lists
    → All (λ (r : Row). 0 < length r.path) first → first_fault first ≡ Ok tt → is_settled first ≡ true → is_faultless first ≡ true →
    holds_plainly first es ≡ true
    → All (λ (r : Row). 0 < length r.path) second → first_fault second ≡ Ok tt → is_settled second ≡ true → is_faultless second ≡ true →
    holds_plainly second es ≡ true
    → (read : Read) × ((terms_of (document_nodes (document_of first es)) first lists ≡ Ok read)
    × ((again : Read) × ((terms_of (document_nodes (document_of second read.entries)) second lists ≡ Ok again) ×
    ((again.entries ≡ es) × (document_of first again.entries ≡ document_of first es)))))
converted-exactly law first second es lists invoice is_valid paths fine settled faultless plainly other_paths other_fine other_settled other_faultless
    other_plainly =
    let read : Read = record { entries = es; passed_over = 0 } in (
      read,
      (
        read-exactly law first es invoice paths fine settled plainly lists is_valid faultless,
        (read, (read-exactly law second es invoice other_paths other_fine other_settled other_plainly lists is_valid other_faultless, (refl, refl))),
      ),
    )
