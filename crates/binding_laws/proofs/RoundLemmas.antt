-- What is read of the document that an invoice is written as, where plain rows write all its values: the invoice.
use Rattle.std.proofs.Common.{◌≡◌, ℕ, suc, ◌+◌, ◌<◌, Bool, true, false, not, ◌&&◌, ◌||◌, List, [], ◌∷◌, ◌++◌, length, take, map, filter, flat_map, Option, Some}
use Rattle.std.proofs.Common.{None, Result, Ok, Err, ◌⊎◌, inl, inr, All, refl, sym, ap, ◌∙◌, subst, arith}
use Rattle.std.specs.Prelude.{◌==◌, nat_lt, Contains, slice_get, is_some, is_none, option_map}
use Rattle.std.specs.List.{list_all, list_any}
use Rattle.std.specs.Str.{bytes_eq}
use Rattle.std.proofs.lemmas.Bool.{false≢true}
use Rattle.std.proofs.lemmas.Bool.Decides.{nat_tests}
use Rattle.std.proofs.lemmas.Option.{same_Some}
use Rattle.std.proofs.lemmas.Slice.Eq.{bytes_eq-Decides}
use Rattle.std.proofs.lemmas.List.Elements.{All-head, All-tail}
use Rattle.inv_base.specs.Tree.{Node, document_nodes}
use Rattle.term_table.specs.declared.groups.Group.{Group}
use Rattle.term_table.specs.declared.terms.Term.{Term}
use Rattle.term_table.specs.declared.terms.DataType.TheVariants as data_types
use Rattle.term_table.specs.declared.contexts.Context.{Context}
use Rattle.term_table.specs.Contexts.{root_context}
use Rattle.term_table.specs.Groups.{same_group}
use Rattle.term_table.specs.SemanticModel.{same_term, terms, extension_rows, listing_rows}
use Rattle.term_table.specs.Groups.{parent_of, occurrence_of}
use Rattle.term_table.proofs.SeatLemmas.{same_term_is}
use Rattle.term_table.proofs.GroupLemmas.{same_group_itself}
use Rattle.term_table.specs.Rows.{data_type_of}
use Rattle.inv_terms.specs.declared.values.Value.{Value}
use Rattle.inv_terms.specs.declared.entries.Entry.{Entry}
use Rattle.inv_terms.specs.Values.{trimmed, spelled}
use Rattle.inv_terms.specs.Listing.{IsInvoice, Fits, value_in}
use Rattle.bind_rows.specs.declared.names.Leaf.{Leaf}
use Rattle.bind_rows.specs.declared.names.Leaf.TheVariants as leaves
use Rattle.bind_rows.specs.declared.rows.Content.{Content}
use Rattle.bind_rows.specs.declared.rows.Content.TheVariants as contents
use Rattle.bind_rows.specs.declared.rows.Step.{Step}
use Rattle.bind_rows.specs.declared.rows.Row.{Row}
use Rattle.bind_rows.specs.declared.rows.Placeholder.{Placeholder}
use Rattle.bind_rows.specs.declared.rows.Form.{Form}
use Rattle.bind_rows.specs.declared.rows.Form.TheVariants as forms
use Rattle.bind_rows.specs.declared.rows.Written.{Written}
use Rattle.bind_rows.specs.declared.rows.Written.TheVariants as written
use Rattle.bind_rows.specs.Same.{same_or_none, choose}
use Rattle.bind_rows.specs.Added.{is_added}
use Rattle.bind_table.specs.Lines.{plan_of}
use Rattle.bind_table.specs.WellFormed.{depth_of, is_carried, first_fault}
use Rattle.bind_table.specs.Fronts.{HasGroup}
use Rattle.bind_table.proofs.FrontLemmas.{one-element, modelled-row}
use Rattle.bind_meaning.specs.Values.{ParsedValue, parsed, subject_code, note, suits, form_for}
use Rattle.bind_meaning.specs.Elements.{has_element_inside, number, string_at}
use Rattle.bind_meaning.specs.Picks.{Pick, has_term, term_in, has_any_term, Numbered, numbered, rows_where, all_picked, around_last, stands_beside}
use Rattle.bind_meaning.specs.Picks.{is_placeholder}
use Rattle.bind_meaning.specs.Picks.{without_placeholders, last_of, leaves_of, nodes_picked}
use Rattle.bind_meaning.specs.Currencies.{Currencies, currencies, invoice_currency, accounting_currency, first_string, amount_currency, is_in_its_currency}
use Rattle.bind_meaning.specs.Currencies.{in_their_currencies}
use Rattle.bind_meaning.specs.Seats.{Placed, placed, context_of}
use Rattle.code_lists.specs.CodeFiles.{Lists}
use Rattle.bind_meaning.specs.declared.fault.BindFault.{BindFault}
use Rattle.bind_meaning.specs.Judging.{Told, is_of_seat, parsed_by, told_by, Found, least}
use Rattle.bind_meaning.specs.Terms.{term_picks, place_all, told, entries, Read, passed_over, all_faults, terms_of}
use Rattle.bind_meaning.specs.Writing.{context_for, formed, if_so, if_due, row_text, term_text, filled as filled_text}
use Rattle.bind_meaning.specs.Trees.{document_of, constant_or_text, is_vat_total}
use Rattle.binding_laws.specs.Apart.{holds_none}
use Rattle.binding_laws.specs.Plain as plain
use Rattle.binding_laws.specs.Plain.{is_element, groups_of, is_written_by, is_spread, is_spread_in, is_spread_by, is_spread_attribute, is_spread_attribute_in}
use Rattle.binding_laws.specs.Plain.{is_spread_beside, is_plain_in, is_plain, is_plain_by, is_plain_beside, is_plain_attribute, is_plain_attribute_in}
use Rattle.binding_laws.specs.Plain.{is_plain_attribute_with, is_plain_with, is_spread_with, IsPlainThere, IsPlainAttributeThere}
use Rattle.binding_laws.specs.Known.{known_of, is_as_known}
use Rattle.binding_laws.specs.Covered.{is_coded, is_noted_in, is_noted_by, writes_code, code_terms_of, code_terms, is_subject, is_coded_note, is_misread_note}
use Rattle.binding_laws.specs.Covered.{is_coded_row, is_bad_note, is_known_beside, is_known_by, writes_known_beside, writes_known, currency_in}
use Rattle.binding_laws.specs.Covered.{is_or_placeholder}
use Rattle.binding_laws.specs.Covered.{is_filled_in, is_filled_by, is_joined, unjoined_terms, is_like_placeholder, is_unmistaken, is_covered, writes_beside}
use Rattle.binding_laws.specs.Covered.{writes_plainly, is_written_plainly, rows_there, terms_in, beside_placeholder, is_other, left_out, is_left_out, is_bare}
use Rattle.binding_laws.specs.Covered.{is_no_currency, is_settled, holds_plainly, is_read_back, reads_back, is_accounting_rule, accounting_terms}
use Rattle.binding_laws.specs.Covered.{unpaired_terms, is_total_in, is_total_by, is_pair_in, is_pair_by, is_shadowed, currency_text, is_other_text}
use Rattle.binding_laws.specs.Covered.{has_currencies}
use Rattle.binding_laws.specs.Twins.{same_way}
use Rattle.binding_laws.proofs.TreeLemmas.{Each, same-is}
use Rattle.binding_laws.proofs.ListLemmas.{both-true, not-true, or-either}
use Rattle.binding_laws.proofs.ReachLemmas.{Among, among-front, among-back, among-flat_map, among-filter, among-map, any-is, all-is, none-is, any-among}
use Rattle.binding_laws.proofs.FormLemmas.{code-as-it-is, trimmed-as-it-is, Laws, IsRead, code_said, IsNote, note-term, IsBack, of-code-parsed}
use Rattle.binding_laws.proofs.TakenLemmas.{added-typed, none-for-none}
use Rattle.binding_laws.proofs.GoneLemmas.{gone-value}
use Rattle.binding_laws.proofs.RowLemmas.{Place, places_at, IsAt, ArePlaced, placed-known, placed-without, placed-at}
use Rattle.binding_laws.proofs.PlainLemmas as plain_rows
use Rattle.binding_laws.proofs.PlainLemmas.{groups-differ, fits-among, at-value, own-value, written-some}
use Rattle.binding_laws.proofs.PlacedLemmas.{contains-among, among-contains, plain-with-test, plain-by-test, spread-with-test, spread-by-test, IsFilled}
use Rattle.binding_laws.proofs.PlacedLemmas.{filled-by-test, IsTotalRow, accounting-rule-is, noted-by-test, total-by-test, attribute-with-test}
use Rattle.binding_laws.proofs.PlacedLemmas.{attribute-by-test, spread-attribute-by-test}
use Rattle.binding_laws.proofs.KnownLemmas.{Knows}
use Rattle.binding_laws.proofs.AskedLemmas.{knows-asked}
use Rattle.binding_laws.proofs.PassedLemmas.{nothing-passed}
use Rattle.binding_laws.proofs.PlaceLemmas.{of-flat_map, of-map, of-filter-any, upto, has_carrier}
use Rattle.binding_laws.proofs.SeatingLemmas.{IsPicked, AreSeated, context-is}
use Rattle.binding_laws.proofs.EntryLemmas.{Tells, one-seat, same-seat, entries-are}
use Rattle.binding_laws.proofs.InsideLemmas.{placed-inside}
use Rattle.binding_laws.proofs.CurrencyLemmas.{IsOwnCurrency, AreNamed, AreOwn, is_in, not-accounting}
use Rattle.binding_laws.proofs.TotalLemmas.{row-of, amount-of, own-amount}
use Rattle.binding_laws.proofs.TwinLemmas.{same-ways}
use Rattle.binding_laws.proofs.SilentLemmas.{IsQuiet, quiet-picks-nothing}
use Rattle.binding_laws.proofs.CoverLemmas.{plain-writes, spread-writes, attribute-writes, spread-attribute-writes, Absent, no-value, IsKept, IsTotal, HasCodes}
use Rattle.binding_laws.proofs.CoverLemmas.{no-strange, only-own, IsSpreadHere, Covers, plain-covers, spread-known, spread-here, root-entry, root-value}
use Rattle.binding_laws.proofs.CoverLemmas.{spread-covers, attribute-covers, spread-attribute-covers, IsTold, IsNotTold, parsed-as, of-picked, to-picked}
use Rattle.binding_laws.proofs.CoverLemmas.{row-at}
use Rattle.binding_laws.proofs.PlaceholderLemmas.{IsToldPlaceholder, told-by-test, placeholders-not-told}
use Rattle.binding_laws.proofs.BothLemmas.{money-data_type, accounting-data_type, money-form, accounting-form, total-currencies, own-total, no-filled}
use Rattle.binding_laws.proofs.BothLemmas.{pair-of-term}

-- ---- rows of a table

pub numbered-row : (k : ℕ) (rs : List Row) (r : Numbered) → Among r (numbered k rs) → (j : ℕ) × ((slice_get rs j ≡ Some r.row) × Among r.row rs)
numbered-row k [] r a = absurd a
numbered-row k (row ∷ rs) r (inl s) = (0, (ap (λ (x : Numbered). Some x.row) s, inl (ap (λ (x : Numbered). x.row) s)))
numbered-row k (row ∷ rs) r (inr a) = let w = numbered-row (k + 1) rs r a in (suc w.0, (w.1.0, inr w.1.1))

row-numbered : (k : ℕ) (rs : List Row) (row : Row) → Among row rs → (n : ℕ) × Among (record { place = n; row = row }) (numbered k rs)
row-numbered k [] row a = absurd a
row-numbered k (r ∷ rs) row (inl s) = (k, inl (ap (λ x. record { place = k; row = x }) s))
row-numbered k (r ∷ rs) row (inr a) = let w = row-numbered (k + 1) rs row a in (w.0, inr w.1)

long-path : (rs : List Row) (row : Row) → All (λ (r : Row). 0 < length r.path) rs → Among row rs → 0 < length row.path
long-path [] row h a = absurd a
long-path (r ∷ rs) row h (inl s) = subst (λ (x : Row). 0 < length x.path) s (All-head (λ (x : Row). 0 < length x.path) r rs h)
long-path (r ∷ rs) row h (inr a) = long-path rs row (All-tail (λ (x : Row). 0 < length x.path) r rs h) a

first-step : (path : List Step) → 0 < length path → (s : Step) × ((us : List Step) × (path ≡ s ∷ us))
first-step [] h = absurd (omega (arith, h))
first-step (s ∷ us) h = (s, (us, refl))

-- ---- the group on a path

has-of-group : (g : Group) (path : List Step) → Among g (groups_of path) → has_carrier g path ≡ true
has-of-group g [] a = absurd a
has-of-group g (s ∷ path) a = go (has-of-group g path) s.group a
  where
    go : (Among g (groups_of path) → has_carrier g path ≡ true) → (o : Option Group) →
        Among g (elim o [ None ↦ groups_of path | Some group ↦ group ∷ groups_of path ])
        → (elim (same_or_none o (Some g)) [ true ↦ true | false ↦ has_carrier g path ]) ≡ true
    go later None b = later b
    go later (Some f) (inl e) = ap (λ b. elim b [ true ↦ true | false ↦ has_carrier g path ]) (ap (λ x. same_group x g) e ∙ same_group_itself g)
    go later (Some f) (inr b) = either (same_group f g) (later b)
      where
        either : (x : Bool) → has_carrier g path ≡ true → (elim x [ true ↦ true | false ↦ has_carrier g path ]) ≡ true
        either true k = refl
        either false k = k

carried-if : (g : Group) (path : List Step) → has_carrier g path ≡ true → nat_lt (depth_of g path) (length path) ≡ true
carried-if g [] h = absurd (false≢true h)
carried-if g (s ∷ path) h = go (carried-if g path) (same_or_none s.group (Some g)) h
  where
    go : (has_carrier g path ≡ true → nat_lt (depth_of g path) (length path) ≡ true) → (b : Bool) → (elim b [ true ↦ true | false ↦ has_carrier g path ]) ≡ true
        → nat_lt (choose b (λ _. 0) (λ _. 1 + depth_of g path)) (length (s ∷ path)) ≡ true
    go later true k = let z : nat_lt 0 (suc (length path)) ≡ true = grind (arith, nat_tests) in z
    go later false k =
        let l = later k in
        let m : depth_of g path < length path = grind (arith, nat_tests, l) in
        let z : nat_lt (1 + depth_of g path) (suc (length path)) ≡ true = grind (arith, nat_tests, m) in z

upto-front : (g : Group) (path : List Step) → upto g path ≡ take (depth_of g path + 1) path
upto-front g [] = refl
upto-front g (s ∷ path) = go (upto-front g path) (same_or_none s.group (Some g))
  where
    go : upto g path ≡ take (depth_of g path + 1) path → (b : Bool) →
        s ∷ (elim b [ true ↦ [] | false ↦ upto g path ]) ≡ take (choose b (λ _. 0) (λ _. 1 + depth_of g path) + 1) (s ∷ path)
    go e true = refl
    go e false = ap (λ l. s ∷ l) e ∙ ap (λ n. take n (s ∷ path)) (let z : suc (depth_of g path + 1) ≡ 1 + depth_of g path + 1 = omega arith in z)

-- ---- placeholders and totals

not-placeholder : (rule : Written) (X : Placeholder → Bool) → ((placeholder : Placeholder) → rule ≡ written.OrPlaceholder placeholder → X placeholder ≡ false) →
    (elim rule [ (written.OrPlaceholder placeholder) ↦ X placeholder | _ ↦ false ]) ≡ false
not-placeholder written.Always X h = refl
not-placeholder written.Never X h = refl
not-placeholder written.IfIban X h = refl
not-placeholder written.IfNotIban X h = refl
not-placeholder written.IfScheme X h = refl
not-placeholder written.IfNoScheme X h = refl
not-placeholder (written.OrPlaceholder placeholder) X h = h placeholder refl
not-placeholder written.VatTotal X h = refl
not-placeholder written.AccountingVatTotal X h = refl

in-currency : (rule : Written) (x y : Bool) → is_vat_total rule ≡ false →
    (elim rule [ written.VatTotal ↦ x | written.AccountingVatTotal ↦ y | _ ↦ true ]) ≡ true
in-currency written.Always x y h = refl
in-currency written.Never x y h = refl
in-currency written.IfIban x y h = refl
in-currency written.IfNotIban x y h = refl
in-currency written.IfScheme x y h = refl
in-currency written.IfNoScheme x y h = refl
in-currency (written.OrPlaceholder placeholder) x y h = refl
in-currency written.VatTotal x y h = absurd (false≢true (sym h))
in-currency written.AccountingVatTotal x y h = absurd (false≢true (sym h))

-- ---- the law

module _ (law : Laws) (rows : List Row) (es : List Entry) (invoice : IsInvoice es) (long_paths : All (λ (r : Row). 0 < length r.path) rows)
    (fine : first_fault rows ≡ Ok tt) (settled : is_settled rows ≡ true)
    (plainly : holds_plainly rows es ≡ true) where
  record IsHeld (e : Entry) : Type 0 where
    kept : not (is_left_out rows e.term) ≡ true
    back : reads_back rows e ≡ true
    written_so : is_written_plainly rows es e ≡ true

  held : (e : Entry) → Among e es → IsHeld e
  held e a =
      let w = both-true (not (is_left_out rows e.term)) (reads_back rows e && is_written_plainly rows es e)
      (all-is (λ (x : Entry). not (is_left_out rows x.term) && (reads_back rows x && is_written_plainly rows es x)) es e
      (both-true (list_all (λ (x : Entry). not (is_left_out rows x.term) && (reads_back rows x && is_written_plainly rows es x)) es) _ plainly).0 a) in
      let v = both-true (reads_back rows e) (is_written_plainly rows es e) w.1 in
      record { kept = w.0; back = v.0; written_so = v.1 }

  -- what is held of the invoice beside that
  others-held : (has_currencies rows es && list_all (is_unmistaken (plan_of rows) rows es) es) ≡ true
  others-held = (both-true (list_all (λ (x : Entry). not (is_left_out rows x.term) && (reads_back rows x && is_written_plainly rows es x)) es) _ plainly).1

  unmistaken : (e : Entry) → Among e es → (not (list_any (is_like_placeholder (plan_of rows) rows es e) rows) ≡ true) ×
      ((is_as_known (known_of rows) es e && not (is_bad_note rows es e)) ≡ true)
  unmistaken e a =
      both-true (not (list_any (is_like_placeholder (plan_of rows) rows es e) rows)) (is_as_known (known_of rows) es e && not (is_bad_note rows es e))
      (all-is (is_unmistaken (plan_of rows) rows es) es e (both-true (has_currencies rows es) _ others-held).1 a)

  -- what is asked of the invoice is known of it
  knows : Knows (known_of rows) es root_context
  knows = knows-asked law rows es invoice (λ e a. (both-true (is_as_known (known_of rows) es e) (not (is_bad_note rows es e)) (unmistaken e a).1).0)

  abbrev all_nodes : List Node
  all_nodes = document_nodes (document_of rows es)

  left-unsaid : (term : Term) → Among term (left_out rows) → (e : Entry) → Among e es → same_term e.term term ≡ false
  left-unsaid term a e b = none-is (same_term e.term) (left_out rows) term (not-true (is_left_out rows e.term) (held e b).kept) a

  -- notes and subject codes are read as they are, where a row writes the ones behind the others
  good-note : (row : Row) → Among row rows → (term : Term) → row.content ≡ contents.Term term → form_for row.form term ≡ forms.CodedNote → (e : Entry) →
      Among e es → e.term ≡ term → IsNote es e.context e.value
  good-note row a term content form e known is = by-code (value_in es subject_code e.context) refl
    where
      some-coded : list_any is_coded_row rows ≡ true
      some-coded = any-among is_coded_row row rows
          (ap (λ x. elim x [ (contents.Term u) ↦ is_coded (form_for row.form u) | (contents.Constant text) ↦ false ]) content ∙ ap is_coded form) a

      not-misread : (x : Entry) → Among x es → is_misread_note es x ≡ false
      not-misread x b =
          ap (λ b. b && is_misread_note es x) (sym some-coded)
          ∙ not-true (is_bad_note rows es x) (both-true (is_as_known (known_of rows) es x) (not (is_bad_note rows es x)) (unmistaken x b).1).1

      is-note : same_term e.term note ≡ true
      is-note = ap (λ t. same_term t note) (is ∙ note-term row.form term (suits row.form term) refl form)

      either-false : (a b : Bool) → (a || b) ≡ false → (a ≡ false) × (b ≡ false)
      either-false true b h = absurd (false≢true (sym h))
      either-false false b h = (refl, h)

      by-code : (o : Option Value) → value_in es subject_code e.context ≡ o → IsNote es e.context e.value
      by-code None none = inl (
        none,
        (λ i. sym is-note i && (is_none (sym none i) && is_coded_note (spelled e.value)))
            ∙ (either-false (same_term e.term subject_code && not (is_subject (spelled e.value)))
            (same_term e.term note && (is_none (value_in es subject_code e.context) && is_coded_note (spelled e.value))) (not-misread e known)).1,
      )
      by-code (Some code) at =
          let x : Entry = record { context = e.context; term = subject_code; value = code } in
          let x_known = at-value law es invoice subject_code e.context code at in
          inr (
            code,
            (
              at,
              (
                is-true (is_subject (spelled code))
                    (either-false (not (is_subject (spelled code)))
                    (same_term subject_code note && (is_none (value_in es subject_code e.context) && is_coded_note (spelled code))) (not-misread x x_known)).0,
                fits-among law es invoice subject_code x es invoice.fit x_known,
              ),
            ),
          )
        where
          is-true : (b : Bool) → not b ≡ false → b ≡ true
          is-true true h = refl
          is-true false h = absurd (false≢true (sym h))

  -- the term of a row is one of the semantic model, or a user added the row, whose form has a type
  row-read : (row : Row) → Among row rows → (term : Term) → row.content ≡ contents.Term term → IsRead row.form term
  row-read row a term content = go (is_added row) refl
    where
      go : (b : Bool) → is_added row ≡ b → IsRead row.form term
      go false e = let w = row-at rows row a in inl (modelled-row rows w.0 row term fine w.1 e content)
      go true e = inr (added-typed row term content e)

  -- a row reads back what it writes of an entry of its term
  pub row-back : (row : Row) → Among row rows → (term : Term) → row.content ≡ contents.Term term → (e : Entry) → Among e es → e.term ≡ term →
      IsBack es (form_for row.form term) e.context e.value
  row-back row a term content e b t =
      let here = all-is (λ (r : Row). not (has_term e.term r) || is_read_back (form_for r.form e.term) e.value) rows row (held e b).back a in
      let has : has_term e.term row ≡ true = ap (λ x. elim (term_in x) [ None ↦ false | Some u ↦ same_term u e.term ]) content ∙
      (ap (λ u. same_term u e.term) (sym t) ∙ same-term-itself e.term) in (
        subst (λ u. is_read_back (form_for row.form u) e.value ≡ true) t (sym (ap (λ b. not b || is_read_back (form_for row.form e.term) e.value) has) ∙ here),
        λ form. good-note row a term content form e b t,
      )
    where
      same-term-itself : (u : Term) → same_term u u ≡ true
      same-term-itself u = grind (arith, nat_tests)

  placeholder-term : (row : Row) → Among row rows → (placeholder : Placeholder) → row.written ≡ written.OrPlaceholder placeholder
      → Among placeholder.beside (flat_map beside_placeholder rows)
  placeholder-term row a placeholder e = among-flat_map beside_placeholder row placeholder.beside rows a
      (subst (λ rule. Among placeholder.beside (elim rule [ (written.OrPlaceholder f) ↦ f.beside ∷ [] | _ ↦ [] ])) (sym e) (inl refl))

  -- the term beside a placeholder is left out, where that isn't told from values
  beside-left : (row : Row) → Among row rows → (placeholder : Placeholder) → row.written ≡ written.OrPlaceholder placeholder
      → is_joined (plan_of rows) rows row ≡ false →
      Absent es placeholder.beside
  beside-left row a placeholder e apart =
      left-unsaid placeholder.beside
      (among-back placeholder.beside (flat_map (λ (x : Row). flat_map terms_in (rows_there (plan_of rows) x)) (filter (is_other (plan_of rows) rows) rows))
      (unjoined_terms (plan_of rows) rows ++ unpaired_terms (plan_of rows) rows)
      (among-front placeholder.beside (unjoined_terms (plan_of rows) rows) (unpaired_terms (plan_of rows) rows)
      (among-flat_map (λ (x : Row). elim (is_joined (plan_of rows) rows x) [ true ↦ [] | false ↦ beside_placeholder x ]) row placeholder.beside rows a
      (subst (λ b. Among placeholder.beside (elim b [ true ↦ [] | false ↦ beside_placeholder row ])) (sym apart)
      (subst (λ rule. Among placeholder.beside (elim rule [ (written.OrPlaceholder f) ↦ f.beside ∷ [] | _ ↦ [] ])) (sym e) (inl refl))))))

  -- no term of a VAT total in accounting currency whose row isn't covered stands in the invoice
  unheld : holds_none (unpaired_terms (plan_of rows) rows) es ≡ true
  unheld = all-from es (λ e a. none e a (list_any (same_term e.term) (unpaired_terms (plan_of rows) rows)) refl)
    where
      all-from : (xs : List Entry) → ((e : Entry) → Among e xs → not (list_any (same_term e.term) (unpaired_terms (plan_of rows) rows)) ≡ true) →
          holds_none (unpaired_terms (plan_of rows) rows) xs ≡ true
      all-from [] f = refl
      all-from (e ∷ xs) f = (λ i. f e (inl refl) i && all-from xs (λ x a. f x (inr a)) i)

      none : (e : Entry) → Among e es → (b : Bool) → list_any (same_term e.term) (unpaired_terms (plan_of rows) rows) ≡ b → not b ≡ true
      none e a false k = refl
      none e a true k =
          let w = any-is (same_term e.term) (unpaired_terms (plan_of rows) rows) k in
          absurd (false≢true (sym (left-unsaid w.0
          (among-back w.0 (flat_map (λ (x : Row). flat_map terms_in (rows_there (plan_of rows) x)) (filter (is_other (plan_of rows) rows) rows))
          (unjoined_terms (plan_of rows) rows ++ unpaired_terms (plan_of rows) rows)
          (among-back w.0 (unjoined_terms (plan_of rows) rows) (unpaired_terms (plan_of rows) rows) w.1.0)) e a) ∙ w.1.1))

  total-placed : (row : Row) (term : Term) → IsTotalRow rows row term →
      ArePlaced (document_nodes (document_of rows es)) es row.path (places_at rows es row.path)
  total-placed row term p = placed-without (unpaired_terms (plan_of rows) rows) rows es row.path unheld p.there.apart

  total-here : (row : Row) (term : Term) → IsTotalRow rows row term → IsSpreadHere law rows es invoice row term
  total-here row term p = record {
    front = [];
    back = [];
    placed = only-own law rows es invoice row.path (places_at rows es row.path) (total-placed row term p);
    strange = no-strange law rows es invoice row;
    own = p.there.own;
    leaf = p.there.leaf;
    content = p.there.content;
    form = p.there.form;
    total = inr (own-total law rows es invoice row (unpaired_terms (plan_of rows) rows) term p.rule p.there);
    unfilled = λ placeholder e. inl (no-filled law rows es invoice row (ap is_or_placeholder p.rule) placeholder e);
    outer = p.there.outer;
    inner = p.there.inner;
    context = p.there.context;
  }

  -- the two currencies differ, where a VAT total in accounting currency stands
  currencies-differ : holds_none (accounting_terms rows) es ≡ false →
      is_other_text (currency_text es invoice_currency) (currency_text es accounting_currency) ≡ true
  currencies-differ some =
      let h = (both-true (has_currencies rows es) (list_all (is_unmistaken (plan_of rows) rows es) es) others-held).0 in
      go (value_in es invoice_currency root_context) refl (value_in es accounting_currency root_context) refl
      (sym (ap (λ b. b || is_other_text (currency_in es invoice_currency) (currency_in es accounting_currency)) some) ∙ h)
    where
      as-it-is : (money : Term) → data_type_of money ≡ Some data_types.C → (v : Value) → value_in es money root_context ≡ Some v → trimmed (spelled v)
          ≡ spelled v
      as-it-is money data_type v e = code-as-it-is law money v data_type
          (fits-among law es invoice money (record { context = root_context; term = money; value = v }) es invoice.fit
          (at-value law es invoice money root_context v e))

      go : (a : Option Value) → value_in es invoice_currency root_context ≡ a → (b : Option Value) → value_in es accounting_currency root_context ≡ b →
          is_other_text (option_map spelled a) (option_map spelled b) ≡ true
          → is_other_text (option_map (λ (value : Value). trimmed (spelled value)) a) (option_map (λ (value : Value). trimmed (spelled value)) b) ≡ true
      go None e b f k = absurd (false≢true k)
      go (Some v) e None f k = absurd (false≢true k)
      go (Some v) e (Some w) f k = (λ i. not (bytes_eq (as-it-is invoice_currency money-data_type v e i) (as-it-is accounting_currency accounting-data_type w
          f i))) ∙
          k

  -- whether the placeholder of a row stands in place of a value
  abbrev IsUnfilled : Row → Term → Type 0
  IsUnfilled row term = (placeholder : Placeholder) → row.written ≡ written.OrPlaceholder placeholder
      → Absent es placeholder.beside ⊎ IsKept law rows es invoice row term placeholder

  -- where the value stands, it isn't the placeholder
  not-the-placeholder : (row : Row) → Among row rows → (term : Term) (placeholder : Placeholder) → row.written ≡ written.OrPlaceholder placeholder →
      is_joined (plan_of rows) rows row ≡ true → IsToldPlaceholder rows row term placeholder → row.content ≡ contents.Term term
      → plain.stands_there term None None ≡ true → (x : Entry) → Among x es → x.term ≡ placeholder.beside → (e : Entry) → Among e es → e.term ≡ term →
      bytes_eq (trimmed (formed (form_for row.form term) es e.context e.value)) placeholder.text ≡ false
  not-the-placeholder row a term placeholder rule joined t content alone x x_known x_is e e_known e_is =
      ap (λ form. bytes_eq (trimmed (formed form es e.context e.value)) placeholder.text) t.model
      ∙ (ap (λ s. bytes_eq s placeholder.text) (trimmed-as-it-is law term e.value t.data_type
      (subst (λ u. Fits u e.value) e_is (fits-among law es invoice e.term e es invoice.fit e_known))) ∙
      turned (bytes_eq placeholder.text (spelled e.value)) refl)
    where
      none : is_like_placeholder (plan_of rows) rows es e row ≡ false
      none = none-is (is_like_placeholder (plan_of rows) rows es e) rows row
          (not-true (list_any (is_like_placeholder (plan_of rows) rows es e) rows) (unmistaken e e_known).0) a

      root : e.context ≡ root_context
      root = root-entry law rows es invoice term alone e e_known e_is

      x_root : x.context ≡ root_context
      x_root = root-entry law rows es invoice placeholder.beside t.spread.context x x_known x_is

      stands : is_some (value_in es placeholder.beside e.context) ≡ true
      stands = ap (λ c. is_some (value_in es placeholder.beside c)) root ∙ ap is_some (root-value law rows es invoice x x_known x_root placeholder.beside x_is)

      has : has_term e.term row ≡ true
      has = ap (λ y. elim (term_in y) [ None ↦ false | Some u ↦ same_term u e.term ]) content ∙
          (ap (λ u. same_term u e.term) (sym e_is) ∙ same-term-itself e.term)
        where
          same-term-itself : (u : Term) → same_term u u ≡ true
          same-term-itself u = grind (arith, nat_tests)

      says : (b : Bool) → bytes_eq placeholder.text (spelled e.value) ≡ b → is_like_placeholder (plan_of rows) rows es e row ≡ b
      says b same =
          ap (λ r. elim r [
            | (written.OrPlaceholder f) ↦ is_joined (plan_of rows) rows row &&
                (has_term e.term row && (bytes_eq f.text (spelled e.value) && is_some (value_in es f.beside e.context)))
            | _ ↦ false
          ]) rule
          ∙ ((λ i. joined i && (has i && (same i && stands i))) ∙ and-true b)
        where
          and-true : (b : Bool) → (b && true) ≡ b
          and-true true = refl
          and-true false = refl

      turned : (b : Bool) → bytes_eq placeholder.text (spelled e.value) ≡ b → bytes_eq (spelled e.value) placeholder.text ≡ false
      turned true same = absurd (false≢true (sym none ∙ says true same))
      turned false same = not-so (bytes_eq (spelled e.value) placeholder.text) refl
        where
          not-so : (b : Bool) → bytes_eq (spelled e.value) placeholder.text ≡ b → b ≡ false
          not-so false k = refl
          not-so true k = absurd (false≢true (sym same ∙
              (bytes_eq-Decides placeholder.text (spelled e.value)).1 (sym ((bytes_eq-Decides (spelled e.value) placeholder.text).0 k))))

  -- where the value stands, or no term beside its placeholder
  kept-or-absent : (row : Row) → Among row rows → (term : Term) → IsFilled rows row term → is_some (value_in es term root_context) ≡ true → IsUnfilled row term
  kept-or-absent row a term p stands placeholder rule = go (list_any (λ (x : Entry). same_term x.term placeholder.beside) es) refl
      (is_joined (plan_of rows) rows row) refl
    where
      go : (b : Bool) → list_any (λ (x : Entry). same_term x.term placeholder.beside) es ≡ b → (d : Bool) → is_joined (plan_of rows) rows row ≡ d →
          Absent es placeholder.beside ⊎ IsKept law rows es invoice row term placeholder
      go false none d f = inl (λ e known. none-is (λ (x : Entry). same_term x.term placeholder.beside) es e none known)
      go true some false f = inl (beside-left row a placeholder rule f)
      go true some true f =
          let w = any-is (λ (x : Entry). same_term x.term placeholder.beside) es some in
          let t = told-by-test rows row term placeholder long_paths p.content rule f in
          inr (record {
            stands = stands;
            other = not-the-placeholder row a term placeholder rule f t p.content p.context w.0 w.1.0
                (same_term_is w.0.term placeholder.beside w.1.1);
          })

  filled-here : (row : Row) (term : Term) → IsFilled rows row term → IsUnfilled row term → IsSpreadHere law rows es invoice row term
  filled-here row term p unfilled = record {
    front = [];
    back = [];
    placed = only-own law rows es invoice row.path (places_at rows es row.path) (placed-at rows es row.path p.apart);
    strange = no-strange law rows es invoice row;
    own = p.own;
    leaf = p.leaf;
    content = p.content;
    form = p.form;
    total = inl (not-total row.written p.placeholder);
    unfilled = unfilled;
    outer = p.outer;
    inner = p.inner;
    context = p.context;
  }
    where
      not-total : (rule : Written) → is_or_placeholder rule ≡ true → is_vat_total rule ≡ false
      not-total written.Always h = refl
      not-total written.Never h = refl
      not-total written.IfIban h = refl
      not-total written.IfNotIban h = refl
      not-total written.IfScheme h = refl
      not-total written.IfNoScheme h = refl
      not-total (written.OrPlaceholder placeholder) h = refl
      not-total written.VatTotal h = absurd (false≢true h)
      not-total written.AccountingVatTotal h = absurd (false≢true h)

  -- a row that writes values whole, writes no codes in front
  no-codes : (row : Row) (term : Term) → plain.is_whole (form_for row.form term) ≡ true → HasCodes law rows es invoice row term
  no-codes row term whole e = absurd (false≢true (sym (ap plain.is_whole e) ∙ whole))

  pub record HasCover (row : Row) : Type 0 where
    pub term : Term
    pub cover : Covers law rows es invoice row term

  -- a row of which nothing is told
  abbrev pub NoneTold : Row → Type 0
  NoneTold row = (k : ℕ) (pick : Pick) → Among pick (nodes_picked (document_nodes (document_of rows es)) k row) → IsNotTold law rows es invoice pick

  -- a row that has a placeholder: what it picks is of its term, or the placeholder
  filled-row : (row : Row) → Among row rows → (term : Term) → IsFilled rows row term → HasCover row ⊎ NoneTold row
  filled-row row a term p = by-value (value_in es term root_context) refl
    where
      covers : IsUnfilled row term → HasCover row ⊎ NoneTold row
      covers unfilled = inl (record { term = term; cover = spread-covers law rows es invoice row term (filled-here row term p unfilled) })

      placeholder-of : (rule : Written) → is_or_placeholder rule ≡ true → (placeholder : Placeholder) × (rule ≡ written.OrPlaceholder placeholder)
      placeholder-of written.Always h = absurd (false≢true h)
      placeholder-of written.Never h = absurd (false≢true h)
      placeholder-of written.IfIban h = absurd (false≢true h)
      placeholder-of written.IfNotIban h = absurd (false≢true h)
      placeholder-of written.IfScheme h = absurd (false≢true h)
      placeholder-of written.IfNoScheme h = absurd (false≢true h)
      placeholder-of (written.OrPlaceholder placeholder) h = (placeholder, refl)
      placeholder-of written.VatTotal h = absurd (false≢true h)
      placeholder-of written.AccountingVatTotal h = absurd (false≢true h)

      same-placeholder : (f g : Placeholder) → row.written ≡ written.OrPlaceholder f → row.written ≡ written.OrPlaceholder g → f ≡ g
      same-placeholder f g x y = let z : written.OrPlaceholder f ≡ written.OrPlaceholder g = sym x ∙ y in cc

      only : (placeholder : Placeholder) → row.written ≡ written.OrPlaceholder placeholder → Absent es placeholder.beside → IsUnfilled row term
      only placeholder rule absent f e = inl (subst (λ (x : Placeholder). Absent es x.beside) (same-placeholder placeholder f rule e) absent)

      by-placeholder : value_in es term root_context ≡ None → (placeholder : Placeholder) → row.written ≡ written.OrPlaceholder placeholder → (b : Bool) →
          list_any (λ (x : Entry). same_term x.term placeholder.beside) es ≡ b → (d : Bool) → is_joined (plan_of rows) rows row ≡ d
          → HasCover row ⊎ NoneTold row
      by-placeholder none placeholder rule false e d f = covers (only placeholder rule (λ x known. none-is (λ (y : Entry). same_term y.term
          placeholder.beside) es x e known))
      by-placeholder none placeholder rule true e false f = covers (only placeholder rule (beside-left row a placeholder rule f))
      by-placeholder none placeholder rule true e true f =
          let w = any-is (λ (x : Entry). same_term x.term placeholder.beside) es e in
          let t = told-by-test rows row term placeholder long_paths p.content rule f in
          let is : w.0.term ≡ placeholder.beside = same_term_is w.0.term placeholder.beside w.1.1 in
          inr (placeholders-not-told law rows es invoice row term placeholder p rule t w.0 w.1.0 is (row-back t.other t.among placeholder.beside
          t.spread.content w.0 w.1.0 is)
          (row-numbered 1 rows t.other t.among) none)

      by-value : (o : Option Value) → value_in es term root_context ≡ o → HasCover row ⊎ NoneTold row
      by-value (Some v) e = covers (kept-or-absent row a term p (ap is_some e))
      by-value None e = let w = placeholder-of row.written p.placeholder in by-placeholder e w.0 w.1 (list_any (λ (x : Entry). same_term x.term w.0.beside)
          es) refl
          (is_joined (plan_of rows) rows row) refl

  pub covered-row : (row : Row) → Among row rows → is_covered rows row ≡ true → HasCover row ⊎ NoneTold row
  covered-row row a h = elim (or-either (is_plain_by (plan_of rows) row) _ h) [
    | inl k ↦ inl (by-plain row.content refl k)
    | inr m ↦ elim (or-either (is_spread_by (plan_of rows) row) _ m) [
      | inl k ↦ inl (by-spread row.content refl k)
      | inr n ↦ elim (or-either (list_any (is_plain_beside (plan_of rows) row) rows) _ n) [
        | inl k ↦ let w = any-is (is_plain_beside (plan_of rows) row) rows k in inl (by-part w.0 w.1.0 row.content refl w.0.content refl w.1.1)
        | inr o ↦ elim (or-either (list_any (is_spread_beside (plan_of rows) row) rows) _ o) [
          | inl k ↦ let w = any-is (is_spread_beside (plan_of rows) row) rows k in inl (by-spread-part w.0 w.1.0 row.content refl w.0.content refl w.1.1)
          | inr q ↦ elim (or-either (is_filled_by (plan_of rows) row) _ q) [
            | inl k ↦ by-filled row.content refl k
            | inr u ↦ elim (or-either (is_total_by (plan_of rows) rows row) _ u) [
              | inl k ↦ inl (by-total row.content refl k)
              | inr v ↦ elim (or-either (is_pair_by (plan_of rows) rows row) _ v) [
                | inl k ↦ inl (by-pair row.content refl k)
                | inr w ↦ elim (or-either (is_known_by (known_of rows) (plan_of rows) rows row) (is_noted_by (plan_of rows) rows row) w) [
                  | inl k ↦ inl (by-known row.content refl k)
                  | inr k ↦ inl (by-noted row.content refl k)
                ]
              ]
            ]
          ]
        ]
      ]
    ]
  ]
    where
      by-plain : (content : Content) → row.content ≡ content →
          (elim content [ (contents.Term term) ↦ is_plain_in (plan_of rows) row term | (contents.Constant text) ↦ false ]) ≡ true → HasCover row
      by-plain (contents.Term term) e k =
          let at = row-at rows row a in
          let p = plain-by-test rows at.0 row term long_paths at.1 k in
          record { term = term; cover = plain-covers law rows es invoice row term p.there (placed-at rows es row.path p.apart) (no-codes row term p.form) }
      by-plain (contents.Constant text) e k = absurd (false≢true k)

      by-spread : (content : Content) → row.content ≡ content →
          (elim content [ (contents.Term term) ↦ is_spread_in (plan_of rows) row term | (contents.Constant text) ↦ false ]) ≡ true → HasCover row
      by-spread (contents.Term term) e k =
          let at = row-at rows row a in
          record {
            term = term;
            cover = spread-covers law rows es invoice row term
                (spread-here law rows es invoice row term (spread-by-test rows at.0 row term long_paths at.1 k));
          }
      by-spread (contents.Constant text) e k = absurd (false≢true k)

      by-filled : (content : Content) → row.content ≡ content →
          (elim content [ (contents.Term term) ↦ is_filled_in (plan_of rows) row term | (contents.Constant text) ↦ false ]) ≡ true → HasCover row ⊎ NoneTold row
      by-filled (contents.Term term) e k =
          let at = row-at rows row a in
          filled-row row a term (filled-by-test rows at.0 row term long_paths at.1 k)
      by-filled (contents.Constant text) e k = absurd (false≢true k)

      by-total : (content : Content) → row.content ≡ content →
          (elim content [ (contents.Term term) ↦ is_total_in (plan_of rows) rows row term | (contents.Constant text) ↦ false ]) ≡ true → HasCover row
      by-total (contents.Term term) e k =
          let at = row-at rows row a in
          record { term = term; cover = spread-covers law rows es invoice row term (total-here row term (total-by-test rows at.0 row term long_paths at.1 k)) }
      by-total (contents.Constant text) e k = absurd (false≢true k)

      by-pair : (content : Content) → row.content ≡ content →
          (elim content [ (contents.Term term) ↦ is_pair_in (plan_of rows) rows row term | (contents.Constant text) ↦ false ]) ≡ true → HasCover row
      by-pair (contents.Term term) e k = record {
        term = term;
        cover =
            spread-covers law rows es invoice row term (pair-of-term law rows es invoice currencies-differ long_paths row a term k);
      }
      by-pair (contents.Constant text) e k = absurd (false≢true k)

      by-noted : (content : Content) → row.content ≡ content →
          (elim content [ (contents.Term term) ↦ is_noted_in (plan_of rows) rows row term | (contents.Constant text) ↦ false ]) ≡ true → HasCover row
      by-noted (contents.Term term) e k =
          let at = row-at rows row a in
          let p = noted-by-test rows at.0 row term long_paths at.1 k in
          record { term = term; cover = plain-covers law rows es invoice row term p.there (placed-at rows es row.path p.apart) (λ e. p.codes) }
      by-noted (contents.Constant text) e k = absurd (false≢true k)

      by-known-part : (term : Term) (main : Row) → Among main rows → (other : Content) →
          (elim other [
            | (contents.Term main_term) ↦ is_plain_attribute_with (known_of rows) (plan_of rows) row term main main_term
            | (contents.Constant text) ↦ false
          ]) ≡ true → HasCover row
      by-known-part term main b (contents.Term main_term) k =
          let at = row-at rows row a in
          let main_at = row-at rows main b in
          let p = attribute-with-test (known_of rows) rows at.0 main_at.0 row term main main_term long_paths at.1 main_at.1 k in
          record {
            term = term;
            cover = attribute-covers law rows es invoice row term main main_term p.1
                (placed-known (known_of rows) rows es main.path knows p.0);
          }
      by-known-part term main b (contents.Constant text) k = absurd (false≢true k)

      by-known : (content : Content) → row.content ≡ content → (elim content [
        | (contents.Term term) ↦ is_plain_with (known_of rows) (plan_of rows) row term ||
            (is_spread_with (known_of rows) (plan_of rows) row term || list_any (is_known_beside (known_of rows) (plan_of rows) row) rows)
        | (contents.Constant text) ↦ false
      ]) ≡ true
          → HasCover row
      by-known (contents.Constant text) e k = absurd (false≢true k)
      by-known (contents.Term term) e k =
          let at = row-at rows row a in
          elim (or-either (is_plain_with (known_of rows) (plan_of rows) row term) _ k) [
            | inl h ↦ let p = plain-with-test (known_of rows) rows at.0 row term long_paths at.1 h in
                record {
                  term = term;
                  cover = plain-covers law rows es invoice row term p.there (placed-known (known_of rows) rows es row.path knows p.apart)
                      (no-codes row term p.form);
                }
            | inr m ↦ elim (or-either (is_spread_with (known_of rows) (plan_of rows) row term)
                (list_any (is_known_beside (known_of rows) (plan_of rows) row) rows) m) [
                  | inl h ↦ record {
                    term = term;
                    cover = spread-covers law rows es invoice row term
                        (spread-known law rows es invoice (known_of rows) knows row term
                        (spread-with-test (known_of rows) rows at.0 row term long_paths at.1 h));
                  }
                  | inr n ↦ let w = any-is (is_known_beside (known_of rows) (plan_of rows) row) rows n in
                      by-known-part term w.0 w.1.0 w.0.content
                      (sym (ap (λ x. elim x [
                        | (contents.Term t) ↦ elim w.0.content [
                          | (contents.Term main_term) ↦ is_plain_attribute_with (known_of rows)
                              (plan_of rows) row t w.0 main_term
                          | (contents.Constant text) ↦ false
                        ]
                        | (contents.Constant text) ↦ false
                      ]) e)
                      ∙ w.1.1)
                ]
          ]

      by-part : (main : Row) → Among main rows → (content : Content) → row.content ≡ content → (other : Content) → main.content ≡ other → (elim content [
        | (contents.Term term) ↦ elim other [
          | (contents.Term main_term) ↦ is_plain_attribute_in (plan_of rows) row term main main_term
          | (contents.Constant text) ↦ false
        ]
        | (contents.Constant text) ↦ false
      ]) ≡ true
          → HasCover row
      by-part main b (contents.Term term) e (contents.Term main_term) f k =
          let at = row-at rows row a in
          let main_at = row-at rows main b in
          let p = attribute-by-test rows at.0 main_at.0 row term main main_term long_paths at.1 main_at.1 k in
          record { term = term; cover = attribute-covers law rows es invoice row term main main_term p.there (placed-at rows es main.path p.apart) }
      by-part main b (contents.Term term) e (contents.Constant text) f k = absurd (false≢true k)
      by-part main b (contents.Constant text) e other f k = absurd (false≢true k)

      by-spread-part : (main : Row) → Among main rows → (content : Content) → row.content ≡ content → (other : Content) → main.content ≡ other → (elim content [
        | (contents.Term term) ↦ elim other [
          | (contents.Term main_term) ↦ is_spread_attribute_in (plan_of rows) row term main main_term
          | (contents.Constant text) ↦ false
        ]
        | (contents.Constant text) ↦ false
      ]) ≡ true
          → HasCover row
      by-spread-part main b (contents.Term term) e (contents.Term main_term) f k =
          let at = row-at rows row a in
          let main_at = row-at rows main b in
          record {
            term = term;
            cover = spread-attribute-covers law rows es invoice row term main main_term
                (spread-attribute-by-test rows at.0 main_at.0 row term main main_term long_paths at.1 main_at.1 k);
          }
      by-spread-part main b (contents.Term term) e (contents.Constant text) f k = absurd (false≢true k)
      by-spread-part main b (contents.Constant text) e other f k = absurd (false≢true k)

  -- ---- rows that aren't plain pick nothing

  quiet-row : (row : Row) → has_any_term row ≡ true → ((term : Term) → Among term (terms_in row) → (e : Entry) → Among e es → same_term e.term term ≡ false) →
      IsQuiet es row
  quiet-row row has f c = go row.content refl has
    where
      unfilled : (rule : Written) (term : Term) → ((t : Term) → Among t (term ∷ elim rule [
        | (written.OrPlaceholder placeholder) ↦ placeholder.beside ∷ []
        | _
            ↦ []
      ]) →
          (e : Entry) → Among e es → same_term e.term t ≡ false)
          → (d : Context) → filled_text rule es d ≡ None
      unfilled written.Always term g d = refl
      unfilled written.Never term g d = refl
      unfilled written.IfIban term g d = refl
      unfilled written.IfNotIban term g d = refl
      unfilled written.IfScheme term g d = refl
      unfilled written.IfNoScheme term g d = refl
      unfilled (written.OrPlaceholder placeholder) term g d = ap (λ o. if_so (is_some o) placeholder.text) (no-value es placeholder.beside (g
          placeholder.beside (inr (inl refl))) d)
      unfilled written.VatTotal term g d = refl
      unfilled written.AccountingVatTotal term g d = refl

      go : (content : Content) → row.content ≡ content → is_some (term_in content) ≡ true → constant_or_text es c row ≡ None
      go (contents.Constant text) e k = absurd (false≢true k)
      go (contents.Term term) e k =
          let g : (t : Term) → Among t (term ∷ elim row.written [ (written.OrPlaceholder placeholder) ↦ placeholder.beside ∷ [] | _ ↦ [] ]) → (x : Entry)
          → Among x es →
          same_term x.term t ≡ false =
          subst (λ content. (t : Term) →
          Among t (elim content [
            | (contents.Term u) ↦ u ∷ elim row.written [ (written.OrPlaceholder placeholder) ↦ placeholder.beside ∷ [] | _ ↦ [] ]
            | (contents.Constant text) ↦ []
          ]) → (x : Entry) → Among x es → same_term x.term t ≡ false) e f in
          ap (λ content. elim content [ (contents.Constant text) ↦ Some text | (contents.Term t) ↦ row_text row es c ]) e
          ∙ (ap (λ content. elim content [ (contents.Term t) ↦ term_text row es t (context_for row c) | (contents.Constant text) ↦ None ]) e
          ∙ (ap (λ o. elim o [
            | None ↦ filled_text row.written es (context_for row c)
            | Some value ↦ Rattle.bind_meaning.specs.Writing.if_due row.written es term
                (context_for row c) (formed (form_for row.form term) es (context_for row c) value)
          ])
          (none-for-none row es term (context_for row c) (no-value es term (g term (inl refl)) (context_for row c)))
          ∙ unfilled row.written term g (context_for row c)))

  pub other-picks-nothing : (k : ℕ) (row : Row) → Among row rows → is_other (plan_of rows) rows row ≡ true → nodes_picked all_nodes k row ≡ []
  other-picks-nothing k row a other =
      let h = all-is (λ (r : Row). not (is_other (plan_of rows) rows r) ||
      (list_all has_any_term (rows_there (plan_of rows) r) && (is_bare (plan_of rows) r.path && is_no_currency r.leaf))) rows row settled a in
      let w = both-true (list_all has_any_term (rows_there (plan_of rows) row)) (is_bare (plan_of rows) row.path && is_no_currency row.leaf)
      (sym (ap (λ b. not b || (list_all has_any_term (rows_there (plan_of rows) row) && (is_bare (plan_of rows) row.path && is_no_currency row.leaf))) other) ∙
      h) in
      let p = first-step row.path (long-path rows row long_paths a) in
      quiet-picks-nothing rows es k row p.0 p.1.0 p.1.1 (each-quiet (rows_there (plan_of rows) row) (λ r b. b) w.0)
      (both-true (is_bare (plan_of rows) row.path) (is_no_currency row.leaf) w.1).0
      (both-true (is_bare (plan_of rows) row.path) (is_no_currency row.leaf) w.1).1
    where
      there : (r : Row) → Among r (rows_there (plan_of rows) row) → (term : Term) → Among term (terms_in r) → Among term (left_out rows)
      there r b term c =
          among-front term (flat_map (λ (x : Row). flat_map terms_in (rows_there (plan_of rows) x)) (filter (is_other (plan_of rows) rows) rows))
          (unjoined_terms (plan_of rows) rows ++ unpaired_terms (plan_of rows) rows)
          (among-flat_map (λ (x : Row). flat_map terms_in (rows_there (plan_of rows) x)) row term (filter (is_other (plan_of rows) rows) rows)
          (among-filter (is_other (plan_of rows) rows) row rows other a) (among-flat_map terms_in r term (rows_there (plan_of rows) row) b c))

      each-quiet : (rs : List Row) → ((r : Row) → Among r rs → Among r (rows_there (plan_of rows) row)) → list_all has_any_term rs ≡ true → Each (IsQuiet es) rs
      each-quiet [] f h = tt
      each-quiet (r ∷ rs) f h =
          let w = both-true (has_any_term r) (list_all has_any_term rs) h in
          (quiet-row r w.0 (λ term c. left-unsaid term (there r (f r (inl refl)) term c)), each-quiet rs (λ x b. f x (inr b)) w.1)

  -- ---- all picks

  abbrev picked_at_all : List Pick
  picked_at_all = all_picked all_nodes (rows_where has_any_term rows)

  pub record FromRow (pick : Pick) : Type 0 where
    pub j : ℕ
    pub at : slice_get rows j ≡ Some pick.row
    pub known : Among pick.row rows
    pub term : Term
    pub cover : Covers law rows es invoice pick.row term
    pub told_is : IsTold law rows es invoice pick pick.row term
    pub k : ℕ
    pub here : Among pick (nodes_picked all_nodes k pick.row)

  -- a pick that isn't told
  abbrev pub IsNotToldHere : Pick → Type 0
  IsNotToldHere pick = IsNotTold law rows es invoice pick

  -- a pick of the VAT total by the row of the one in accounting currency
  pub shadow-of : (pick : Pick) (k : ℕ) (row : Row) → is_shadowed (plan_of rows) rows row ≡ true → Among pick (nodes_picked all_nodes k row) →
      IsNotToldHere pick
  shadow-of pick k row h m =
      let a = both-true (is_accounting_rule row.written) _ h in
      let b = both-true (is_element row.leaf) _ a.1 in
      let d = both-true (not (has_term invoice_currency row || has_term accounting_currency row)) _ b.1 in
      let f = both-true (not (list_any (λ term. has_term term row) (flat_map beside_placeholder rows))) _ d.1 in
      let w = any-is (λ (main : Row). is_total_by (plan_of rows) rows main && same_way row.path main.path) rows f.1 in
      let v = both-true (is_total_by (plan_of rows) rows w.0) (same_way row.path w.0.path) w.1.1 in
      let at = row-at rows w.0 w.1.0 in
      let is : row ≡ pick.row = sym (row-of all_nodes k row pick m) in
      let amount : IsOwnCurrency es (amount_currency all_nodes pick.node) = by-content at w.0.content v.0 (leaf-of row.leaf b.0) v.1 in
      record {
        out = inl (λ c own. ap (λ (x : Row). is_in c x.written (amount_currency all_nodes pick.node)) (sym is)
            ∙ (ap (λ rule. is_in c rule (amount_currency all_nodes pick.node)) (accounting-rule-is row.written a.0) ∙
            not-accounting es c own.0 (amount_currency all_nodes pick.node) amount));
        no_money = ap (λ (x : Row). has_term invoice_currency x || has_term accounting_currency x) (sym is) ∙
            not-true (has_term invoice_currency row || has_term accounting_currency row) d.0;
        beside = λ term t. ap (has_term term) (sym is) ∙ none-is (λ u. has_term u row) (flat_map beside_placeholder rows) term
            (not-true (list_any (λ u. has_term u row) (flat_map beside_placeholder rows)) f.0) t;
      }
    where
      leaf-of : (leaf : Leaf) → is_element leaf ≡ true → leaf ≡ leaves.Element
      leaf-of leaves.Element e = refl
      leaf-of (leaves.Attribute local) e = absurd (false≢true e)

      by-content : {main : Row} → (j : ℕ) × (slice_get rows j ≡ Some main) → (content : Content)
          → (elim content [ (contents.Term term) ↦ is_total_in (plan_of rows) rows main term | (contents.Constant text) ↦ false ]) ≡ true →
          row.leaf ≡ leaves.Element → same_way row.path main.path ≡ true
          → IsOwnCurrency es (amount_currency all_nodes pick.node)
      by-content {main} at (contents.Term term) e leaf same =
          let p = total-by-test rows at.0 main term long_paths at.1 e in
          own-amount all_nodes es main.path (places_at rows es main.path) (total-placed main term p)
          (total-currencies law rows es invoice main p.there.own p.there.free p.rule) k row leaf (same-ways all_nodes row.path main.path same 0) pick m
      by-content {main} at (contents.Constant text) e leaf same = absurd (false≢true e)

  pub of-row : (pick : Pick) (r : Numbered) → Among r (rows_where has_any_term rows) → Among pick (nodes_picked all_nodes r.place r.row) →
      FromRow pick ⊎ IsNotToldHere pick
  of-row pick r a b =
      let w = of-filter-any (λ (x : Numbered). has_any_term x.row) r (numbered 1 rows) a in
      let at = numbered-row 1 rows r w.0 in
      go at (is_covered rows r.row) refl w.1
    where
      go : (j : ℕ) × ((slice_get rows j ≡ Some r.row) × Among r.row rows) → (x : Bool) → is_covered rows r.row ≡ x → has_any_term r.row ≡ true →
          FromRow pick ⊎ IsNotToldHere pick
      go at true e has =
          elim (covered-row r.row at.1.1 e) [
            | inl cover ↦ by-cover cover
            | inr none ↦ inr (none r.place pick b)
          ]
        where
          by-cover : HasCover r.row → FromRow pick ⊎ IsNotToldHere pick
          by-cover cover = elim (of-picked law rows es invoice r.place r.row cover.term cover.cover (row-read r.row at.1.1 cover.term cover.cover.content)
              (row-back r.row at.1.1 cover.term cover.cover.content) pick b) [
                | inl is ↦ inl (subst (λ row. (slice_get rows at.0 ≡ Some row) → Among row rows → Covers law rows es invoice row cover.term →
                    IsTold law rows es invoice pick row cover.term → Among pick (nodes_picked all_nodes r.place row) → FromRow pick) is.row_is
                    (λ at_it known covers told picked. record {
                      j = at.0;
                      at = at_it;
                      known = known;
                      term = cover.term;
                      cover = covers;
                      told_is = told;
                      k = r.place;
                      here = picked;
                    }) at.1.0 at.1.1 cover.cover is b)
                | inr n ↦ inr n
              ]
      go at false e has = by-shadow (is_shadowed (plan_of rows) rows r.row) refl
        where
          by-shadow : (y : Bool) → is_shadowed (plan_of rows) rows r.row ≡ y → FromRow pick ⊎ IsNotToldHere pick
          by-shadow true f = inr (shadow-of pick r.place r.row f b)
          by-shadow false f = absurd (subst (Among pick) (other-picks-nothing r.place r.row at.1.1 (λ i. has i && (not (e i) && not (f i)))) b)

  -- ---- picks in their currencies

  module _ (c : Currencies) (own : AreOwn rows es c) where
    abbrev picks : List Pick
    picks = term_picks all_nodes c rows

    -- a pick comes from a row with a term, is no placeholder, and is in its currency
    pub record IsDue (pick : Pick) : Type 0 where
      pub row : Numbered
      pub known : Among row (rows_where has_any_term rows)
      pub picked : Among pick (nodes_picked all_nodes row.place row.row)
      pub unfilled : not (is_placeholder all_nodes picked_at_all pick) ≡ true
      pub currency : is_in_its_currency all_nodes c pick ≡ true

    pub due-pick : (pick : Pick) → Among pick picks → IsDue pick
    due-pick pick a =
        let w = of-flat_map (λ (node : Node). filter (λ (x : Pick). x.node == node.number)
        (in_their_currencies all_nodes c (without_placeholders all_nodes picked_at_all))) pick all_nodes a in
        let v = of-filter-any (λ (x : Pick). x.node == w.0.number) pick (in_their_currencies all_nodes c (without_placeholders all_nodes picked_at_all)) w.1.1
        in
        let u = of-filter-any (is_in_its_currency all_nodes c) pick (without_placeholders all_nodes picked_at_all) v.0 in
        let t = of-filter-any (λ (x : Pick). not (is_placeholder all_nodes picked_at_all x)) pick picked_at_all u.0 in
        let r = of-flat_map (λ (x : Numbered). nodes_picked all_nodes x.place x.row) pick (rows_where has_any_term rows) t.0 in
        record { row = r.0; known = r.1.0; picked = r.1.1; unfilled = t.1; currency = u.1 }

    -- none of those that aren't told is one of them
    pub never-told : (pick : Pick) → Among pick picks → IsNotToldHere pick → ⊥
    never-told pick a n = go n.out
      where
        go : ((d : Currencies) → AreOwn rows es d → is_in_its_currency all_nodes d pick ≡ false) ⊎ (is_placeholder all_nodes picked_at_all pick ≡ true) → ⊥
        go (inl out) = false≢true (sym (out c own) ∙ (due-pick pick a).currency)
        go (inr placeholder) = false≢true (sym (ap not placeholder) ∙ (due-pick pick a).unfilled)

    pub of-picks : (pick : Pick) → Among pick picks → FromRow pick
    of-picks pick a =
        let d = due-pick pick a in
        elim (of-row pick d.row d.known d.picked) [ inl f ↦ f | inr n ↦ absurd (never-told pick a n) ]

    -- nothing is picked of a term that doesn't stand, so no placeholder stands beside it
    no-pick-beside : (placeholder : Placeholder) (pick : Pick) → Absent es placeholder.beside → Among placeholder.beside (flat_map beside_placeholder rows)
        → (elim (bytes_eq (trimmed (string_at all_nodes pick.node)) placeholder.text) [ true ↦ stands_beside picked_at_all placeholder pick | false ↦ false ])
        ≡ false
    no-pick-beside placeholder pick absent known = go (bytes_eq (trimmed (string_at all_nodes pick.node)) placeholder.text)
      where
        none : (other : Pick) → Among other picked_at_all → has_term placeholder.beside other.row ≡ false
        none other a =
            let r = of-flat_map (λ (x : Numbered). nodes_picked all_nodes x.place x.row) other (rows_where has_any_term rows) a in
            elim (of-row other r.0 r.1.0 r.1.1) [
              | inl f ↦ ap (λ content. elim (term_in content) [ None ↦ false | Some t ↦ same_term t placeholder.beside ]) f.cover.content
                  ∙ (ap (λ t. same_term t placeholder.beside) (sym f.told_is.term_is) ∙ absent f.told_is.e f.told_is.known)
              | inr x ↦ x.beside placeholder.beside known
            ]

        no-other : (others : List Pick) → ((other : Pick) → Among other others → has_term placeholder.beside other.row ≡ false)
            → list_any (λ (other : Pick). has_term placeholder.beside other.row && bytes_eq (around_last other.elements) (around_last pick.elements)) others
            ≡ false
        no-other [] f = refl
        no-other (other ∷ others) f =
            ap (λ b. (b && bytes_eq (around_last other.elements) (around_last pick.elements)) ||
            list_any (λ (x : Pick). has_term placeholder.beside x.row && bytes_eq (around_last x.elements) (around_last pick.elements)) others)
            (f other (inl refl))
            ∙ no-other others (λ x a. f x (inr a))

        go : (b : Bool) → (elim b [ true ↦ stands_beside picked_at_all placeholder pick | false ↦ false ]) ≡ false
        go true = no-other picked_at_all none
        go false = refl

    -- a pick of the row that says the entry first
    record ToPick (row : Row) (e : Entry) : Type 0 where
      pick : Pick
      row_is : pick.row ≡ row
      among : Among pick picks
      picked : IsPicked rows es invoice pick
      context : picked.entry.context ≡ e.context
      content : pick.row.content ≡ contents.Term e.term
      says : parsed pick.row.form e.term (string_at all_nodes pick.node) ≡ record { term = e.term; value = Some e.value } ∷ code_said
          (form_for row.form e.term) es e.context

    by-row : (e : Entry) → Among e es → (row : Row) → Among row rows → (cover : Covers law rows es invoice row e.term) → cover.writes e.context ≡ true →
        ToPick row e
    by-row e a row b cover w =
        let n = row-numbered 1 rows row b in
        let r = to-picked law rows es invoice n.0 row e.term cover e a refl (row-back row b e.term cover.content e a refl) w in
        let pick : Pick = r.pick in
        let first : Among pick picked_at_all =
        among-flat_map (λ (x : Numbered). nodes_picked all_nodes x.place x.row) (record { place = n.0; row = row }) pick (rows_where has_any_term rows)
        (among-filter (λ (x : Numbered). has_any_term x.row) (record { place = n.0; row = row }) (numbered 1 rows)
        (ap (λ x. is_some (term_in x)) cover.content) n.1) r.among in
        let due : is_in_its_currency all_nodes c pick ≡ true =
        ap (λ (x : Row). is_in c x.written (amount_currency all_nodes pick.node)) r.row_is ∙ in-due pick.node r.place r.own r.at r.leaf cover.total in
        let second : Among pick (without_placeholders all_nodes picked_at_all) =
        among-filter (λ (x : Pick). not (is_placeholder all_nodes picked_at_all x)) pick picked_at_all
        (ap not (not-placeholder pick.row.written _ (λ placeholder f. let rule = sym (ap (λ (x : Row). x.written) r.row_is) ∙ f in
        no-placeholder-there pick r.string_is placeholder rule (cover.unfilled placeholder rule)))) first in
        let third : Among pick (in_their_currencies all_nodes c (without_placeholders all_nodes picked_at_all)) =
        among-filter (is_in_its_currency all_nodes c) pick (without_placeholders all_nodes picked_at_all) due second in
        let node = of-map number pick.node all_nodes r.node in
        record {
          pick = pick;
          row_is = r.row_is;
          among = among-flat_map (λ (x : Node). filter (λ (y : Pick). y.node == x.number)
              (in_their_currencies all_nodes c (without_placeholders all_nodes picked_at_all))) node.0 pick all_nodes node.1.0
              (among-filter (λ (y : Pick). y.node == node.0.number) pick (in_their_currencies all_nodes c (without_placeholders all_nodes picked_at_all))
              (subst (λ x. (pick.node == x) ≡ true) (sym node.1.1) (same-is pick.node)) third);
          picked = r.picked;
          context = r.context;
          content = ap (λ (x : Row). x.content) r.row_is ∙ cover.content;
          says = ap (λ (x : Row). parsed x.form e.term (string_at all_nodes pick.node)) r.row_is
              ∙ parsed-as law rows es invoice row e.term e a refl (row-read row b e.term cover.content) (row-back row b e.term cover.content e a refl)
              (string_at all_nodes pick.node) r.string_is;
        }
      where
        no-placeholder-there : (pick : Pick) → string_at all_nodes pick.node ≡ formed (form_for row.form e.term) es e.context e.value
            → (placeholder : Placeholder) →
            row.written ≡ written.OrPlaceholder placeholder → Absent es placeholder.beside ⊎ IsKept law rows es invoice row e.term placeholder
            → (elim (bytes_eq (trimmed (string_at all_nodes pick.node)) placeholder.text) [
              | true ↦ stands_beside picked_at_all placeholder pick
              | false ↦
                  false
            ]) ≡ false
        no-placeholder-there pick string_is placeholder rule (inl absent) = no-pick-beside placeholder pick absent (placeholder-term row b placeholder rule)
        no-placeholder-there pick string_is placeholder rule (inr kept) =
            ap (λ z. elim z [ true ↦ stands_beside picked_at_all placeholder pick | false ↦ false ]) (ap (λ s. bytes_eq (trimmed s) placeholder.text)
            string_is ∙
            kept.other e a refl)

        in-due : (n : ℕ) (place : Place) → Among place (places_at rows es row.path) → IsAt all_nodes es place →
            Among n (leaves_of all_nodes row.leaf (last_of place.way)) → (is_vat_total row.written ≡ false) ⊎ IsTotal law rows es invoice row
            → is_in c row.written (amount_currency all_nodes n) ≡ true
        in-due n place a at leaf (inl h) = in-currency row.written _ _ h
        in-due n place a at leaf (inr t) =
            let m = amount-of all_nodes es place at n (subst (λ l. Among n (leaves_of all_nodes l (last_of place.way))) t.leaf leaf) in
            ap (is_in c row.written) m.0 ∙ t.own c own place a m.1

    by-spread : (e : Entry) → Among e es → (row : Row) → Among row rows → IsSpreadHere law rows es invoice row e.term →
        is_written_by row e.term es e.context ≡ true → ToPick row e
    by-spread e a row b p w = by-row e a row b (spread-covers law rows es invoice row e.term p) (spread-writes law rows es invoice row e.term p e.context w)

    -- a pick that says the entry
    record ToldPick (e : Entry) : Type 0 where
      pick : Pick
      among : Among pick picks
      picked : IsPicked rows es invoice pick
      context : picked.entry.context ≡ e.context
      term : Term
      content : pick.row.content ≡ contents.Term term
      parsed_values : List ParsedValue
      says : parsed pick.row.form term (string_at all_nodes pick.node) ≡ parsed_values
      tells : Among (record { term = e.term; value = Some e.value }) parsed_values
      of_term : (term ≡ e.term) ⊎ (e.term ≡ subject_code)

    own-told : (row : Row) (e : Entry) → ToPick row e → ToldPick e
    own-told row e t = record {
      pick = t.pick;
      among = t.among;
      picked = t.picked;
      context = t.context;
      term = e.term;
      content = t.content;
      parsed_values = record { term = e.term; value = Some e.value } ∷ code_said (form_for row.form e.term) es e.context;
      says = t.says;
      tells = inl refl;
      of_term = inl refl;
    }

    -- a subject code in front of another entry's value
    code-told : (row : Row) (x e : Entry) → x.context ≡ e.context → form_for row.form x.term ≡ forms.CodedNote → e.term ≡ subject_code → Among e es →
        ToPick row x → ToldPick e
    code-told row x e same form is a t = record {
      pick = t.pick;
      among = t.among;
      picked = t.picked;
      context = t.context ∙ same;
      term = x.term;
      content = t.content;
      parsed_values = record { term = x.term; value = Some x.value } ∷ code_said (form_for row.form x.term) es x.context;
      says = t.says;
      tells = inr (subst (Among (record { term = e.term; value = Some e.value })) (sym here) (inl (λ i. record { term = sym is i; value = Some e.value })));
      of_term = inr is;
    }
      where
        here : code_said (form_for row.form x.term) es x.context ≡ record { term = subject_code; value = Some e.value } ∷ []
        here =
            (λ i. code_said (form i) es (same i))
            ∙ ap (λ o. elim o [ None ↦ [] | Some code ↦ record { term = subject_code; value = Some code } ∷ [] ]) (ap (λ u. value_in es u e.context) (sym is) ∙
            own-value es e invoice.listed a)

    to-pick : (e : Entry) → Among e es → ToldPick e
    to-pick e a =
        let w = any-is (writes_plainly (plan_of rows) rows es e) rows (held e a).written_so in
        elim (or-either (is_plain rows w.0 e.term && is_written_by w.0 e.term es e.context) _ w.1.1) [
          | inl k ↦ let v = both-true (is_plain rows w.0 e.term) (is_written_by w.0 e.term es e.context) k in
              let at = row-at rows w.0 w.1.0 in
              let p = plain-by-test rows at.0 w.0 e.term long_paths at.1 v.0 in
              by-plain w.0 w.1.0 p.there (placed-at rows es w.0.path p.apart) (no-codes w.0 e.term p.form) v.1
          | inr m ↦ elim (or-either (is_spread rows w.0 e.term && is_written_by w.0 e.term es e.context) _ m) [
            | inl k ↦ let v = both-true (is_spread rows w.0 e.term) (is_written_by w.0 e.term es e.context) k in
                let at = row-at rows w.0 w.1.0 in
                spread-told w.0 w.1.0 (spread-here law rows es invoice w.0 e.term (spread-by-test rows at.0 w.0 e.term long_paths at.1 v.0)) v.1
            | inr n ↦ elim (or-either (list_any (writes_beside (plan_of rows) es e w.0) rows) _ n) [
              | inl k ↦ let v = any-is (writes_beside (plan_of rows) es e w.0) rows k in by-main w.0 w.1.0 v.0 v.1.0 v.0.content v.1.1
              | inr q ↦ elim (or-either (is_filled_in (plan_of rows) w.0 e.term && is_written_by w.0 e.term es e.context) _ q) [
                | inl k ↦ let v = both-true (is_filled_in (plan_of rows) w.0 e.term) (is_written_by w.0 e.term es e.context) k in
                    let at = row-at rows w.0 w.1.0 in
                    let p = filled-by-test rows at.0 w.0 e.term long_paths at.1 v.0 in
                    let stands : is_some (value_in es e.term root_context) ≡ true =
                    ap is_some (root-value law rows es invoice e a (root-entry law rows es invoice e.term p.context e a refl) e.term refl) in
                    spread-told w.0 w.1.0 (filled-here w.0 e.term p (kept-or-absent w.0 w.1.0 e.term p stands)) v.1
                | inr u ↦ elim (or-either (is_total_in (plan_of rows) rows w.0 e.term && is_written_by w.0 e.term es e.context) _ u) [
                  | inl k ↦ let v = both-true (is_total_in (plan_of rows) rows w.0 e.term) (is_written_by w.0 e.term es e.context) k in
                      let at = row-at rows w.0 w.1.0 in
                      spread-told w.0 w.1.0 (total-here w.0 e.term (total-by-test rows at.0 w.0 e.term long_paths at.1 v.0)) v.1
                  | inr t ↦ elim (or-either (is_pair_in (plan_of rows) rows w.0 e.term && is_written_by w.0 e.term es e.context) _ t) [
                    | inl k ↦ let v = both-true (is_pair_in (plan_of rows) rows w.0 e.term) (is_written_by w.0 e.term es e.context) k in
                        spread-told w.0 w.1.0 (pair-of-term law rows es invoice currencies-differ long_paths w.0 w.1.0 e.term v.0) v.1
                    | inr x ↦ elim (or-either (writes_known (known_of rows) (plan_of rows) rows es e w.0) _ x) [
                      | inl k ↦ by-known w.0 w.1.0 k
                      | inr y ↦ elim (or-either (is_noted_in (plan_of rows) rows w.0 e.term && is_written_by w.0 e.term es e.context)
                          (writes_code (plan_of rows) rows es e w.0) y) [
                            | inr k ↦ by-code w.0 w.1.0 w.0.content k
                            | inl k ↦ let v = both-true (is_noted_in (plan_of rows) rows w.0 e.term) (is_written_by w.0 e.term es e.context) k in
                                let at = row-at rows w.0 w.1.0 in
                                let p = noted-by-test rows at.0 w.0 e.term long_paths at.1 v.0 in
                                by-plain w.0 w.1.0 p.there (placed-at rows es w.0.path p.apart) (λ f. p.codes) v.1
                          ]
                    ]
                  ]
                ]
              ]
            ]
          ]
        ]
      where
        spread-told : (row : Row) → Among row rows → IsSpreadHere law rows es invoice row e.term → is_written_by row e.term es e.context ≡ true → ToldPick e
        spread-told row b p w = own-told row e (by-spread e a row b p w)

        by-plain : (row : Row) → Among row rows → IsPlainThere rows row e.term → ArePlaced all_nodes es row.path (places_at rows es row.path) →
            HasCodes law rows es invoice row e.term → is_written_by row e.term es e.context ≡ true → ToldPick e
        by-plain row b p placed codes w = own-told row e
            (by-row e a row b (plain-covers law rows es invoice row e.term p placed codes)
            (plain-writes law rows es invoice row e.term p placed codes e.context w))

        by-attribute : (row : Row) → Among row rows → (main : Row) (main_term : Term) → IsPlainAttributeThere rows row e.term main main_term →
            ArePlaced all_nodes es main.path (places_at rows es main.path) → is_written_by main main_term es e.context ≡ true → ToldPick e
        by-attribute row b main main_term p placed w =
            own-told row e (by-row e a row b (attribute-covers law rows es invoice row e.term main main_term p placed)
            (attribute-writes law rows es invoice row e.term main main_term p placed e.context w))

        -- a subject code, by the row of its note
        by-code : (row : Row) → Among row rows → (content : Content) → (elim content [
          | (contents.Term term) ↦ same_term e.term subject_code && (is_noted_in (plan_of rows) rows row term && is_written_by row term es e.context)
          | (contents.Constant text) ↦ false
        ]) ≡ true
            → ToldPick e
        by-code row b (contents.Constant text) k = absurd (false≢true k)
        by-code row b (contents.Term term) k =
            let u = both-true (same_term e.term subject_code) (is_noted_in (plan_of rows) rows row term && is_written_by row term es e.context) k in
            let v = both-true (is_noted_in (plan_of rows) rows row term) (is_written_by row term es e.context) u.1 in
            let at = row-at rows row b in
            let p = noted-by-test rows at.0 row term long_paths at.1 v.0 in
            let placed = placed-at rows es row.path p.apart in
            let y = written-some law rows es invoice row term p.there e.context v.1 in
            let x : Entry = record { context = e.context; term = term; value = y.0 } in
            code-told row x e refl p.form (same_term_is e.term subject_code u.0) a
            (by-row x (at-value law es invoice term e.context y.0 y.1) row b (plain-covers law rows es invoice row term p.there placed (λ f. p.codes))
            (plain-writes law rows es invoice row term p.there placed (λ f. p.codes) e.context v.1))

        by-main : (row : Row) → Among row rows → (main : Row) → Among main rows → (content : Content) → (elim content [
          | (contents.Term main_term) ↦ (is_plain_attribute rows row e.term main main_term || is_spread_attribute rows row e.term main main_term) &&
              is_written_by main main_term es e.context
          | (contents.Constant text) ↦ false
        ]) ≡ true
            → ToldPick e
        by-main row b main d (contents.Term main_term) k =
            let v = both-true (is_plain_attribute rows row e.term main main_term || is_spread_attribute rows row e.term main main_term)
            (is_written_by main main_term es e.context) k in
            let at = row-at rows row b in
            let main_at = row-at rows main d in
            elim (or-either (is_plain_attribute rows row e.term main main_term) (is_spread_attribute rows row e.term main main_term) v.0) [
              | inl h ↦ let p = attribute-by-test rows at.0 main_at.0 row e.term main main_term long_paths at.1 main_at.1 h in
                  by-attribute row b main main_term p.there (placed-at rows es main.path p.apart) v.1
              | inr h ↦ let p = (spread-attribute-by-test rows at.0 main_at.0 row e.term main main_term long_paths at.1 main_at.1 h) in
                  own-told row e (by-row e a row b (spread-attribute-covers law rows es invoice row e.term main main_term p)
                  (spread-attribute-writes law rows es invoice row e.term main main_term p e.context v.1))
            ]
        by-main row b main d (contents.Constant text) k = absurd (false≢true k)

        by-known-main : (row : Row) → Among row rows → (main : Row) → Among main rows → (content : Content) → (elim content [
          | (contents.Term main_term) ↦ is_plain_attribute_with (known_of rows) (plan_of rows) row e.term main main_term &&
              is_written_by main main_term es e.context
          | (contents.Constant text) ↦ false
        ]) ≡ true
            → ToldPick e
        by-known-main row b main d (contents.Term main_term) k =
            let v = both-true (is_plain_attribute_with (known_of rows) (plan_of rows) row e.term main main_term)
            (is_written_by main main_term es e.context) k in
            let at = row-at rows row b in
            let main_at = row-at rows main d in
            let p = attribute-with-test (known_of rows) rows at.0 main_at.0 row e.term main main_term long_paths at.1 main_at.1 v.0 in
            by-attribute row b main main_term p.1 (placed-known (known_of rows) rows es main.path knows p.0) v.1
        by-known-main row b main d (contents.Constant text) k = absurd (false≢true k)

        by-known : (row : Row) → Among row rows → writes_known (known_of rows) (plan_of rows) rows es e row ≡ true → ToldPick e
        by-known row b h = elim (or-either (is_plain_with (known_of rows) (plan_of rows) row e.term && is_written_by row e.term es e.context) _ h) [
          | inl k ↦ let v = both-true (is_plain_with (known_of rows) (plan_of rows) row e.term) (is_written_by row e.term es e.context) k in
              let at = row-at rows row b in
              let p = plain-with-test (known_of rows) rows at.0 row e.term long_paths at.1 v.0 in
              by-plain row b p.there (placed-known (known_of rows) rows es row.path knows p.apart) (no-codes row e.term p.form) v.1
          | inr m ↦ elim (or-either (is_spread_with (known_of rows) (plan_of rows) row e.term && is_written_by row e.term es e.context)
              (list_any (writes_known_beside (known_of rows) (plan_of rows) es e row) rows) m) [
                | inl k ↦ let v = both-true (is_spread_with (known_of rows) (plan_of rows) row e.term) (is_written_by row e.term es e.context) k in
                    let at = row-at rows row b in
                    spread-told row b (spread-known law rows es invoice (known_of rows) knows row e.term
                    (spread-with-test (known_of rows) rows at.0 row e.term long_paths at.1 v.0)) v.1
                | inr k ↦ let v = any-is (writes_known_beside (known_of rows) (plan_of rows) es e row) rows k in by-known-main row b v.0 v.1.0 v.0.content v.1.1
              ]
        ]

    -- ---- where they stand

    one-front : (g : Group) (a b : Pick) → (x : FromRow a) → (y : FromRow b) → HasGroup g a.row → HasGroup g b.row → upto g a.row.path ≡ upto g b.row.path
    one-front g a b x y h k =
        let carried : is_carried g b.row ≡ true = carried-if g b.row.path
        (has-of-group g b.row.path (subst (Among g) (sym (through-of b y k)) (among-groups b.row.outer b.row.inner k))) in
        let e = one-element rows g x.j y.j a.row b.row fine x.at y.at h carried in
        upto-front g a.row.path ∙ (e.1 ∙ sym (upto-front g b.row.path))
      where
        through-of : (x : Pick) (z : FromRow x) → HasGroup g x.row → groups_of x.row.path ≡ plain.listed x.row.outer ++ plain.listed x.row.inner
        through-of x z (inl h) = z.cover.through g h
        through-of x z (inr h) = from-outer x.row.outer refl
          where
            from-outer : (o : Option Group) → x.row.outer ≡ o → groups_of x.row.path ≡ plain.listed x.row.outer ++ plain.listed x.row.inner
            from-outer (Some f) e = z.cover.through f e
            from-outer None e = absurd (false≢true (sym (λ i. is_some (e i) || is_none (h i)) ∙ z.cover.nested))

        among-groups : (o i : Option Group) → (o ≡ Some g) ⊎ (i ≡ Some g) → Among g (plain.listed o ++ plain.listed i)
        among-groups (Some f) i (inl e) = inl (same_Some _ _ e)
        among-groups None i (inl e) = absurd (let z : ◌≡◌ {A = Option Group} None (Some g) = e in cc)
        among-groups None (Some f) (inr e) = inl (same_Some _ _ e)
        among-groups (Some f) (Some h) (inr e) = inr (inl (same_Some _ _ e))
        among-groups o None (inr e) = absurd (let z : ◌≡◌ {A = Option Group} None (Some g) = e in cc)

    pub seats : AreSeated rows es invoice picks
    seats = record {
      each = λ pick a. (of-picks pick a).told_is.picked;
      all = λ e a. let w = to-pick e a in (w.pick, (w.among, (w.picked, w.context)));
      one_outer = λ g a b x y h k. one-front g a b (of-picks a x) (of-picks b y) (inl h) (inl k);
      one_inner = λ g a b x y h k. one-front g a b (of-picks a x) (of-picks b y) (inr h) (inr k);
      differ = λ g h a x o i. let p = (of-picks a x).told_is.picked in
          groups-differ p.entry (plain_rows.placed-at law es invoice p.entry.term p.entry p.known) g h (p.outer ∙ o) (p.inner ∙ i);
      nested = λ a x o. no-inner a.row.outer a.row.inner (of-picks a x).cover.nested o;
    }
      where
        no-inner : (o i : Option Group) → (is_some o || is_none i) ≡ true → o ≡ None → i ≡ None
        no-inner None None h e = refl
        no-inner None (Some g) h e = absurd (false≢true h)
        no-inner (Some f) i h e = absurd (let z : ◌≡◌ {A = Option Group} (Some f) None = e in cc)

    -- ---- what they say

    abbrev them : List Told
    them = told all_nodes (place_all all_nodes picks)

    pub parsed-at : (pick : Pick) (term : Term) (parsed_values : List ParsedValue) → pick.row.content ≡ contents.Term term →
        parsed pick.row.form term (string_at all_nodes pick.node) ≡ parsed_values → parsed_by all_nodes (placed all_nodes picks pick) ≡ parsed_values
    parsed-at pick term parsed_values e s = ap (λ x. elim (term_in x) [ None ↦ [] | Some t ↦ parsed pick.row.form t (string_at all_nodes pick.node) ]) e ∙ s

    -- what is told, with its pick and its entry: the one that the row writes, or a subject code in front of that
    pub record ToldBy (t : Told) : Type 0 where
      pub pick : Pick
      pub among : Among pick picks
      pub from : FromRow pick
      pub entry : Entry
      pub known : Among entry es
      pub context : entry.context ≡ from.told_is.e.context
      pub is : record { placed = placed all_nodes picks pick; parsed = record { term = entry.term; value = Some entry.value } } ≡ t
      pub kind : (entry ≡ from.told_is.e) ⊎ ((entry.term ≡ subject_code) × (form_for pick.row.form from.term ≡ forms.CodedNote))

    pub told-by-pick : (t : Told) → Among t them → ToldBy t
    told-by-pick t a =
        let w = of-flat_map (told_by all_nodes) t (place_all all_nodes picks) a in
        let v = of-map (placed all_nodes picks) w.0 picks w.1.0 in
        let pick : Pick = v.0 in
        let from = of-picks pick v.1.0 in
        let p : Placed = placed all_nodes picks pick in
        let parsed_values : List ParsedValue = record { term = from.term; value = Some from.told_is.e.value } ∷ code_said
        (form_for pick.row.form from.term) es from.told_is.e.context in
        let told_here : Among t (map (λ s. record { placed = p; parsed = s }) (parsed_by all_nodes p)) =
        subst (λ q. Among t (told_by all_nodes q)) (sym v.1.1) w.1.1 in
        by-saying pick v.1.0 from (subst (λ l. Among t (map (λ s. record { placed = p; parsed = s }) l))
        (parsed-at pick from.term parsed_values from.cover.content from.told_is.says) told_here)
      where
        by-saying : (pick : Pick) → Among pick picks → (from : FromRow pick)
            → Among t (map (λ s. record { placed = placed all_nodes picks pick; parsed = s })
            (record { term = from.term; value = Some from.told_is.e.value } ∷ code_said (form_for pick.row.form from.term) es from.told_is.e.context)) →
            ToldBy t
        by-saying pick b from (inl s) = record {
          pick = pick;
          among = b;
          from = from;
          entry = from.told_is.e;
          known = from.told_is.known;
          context = refl;
          is = ap (λ u. record { placed = placed all_nodes picks pick; parsed = record { term = u; value = Some from.told_is.e.value } }) from.told_is.term_is ∙
              s;
          kind = inl refl;
        }
        by-saying pick b from (inr m) =
            let w = of-map (λ s. record { placed = placed all_nodes picks pick; parsed = s }) t
            (code_said (form_for pick.row.form from.term) es from.told_is.e.context) m in
            let k = of-code-parsed (form_for pick.row.form from.term) es from.told_is.e.context w.0 w.1.0 in
            record {
              pick = pick;
              among = b;
              from = from;
              entry = record { context = from.told_is.e.context; term = subject_code; value = k.code };
              known = at-value law es invoice subject_code from.told_is.e.context k.code k.at;
              context = refl;
              is = ap (λ s. record { placed = placed all_nodes picks pick; parsed = s }) k.is ∙ w.1.1;
              kind = inr (refl, k.form_is);
            }

    pub context-at : (pick : Pick) → Among pick picks → (from : FromRow pick) → context_of (placed all_nodes picks pick) ≡ from.told_is.e.context
    context-at pick a from = context-is rows es invoice picks seats pick a from.told_is.picked ∙ from.told_is.context

    pub told-entry : (t : Told) → Among t them → (e : Entry) × (Among e es × Tells es invoice.listed t e)
    told-entry t a =
        let w = told-by-pick t a in (
          w.entry,
          (
            w.known,
            record {
              parsed = ap (λ (x : Told). x.parsed) (sym w.is);
              context = ap (λ (x : Told). context_of x.placed) (sym w.is) ∙ (context-at w.pick w.among w.from ∙ sym w.context);
            },
          ),
        )

    -- each entry is told
    pub entry-told : (e : Entry) → Among e es → (t : Told) × (Among t them × Tells es invoice.listed t e)
    entry-told e a =
        let w = to-pick e a in
        let pick : Pick = w.pick in
        let p : Placed = placed all_nodes picks pick in
        let said_so : ParsedValue = record { term = e.term; value = Some e.value } in
        let t : Told = record { placed = p; parsed = said_so } in (
          t,
          (
            among-flat_map (told_by all_nodes) p t (place_all all_nodes picks) (among-map (placed all_nodes picks) pick picks w.among)
                (among-map (λ s. record { placed = p; parsed = s }) said_so (parsed_by all_nodes p)
                (subst (Among said_so) (sym (parsed-at pick w.term w.parsed_values w.content w.says)) w.tells)),
            record { parsed = refl; context = context-is rows es invoice picks seats pick w.among w.picked ∙ w.context },
          ),
        )

    pub entries-read : entries them ≡ es
    entries-read = entries-are es invoice.listed them told-entry entry-told

    -- what is told is an entry where it stands, and each entry is told
    pub told-says : (t : Told) → Contains them t → (e : Entry) ×
        (Contains es e × ((t.parsed ≡ record { term = e.term; value = Some e.value }) × (context_of t.placed ≡ e.context)))
    told-says t there = let w = told-entry t (contains-among t them there) in (w.0, (among-contains w.0 es w.1.0, (w.1.1.parsed, w.1.1.context)))

    pub entry-says : (e : Entry) → Contains es e → (t : Told) ×
        (Contains them t × ((t.parsed ≡ record { term = e.term; value = Some e.value }) × (context_of t.placed ≡ e.context)))
    entry-says e there = let w = entry-told e (contains-among e es there) in (w.0, (among-contains w.0 them w.1.0, (w.1.1.parsed, w.1.1.context)))

    -- each pick says an entry, and each entry is said, where it stands, if no subject code stands in front of a note
    abbrev pub Says : Placed → Entry → Type 0
    Says p e = (parsed_by all_nodes p ≡ record { term = e.term; value = Some e.value } ∷ []) × (context_of p ≡ e.context)

    module _ (unheld_codes : holds_none (code_terms rows) es ≡ true) where
      no-code-parsed : (row : Row) → Among row rows → (term : Term) → row.content ≡ contents.Term term → HasCodes law rows es invoice row term → (d : Context) →
          code_said (form_for row.form term) es d ≡ []
      no-code-parsed row a term content codes d = go (form_for row.form term) refl
        where
          go : (form : Form) → form_for row.form term ≡ form → code_said form es d ≡ []
          go forms.Model e = refl
          go forms.PlainDate e = refl
          go forms.DueDateTypeCode e = refl
          go (forms.Typed data_type) e = refl
          go forms.TypedPlainDate e = refl
          go forms.CodedNote e =
              ap (λ o. elim o [ None ↦ [] | Some code ↦ record { term = subject_code; value = Some code } ∷ [] ])
              (gone-value (code_terms rows) es subject_code d unheld_codes
              (any-among (same_term subject_code) subject_code (code_terms rows) refl
              (subst (λ b. Among subject_code (elim b [ true ↦ [] | false ↦ flat_map code_terms_of rows ])) (sym (codes e))
              (among-flat_map code_terms_of row subject_code rows a
              (subst (Among subject_code)
              (sym (ap (λ x. elim x [
                | (contents.Term u) ↦ elim (is_coded (form_for row.form u)) [ true ↦ subject_code ∷ [] | false ↦ [] ]
                | (contents.Constant text) ↦ []
              ]) content
              ∙ ap (λ f. elim (is_coded f) [ true ↦ subject_code ∷ [] | false ↦ [] ]) e))
              (inl refl))))))

      one-parsed : (pick : Pick) (from : FromRow pick) → parsed_by all_nodes (placed all_nodes picks pick) ≡ record {
        term = from.told_is.e.term;
        value =
            Some from.told_is.e.value;
      } ∷ []
      one-parsed pick from =
          parsed-at pick from.term (record { term = from.term; value = Some from.told_is.e.value } ∷ code_said
          (form_for pick.row.form from.term) es from.told_is.e.context) from.cover.content from.told_is.says
          ∙ ((λ i. record { term = sym from.told_is.term_is i; value = Some from.told_is.e.value } ∷ no-code-parsed pick.row from.known from.term
          from.cover.content from.cover.codes from.told_is.e.context i))

      pub picks-say : (p : Placed) → Contains (place_all all_nodes picks) p → (e : Entry) × (Contains es e × Says p e)
      picks-say p there =
          let v = of-map (placed all_nodes picks) p picks (contains-among p (place_all all_nodes picks) there) in
          let pick : Pick = v.0 in
          let from = of-picks pick v.1.0 in (
            from.told_is.e,
            (
              among-contains from.told_is.e es from.told_is.known,
              subst (λ (q : Placed). Says q from.told_is.e) v.1.1 (
                one-parsed pick from,
                context-is rows es invoice picks seats pick v.1.0 from.told_is.picked ∙
                    from.told_is.context,
              ),
            ),
          )

      pub entries-parsed : (e : Entry) → Contains es e → (p : Placed) × (Contains (place_all all_nodes picks) p × Says p e)
      entries-parsed e there =
          let w = to-pick e (contains-among e es there) in
          let pick : Pick = w.pick in
          let from = of-picks pick w.among in
          let said_so : ParsedValue = record { term = e.term; value = Some e.value } in
          let one = one-parsed pick from in
          let same : record { term = from.told_is.e.term; value = Some from.told_is.e.value } ≡ said_so =
          only (record { term = from.told_is.e.term; value = Some from.told_is.e.value }) said_so
          (subst (Among said_so) (sym (parsed-at pick w.term w.parsed_values w.content w.says) ∙ one) w.tells) in (
            placed all_nodes picks pick,
            (
              among-contains (placed all_nodes picks pick) (place_all all_nodes picks) (among-map (placed all_nodes picks) pick picks w.among),
              (one ∙ ap (λ x. x ∷ []) same, context-is rows es invoice picks seats pick w.among w.picked ∙ w.context),
            ),
          )
        where
          only : (x y : ParsedValue) → Among y (x ∷ []) → x ≡ y
          only x y (inl s) = s
          only x y (inr z) = absurd z

    -- what is told of one seat is one value
    pub seats-agree : (a b : Told) → Contains them a → Contains them b → is_of_seat a b ≡ true → a.parsed ≡ b.parsed
    seats-agree a b x y same =
        let v = told-entry a (contains-among a them x) in
        let w = told-entry b (contains-among b them y) in
        let seat = one-seat es invoice.listed a b same in
        let one : v.0 ≡ w.0 =
        same-seat es invoice.listed v.0 w.0 v.1.0 w.1.0 (ap (λ (x : ParsedValue). x.term) (sym v.1.1.parsed) ∙ (seat.term
        ∙ ap (λ (x : ParsedValue). x.term) w.1.1.parsed))
        (sym v.1.1.context ∙ (seat.context ∙ w.1.1.context)) in
        v.1.1.parsed ∙ (ap (λ (e : Entry). record { term = e.term; value = Some e.value }) one ∙ sym w.1.1.parsed)

    -- nothing that is picked has an element inside
    pub none-inside : (p : Placed) → Contains (place_all all_nodes picks) p → has_element_inside all_nodes p.pick.node ≡ false
    none-inside p there =
        let v = of-map (placed all_nodes picks) p picks (contains-among p (place_all all_nodes picks) there) in
        let from = of-picks v.0 v.1.0 in
        subst (λ (q : Placed). has_element_inside all_nodes q.pick.node ≡ false) v.1.1
        (go v.0 (has_element_inside all_nodes v.0.node) refl from.k from.here
        (from.cover.front ++ (places_at rows es v.0.row.path ++ from.cover.back)) from.cover.placed)
      where
        go : (pick : Pick) (b : Bool) → has_element_inside all_nodes pick.node ≡ b → (k : ℕ) → Among pick (nodes_picked all_nodes k pick.row) →
            (places : List Place) → ArePlaced all_nodes es pick.row.path places → has_element_inside all_nodes pick.node ≡ false
        go pick true e k a places apart =
            absurd (subst (Among pick.node) (placed-inside rows es k pick.row places apart)
            (among-filter (has_element_inside all_nodes) pick.node (map (λ (x : Pick). x.node) (nodes_picked all_nodes k pick.row)) e
            (among-map (λ (x : Pick). x.node) pick (nodes_picked all_nodes k pick.row) a)))
        go pick false e k a places apart = e

  -- ---- the currencies that are read

  in-invoice-alone : plain.stands_there invoice_currency None None ≡ true
  unfolding terms extension_rows listing_rows parent_of occurrence_of
  in-invoice-alone = refl

  accounting-alone : plain.stands_there accounting_currency None None ≡ true
  unfolding terms extension_rows listing_rows parent_of occurrence_of
  accounting-alone = refl

  -- one of the two currencies
  module _ (money : Term) (form_is : (form : Form) → form_for form money ≡ forms.Model) (alone : plain.stands_there money None None ≡ true)
      (told : (pick : Pick) → IsNotToldHere pick → has_term money pick.row ≡ false) (no_code : same_term money subject_code ≡ false) where
    abbrev money_picks : List Pick
    money_picks = all_picked all_nodes (rows_where (has_term money) rows)

    abbrev IsMoney : List ℕ → Type 0
    IsMoney string = (v : Value) × ((value_in es money root_context ≡ Some v) × (string ≡ spelled v))

    -- what is picked as the currency is that
    says-currency : (pick : Pick) → Among pick (all_picked all_nodes (rows_where (has_term money) rows)) → IsMoney (string_at all_nodes pick.node)
    says-currency pick a =
        let w = of-flat_map (λ (r : Numbered). nodes_picked all_nodes r.place r.row) pick (rows_where (has_term money) rows) a in
        let r : Numbered = w.0 in
        let v = of-filter-any (λ (x : Numbered). has_term money x.row) r (numbered 1 rows) w.1.0 in
        let there : Among r (rows_where has_any_term rows) =
        among-filter (λ (x : Numbered). has_any_term x.row) r (numbered 1 rows) (has-any (term_in r.row.content) v.1) v.0 in
        let has : has_term money pick.row ≡ true = ap (has_term money) (row-of all_nodes r.place r.row pick w.1.1) ∙ v.1 in
        elim (of-row pick r there w.1.1) [ inl f ↦ from f has | inr n ↦ absurd (false≢true (sym (told pick n) ∙ has)) ]
      where
        has-any : (o : Option Term) → (elim o [ None ↦ false | Some t ↦ same_term t money ]) ≡ true → is_some o ≡ true
        has-any None k = absurd (false≢true k)
        has-any (Some t) k = refl

        from : FromRow pick → has_term money pick.row ≡ true → IsMoney (string_at all_nodes pick.node)
        from f has =
            let term : f.term ≡ money = same_term_is f.term money
            (sym (ap (λ content. elim (term_in content) [ None ↦ false | Some t ↦ same_term t money ]) f.cover.content) ∙ has) in
            let e : Entry = f.told_is.e in
            let is : e.term ≡ money = f.told_is.term_is ∙ term in
            let root : e.context ≡ root_context = root-entry law rows es invoice money alone e f.told_is.known is in (
              e.value,
              (
                (λ i. value_in es (sym is i) (sym root i)) ∙ own-value es e invoice.listed f.told_is.known,
                f.told_is.string_is ∙ (ap (λ t. formed (form_for pick.row.form t) es e.context e.value) term ∙
                    ap (λ form. formed form es e.context e.value) (form_is pick.row.form)),
              ),
            )

    -- the first of them, if there is one
    first-money : (ps : List Pick) → ((pick : Pick) → Among pick ps → IsMoney (string_at all_nodes pick.node))
        → (first_string all_nodes ps ≡ None) ⊎ ((v : Value) ×
        ((value_in es money root_context ≡ Some v) × (first_string all_nodes ps ≡ Some (trimmed (spelled v)))))
    first-money [] f = inl refl
    first-money (pick ∷ ps) f = let w = f pick (inl refl) in inr (w.0, (w.1.0, ap (λ t. Some (trimmed t)) w.1.1))

    pub money-read : (first_string all_nodes (all_picked all_nodes (rows_where (has_term money) rows)) ≡ None)
        ⊎ ((v : Value) × ((value_in es money root_context ≡ Some v) ×
        (first_string all_nodes (all_picked all_nodes (rows_where (has_term money) rows)) ≡ Some (trimmed (spelled v)))))
    money-read = first-money (all_picked all_nodes (rows_where (has_term money) rows)) says-currency

    -- there is one, where the currency stands in the invoice
    pub money-named : (c : Currencies) → AreOwn rows es c → (v : Value) → value_in es money root_context ≡ Some v →
        first_string all_nodes (all_picked all_nodes (rows_where (has_term money) rows)) ≡ currency_text es money
    money-named c own v is =
        let e : Entry = record { context = root_context; term = money; value = v } in
        let t = to-pick c own e (at-value law es invoice money root_context v is) in
        let d = due-pick c own t.pick t.among in
        let has : has_term money d.row.row ≡ true =
        ap (has_term money) (sym (row-of all_nodes d.row.place d.row.row t.pick d.picked)) ∙
        (ap (λ content. elim (term_in content) [ None ↦ false | Some u ↦ same_term u money ]) t.content ∙ is-money t.term t.of_term) in
        let known = of-filter-any (λ (x : Numbered). has_any_term x.row) d.row (numbered 1 rows) d.known in
        let there : Among t.pick (all_picked all_nodes (rows_where (has_term money) rows)) =
        among-flat_map (λ (r : Numbered). nodes_picked all_nodes r.place r.row) d.row t.pick (rows_where (has_term money) rows)
        (among-filter (λ (x : Numbered). has_term money x.row) d.row (numbered 1 rows) has known.0) d.picked in
        go (all_picked all_nodes (rows_where (has_term money) rows)) says-currency t.pick there
      where
        same-term-itself : (u : Term) → same_term u u ≡ true
        same-term-itself u = grind (arith, nat_tests)

        is-money : (term : Term) → (term ≡ money) ⊎ (money ≡ subject_code) → same_term term money ≡ true
        is-money term (inl s) = ap (λ u. same_term u money) s ∙ same-term-itself money
        is-money term (inr s) = absurd (false≢true (sym no_code ∙ (ap (same_term money) (sym s) ∙ same-term-itself money)))

        go : (ps : List Pick) → ((pick : Pick) → Among pick ps → IsMoney (string_at all_nodes pick.node)) → (pick : Pick) → Among pick ps →
            first_string all_nodes ps ≡ currency_text es money
        go [] f pick a = absurd a
        go (first ∷ ps) f pick a = let w = f first (inl refl) in ap (λ t. Some (trimmed t)) w.1.1 ∙
            sym (ap (option_map (λ (value : Value). trimmed (spelled value))) w.1.0)

  first-false : (a b : Bool) → (a || b) ≡ false → a ≡ false
  first-false true b k = k
  first-false false b k = refl

  second-false : (a b : Bool) → (a || b) ≡ false → b ≡ false
  second-false true b k = absurd (false≢true (sym k))
  second-false false b k = k

  not-money : (pick : Pick) → IsNotToldHere pick → has_term invoice_currency pick.row ≡ false
  not-money pick n = first-false (has_term invoice_currency pick.row) (has_term accounting_currency pick.row) n.no_money

  not-accounting-money : (pick : Pick) → IsNotToldHere pick → has_term accounting_currency pick.row ≡ false
  not-accounting-money pick n = second-false (has_term invoice_currency pick.row) (has_term accounting_currency pick.row) n.no_money

  -- both currencies of the invoice, where they differ
  both-read : is_other_text (currency_text es invoice_currency) (currency_text es accounting_currency) ≡ true → AreNamed es (currencies all_nodes rows)
  both-read other = go (value_in es invoice_currency root_context) refl (value_in es accounting_currency root_context) refl other
    where
      go : (a : Option Value) → value_in es invoice_currency root_context ≡ a → (b : Option Value) → value_in es accounting_currency root_context ≡ b
          → is_other_text (option_map (λ (value : Value). trimmed (spelled value)) a) (option_map (λ (value : Value). trimmed (spelled value)) b) ≡ true →
          AreNamed es (currencies all_nodes rows)
      go None e b f k = absurd (false≢true k)
      go (Some v) e None f k = absurd (false≢true k)
      go (Some v) e (Some w) f k =
          let first_is : currency_text es invoice_currency ≡ Some (trimmed (spelled v)) = ap (option_map (λ (value : Value). trimmed (spelled value))) e in
          let second_is : currency_text es accounting_currency ≡ Some (trimmed (spelled w)) = ap (option_map (λ (value : Value). trimmed (spelled value))) f in
          let c : Currencies = record { invoice = currency_text es invoice_currency; accounting = currency_text es accounting_currency } in
          let own : AreOwn rows es c = (
            inr (v, (e, first_is)),
            inr (record {
              first = trimmed (spelled v);
              second = trimmed (spelled w);
              first_is = first_is;
              second_is = second_is;
              first_read = first_is;
              second_read = second_is;
            }),
          ) in
          record {
            first = trimmed (spelled v);
            second = trimmed (spelled w);
            first_is = first_is;
            second_is = second_is;
            first_read = money-named invoice_currency money-form in-invoice-alone not-money refl c own v e ∙ first_is;
            second_read = money-named accounting_currency accounting-form accounting-alone not-accounting-money refl c own w f ∙ second_is;
          }

  pub currency-read : AreOwn rows es (currencies all_nodes rows)
  currency-read = (money-read invoice_currency money-form in-invoice-alone not-money refl, go (holds_none (accounting_terms rows) es) refl)
    where
      go : (b : Bool) → holds_none (accounting_terms rows) es ≡ b → (holds_none (accounting_terms rows) es ≡ true) ⊎ AreNamed es (currencies all_nodes rows)
      go true e = inl e
      go false e = inr (both-read (currencies-differ e))

  -- the answer, if it is no fault
  pub answer-is : (lists : Lists) (read : Read) → terms_of all_nodes rows lists ≡ Ok read → (read.entries ≡ es) × (read.passed_over ≡ 0)
  unfolding terms_of
  answer-is lists read h =
      let c : Currencies = currencies all_nodes rows in
      go (least (all_faults all_nodes lists c rows (place_all all_nodes (term_picks all_nodes c rows)))) h
    where
      go : (o : Option Found) → ◌≡◌ {A = Result Read BindFault} (elim o [
        | Some first ↦ Err first.fault
        | None ↦ Ok (record {
          entries = entries (told all_nodes (place_all all_nodes (term_picks all_nodes (currencies all_nodes rows) rows)));
          passed_over =
              passed_over all_nodes rows;
        })
      ]) (Ok read)
          → (read.entries ≡ es) × (read.passed_over ≡ 0)
      go (Some first) k = absurd (let z : ◌≡◌ {A = Result Read BindFault} (Err first.fault) (Ok read) = k in cc)
      go None k =
          let here : record {
            entries = entries (told all_nodes (place_all all_nodes (term_picks all_nodes (currencies all_nodes rows) rows)));
            passed_over =
                passed_over all_nodes rows;
          } ≡ read =
          (let z : ◌≡◌ {A = Result Read BindFault}
          (Ok (record {
            entries = entries (told all_nodes (place_all all_nodes (term_picks all_nodes (currencies all_nodes rows) rows)));
            passed_over =
                passed_over all_nodes rows;
          })) (Ok read) = k in cc) in (
            ap (λ (r : Read). r.entries) (sym here) ∙ entries-read (currencies all_nodes rows) currency-read,
            ap (λ (r : Read). r.passed_over) (sym here) ∙ nothing-passed rows es,
          )

-- ---- to another table and back

pub converted-back : Laws → (first second : List Row) (es : List Entry) (lists : Lists) (read again : Read) → IsInvoice es
    → All (λ (r : Row). 0 < length r.path) first → first_fault first ≡ Ok tt → is_settled first ≡ true → holds_plainly first es ≡ true
    → All (λ (r : Row). 0 < length r.path) second → first_fault second ≡ Ok tt → is_settled second ≡ true → holds_plainly second es ≡ true
    → terms_of (document_nodes (document_of first es)) first lists ≡ Ok read →
    terms_of (document_nodes (document_of second read.entries)) second lists ≡ Ok again
    → (again.entries ≡ es) × (document_of first again.entries ≡ document_of first es)
converted-back law first second es lists read again invoice paths fine settled plainly other_paths other_fine other_settled other_plainly read_is again_is =
    let there : read.entries ≡ es = (answer-is law first es invoice paths fine settled plainly lists read read_is).0 in
    let back : again.entries ≡ es =
    (answer-is law second es invoice other_paths other_fine other_settled other_plainly lists again
    (subst (λ x. terms_of (document_nodes (document_of second x)) second lists ≡ Ok again) there again_is)).0 in
    (back, ap (document_of first) back)
