-- A table in which reading finds no fault stays so where a row joins it.
use Rattle.std.proofs.Common.{◌≡◌, ◌<◌, Bool, true, false, not, ◌&&◌, ◌||◌, List, [], ◌∷◌, ◌++◌, length, Some, None, All, inl, inr, refl, ap, ◌∙◌}
use Rattle.std.specs.List.{list_all, list_any}
use Rattle.term_table.specs.declared.terms.Term.{Term}
use Rattle.term_table.specs.SemanticModel.{same_term}
use Rattle.bind_rows.specs.declared.rows.Check.{Check}
use Rattle.bind_rows.specs.declared.rows.Check.TheVariants as checks
use Rattle.bind_rows.specs.declared.rows.Content.{Content}
use Rattle.bind_rows.specs.declared.rows.Content.TheVariants as contents
use Rattle.bind_rows.specs.declared.rows.Row.{Row}
use Rattle.bind_table.specs.Lines.{Plan, plan_of}
use Rattle.bind_meaning.specs.Currencies.{currency_id}
use Rattle.bind_meaning.specs.Judging.{may_repeat}
use Rattle.bind_meaning.specs.Picks.{term_in, has_term, has_any_term}
use Rattle.bind_meaning.specs.Trees.{is_at_element, is_amount, is_vat_total}
use Rattle.bind_meaning.specs.Writing.{scheme_of}
use Rattle.binding_laws.specs.Apart.{is_attribute_named, is_at_attribute, unknown, is_apart}
use Rattle.binding_laws.specs.Plain.{rows_at, is_element, has_content}
use Rattle.binding_laws.specs.Faultless.{goes_through, is_told_once, are_apart_at, are_apart, all_apart, is_if_scheme, is_needed_with, scheme_id}
use Rattle.binding_laws.specs.Faultless.{is_scheme_beside, has_scheme_of, has_scheme, format_name, are_format, has_format, is_no_row, is_in_invoice_currency}
use Rattle.binding_laws.specs.Faultless.{shows_currency_there, shows_its_currency, are_word, has_word, is_fine, is_faultless}
use Rattle.binding_laws.proofs.ReachLemmas.{Among}
use Rattle.binding_laws.proofs.ListLemmas.{both-true}
use Rattle.carrying_laws.proofs.Disjuncts.{and-true, or-second}
use Rattle.carrying_laws.proofs.ModelLemmas.{all-each}
use Rattle.extension_laws.specs.Joins.{Joins}
use Rattle.extension_laws.proofs.AloneLemmas.{other-term}
use Rattle.extension_laws.proofs.CoverLemmas.{apart, ending, attribute-stays}
use Rattle.extension_laws.proofs.JoinLemmas.{IsAddedRow, is, ends-alone, no-attribute}
use Rattle.extension_laws.proofs.ListLemmas.{and-mono, any-front, all-more}
use Rattle.extension_laws.proofs.PlainLemmas.{through}

-- ---- rows that tell no term twice

apart-behind : (rows : List Row) (row : Row) → all_apart rows ≡ true → ((r : Row) → Among r rows → are_apart r row ≡ true) → all_apart (rows ++ row ∷ []) ≡ true
apart-behind [] row h f = refl
apart-behind (r ∷ rows) row h f =
    let w = both-true (list_all (are_apart r) rows) (all_apart rows) h in
    and-true (list_all (are_apart r) (rows ++ row ∷ [])) (all_apart (rows ++ row ∷ []))
    (all-more (are_apart r) rows row (all-each (are_apart r) rows w.0) (f r (inl refl)))
    (apart-behind rows row w.1 (λ x a. f x (inr a)))

-- by the check of a row
scheme-mono : (f g : Bool) → (f ≡ true → g ≡ true) → (c : Check) → elim c [ checks.Scheme ↦ f | _ ↦ true ] ≡ true
    → elim c [ checks.Scheme ↦ g | _ ↦ true ] ≡ true
scheme-mono f g h checks.Scheme e = h e
scheme-mono f g h checks.Nothing e = refl
scheme-mono f g h checks.Format e = refl
scheme-mono f g h (checks.Indicator t) e = refl

term-mono : (f g : Term → Bool) → ((t : Term) → f t ≡ true → g t ≡ true) → (c : Content)
    → elim c [ (contents.Term t) ↦ f t | (contents.Constant text) ↦ true ] ≡ true → elim c [ (contents.Term t) ↦ g t | (contents.Constant text) ↦ true ] ≡ true
term-mono f g h (contents.Term t) e = h t e
term-mono f g h (contents.Constant text) e = refl

module _ (rows : List Row) (row : Row) (joins : Joins rows row) (long : All (λ (r : Row). 0 < length r.path) rows) where
  abbrev all : List Row
  all = rows ++ row ∷ []

  abbrev now : Plan
  now = plan_of all

  abbrev was : Plan
  was = plan_of rows

  own : IsAddedRow row
  own = is rows row joins

  other-apart : (r : Row) → Among r rows → are_apart r row ≡ true
  other-apart r a = by r.content refl
    where
      by : (c : Content) → r.content ≡ c
          → elim c [ (contents.Term t) ↦ elim (has_term t row) [ true ↦ are_apart_at r row t | false ↦ true ] | (contents.Constant text) ↦ true ] ≡ true
      by (contents.Term t) e =
          let none : has_term t row ≡ false = ap (λ (c : Content). elim (term_in c) [ None ↦ false | Some u ↦ same_term u t ]) joins.content ∙
          other-term rows row joins r t a e in
          ap (λ b. elim b [ true ↦ are_apart_at r row t | false ↦ true ]) none
      by (contents.Constant text) e = refl

  -- ---- a row that was fine

  scheme-beside-stays : (r : Row) (t : Term) (part : Row) → Among r rows → is_scheme_beside was r t part ≡ true → is_scheme_beside now r t part ≡ true
  scheme-beside-stays r t part a h =
      (λ i. elim (has_content (scheme_of t) part.content) [
        | true ↦ is_attribute_named scheme_id part.leaf &&
            attribute-stays rows row joins long unknown part (scheme_of t) r t a i
        | false ↦ false
      ]) ∙ h

  scheme-stays : (r : Row) → Among r rows → has_scheme was rows r ≡ true → has_scheme now all r ≡ true
  scheme-stays r a =
      scheme-mono (elim r.content [ (contents.Term t) ↦ has_scheme_of was rows r t | (contents.Constant text) ↦ true ])
      (elim r.content [ (contents.Term t) ↦ has_scheme_of now all r t | (contents.Constant text) ↦ true ])
      (term-mono (has_scheme_of was rows r) (has_scheme_of now all r)
      (λ t. and-mono (is_if_scheme r.written || is_needed_with (scheme_of t) t r.outer r.inner) (list_any (is_scheme_beside was r t) rows)
      (is_if_scheme r.written || is_needed_with (scheme_of t) t r.outer r.inner) (list_any (is_scheme_beside now r t) all) (λ e. e)
      (any-front (is_scheme_beside was r t) (is_scheme_beside now r t) rows (row ∷ []) (λ o b. scheme-beside-stays r t o a))) r.content) r.check

  format-stays : (r : Row) → Among r rows → has_format now r ≡ has_format was r
  format-stays r a = λ i. elim r.check [
    | checks.Format ↦ is_element r.leaf && are_format (ending rows row joins long (is_at_attribute format_name) r a i)
    | _ ↦ true
  ]

  currency-stays : (r : Row) → Among r rows → shows_its_currency now r ≡ shows_its_currency was r
  currency-stays r a = λ i. elim r.content [
    | (contents.Term t) ↦ elim (is_amount r && not (is_vat_total r.written)) [
      | true ↦ is_element r.leaf
          && (list_all (λ (x : Row). is_in_invoice_currency x.written) (ending rows row joins long is_at_element r a i) &&
          is_no_row (ending rows row joins long (is_at_attribute currency_id) r a i))
      | false ↦ true
    ]
    | (contents.Constant text) ↦ true
  ]

  word-stays : (r : Row) → Among r rows → has_word now r ≡ has_word was r
  word-stays r a = λ i. elim r.check [
    | (checks.Indicator t) ↦ has_any_term r || (apart rows row joins long unknown r a i &&
        (is_element r.leaf && are_word (ending rows row joins long is_at_element r a i)))
    | _ ↦ true
  ]

  fine-stays : (r : Row) → Among r rows → is_fine was rows r ≡ true → is_fine now all r ≡ true
  fine-stays r a =
      and-mono (is_told_once r) _ (is_told_once r) _ (λ e. e)
      (and-mono (has_scheme was rows r) _ (has_scheme now all r) _ (scheme-stays r a)
      (and-mono (has_format was r) _ (has_format now r) _ (λ e. format-stays r a ∙ e)
      (and-mono (shows_its_currency was r) (has_word was r) (shows_its_currency now r) (has_word now r) (λ e. currency-stays r a ∙ e)
      (λ e. word-stays r a ∙ e))))

  -- ---- the row itself

  own-currency : shows_currency_there now row ≡ true
  own-currency =
      and-true (is_element row.leaf) _ (ap is_element own.leaf)
      (and-true (list_all (λ (x : Row). is_in_invoice_currency x.written) (rows_at is_at_element now row.path))
      (is_no_row (rows_at (is_at_attribute currency_id) now row.path))
      (ap (λ l. list_all (λ (x : Row). is_in_invoice_currency x.written) l) (ends-alone rows row joins long) ∙
      ap (λ w. is_in_invoice_currency w && true) own.written)
      (ap is_no_row (no-attribute rows row joins long currency_id)))

  shown : (b c : Bool) → c ≡ true → elim b [ true ↦ c | false ↦ true ] ≡ true
  shown true c e = e
  shown false c e = refl

  own-shows : shows_its_currency now row ≡ true
  own-shows =
      ap (λ (c : Content). elim c [
        | (contents.Term t) ↦ elim (is_amount row && not (is_vat_total row.written)) [
          | true ↦ shows_currency_there now row
          | false ↦ true
        ]
        | (contents.Constant text) ↦ true
      ]) joins.content
      ∙ shown (is_amount row && not (is_vat_total row.written)) (shows_currency_there now row) own-currency

  fine-own : is_fine now all row ≡ true
  fine-own =
      and-true (is_told_once row) _ (or-second (may_repeat row.repeats) (goes_through row) (through rows row joins))
      (and-true (has_scheme now all row) _
      (ap (λ (c : Check). elim c [
        | checks.Scheme ↦ elim row.content [ (contents.Term t) ↦ has_scheme_of now all row t | (contents.Constant text) ↦ true ]
        | _ ↦ true
      ]) own.check)
      (and-true (has_format now row) _
      (ap (λ (c : Check). elim c [ checks.Format ↦ is_element row.leaf && are_format (rows_at (is_at_attribute format_name) now row.path) | _ ↦ true ])
      own.check)
      (and-true (shows_its_currency now row) (has_word now row) own-shows
      (ap (λ (c : Check). elim c [
        | (checks.Indicator t) ↦ has_any_term row ||
            (is_apart unknown now row.path && (is_element row.leaf && are_word (rows_at is_at_element now row.path)))
        | _ ↦ true
      ]) own.check))))

  pub faultless-more : is_faultless rows ≡ true → is_faultless all ≡ true
  faultless-more h =
      let w = both-true (all_apart rows) (list_all (is_fine was rows) rows) h in
      and-true (all_apart all) (list_all (is_fine now all) all) (apart-behind rows row w.0 other-apart)
      (all-more (is_fine now all) rows row (λ r a. fine-stays r a (all-each (is_fine was rows) rows w.1 r a)) fine-own)
