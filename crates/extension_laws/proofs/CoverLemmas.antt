-- Each row that was covered still is where a row joins them, and that row is.
use Rattle.std.proofs.Common.{◌≡◌, ◌<◌, Bool, true, false, not, ◌&&◌, ◌||◌, List, [], ◌∷◌, ◌++◌, length, None, All, refl, sym, ap, ◌∙◌}
use Rattle.std.specs.Prelude.{is_some, is_none}
use Rattle.std.specs.List.{list_any}
use Rattle.std.specs.Str.{bytes_eq}
use Rattle.std.specs.Cmp.Lexicographic.{pointwise}
use Rattle.std.proofs.lemmas.Bool.{false≢true}
use Rattle.term_table.specs.declared.terms.Term.{Term}
use Rattle.term_table.specs.Groups.{same_group}
use Rattle.term_table.specs.Rows.{data_type_of}
use Rattle.bind_rows.specs.declared.names.Leaf.{Leaf}
use Rattle.bind_rows.specs.declared.names.Leaf.TheVariants as leaves
use Rattle.bind_rows.specs.declared.rows.Content.{Content}
use Rattle.bind_rows.specs.declared.rows.Content.TheVariants as contents
use Rattle.bind_rows.specs.declared.rows.Placeholder.{Placeholder}
use Rattle.bind_rows.specs.declared.rows.Row.{Row}
use Rattle.bind_rows.specs.declared.rows.Written.{Written}
use Rattle.bind_rows.specs.declared.rows.Written.TheVariants as written
use Rattle.bind_rows.specs.Same.{same_step, same_or_none}
use Rattle.bind_table.specs.Lines.{Cell, Plan, plan_of}
use Rattle.bind_meaning.specs.Currencies.{invoice_currency, accounting_currency, currency_id}
use Rattle.bind_meaning.specs.Picks.{has_term}
use Rattle.bind_meaning.specs.Values.{form_for}
use Rattle.bind_meaning.specs.Trees.{is_at_element, is_amount, is_vat_total}
use Rattle.inv_terms.specs.Values.{trimmed}
use Rattle.binding_laws.specs.Apart.{is_at_attribute, Known, without, unknown, is_apart}
use Rattle.binding_laws.specs.Twins.{same_way}
use Rattle.binding_laws.specs.Known.{is_trimmed, known_of}
use Rattle.binding_laws.specs.Faultless.{is_model, is_no_row}
use Rattle.binding_laws.specs.Plain.{rows_at, groups_of, listed, is_one, is_element, is_always, is_whole, is_by_value, is_kept_apart, has_content}
use Rattle.binding_laws.specs.Plain.{is_of_one_term, stands_there, is_plain_there, is_plain_with, is_plain_in, is_plain_by, is_part_named}
use Rattle.binding_laws.specs.Plain.{is_plain_attribute_with, is_plain_beside, is_spread_with, is_spread_in, is_spread_by, is_spread_attribute_in}
use Rattle.binding_laws.specs.Plain.{is_spread_beside}
use Rattle.binding_laws.specs.Covered.{is_or_placeholder, is_filled_in, is_filled_by, is_total_rule, is_accounting_rule, accounting_terms_of, accounting_terms}
use Rattle.binding_laws.specs.Covered.{total_terms, is_total_there, beside_placeholder, is_half, are_pair, is_of_pair, is_pair_in, is_pair_by, unpaired_terms}
use Rattle.binding_laws.specs.Covered.{is_total_in, is_total_by, are_beside, is_row_beside, is_told_placeholder, is_joined, unjoined_terms, is_known_beside}
use Rattle.binding_laws.specs.Covered.{is_known_by, is_coded, is_noted_in, is_noted_by, is_covered_in}
use Rattle.binding_laws.proofs.ReachLemmas.{Among}
use Rattle.extension_laws.specs.Joins.{Joins}
use Rattle.extension_laws.proofs.AloneLemmas.{known-same, beside-same, no-accounting, accounting-same, total-same, subject-same}
use Rattle.extension_laws.proofs.JoinLemmas.{is, apart-stays, rows-stay, twins-stay}
use Rattle.extension_laws.proofs.ListLemmas.{or-mono, and-mono, any-front, unless-more}

-- by the content of a row
pub content-mono : (f g : Term → Bool) → ((t : Term) → f t ≡ true → g t ≡ true) → (c : Content)
    → elim c [ (contents.Term t) ↦ f t | (contents.Constant text) ↦ false ] ≡ true
    → elim c [ (contents.Term t) ↦ g t | (contents.Constant text) ↦ false ] ≡ true
content-mono f g h (contents.Term t) e = h t e
content-mono f g h (contents.Constant text) e = absurd (false≢true e)

pub if-mono : (a b c : Bool) → (b ≡ true → c ≡ true) → elim a [ true ↦ b | false ↦ false ] ≡ true → elim a [ true ↦ c | false ↦ false ] ≡ true
if-mono true b c h e = h e
if-mono false b c h e = absurd (false≢true e)

pub placeholder-mono : (f g : Placeholder → Bool) → ((x : Placeholder) → f x ≡ true → g x ≡ true) → (w : Written)
    → elim w [ (written.OrPlaceholder x) ↦ f x | _ ↦ false ] ≡ true → elim w [ (written.OrPlaceholder x) ↦ g x | _ ↦ false ] ≡ true
placeholder-mono f g h (written.OrPlaceholder x) e = h x e
placeholder-mono f g h written.Always e = absurd (false≢true e)
placeholder-mono f g h written.Never e = absurd (false≢true e)
placeholder-mono f g h written.IfIban e = absurd (false≢true e)
placeholder-mono f g h written.IfNotIban e = absurd (false≢true e)
placeholder-mono f g h written.IfScheme e = absurd (false≢true e)
placeholder-mono f g h written.IfNoScheme e = absurd (false≢true e)
placeholder-mono f g h written.VatTotal e = absurd (false≢true e)
placeholder-mono f g h written.AccountingVatTotal e = absurd (false≢true e)

module _ (rows : List Row) (row : Row) (joins : Joins rows row) (long : All (λ (r : Row). 0 < length r.path) rows) where
  abbrev all : List Row
  all = rows ++ row ∷ []

  abbrev now : Plan
  now = plan_of all

  abbrev was : Plan
  was = plan_of rows

  pub apart : (known : Known) (r : Row) → Among r rows → is_apart known now r.path ≡ is_apart known was r.path
  apart known r a = apart-stays rows row joins long known r a

  pub ending : (is_so : Cell → Bool) (r : Row) → Among r rows → rows_at is_so now r.path ≡ rows_at is_so was r.path
  ending is_so r a = rows-stay rows row joins long is_so r a

  -- ---- tests that stay as they were

  pub plain-stays : (known : Known) (r : Row) (t : Term) → Among r rows → is_plain_with known now r t ≡ is_plain_with known was r t
  plain-stays known r t a = λ i.
      apart known r a i
      && (is_whole (form_for r.form t)
      && (is_one (ending is_at_element r a i)
      && (is_element r.leaf
      && (has_content t r.content
      && (is_by_value r.written && (pointwise same_group (groups_of r.path) (listed r.outer ++ listed r.inner) &&
      ((is_some r.outer || is_none r.inner) && is_kept_apart r t)))))))

  pub plain-there-stays : (r : Row) (t : Term) → Among r rows → is_plain_there now r t ≡ is_plain_there was r t
  plain-there-stays r t a = λ i.
      is_one (ending is_at_element r a i)
      && (is_element r.leaf
      && (has_content t r.content
      && (is_by_value r.written && (pointwise same_group (groups_of r.path) (listed r.outer ++ listed r.inner) &&
      ((is_some r.outer || is_none r.inner) && is_kept_apart r t)))))

  pub spread-stays : (known : Known) (r : Row) (t : Term) → Among r rows → is_spread_with known now r t ≡ is_spread_with known was r t
  spread-stays known r t a = λ i.
      apart known r a i
      && (is_one (ending is_at_element r a i)
      && (is_element r.leaf
      && (has_content t r.content && (is_of_one_term (form_for r.form t) &&
      (is_by_value r.written && (is_none r.outer && (is_none r.inner && stands_there t None None)))))))

  named-stays : (main : Row) (leaf : Leaf) → Among main rows → is_part_named now main leaf ≡ is_part_named was main leaf
  named-stays main leaves.Element a = refl
  named-stays main (leaves.Attribute local) a = λ i. not (bytes_eq local currency_id) && is_one (ending (is_at_attribute local) main a i)

  pub attribute-stays : (known : Known) (r : Row) (t : Term) (main : Row) (u : Term) → Among main rows
      → is_plain_attribute_with known now r t main u ≡ is_plain_attribute_with known was r t main u
  attribute-stays known r t main u a = λ i.
      pointwise same_step r.path main.path
      && (plain-stays known main u a i
      && (same_or_none r.outer main.outer
      && (same_or_none r.inner main.inner
      && (named-stays main r.leaf a i && (has_content t r.content &&
      (is_whole (form_for r.form t) && (is_of_one_term (form_for r.form t) && is_always r.written)))))))

  pub spread-attribute-stays : (r : Row) (t : Term) (main : Row) (u : Term) → Among main rows
      → is_spread_attribute_in now r t main u ≡ is_spread_attribute_in was r t main u
  spread-attribute-stays r t main u a = λ i.
      pointwise same_step r.path main.path
      && (spread-stays unknown main u a i
      && (is_whole (form_for main.form u)
      && (is_none r.outer
      && (is_none r.inner
      && (named-stays main r.leaf a i && (has_content t r.content &&
      (is_whole (form_for r.form t) && (is_of_one_term (form_for r.form t) && is_always r.written))))))))

  pub filled-stays : (r : Row) (t : Term) → Among r rows → is_filled_in now r t ≡ is_filled_in was r t
  filled-stays r t a = λ i. elim (is_or_placeholder r.written) [
    | true ↦ apart unknown r a i
        && (is_one (ending is_at_element r a i)
        && (is_element r.leaf && (has_content t r.content &&
        (is_of_one_term (form_for r.form t) && (is_none r.outer && (is_none r.inner && stands_there t None None))))))
    | false ↦ false
  ]

  total-there-stays : (gone : List Term) (r : Row) (t : Term) → Among r rows → is_total_there now gone r t ≡ is_total_there was gone r t
  total-there-stays gone r t a = λ i.
      apart (without gone) r a i
      && (is_one (ending is_at_element r a i)
      && (is_element r.leaf
      && (has_content t r.content
      && (is_of_one_term (form_for r.form t) && (is_no_row (ending (is_at_attribute currency_id) r a i) &&
      (is_none r.outer && (is_none r.inner && stands_there t None None)))))))

  -- ---- both VAT totals

  half-stays : (others others' : List Term) → others' ≡ others → (r : Row) → Among r rows → is_half now all others' r ≡ is_half was rows others r
  half-stays others others' e r a = λ i. elim r.content [
    | (contents.Term t) ↦ (total-there-stays others' r t a ∙ ap (λ gone. is_total_there was gone r t) e) i &&
        (is_amount r && not (list_any (λ u. has_term u r) (beside-same rows row joins i)))
    | (contents.Constant text) ↦ false
  ]

  pair-stays : (main twin : Row) → Among main rows → Among twin rows → are_pair now all main twin ≡ are_pair was rows main twin
  pair-stays main twin a b = λ i. elim (is_total_rule main.written) [
    | true ↦ elim (is_accounting_rule twin.written) [
      | true ↦ half-stays (accounting_terms rows) (accounting_terms all) (accounting-same rows row joins) main a i
          && (half-stays (total_terms rows) (total_terms all) (total-same rows row joins) twin b i &&
          (same_way main.path twin.path && twins-stay rows row joins long main twin a b i))
      | false ↦ false
    ]
    | false ↦ false
  ]

  of-pair-stays : (r : Row) → Among r rows → is_of_pair was rows r ≡ true → is_of_pair now all r ≡ true
  of-pair-stays r a h =
      if-mono (is_vat_total r.written) (list_any (λ other. are_pair was rows r other || are_pair was rows other r) rows)
      (list_any (λ other. are_pair now all r other || are_pair now all other r) all)
      (any-front (λ other. are_pair was rows r other || are_pair was rows other r) (λ other. are_pair now all r other || are_pair now all other r) rows
      (row ∷ [])
      (λ o b. or-mono (are_pair was rows r o) (are_pair was rows o r) (are_pair now all r o) (are_pair now all o r) (λ e. pair-stays r o a b ∙ e)
      (λ e. pair-stays o r b a ∙ e))) h

  pub pair-in-stays : (r : Row) (t : Term) → Among r rows → is_pair_in was rows r t ≡ true → is_pair_in now all r t ≡ true
  pair-in-stays r t a h = go (is_of_pair was rows r) refl h
    where
      go : (b : Bool) → is_of_pair was rows r ≡ b → elim b [ true ↦ has_content t r.content | false ↦ false ] ≡ true → is_pair_in now all r t ≡ true
      go true e k = ap (λ b. elim b [ true ↦ has_content t r.content | false ↦ false ]) (of-pair-stays r a e) ∙ k
      go false e k = absurd (false≢true k)

  pub paired-more : unpaired_terms was rows ≡ [] → unpaired_terms now all ≡ []
  paired-more none = unless-more (is_of_pair was rows) (is_of_pair now all) accounting_terms_of rows row (λ r a h. of-pair-stays r a h)
      (no-accounting rows row joins) none

  -- ---- placeholders

  row-beside-stays : (r : Row) (placeholder : Placeholder) (o : Row) → Among o rows → is_row_beside was r placeholder o ≡ true
      → is_row_beside now r placeholder o ≡ true
  row-beside-stays r placeholder o a h = (λ i. spread-stays unknown o placeholder.beside a i && (is_always o.written && are_beside r.path o.path)) ∙ h

  told-stays : (r : Row) (t : Term) (placeholder : Placeholder) → is_told_placeholder was rows r t placeholder ≡ true
      → is_told_placeholder now all r t placeholder ≡ true
  told-stays r t placeholder h =
      and-mono (list_any (is_row_beside was r placeholder) rows) _ (list_any (is_row_beside now r placeholder) all) _
      (any-front (is_row_beside was r placeholder) (is_row_beside now r placeholder) rows (row ∷ []) (λ o a e. row-beside-stays r placeholder o a e))
      (λ e. (λ i. bytes_eq (trimmed placeholder.text) placeholder.text
      && (is_model (form_for r.form t)
      && (is_trimmed (data_type_of t)
      && (not (has_term invoice_currency r || has_term accounting_currency r) && not (list_any (λ u. has_term u r) (beside-same rows row joins i)))))) ∙ e) h

  joined-stays : (r : Row) → is_joined was rows r ≡ true → is_joined now all r ≡ true
  joined-stays r h =
      content-mono (λ t. elim r.written [ (written.OrPlaceholder placeholder) ↦ is_told_placeholder was rows r t placeholder | _ ↦ false ])
      (λ t. elim r.written [ (written.OrPlaceholder placeholder) ↦ is_told_placeholder now all r t placeholder | _ ↦ false ])
      (λ t e. placeholder-mono (is_told_placeholder was rows r t) (is_told_placeholder now all r t) (λ placeholder k. told-stays r t placeholder k) r.written
      e) r.content h

  pub joined-more : unjoined_terms was rows ≡ [] → unjoined_terms now all ≡ []
  joined-more none =
      unless-more (is_joined was rows) (is_joined now all) beside_placeholder rows row (λ r a h. joined-stays r h)
      (ap (λ (w : Written). elim w [ (written.OrPlaceholder placeholder) ↦ placeholder.beside ∷ [] | _ ↦ [] ]) (is rows row joins).written) none

  -- ---- by what is known, and notes

  known-beside-stays : (known : Known) (r main : Row) → Among main rows → is_known_beside known was r main ≡ true → is_known_beside known now r main ≡ true
  known-beside-stays known r main a h =
      content-mono (λ t. elim main.content [ (contents.Term u) ↦ is_plain_attribute_with known was r t main u | (contents.Constant text) ↦ false ])
      (λ t. elim main.content [ (contents.Term u) ↦ is_plain_attribute_with known now r t main u | (contents.Constant text) ↦ false ])
      (λ t e. content-mono (λ u. is_plain_attribute_with known was r t main u) (λ u. is_plain_attribute_with known now r t main u)
      (λ u k. attribute-stays known r t main u a ∙ k) main.content e) r.content h

  spread-beside-stays : (r main : Row) → Among main rows → is_spread_beside was r main ≡ true → is_spread_beside now r main ≡ true
  spread-beside-stays r main a h =
      content-mono (λ t. elim main.content [ (contents.Term u) ↦ is_spread_attribute_in was r t main u | (contents.Constant text) ↦ false ])
      (λ t. elim main.content [ (contents.Term u) ↦ is_spread_attribute_in now r t main u | (contents.Constant text) ↦ false ])
      (λ t e. content-mono (λ u. is_spread_attribute_in was r t main u) (λ u. is_spread_attribute_in now r t main u) (λ u k. spread-attribute-stays r t main u a
      ∙ k) main.content e) r.content h

  known-by-stays : (known : Known) (r : Row) → Among r rows → is_known_by known was rows r ≡ true → is_known_by known now all r ≡ true
  known-by-stays known r a h =
      content-mono (λ t. is_plain_with known was r t || (is_spread_with known was r t || list_any (is_known_beside known was r) rows))
      (λ t. is_plain_with known now r t || (is_spread_with known now r t || list_any (is_known_beside known now r) all))
      (λ t e. or-mono (is_plain_with known was r t) (is_spread_with known was r t || list_any (is_known_beside known was r) rows) (is_plain_with known now r t)
      (is_spread_with known now r t || list_any (is_known_beside known now r) all)
      (λ k. plain-stays known r t a ∙ k)
      (or-mono (is_spread_with known was r t) (list_any (is_known_beside known was r) rows) (is_spread_with known now r t)
      (list_any (is_known_beside known now r) all)
      (λ k. spread-stays known r t a ∙ k)
      (any-front (is_known_beside known was r) (is_known_beside known now r) rows (row ∷ []) (λ o b k. known-beside-stays known r o b k))) e) r.content h

  pub noted-stays : (r : Row) (t : Term) → Among r rows → is_noted_in now all r t ≡ is_noted_in was rows r t
  noted-stays r t a = λ i. elim (is_coded (form_for r.form t)) [
    | true ↦ apart unknown r a i && (plain-there-stays r t a i && not (subject-same rows row joins i))
    | false ↦ false
  ]

  module _ (paired : unpaired_terms was rows ≡ []) where
    pub total-stays : (r : Row) (t : Term) → Among r rows → is_total_in now all r t ≡ is_total_in was rows r t
    total-stays r t a = λ i. elim (is_total_rule r.written) [
      | true ↦ (ap (λ gone. is_total_there now gone r t) (paired-more paired ∙ sym paired) ∙ total-there-stays (unpaired_terms was rows) r t a) i
      | false ↦ false
    ]

    pub covered-stays : (r : Row) → Among r rows → is_covered_in was rows r ≡ true → is_covered_in now all r ≡ true
    covered-stays r a =
        or-mono (is_plain_by was r) _ (is_plain_by now r) _
        (content-mono (λ t. is_plain_in was r t) (λ t. is_plain_in now r t) (λ t e. plain-stays unknown r t a ∙ e) r.content)
        (or-mono (is_spread_by was r) _ (is_spread_by now r) _
        (content-mono (λ t. is_spread_in was r t) (λ t. is_spread_in now r t) (λ t e. spread-stays unknown r t a ∙ e) r.content)
        (or-mono (list_any (is_plain_beside was r) rows) _ (list_any (is_plain_beside now r) all) _
        (any-front (is_plain_beside was r) (is_plain_beside now r) rows (row ∷ []) (λ o b e. known-beside-stays unknown r o b e))
        (or-mono (list_any (is_spread_beside was r) rows) _ (list_any (is_spread_beside now r) all) _
        (any-front (is_spread_beside was r) (is_spread_beside now r) rows (row ∷ []) (λ o b e. spread-beside-stays r o b e))
        (or-mono (is_filled_by was r) _ (is_filled_by now r) _
        (content-mono (λ t. is_filled_in was r t) (λ t. is_filled_in now r t) (λ t e. filled-stays r t a ∙ e) r.content)
        (or-mono (is_total_by was rows r) _ (is_total_by now all r) _
        (content-mono (λ t. is_total_in was rows r t) (λ t. is_total_in now all r t) (λ t e. total-stays r t a ∙ e) r.content)
        (or-mono (is_pair_by was rows r) _ (is_pair_by now all r) _
        (content-mono (λ t. is_pair_in was rows r t) (λ t. is_pair_in now all r t) (λ t e. pair-in-stays r t a e) r.content)
        (or-mono (is_known_by (known_of rows) was rows r) (is_noted_by was rows r) (is_known_by (known_of all) now all r) (is_noted_by now all r)
        (λ e. ap (λ k. is_known_by k now all r) (known-same rows row joins) ∙ known-by-stays (known_of rows) r a e)
        (content-mono (λ t. is_noted_in was rows r t) (λ t. is_noted_in now all r t) (λ t e. noted-stays r t a ∙ e) r.content))))))))
