-- The page has no tag but its own.
use Rattle.std.proofs.Common.{◌≡◌, ℕ, zero, suc, List, [], ◌∷◌, ◌++◌, refl, codes, decimal, ap, sym, subst, ◌∙◌, length, append-nil, append_assoc, arith}
use Rattle.std.specs.Prelude.{Option, Some, None, Ok, Err, true}
use Rattle.std.specs.List.{flat_map, list_all}
use Rattle.std.proofs.lemmas.Bool.{and_parts}
use Rattle.term_table.specs.declared.groups.Group.{Group}
use Rattle.term_table.specs.declared.contexts.Slot.{Slot}
use Rattle.inv_terms.specs.declared.values.Value.{Value}
use Rattle.inv_terms.specs.declared.entries.Entry.{Entry}
use Rattle.inv_terms.specs.Listing.{IsInvoice}
use Rattle.inv_terms.specs.Values.{spelled}
use Rattle.inv_totals.specs.declared.found.Difference.{Difference}
use Rattle.inv_totals.specs.Numbers.{Number}
use Rattle.inv_totals.specs.Totals.{differences}
use Rattle.inv_totals.specs.Lines.{computed_text}
use Rattle.page_tables.specs.declared.forms.Meanings.TheVariants as meanings
use Rattle.page_tables.specs.Tables.{Section, Table, other_kind, style}
use Rattle.page_tables.specs.Tables as tables
use Rattle.page_values.specs.Places.{Place, occurrence, value_at, invoice_place}
use Rattle.page_values.specs.Values.{title, text_at, value_of, kind_word}
use Rattle.page_layouts.specs.Layouts.{layout}
use Rattle.page_layouts.specs.Tables.{rows}
use Rattle.page_layouts.specs.Sections.{head_of}
use Rattle.invoice_page.specs.Page.{section_text, table_text, side, breakdown_text, difference_label, computed_value, difference_row, differing, bt, kind, head}
use Rattle.invoice_page.specs.Page.{amount_due, header, passed_text, footer, facts, each_party, lines, extras, vat, totals, rest, parties, sums, sections, page}
use Rattle.page_laws.specs.Tags.{are_bare, each_begins_one, has_tags_alone, values_in}
use Rattle.page_laws.specs.Visits.{of_term, of_section, of_table, visits_of, visits}
use Rattle.term_table.specs.declared.contexts.Seat.{Seat}
use Rattle.page_laws.proofs.BareLemmas.{Bare, Bare-append, Bare-decimal, Bare-decimal_text}
use Rattle.page_laws.proofs.PlaceLemmas.{IsSafe, invoice-safe, outer-safe, inner-safe}
use Rattle.page_laws.proofs.ValueLemmas.{Bare-title, Bare-text_at, Bare-kind_word, Shown-value_of}
use Rattle.page_laws.proofs.LayoutLemmas.{IsSafeAround, is_bare_section, is_bare_table, are_bare_columns, is_bare_item, is_bare_row, Tagged-row, Tagged-head_of}
use Rattle.page_laws.proofs.LayoutLemmas.{Tagged-in_section, Shown-each, Shown-layout, Shown-rows, Shown-in_section}
use Rattle.page_laws.proofs.TagLemmas.{Tagged, known, Tagged-nil, Tagged-append, Tagged-all, Tagged-bare}
use Rattle.page_laws.proofs.TagLemmas.{Shown, Shown-nil, Shown-append, Shown-before, Shown-after}

-- ---- totals that differ

Bare-computed : (x : Number) → Bare (computed_text x)
Bare-computed (Ok z) = Bare-decimal_text z
Bare-computed (Err fault) = refl

Bare-breakdown : (o : Option Slot) → Bare (breakdown_text o)
Bare-breakdown None = refl
Bare-breakdown (Some slot) = Bare-append (codes ", VAT breakdown ") (decimal slot.index) refl (Bare-decimal slot.index)

Tagged-difference : (d : Difference) → Tagged (difference_row d)
Tagged-difference d =
    Tagged-row (difference_label d) (computed_value d.computed)
    (Tagged-bare (difference_label d) (Bare-append (title d.term) (breakdown_text d.context.outer) (Bare-title d.term) (Bare-breakdown d.context.outer)))
    (Tagged-bare (computed_value d.computed) (Bare-append (codes "computed ") (computed_text d.computed) refl (Bare-computed d.computed)))

Tagged-differing : (ds : List Difference) → Tagged (differing ds)
unfolding has_tags_alone each_begins_one values_in
Tagged-differing ds =
    Tagged-in_section (head_of tables.differing.0 tables.differing.1 []) (flat_map difference_row ds) (codes "</section>\n")
    (Tagged-head_of tables.differing.0 tables.differing.1 [] refl refl refl) (Tagged-all difference_row Tagged-difference ds) (known _ refl (λ _. refl))

-- ---- sections

-- A place is safe, with its occurrences and those inside them.
record IsSafeThroughout (place : Place) : Type 0 where
  pub here : IsSafeAround place
  pub inside : (group : Group) (k : ℕ) → IsSafeAround (occurrence place group k)

module _ (place : Place) (safe : IsSafeThroughout place) where
  Shown-section_text : (section : Section) → is_bare_section section ≡ true → Shown (section_text place section) (of_section place section)
  unfolding has_tags_alone each_begins_one values_in
  Shown-section_text section h =
      let class = and_parts (are_bare section.0) _ h in
      let text = and_parts (are_bare section.1) (list_all is_bare_item section.2) class.1 in
      Shown-in_section (head_of section.0 section.1 []) (layout place section.2) (codes "</section>\n") (of_section place section)
      (Tagged-head_of section.0 section.1 [] class.0 text.0 refl) (Shown-layout place safe.here section.2 text.1) (known _ refl (λ _. refl))

  Shown-table_text : (table : Table) → is_bare_table table ≡ true → Shown (table_text place table) (of_table place table)
  unfolding has_tags_alone each_begins_one values_in
  Shown-table_text table h =
      let class = and_parts (are_bare table.0) _ h in
      let text = and_parts (are_bare table.1) _ class.1 in
      let columns = and_parts (are_bare_columns table.2) (list_all is_bare_row table.3) text.1 in
      Shown-in_section (head_of table.0 table.1 table.2) (rows place table.3) (codes "</tbody>\n</table>\n</section>\n") (of_table place table)
      (Tagged-head_of table.0 table.1 table.2 class.0 text.0 columns.0) (Shown-rows place safe.inside table.3 columns.1) (known _ refl (λ _. refl))

  Shown-sections : (list : List Section) → list_all is_bare_section list ≡ true
      → Shown (flat_map (section_text place) list) (flat_map (of_section place) list)
  Shown-sections list h = Shown-each (section_text place) (of_section place) is_bare_section Shown-section_text list h

-- ---- what stands around the sections

Bare-kind : (place : Place) → Bare (kind place)
Bare-kind place = by (value_at place (bt 3))
  where
    by : (o : Option Value) → Bare (elim o [ None ↦ other_kind | Some value ↦ kind_word (spelled value) ])
    by None = refl
    by (Some value) = Bare-kind_word (spelled value)

style-tagged : Tagged style
unfolding has_tags_alone each_begins_one values_in style
style-tagged = known style refl (λ _. refl)

-- a text and a space before another
spaced : (a b : List ℕ) → Bare a → Tagged b → Tagged (a ++ (0x20 ∷ b))
spaced a b h k = Tagged-append a (0x20 ∷ b) (Tagged-bare a h) (Tagged-append (0x20 ∷ []) b (Tagged-bare (0x20 ∷ []) refl) k)

Tagged-head : (place : Place) → Tagged (head place)
unfolding has_tags_alone each_begins_one values_in
Tagged-head place =
    Tagged-append (codes "<!DOCTYPE html>\n<html lang=\"en\">\n<head>\n<meta charset=\"utf-8\">\n") _ (known _ refl (λ _. refl))
    (Tagged-append (codes "<meta name=\"viewport\" content=\"width=device-width, initial-scale=1\">\n<title>") _ (known _ refl (λ _. refl))
    (spaced (kind place) _ (Bare-kind place)
    (Tagged-append (text_at place (bt 1)) _ (Tagged-bare (text_at place (bt 1)) (Bare-text_at place (bt 1)))
    (Tagged-append (codes "</title>\n<style>\n") _ (known _ refl (λ _. refl))
    (Tagged-append style (codes "</style>\n</head>\n<body>\n") style-tagged (known _ refl (λ _. refl)))))))

-- the same before a text in which values begin
spaced-shown : (a b : List ℕ) (seats : List Seat) → Bare a → Shown b seats → Shown (a ++ (0x20 ∷ b)) seats
spaced-shown a b seats h k =
    Shown-before a (0x20 ∷ b) seats (Tagged-bare a h) (Shown-before (0x20 ∷ []) b seats (Tagged-bare (0x20 ∷ []) refl) k)

Tagged-amount_due : (place : Place) → Tagged (amount_due place)
unfolding has_tags_alone each_begins_one values_in
Tagged-amount_due place =
    Tagged-append (codes "<p>Amount due <b>") _ (known _ refl (λ _. refl))
    (spaced (text_at place (bt 115)) _ (Bare-text_at place (bt 115))
    (Tagged-append (text_at place (bt 5)) _ (Tagged-bare (text_at place (bt 5)) (Bare-text_at place (bt 5))) (known _ refl (λ _. refl))))

Shown-header : (place : Place) → IsSafe place → Shown (header place) (of_term place (bt 1))
unfolding has_tags_alone each_begins_one values_in
Shown-header place safe =
    Shown-before (codes "<header>\n<h1>") _ (of_term place (bt 1)) (known _ refl (λ _. refl))
    (spaced-shown (kind place) _ (of_term place (bt 1)) (Bare-kind place)
    (Shown-after (value_of place (bt 1) meanings.None) _ (of_term place (bt 1)) (Shown-value_of place (bt 1) meanings.None safe)
    (Tagged-append (codes "</h1>\n") (amount_due place) (known _ refl (λ _. refl)) (Tagged-amount_due place))))

Tagged-passed : (n : ℕ) → Tagged (passed_text n)
unfolding has_tags_alone each_begins_one values_in
Tagged-passed zero = Tagged-nil
Tagged-passed (suc n) =
    Tagged-append (codes "<p>Passed over, since they hold no term: ") _ (known _ refl (λ _. refl))
    (Tagged-append (decimal (suc n)) _ (Tagged-bare (decimal (suc n)) (Bare-decimal (suc n))) (known _ refl (λ _. refl)))

Tagged-footer : (n : ℕ) → Tagged (footer n)
unfolding has_tags_alone each_begins_one values_in
Tagged-footer n =
    Tagged-append (codes "</main>\n<footer>\n") _ (known _ refl (λ _. refl)) (Tagged-append (passed_text n) _ (Tagged-passed n) (known _ refl (λ _. refl)))

Shown-side : (first rest : List ℕ) (xs ys : List Seat) → Shown first xs → Shown rest ys → Shown (side first rest) (xs ++ ys)
unfolding has_tags_alone each_begins_one values_in
Shown-side first rest xs ys h k =
    Shown-before (codes "<div class=\"side\">\n") _ (xs ++ ys) (known _ refl (λ _. refl))
    (Shown-append first _ xs ys h (Shown-after rest (codes "</div>\n") ys k (known _ refl (λ _. refl))))

-- ---- the page

module _ (place : Place) (safe : IsSafeThroughout place) where
  abbrev rest_visits : List Seat
  rest_visits = flat_map (of_section place) tables.rest

  Shown-facts : Shown (facts place) (of_section place tables.facts)
  unfolding facts
  Shown-facts = Shown-section_text place safe tables.facts refl

  Shown-each_party : Shown (each_party place) (flat_map (of_section place) tables.parties)
  unfolding each_party
  Shown-each_party = Shown-sections place safe tables.parties refl

  Shown-lines : Shown (lines place) (of_table place tables.lines)
  unfolding lines
  Shown-lines = Shown-table_text place safe tables.lines refl

  Shown-extras : Shown (extras place) (of_table place tables.extras)
  unfolding extras
  Shown-extras = Shown-table_text place safe tables.extras refl

  Shown-vat : Shown (vat place) (of_table place tables.vat)
  unfolding vat
  Shown-vat = Shown-table_text place safe tables.vat refl

  Shown-totals : Shown (totals place) (of_section place tables.totals)
  unfolding totals
  Shown-totals = Shown-section_text place safe tables.totals refl

  Shown-rest : Shown (rest place) rest_visits
  unfolding rest
  Shown-rest = Shown-sections place safe tables.rest refl

  Shown-behind_extras : (ds : List Difference)
      → Shown (sums place ++ (differing ds ++ rest place)) (of_table place tables.vat ++ (of_section place tables.totals ++ rest_visits))
  Shown-behind_extras ds =
      subst (Shown (sums place ++ (differing ds ++ rest place))) (append_assoc (of_table place tables.vat) (of_section place tables.totals) rest_visits)
      (Shown-append (sums place) _ (of_table place tables.vat ++ of_section place tables.totals) rest_visits
      (Shown-side (vat place) (totals place) (of_table place tables.vat) (of_section place tables.totals) Shown-vat Shown-totals)
      (Shown-before (differing ds) _ rest_visits (Tagged-differing ds) Shown-rest))

  Shown-page_sections : (ds : List Difference)
      → Shown (sections place ds) (of_section place tables.facts ++ (flat_map (of_section place) tables.parties ++ (of_table place tables.lines ++ (of_table
      place tables.extras ++ (of_table place tables.vat ++ (of_section place tables.totals ++ rest_visits))))))
  Shown-page_sections ds =
      Shown-append (facts place) _ (of_section place tables.facts) _ Shown-facts
      (Shown-append (parties place) _ (flat_map (of_section place) tables.parties) _
      (Shown-side [] (each_party place) [] (flat_map (of_section place) tables.parties) Shown-nil Shown-each_party)
      (Shown-append (lines place) _ (of_table place tables.lines) _ Shown-lines
      (Shown-append (extras place) _ (of_table place tables.extras) _ Shown-extras (Shown-behind_extras ds))))

safe-throughout : (es : List Entry) → IsInvoice es → IsSafeThroughout (invoice_place es)
safe-throughout es invoice = record {
  here = record { here = invoice-safe es invoice; inside = outer-safe es invoice };
  inside = λ group k. record { here = outer-safe es invoice group k; inside = inner-safe es invoice group k };
}

Shown-page : (es : List Entry) (passed_over : ℕ) → IsInvoice es → Shown (page es passed_over) (visits es)
unfolding page visits
Shown-page es passed_over invoice =
    let place = invoice_place es in
    let safe = safe-throughout es invoice in
    Shown-before (head place) _ (visits_of place) (Tagged-head place)
    (Shown-append (header place) _ (of_term place (bt 1)) _ (Shown-header place safe.here.here)
    (Shown-after (sections place (differences es)) (footer passed_over) _ (Shown-page_sections place safe (differences es)) (Tagged-footer passed_over)))

pub page-tags : (es : List Entry) (passed_over : ℕ) → IsInvoice es → has_tags_alone (page es passed_over) ≡ true
page-tags es passed_over invoice = (Shown-page es passed_over invoice).alone

pub page-values : (es : List Entry) (passed_over : ℕ) → IsInvoice es → values_in (page es passed_over) ≡ length (visits es)
unfolding values_in
page-values es passed_over invoice =
    ap values_in (sym (append-nil (page es passed_over))) ∙ ((Shown-page es passed_over invoice).count [] ∙ omega arith)
