-- The page of an invoice, in HTML 5, in bytes of UTF-8.
use Rattle.std.specs.Prelude.{ℕ, zero, suc, List, [], ◌∷◌, ◌++◌, flat_map, codes, decimal, Option, Some, None}
use Rattle.term_table.specs.declared.terms.Term.{Term}
use Rattle.term_table.specs.declared.contexts.Slot.{Slot}
use Rattle.inv_terms.specs.declared.entries.Entry.{Entry}
use Rattle.inv_terms.specs.Values.{spelled}
use Rattle.inv_totals.specs.declared.found.Difference.{Difference}
use Rattle.inv_totals.specs.Numbers.{Number}
use Rattle.inv_totals.specs.Totals.{differences}
use Rattle.inv_totals.specs.Lines.{computed_text}
use Rattle.page_tables.specs.declared.forms.Meanings.TheVariants as meanings
use Rattle.page_tables.specs.Tables.{Section, Table, other_kind, style}
use Rattle.page_tables.specs.Tables as tables
use Rattle.page_values.specs.Places.{Place, invoice_place, value_at}
use Rattle.page_values.specs.Values.{title, text_at, value_of, kind_word}
use Rattle.page_layouts.specs.Layouts.{row, layout}
use Rattle.page_layouts.specs.Tables.{rows}
use Rattle.page_layouts.specs.Sections.{head_of, in_section}

-- ---- sections

abbrev pub section_text : Place → Section → List ℕ
section_text place section = in_section (head_of section.0 section.1 []) (layout place section.2) (codes "</section>\n")

abbrev pub table_text : Place → Table → List ℕ
table_text place table =
    in_section (head_of table.0 table.1 table.2) (rows place table.3) (codes "</tbody>\n</table>\n</section>\n")

abbrev pub side : List ℕ → List ℕ → List ℕ
side first rest = codes "<div class=\"side\">\n" ++ (first ++ (rest ++ codes "</div>\n"))

-- ---- totals that differ

abbrev pub breakdown_text : Option Slot → List ℕ
breakdown_text None = []
breakdown_text (Some slot) = codes ", VAT breakdown " ++ decimal slot.index

abbrev pub difference_label : Difference → List ℕ
difference_label d = title d.term ++ breakdown_text d.context.outer

abbrev pub computed_value : Number → List ℕ
computed_value computed = codes "computed " ++ computed_text computed

abbrev pub difference_row : Difference → List ℕ
difference_row d = row (difference_label d) (computed_value d.computed)

abbrev pub differing : List Difference → List ℕ
differing ds = in_section (head_of tables.differing.0 tables.differing.1 []) (flat_map difference_row ds) (codes "</section>\n")

-- ---- what stands around the sections

abbrev pub bt : ℕ → Term
bt number = record { number = number; part = 0 }

-- what kind of document it is, by its type (BT-3)
abbrev pub kind : Place → List ℕ
kind place = elim (value_at place (bt 3)) [ None ↦ other_kind | Some value ↦ kind_word (spelled value) ]

abbrev pub head : Place → List ℕ
head place =
    codes "<!DOCTYPE html>\n<html lang=\"en\">\n<head>\n<meta charset=\"utf-8\">\n" ++
    (codes "<meta name=\"viewport\" content=\"width=device-width, initial-scale=1\">\n<title>" ++
    (kind place ++ (0x20 ∷ (text_at place (bt 1) ++ (codes "</title>\n<style>\n" ++ (style ++ codes "</style>\n</head>\n<body>\n"))))))

abbrev pub amount_due : Place → List ℕ
amount_due place =
    codes "<p>Amount due <b>" ++ (text_at place (bt 115) ++ (0x20 ∷ (text_at place (bt 5) ++ codes "</b></p>\n</header>\n<main>\n")))

abbrev pub header : Place → List ℕ
header place =
    codes "<header>\n<h1>" ++ (kind place ++ (0x20 ∷ (value_of place (bt 1) meanings.None ++ (codes "</h1>\n" ++ amount_due place))))

-- how many elements of the document were passed over, where any were
abbrev pub passed_text : ℕ → List ℕ
passed_text zero = []
passed_text (suc n) = codes "<p>Passed over, since they hold no term: " ++ (decimal (suc n) ++ codes " elements of the document.</p>\n")

abbrev pub footer : ℕ → List ℕ
footer passed_over =
    codes "</main>\n<footer>\n" ++ (passed_text passed_over ++
    codes "<p>The electronic document is the invoice; this page shows it.</p>\n</footer>\n</body>\n</html>\n")

-- ---- the sections of the page, each shut, so that who writes one sees no table of another

unfoldable pub facts : Place → List ℕ
facts place = section_text place tables.facts

-- who sells, buys, is paid and receives
unfoldable pub each_party : Place → List ℕ
each_party place = flat_map (section_text place) tables.parties

unfoldable pub lines : Place → List ℕ
lines place = table_text place tables.lines

unfoldable pub extras : Place → List ℕ
extras place = table_text place tables.extras

unfoldable pub vat : Place → List ℕ
vat place = table_text place tables.vat

unfoldable pub totals : Place → List ℕ
totals place = section_text place tables.totals

unfoldable pub rest : Place → List ℕ
rest place = flat_map (section_text place) tables.rest

-- side by side
abbrev pub parties : Place → List ℕ
parties place = side [] (each_party place)

abbrev pub sums : Place → List ℕ
sums place = side (vat place) (totals place)

abbrev pub sections : Place → List Difference → List ℕ
sections place ds =
    facts place ++ (parties place ++ (lines place ++ (extras place ++ (sums place ++ (differing ds ++ rest place)))))

-- the page of a place, with the totals that differ and how many elements were passed over
abbrev pub page_of : Place → ℕ → List Difference → List ℕ
page_of place passed_over ds = head place ++ (header place ++ (sections place ds ++ footer passed_over))

-- the page of an invoice
unfoldable pub page : List Entry → ℕ → List ℕ
page es passed_over = page_of (invoice_place es) passed_over (differences es)
