-- Tables of whose documents nothing is lost: each element that is written meets the guards of its own line, a constant is the whole text of
-- its element, and a value at an attribute stands in an element that has one. All of this computes from the rows.
use Rattle.std.specs.Prelude.{Bool, true, not, ◌&&◌, ◌||◌, List, filter}
use Rattle.std.specs.List.{list_all, list_any}
use Rattle.std.specs.Cmp.Lexicographic.{pointwise}
use Rattle.term_table.specs.declared.terms.Term.{Term}
use Rattle.inv_terms.specs.Values.{trimmed}
use Rattle.bind_rows.specs.declared.names.Leaf.TheVariants as leaves
use Rattle.bind_rows.specs.declared.rows.Content.TheVariants as contents
use Rattle.bind_rows.specs.declared.rows.Row.{Row}
use Rattle.bind_rows.specs.declared.rows.Step.{Step}
use Rattle.bind_rows.specs.declared.rows.Written.{Written}
use Rattle.bind_rows.specs.declared.rows.Written.TheVariants as written
use Rattle.bind_rows.specs.Same.{same_step}
use Rattle.bind_table.specs.Lines.{Cell, Plan, nothing, a_line, plan_of}
use Rattle.bind_meaning.specs.Elements.{is_full, is_one_of}
use Rattle.bind_meaning.specs.Picks.{has_any_term, has_term}
use Rattle.bind_meaning.specs.Said.{words}
use Rattle.bind_meaning.specs.Trees.{is_at_element}
use Rattle.binding_laws.specs.Apart.{is_nothing, rows_so, Known, beyond, is_met_or_unwritten}
use Rattle.binding_laws.specs.Known.{known_of}
use Rattle.binding_laws.specs.Plain.{is_one, is_element, is_always}

-- ---- lines

abbrev pub shows_constant : Cell → Bool
shows_constant cell = is_at_element cell && not (has_any_term cell.row)

-- An element with a constant has that text alone, and nothing inside.
abbrev pub says_alone : List Cell → Plan → Bool
says_alone cells inside = not (list_any shows_constant cells) || (is_nothing inside && is_one (rows_so is_at_element cells))

abbrev pub shows_part : Cell → Bool
shows_part cell = not (is_at_element cell) && has_any_term cell.row

-- A term at an attribute stands in an element at which a row ends.
abbrev pub has_mains : List Cell → Bool
has_mains cells = not (list_any shows_part cells) || list_any is_at_element cells

-- Each element that is written of these lines meets the guards of its own line, by what is known of the invoice.
abbrev pub lines_meet : Known → Plan → Bool
lines_meet known nothing = true
lines_meet known (a_line t cells inside rest) =
    is_met_or_unwritten known t.guards t cells inside
    && ((says_alone cells inside && has_mains cells) && (lines_meet (beyond t.group known) inside && lines_meet known rest))

-- ---- rows

abbrev pub is_full_rule : Written → Bool
is_full_rule written.Always = true
is_full_rule written.Never = true
is_full_rule written.IfIban = true
is_full_rule written.IfNotIban = true
is_full_rule written.IfScheme = true
is_full_rule written.IfNoScheme = true
is_full_rule (written.OrPlaceholder placeholder) = is_full placeholder.text
is_full_rule written.VatTotal = true
is_full_rule written.AccountingVatTotal = true

abbrev pub ends_at : List Step → Row → Bool
ends_at path row = is_element row.leaf && pointwise same_step row.path path

-- The row writes each value of its term, which no other row has, at an attribute of an element at which one row ends.
abbrev pub is_only : List Row → Row → Term → Bool
is_only rows row term = is_always row.written && (is_one (filter (has_term term) rows) && is_one (filter (ends_at row.path) rows))

-- What the row writes isn't blank, and a constant says itself.
abbrev pub is_told : List Row → Row → Bool
is_told rows row = elim row.content [
  | (contents.Term term) ↦ is_full_rule row.written && elim row.leaf [
    | leaves.Element ↦ true
    | (leaves.Attribute local) ↦ is_only rows row term
  ]
  | (contents.Constant text) ↦ is_one_of (words text) (trimmed text)
]

-- ---- tables

abbrev pub is_whole : List Row → Bool
is_whole rows = lines_meet (known_of rows) (plan_of rows) && list_all (is_told rows) rows
