-- What of a document stands in the invoice that is read from it.
use Rattle.std.specs.Prelude.{ℕ, ◌==◌, Bool, true, false, not, ◌&&◌, ◌||◌, List, Option, Some, None}
use Rattle.std.specs.List.{list_any}
use Rattle.inv_base.specs.Tree.{Node}
use Rattle.term_table.specs.SemanticModel.{same_term}
use Rattle.term_table.specs.Contexts.{same_context}
use Rattle.inv_terms.specs.declared.values.Value.{Value}
use Rattle.inv_terms.specs.declared.entries.Entry.{Entry}
use Rattle.inv_terms.specs.Values.{is_blank, same_value}
use Rattle.bind_rows.specs.declared.rows.Row.{Row}
use Rattle.bind_meaning.specs.Picks.{Pick, is_placeholder}
use Rattle.bind_meaning.specs.Currencies.{Currencies, currencies, is_in_its_currency}
use Rattle.bind_meaning.specs.Seats.{context_of}
use Rattle.bind_meaning.specs.Judging.{Told}
use Rattle.bind_meaning.specs.Terms as reading
use Rattle.bind_meaning.specs.Said.{term_picks, is_constant, is_currency, is_format}
use Rattle.bind_meaning.specs.Losses.{own_text, is_of_the_table}

-- ---- the entry of something that is told

-- The entry is of the term and the context that are told.
abbrev pub is_at_seat_of : Told → Entry → Bool
is_at_seat_of t e = elim (same_term e.term t.parsed.term) [ true ↦ same_context e.context (context_of t.placed) | false ↦ false ]

abbrev pub is_value : Option Value → Value → Bool
is_value None value = false
is_value (Some told) value = same_value value told

-- and has the value that is told
abbrev pub says : Told → Entry → Bool
says t e = is_at_seat_of t e && is_value t.parsed.value e.value

abbrev pub is_entered : List Entry → Told → Bool
is_entered es t = list_any (says t) es

-- ---- what is kept of a node

-- all that the table's rows with terms tell of the document
abbrev pub told_of : List Node → List Row → List Told
told_of nodes rows = reading.told nodes (reading.place_all nodes (reading.term_picks nodes (currencies nodes rows) rows))

-- A row picks the node, and tells a value that is an entry.
abbrev pub is_entered_at : List Node → List Row → List Entry → ℕ → Bool
is_entered_at nodes rows es n = list_any (λ (t : Told). (t.placed.pick.node == n) && is_entered es t) (told_of nodes rows)

-- The pick is a placeholder, or one of a VAT total in the currency of the other total.
abbrev pub is_left : List Node → Currencies → List Pick → Pick → Bool
is_left nodes c picks pick = is_placeholder nodes picks pick || not (is_in_its_currency nodes c pick)

abbrev pub is_left_at : List Node → List Row → ℕ → Bool
is_left_at nodes rows n = list_any (λ (pick : Pick). (pick.node == n)
    && is_left nodes (currencies nodes rows) (term_picks nodes rows) pick) (term_picks nodes rows)

-- The node's text is the value of an entry, or a placeholder or a total in the other currency, or what a table writes by itself.
abbrev pub is_kept_value : List Node → List Row → List Entry → ℕ → Bool
is_kept_value nodes rows es n =
    is_entered_at nodes rows es n || (is_left_at nodes rows n || (is_constant nodes rows n
    || (is_currency nodes (term_picks nodes rows) n || is_format nodes (term_picks nodes rows) n)))

-- So it is, unless the node has no text or the table doesn't have it.
abbrev pub is_kept : List Node → List Row → List Entry → Node → Bool
is_kept nodes rows es node = not (is_of_the_table nodes rows node) || (is_blank (own_text nodes node) || is_kept_value nodes rows es node.number)
