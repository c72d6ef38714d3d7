-- Placeholders among picks, by the terms that are picked in the elements around them.
use Rattle.std.specs.Prelude.{ℕ, Bool, true, false, not, ◌&&◌, List, [], ◌∷◌, flat_map, Option, Some, None, bytes_eq, filter_map}
use Rattle.std.specs.List.{list_any}
use Rattle.inv_base.specs.Tree.{Node}
use Rattle.term_table.specs.declared.terms.Term.{Term}
use Rattle.term_table.specs.SemanticModel.{same_term}
use Rattle.inv_terms.specs.Values.{trimmed}
use Rattle.bind_rows.specs.declared.rows.Row.{Row}
use Rattle.bind_rows.specs.declared.rows.Written.{Written}
use Rattle.bind_rows.specs.declared.rows.Written.TheVariants as written
use Rattle.bind_meaning.specs.declared.picked.Picked.{Picked}
use Rattle.bind_meaning.specs.Elements.{string_at}
use Rattle.bind_meaning.specs.Picks.{term_in}
use Rattle.bind_meaning.specs.Currencies.{Currencies, is_in_its_currency}
use Rattle.bind_seats.specs.declared.marks.Mark.{Mark}
use Rattle.bind_seats.specs.Marks.{has_mark}
use Rattle.bind_seats.specs.Rowed.{row_at, pick_of, holder}

-- the term beside which the row has a placeholder
abbrev pub beside : Written → List Term
beside (written.OrPlaceholder placeholder) = placeholder.beside ∷ []
beside _ = []

abbrev pub terms_beside : List Row → List Term
terms_beside rows = flat_map (λ (row : Row). beside row.written) rows

-- the term picked in the element
abbrev pub term_mark : ℕ → Term → Mark
term_mark n term = record { around = n; kind = term.number; number = term.part }

-- the mark of a pick, where its term is one of those
abbrev pub mark_beside : List Node → List Term → Row → ℕ → Option Mark
mark_beside nodes terms row n = elim (term_in row.content) [
  | None ↦ None
  | Some term ↦ elim (list_any (same_term term) terms) [ true ↦ Some (term_mark (holder nodes row.leaf n) term) | false ↦ None ]
]

abbrev pub marks_of : List Node → List Row → List Term → List Picked → List Mark
marks_of nodes rows terms qs = filter_map (λ (q : Picked). mark_beside nodes terms (row_at rows q.row) q.node) qs

abbrev pub marks_beside : List Node → List Row → List Picked → List Mark
marks_beside nodes rows qs = marks_of nodes rows (terms_beside rows) qs

-- What the row picks at the node is a placeholder: it has the placeholder's text, and the term beside it is picked in its element.
abbrev pub is_placeholder_at : List Node → List Mark → Row → ℕ → Bool
is_placeholder_at nodes marks row n = elim row.written [
  | (written.OrPlaceholder placeholder) ↦ elim (bytes_eq (trimmed (string_at nodes n)) placeholder.text) [
    | true ↦ has_mark marks (term_mark (holder nodes row.leaf n) placeholder.beside)
    | false ↦ false
  ]
  | _ ↦ false
]

-- The pick is no placeholder, and no VAT total of the other currency.
abbrev pub stays : List Node → List Row → Currencies → List Mark → Picked → Bool
stays nodes rows c marks q =
    not (is_placeholder_at nodes marks (row_at rows q.row) q.node) && is_in_its_currency nodes c (pick_of (row_at rows q.row) q.node)
