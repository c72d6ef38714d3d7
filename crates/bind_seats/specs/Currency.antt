-- The currencies of an invoice by its picks.
use Rattle.std.specs.Prelude.{ℕ, ◌+◌, ◌==◌, true, false, List, [], ◌∷◌, Option, Some, None, option_map, find}
use Rattle.inv_base.specs.Tree.{Node}
use Rattle.term_table.specs.declared.terms.Term.{Term}
use Rattle.inv_terms.specs.Values.{is_blank, trimmed}
use Rattle.bind_rows.specs.declared.rows.Row.{Row}
use Rattle.bind_meaning.specs.declared.picked.Picked.{Picked}
use Rattle.node_arena.specs.Moves.{tree_node}
use Rattle.bind_meaning.specs.Names.{has_plain_name}
use Rattle.bind_meaning.specs.Elements.{string_at}
use Rattle.bind_meaning.specs.Picks.{has_term}
use Rattle.bind_meaning.specs.Currencies.{Currencies, invoice_currency, accounting_currency, currency_id}

-- the first node that the row of that number picks
abbrev pub node_of_row : ℕ → List Picked → Option ℕ
node_of_row k qs = option_map (λ (q : Picked). q.node) (find (λ (q : Picked). q.row == k) qs)

-- the first node that a row of the term picks, by the order of the rows, the first of which has the number
abbrev pub first_node : Term → ℕ → List Row → List Picked → Option ℕ
first_node term k [] qs = None
first_node term k (row ∷ rows) qs = elim (has_term term row) [
  | true ↦ elim (node_of_row k qs) [ None ↦ first_node term (k + 1) rows qs | Some n ↦ Some n ]
  | false ↦ first_node term (k + 1) rows qs
]

-- its trimmed string
abbrev pub named_currency : List Node → List Row → List Picked → Term → Option (List ℕ)
named_currency nodes rows qs term = option_map (λ n. trimmed (string_at nodes n)) (first_node term 1 rows qs)

abbrev pub named_currencies : List Node → List Row → List Picked → Currencies
named_currencies nodes rows qs =
    record { invoice = named_currency nodes rows qs invoice_currency; accounting = named_currency nodes rows qs accounting_currency }

-- the text of an attribute that is a currencyID, unless it is blank
abbrev pub currency_at : List Node → ℕ → Option (List ℕ)
currency_at nodes m = elim (has_plain_name currency_id (tree_node nodes m)) [
  | true ↦ elim (is_blank (trimmed (string_at nodes m))) [ true ↦ None | false ↦ Some (trimmed (string_at nodes m)) ]
  | false ↦ None
]
