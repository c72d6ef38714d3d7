-- What the picks of a document are judged by.
use Rattle.std.specs.Prelude.{◌≡◌, ℕ, List, chars, length, Option, option_map, Ok}
use Rattle.std.specs.Borrow.{Bor}
use Rattle.inv_base.specs.Tree.{Node}
use Rattle.code_lists.specs.CodeFiles.{Lists}
use Rattle.node_arena.specs.Moves.{tree_nodes}
use Rattle.bind_rows.specs.declared.rows.Row.{Row}
use Rattle.bind_table.specs.WellFormed.{first_fault}
use Rattle.bind_meaning.specs.Currencies.{currencies}
use Rattle.bind_terms.specs.declared.input.ReadingInput.{ReadingInput}

-- the nodes of the document
abbrev pub nodes_of : ReadingInput → List Node
nodes_of input = tree_nodes input.doc.now

-- how many nodes it has
abbrev pub count : ReadingInput → ℕ
count input = length input.doc.now.nodes

abbrev pub rows_of : ReadingInput → List Row
rows_of input = input.table.now

abbrev pub lists_of : ReadingInput → Lists
lists_of input = input.lists.now

-- the currency of the invoice
abbrev pub currency_of : ReadingInput → Option (List ℕ)
currency_of input = option_map (λ (text : Bor (List ℕ)). chars text.now) input.invoice_currency

-- The table is well formed, and the currency is what it reads in the document.
pub record IsSet (input : ReadingInput) : Type 0 where
  pub formed : first_fault (rows_of input) ≡ Ok tt
  pub currency : currency_of input ≡ (currencies (nodes_of input) (rows_of input)).invoice
