-- The currencies of an invoice, and which VAT total is which (EN 16931-1, BT-5, BT-6, BT-110 and BT-111).
use Rattle.std.specs.Prelude.{ℕ, Bool, true, false, not, List, [], ◌∷◌, filter, map, Option, Some, None}
use Rattle.std.specs.Str.{bytes_eq}
use Rattle.inv_base.specs.Tree.{Node}
use Rattle.term_table.specs.declared.terms.Term.{Term}
use Rattle.inv_terms.specs.Values.{is_blank, trimmed}
use Rattle.bind_rows.specs.declared.rows.Row.{Row}
use Rattle.bind_rows.specs.declared.rows.Written.TheVariants as written
use Rattle.bind_meaning.specs.Elements.{attributes_named, string_at}
use Rattle.bind_meaning.specs.Picks.{Pick, has_term, rows_where, all_picked}

-- BT-5, the currency of the invoice, and BT-6, that of its accounting
abbrev pub invoice_currency : Term
invoice_currency = record { number = 5; part = 0 }

abbrev pub accounting_currency : Term
accounting_currency = record { number = 6; part = 0 }

abbrev pub first_string : List Node → List Pick → Option (List ℕ)
first_string nodes [] = None
first_string nodes (pick ∷ picks) = Some (trimmed (string_at nodes pick.node))

-- the trimmed string of the first node that the term's row picks
abbrev pub currency_of : List Node → List Row → Term → Option (List ℕ)
currency_of nodes rows term = first_string nodes (all_picked nodes (rows_where (has_term term) rows))

-- the two currencies, where they are named
pub record Currencies : Type 0 where
  pub invoice : Option (List ℕ)
  pub accounting : Option (List ℕ)

abbrev pub currencies : List Node → List Row → Currencies
currencies nodes rows = record { invoice = currency_of nodes rows invoice_currency; accounting = currency_of nodes rows accounting_currency }

abbrev pub first_full : List (List ℕ) → Option (List ℕ)
first_full [] = None
first_full (text ∷ texts) = elim (is_blank text) [ true ↦ first_full texts | false ↦ Some text ]

abbrev pub currency_id : List ℕ
currency_id = 99 ∷ 117 ∷ 114 ∷ 114 ∷ 101 ∷ 110 ∷ 99 ∷ 121 ∷ 73 ∷ 68 ∷ []

-- the currency of an amount: its trimmed currencyID, unless it is blank
abbrev pub amount_currency : List Node → ℕ → Option (List ℕ)
amount_currency nodes n = first_full (map (λ m. trimmed (string_at nodes m)) (attributes_named nodes currency_id n))

abbrev pub is_some_text : Option (List ℕ) → List ℕ → Bool
is_some_text None text = false
is_some_text (Some a) text = bytes_eq a text

-- The amount is in the accounting currency, which isn't that of the invoice. Where the invoice names no currency, no amount is.
abbrev pub is_accounting_in : Currencies → List ℕ → Bool
is_accounting_in c text = elim c.invoice [
  | None ↦ false
  | Some invoice ↦ elim (bytes_eq invoice text) [ true ↦ false | false ↦ is_some_text c.accounting text ]
]

abbrev pub is_accounting : Currencies → Option (List ℕ) → Bool
is_accounting c None = false
is_accounting c (Some text) = is_accounting_in c text

-- Of the two rows of VAT totals each picks the amounts in its currency.
abbrev pub is_in_its_currency : List Node → Currencies → Pick → Bool
is_in_its_currency nodes c pick = elim pick.row.written [
  | written.VatTotal ↦ not (is_accounting c (amount_currency nodes pick.node))
  | written.AccountingVatTotal ↦ is_accounting c (amount_currency nodes pick.node)
  | _ ↦ true
]

abbrev pub in_their_currencies : List Node → Currencies → List Pick → List Pick
in_their_currencies nodes c picks = filter (is_in_its_currency nodes c) picks
