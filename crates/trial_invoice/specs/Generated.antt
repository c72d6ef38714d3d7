-- The generated invoice, by the number of its lines: its entries in listing order.
use Rattle.std.specs.Prelude.{ℕ, ◌*◌, List, [], ◌∷◌, ◌++◌, codes, decimal, flat_map, Some, None}
use Rattle.std.specs.List.{range_with_len}
use Rattle.term_table.specs.declared.groups.Group.TheVariants as groups
use Rattle.term_table.specs.declared.groups.Group.{Group}
use Rattle.term_table.specs.declared.contexts.Context.{Context}
use Rattle.term_table.specs.Contexts.{root_context}
use Rattle.inv_terms.specs.declared.values.Value.{Value}
use Rattle.inv_terms.specs.declared.values.Value.TheVariants as values
use Rattle.inv_terms.specs.declared.entries.Entry.{Entry}
use Rattle.trial_invoice.specs.Amounts.{quantity, price, net, sum_of_nets, hundredths, ones}

abbrev pub entry : Context → ℕ → Value → Entry
entry context number value = record { context = context; term = record { number = number; part = 0 }; value = value }

-- a term of the invoice itself
abbrev pub at_root : ℕ → Value → Entry
at_root number value = entry root_context number value

-- the occurrence of a group
abbrev pub occurrence : Group → ℕ → Context
occurrence group index = record { outer = Some (record { group = group; index = index }); inner = None }

-- an amount of so many hundredths
abbrev pub amount : ℕ → Value
amount n = values.Amount (hundredths n)

abbrev pub standard_rated : Value
standard_rated = values.Code (codes "S")

abbrev pub rate : Value
rate = values.Percent (ones 20)

-- ---- what stands before the lines: who, when and what for

-- BT-1 to BT-5
abbrev pub beginning : List Entry
beginning =
    at_root 1 (values.Identifier (codes "T"))
    ∷ at_root 2 (values.Date (record { year = 2024; month = 1; day = 1 }))
    ∷ at_root 3 (values.Code (codes "380"))
    ∷ at_root 5 (values.Code (codes "EUR"))
    ∷ []

-- BT-24, the names of seller and buyer, and their countries
abbrev pub parties : List Entry
parties =
    at_root 24 (values.Identifier (codes "urn:cen.eu:en16931:2017"))
    ∷ at_root 27 (values.Text (codes "S"))
    ∷ at_root 40 (values.Code (codes "DE"))
    ∷ at_root 44 (values.Text (codes "B"))
    ∷ at_root 55 (values.Code (codes "FR"))
    ∷ []

-- ---- the totals, by the sum of the net amounts, of which the tax is a fifth

-- sum of the lines, total without tax, tax, total with it, what is due
abbrev pub totals : ℕ → List Entry
totals sum =
    at_root 106 (amount (100 * sum))
    ∷ at_root 109 (amount (100 * sum))
    ∷ at_root 110 (amount (20 * sum))
    ∷ at_root 112 (amount (120 * sum))
    ∷ at_root 115 (amount (120 * sum))
    ∷ []

-- the one breakdown: what is taxed, the tax, its category and its rate
abbrev pub breakdown : ℕ → List Entry
breakdown sum =
    entry (occurrence groups.VatBreakdown 1) 116 (amount (100 * sum))
    ∷ entry (occurrence groups.VatBreakdown 1) 117 (amount (20 * sum))
    ∷ entry (occurrence groups.VatBreakdown 1) 118 standard_rated
    ∷ entry (occurrence groups.VatBreakdown 1) 119 rate
    ∷ []

abbrev pub head : ℕ → List Entry
head sum = beginning ++ (parties ++ (totals sum ++ breakdown sum))

-- ---- a line

-- its number, quantity, unit and net amount
abbrev pub line_amounts : ℕ → List Entry
line_amounts i =
    entry (occurrence groups.InvoiceLine i) 126 (values.Identifier (decimal i))
    ∷ entry (occurrence groups.InvoiceLine i) 129 (values.Quantity (ones (quantity i)))
    ∷ entry (occurrence groups.InvoiceLine i) 130 (values.Code (codes "C62"))
    ∷ entry (occurrence groups.InvoiceLine i) 131 (amount (100 * net i))
    ∷ []

-- its price, category, rate and name
abbrev pub line_item : ℕ → List Entry
line_item i =
    entry (occurrence groups.InvoiceLine i) 146 (amount (100 * price i))
    ∷ entry (occurrence groups.InvoiceLine i) 151 standard_rated
    ∷ entry (occurrence groups.InvoiceLine i) 152 rate
    ∷ entry (occurrence groups.InvoiceLine i) 153 (values.Text (codes "Item " ++ decimal i))
    ∷ []

abbrev pub line : ℕ → List Entry
line i = line_amounts i ++ line_item i

-- ---- the invoice of so many lines

unfoldable pub lines_of : ℕ → List Entry
lines_of lines = flat_map line (range_with_len 1 lines)

unfoldable pub trial_entries : ℕ → List Entry
trial_entries lines = head (sum_of_nets lines) ++ lines_of lines
