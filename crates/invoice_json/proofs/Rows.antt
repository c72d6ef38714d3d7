-- Worked rows, by computing: entries, and their data.
use Rattle.std.specs.Prelude.{◌≡◌, ℕ, List, [], ◌∷◌, ◌++◌, codes, decimal, Some, None, refl}
use Rattle.term_table.specs.declared.groups.Group.{Group}
use Rattle.term_table.specs.declared.groups.Group.TheVariants as groups
use Rattle.term_table.specs.declared.contexts.Context.{Context}
use Rattle.term_table.specs.Contexts.{root_context}
use Rattle.inv_terms.specs.declared.values.Value.TheVariants as values
use Rattle.inv_terms.specs.declared.entries.Entry.{Entry}
use Rattle.json_text.specs.Json.{Json, nothing, a_text, a_number, an_array, an_object}
use Rattle.invoice_json.specs.InvoiceJson.{invoice_json}

-- ---- entries

abbrev at : Context → ℕ → ℕ → List ℕ → Entry
at context number part text = record { context = context; term = record { number = number; part = part }; value = values.Text text }

abbrev in_group : Group → ℕ → Context
in_group group k = record { outer = Some (record { group = group; index = k }); inner = None }

abbrev in_line : ℕ → Group → ℕ → Context
in_line n group k = record { outer = Some (record { group = groups.InvoiceLine; index = n }); inner = Some (record { group = group; index = k }) }

-- ---- data

abbrev bt : ℕ → List ℕ
bt number = codes "BT-" ++ (decimal number ++ [])

abbrev bt_part : ℕ → ℕ → List ℕ
bt_part number part = codes "BT-" ++ (decimal number ++ (0x2D ∷ decimal part))

abbrev text : List ℕ → List ℕ → Json → Json
text name characters rest = a_text (Some name) characters rest

abbrev object : Json → Json → Json
object inside rest = an_object None inside rest

abbrev array : List ℕ → Json → Json → Json
array name inside rest = an_array (Some name) inside rest

-- ---- rows

-- nothing at all, and with what was passed over
no_entry : invoice_json [] 0 ≡ object nothing nothing
unfolding invoice_json
no_entry = refl

passed_over : invoice_json [] 3 ≡ object (a_number (Some (codes "passed_over")) 3 nothing) nothing
unfolding invoice_json
passed_over = refl

-- two notes, the second with its code, between terms of the invoice
notes : invoice_json
    (at root_context 1 0 (codes "A1") ∷ at (in_group groups.InvoiceNote 1) 22 0 (codes "x") ∷ at (in_group groups.InvoiceNote 2) 21 0 (codes "SUR")
    ∷ at (in_group groups.InvoiceNote 2) 22 0 (codes "y") ∷ at root_context 24 0 (codes "z") ∷ [])
    3
    ≡ object
    (text (bt 1) (codes "A1")
    (array (codes "BG-1")
    (object (text (bt 22) (codes "x") nothing) (object (text (bt 21) (codes "SUR") (text (bt 22) (codes "y") nothing)) nothing))
    (text (bt 24) (codes "z") (a_number (Some (codes "passed_over")) 3 nothing))))
    nothing
unfolding invoice_json
notes = refl

-- both kinds of BT-29 in one array, also where there is one of each, and another array right behind
identifiers : invoice_json
    (at (in_group groups.SellerIdentifier 1) 29 0 (codes "70021") ∷ at (in_group groups.SellerSchemedIdentifier 1) 29 0 (codes "4012345000009")
    ∷ at (in_group groups.SellerSchemedIdentifier 1) 29 1 (codes "0088") ∷ at (in_group groups.CreditTransfer 1) 84 0 (codes "DE1") ∷ [])
    0
    ≡ object
    (array (codes "BT-29")
    (object (text (bt 29) (codes "70021") nothing)
    (object (text (bt 29) (codes "4012345000009") (text (bt_part 29 1) (codes "0088") nothing)) nothing))
    (array (codes "BG-17") (object (text (bt 84) (codes "DE1") nothing) nothing) nothing))
    nothing
unfolding invoice_json
identifiers = refl

-- two lines with inner groups, the first line ending in one and the second beginning with one, and added terms
lines : invoice_json
    (at (in_group groups.InvoiceLine 1) 126 0 (codes "1") ∷ at (in_line 1 groups.LineAllowance 1) 136 0 (codes "1.00")
    ∷ at (in_line 1 groups.LineAllowance 2) 136 0 (codes "2.00") ∷ at (in_line 1 groups.LineAllowance 2) 138 0 (codes "5")
    ∷ at (in_line 1 groups.LineCharge 1) 141 0 (codes "3.00") ∷ at (in_group groups.InvoiceLine 1) 153 0 (codes "Pen")
    ∷ at (in_line 1 groups.ItemClassification 1) 158 0 (codes "Z") ∷ at (in_line 2 groups.ItemClassification 1) 158 0 (codes "Y")
    ∷ at (in_line 2 groups.ItemAttribute 1) 160 0 (codes "a") ∷ at (in_group groups.InvoiceLine 2) 1002 0 (codes "e") ∷ at root_context 1007 0 (codes "f")
    ∷ [])
    0
    ≡ object
    (array (codes "BG-25")
    (object
    (text (bt 126) (codes "1")
    (array (codes "BG-27")
    (object (text (bt 136) (codes "1.00") nothing)
    (object (text (bt 136) (codes "2.00") (text (bt 138) (codes "5") nothing)) nothing))
    (array (codes "BG-28") (object (text (bt 141) (codes "3.00") nothing) nothing)
    (text (bt 153) (codes "Pen") (array (codes "BT-158") (object (text (bt 158) (codes "Z") nothing) nothing) nothing)))))
    (object
    (array (codes "BT-158") (object (text (bt 158) (codes "Y") nothing) nothing)
    (array (codes "BG-32") (object (text (bt 160) (codes "a") nothing) nothing) (text (codes "EXT-" ++ decimal 2) (codes "e") nothing)))
    nothing))
    (text (codes "EXT-" ++ decimal 7) (codes "f") nothing))
    nothing
unfolding invoice_json
lines = refl
