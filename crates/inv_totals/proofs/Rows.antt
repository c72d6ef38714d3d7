-- Worked rows, by computing.
use Rattle.std.specs.Prelude.{◌≡◌, ℕ, ◌*◌, ◌-◌, ◌^◌, List, [], ◌∷◌, ◌++◌, codes, pos, neg_ℤ, Option, Some, None, Ok, Err, refl}
use Rattle.inv_decimal.specs.Arithmetic.{sum_of, difference_of, product_of, quotient_of, nearest_hundredth}
use Rattle.term_table.specs.declared.groups.Group.{Group}
use Rattle.term_table.specs.declared.groups.Group.TheVariants as groups
use Rattle.term_table.specs.declared.contexts.Context.{Context}
use Rattle.term_table.specs.Contexts.{root_context}
use Rattle.inv_terms.specs.declared.values.Value.{Value}
use Rattle.inv_terms.specs.declared.values.Value.TheVariants as values
use Rattle.inv_terms.specs.declared.entries.Entry.{Entry}
use Rattle.inv_totals.specs.declared.found.Difference.{Difference}
use Rattle.inv_totals.specs.Numbers.{Number, percentage}
use Rattle.inv_totals.specs.Totals.{differences, term, breakdown}

-- ---- an invoice of one line

abbrev at : Context → ℕ → Value → Entry
at context number value = record { context = context; term = term number; value = value }

abbrev occurrence : Group → ℕ → Context
occurrence group k = record { outer = Some (record { group = group; index = k }); inner = None }

abbrev money : ℕ → Value
money hundredths = values.Amount (record { value = pos (hundredths * 10 ^ 16); digits = 2 })

abbrev percent : ℕ → ℕ → Value
percent units digits = values.Percent (record { value = pos (units * 10 ^ 18); digits = digits })

abbrev code : List ℕ → Value
code text = values.Code text

-- what stands before the breakdowns, the terms of a breakdown, those of a line
abbrev head : List Entry → List Entry
head vat = at root_context 106 (money 1000) ∷ at root_context 109 (money 1000) ∷ (vat
    ++ (at root_context 112 (money 1200) ∷ at root_context 115 (money 1200) ∷ []))

abbrev in_breakdown : List Entry → List Entry
in_breakdown rate = at (breakdown 1) 116 (money 1000) ∷ at (breakdown 1) 117 (money 200) ∷ at (breakdown 1) 118 (code (codes "S")) ∷ rate

abbrev line : List Entry → List Entry
line rate = at (occurrence groups.InvoiceLine 1) 131 (money 1000) ∷ at (occurrence groups.InvoiceLine 1) 151 (code (codes "S")) ∷ rate

abbrev found : Context → ℕ → Option ℕ → Number → Difference
found context number None computed = record { context = context; term = term number; stated = None; computed = computed }
found context number (Some hundredths) computed = record {
  context = context;
  term = term number;
  stated = Some (record { value = pos (hundredths * 10 ^ 16); digits = 2 });
  computed = computed;
}

abbrev ones : ℕ → Number
ones n = Ok (pos (n * 10 ^ 18))

-- no VAT total, and no rate
no_total : differences (head [] ++ (in_breakdown [] ++ line []))
    ≡ found root_context 110 None (ones 2) ∷ found root_context 112 (Some 1200) (ones 10) ∷ found (breakdown 1) 117 (Some 200) (ones 0) ∷ []
unfolding sum_of difference_of product_of quotient_of nearest_hundredth
no_total = refl

abbrev vat : List Entry
vat = at root_context 110 (money 200) ∷ []

abbrev rate : Context → ℕ → ℕ → List Entry
rate context number digits = at context number (percent 20 digits) ∷ []

-- both there
good : differences (head vat ++ (in_breakdown (rate (breakdown 1) 119 0) ++ line (rate (occurrence groups.InvoiceLine 1) 152 0))) ≡ []
unfolding sum_of difference_of product_of quotient_of nearest_hundredth
good = refl

-- 20 is 20.00
written_otherwise : differences (head vat ++ (in_breakdown (rate (breakdown 1) 119 0) ++ line (rate (occurrence groups.InvoiceLine 1) 152 2))) ≡ []
unfolding sum_of difference_of product_of quotient_of nearest_hundredth
written_otherwise = refl

-- a line without a rate is in no breakdown with one
other_category : differences (head vat ++ (in_breakdown (rate (breakdown 1) 119 0) ++ line [])) ≡ found (breakdown 1) 116 (Some 1000) (ones 0) ∷ []
unfolding sum_of difference_of product_of quotient_of nearest_hundredth
other_category = refl

-- an allowance and a charge of its category
abbrev allowance : List Entry
allowance = at (occurrence groups.DocumentAllowance 1) 92 (money 600) ∷ at (occurrence groups.DocumentAllowance 1) 95 (code (codes "S"))
    ∷ rate (occurrence groups.DocumentAllowance 1) 96 0

abbrev charge : List Entry
charge = at (occurrence groups.DocumentCharge 1) 99 (money 100) ∷ at (occurrence groups.DocumentCharge 1) 102 (code (codes "S"))
    ∷ rate (occurrence groups.DocumentCharge 1) 103 0

both : differences ((allowance ++ charge) ++ (head vat ++ (in_breakdown (rate (breakdown 1) 119 0) ++ line (rate (occurrence groups.InvoiceLine 1) 152 0))))
    ≡ found root_context 107 None (ones 6) ∷ found root_context 108 None (ones 1) ∷ found (breakdown 1) 116 (Some 1000) (ones 5) ∷ []
unfolding sum_of difference_of product_of quotient_of nearest_hundredth
both = refl

-- two lines that leave the range
abbrev long : List Entry
long = at (occurrence groups.InvoiceLine 2) 131 (values.Amount (record { value = pos (10 ^ 36 - 10 ^ 16); digits = 2 }))
    ∷ at (occurrence groups.InvoiceLine 2) 151 (code (codes "S")) ∷ rate (occurrence groups.InvoiceLine 2) 152 0

out_of_range : differences (head vat ++ (in_breakdown (rate (breakdown 1) 119 0) ++ (line (rate (occurrence groups.InvoiceLine 1) 152 0) ++ long)))
    ≡ found root_context 106 (Some 1000) (Err (record {})) ∷ found (breakdown 1) 116 (Some 1000) (Err (record {})) ∷ []
unfolding sum_of difference_of product_of quotient_of nearest_hundredth
out_of_range = refl

-- ---- percentages

p1 : percentage (pos (2005 * 10 ^ 16)) (pos (10 * 10 ^ 18)) ≡ Ok (pos (201 * 10 ^ 16))
unfolding product_of quotient_of nearest_hundredth
p1 = refl

-- halves below zero go away from it
p2 : percentage (pos (2005 * 10 ^ 16)) (neg_ℤ (pos (10 * 10 ^ 18))) ≡ Ok (neg_ℤ (pos (201 * 10 ^ 16)))
unfolding product_of quotient_of nearest_hundredth
p2 = refl

p3 : percentage (pos (10 * 10 ^ 18)) (pos 49_999_999_999_999_999) ≡ Ok (pos 0)
unfolding product_of quotient_of nearest_hundredth
p3 = refl

p4 : percentage (pos (10 ^ 18)) (pos (10 ^ 36 - 10 ^ 16)) ≡ Ok (pos (10 ^ 34))
unfolding product_of quotient_of nearest_hundredth
p4 = refl

-- the product leaves the range before it is divided
p5 : percentage (pos (10 ^ 24)) (pos (10 ^ 30)) ≡ Err (record {})
unfolding product_of quotient_of nearest_hundredth
p5 = refl
