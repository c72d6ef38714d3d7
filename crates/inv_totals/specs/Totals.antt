-- The totals of an invoice by the calculation model of EN 16931-1 (rules BR-CO-10 to BR-CO-17, and BR-S-8 and its like for
-- each VAT category). Each is made of the values that the invoice states, of which an absent one is 0.
use Rattle.std.specs.Prelude.{ℕ, zero, suc, ◌+◌, Bool, true, false, ◌&&◌, not, List, [], ◌∷◌, ◌++◌, map, filter, flat_map, ℤ, pos, Option, Some, None}
use Rattle.std.specs.Prelude.{option_map, Ok, Err, nat_eq, bytes_eq}
use Rattle.std.specs.Ordering.{int_cmp, is_eq}
use Rattle.inv_decimal.specs.Number.{ScaledDecimal}
use Rattle.term_table.specs.declared.groups.Group.TheVariants as groups
use Rattle.term_table.specs.declared.terms.Term.{Term}
use Rattle.term_table.specs.declared.contexts.Context.{Context}
use Rattle.term_table.specs.Contexts.{root_context}
use Rattle.term_table.specs.SemanticModel.{same_term}
use Rattle.inv_terms.specs.declared.values.Value.{Value}
use Rattle.inv_terms.specs.declared.values.Value.TheVariants as values
use Rattle.inv_terms.specs.declared.entries.Entry.{Entry}
use Rattle.inv_terms.specs.Listing.{value_in, last_outer}
use Rattle.inv_totals.specs.declared.found.Difference.{Difference}
use Rattle.inv_totals.specs.Numbers.{Number, total, plus, minus, percentage}

-- ---- stated values

abbrev pub term : ℕ → Term
term number = record { number = number; part = 0 }

abbrev pub number_in : Value → Option ScaledDecimal
number_in (values.Amount s) = Some s
number_in (values.Quantity s) = Some s
number_in (values.Percent s) = Some s
number_in _ = None

abbrev pub code_in : Value → Option (List ℕ)
code_in (values.Code text) = Some text
code_in _ = None

abbrev pub and_then : {A B : Type 0} → Option A → (A → Option B) → Option B
and_then None f = None
and_then (Some x) f = f x

-- the number of a term in a context, if it stands there
abbrev pub stated : List Entry → ℕ → Context → Option ScaledDecimal
stated es number context = and_then (value_in es (term number) context) number_in

abbrev pub or_zero : Option ScaledDecimal → ℤ
or_zero None = pos 0
or_zero (Some s) = s.value

abbrev pub amount : List Entry → ℕ → Context → ℤ
amount es number context = or_zero (stated es number context)

abbrev pub at_root : List Entry → ℕ → Number
at_root es number = Ok (amount es number root_context)

-- the entries of a term, wherever they stand
abbrev pub is_of : ℕ → Entry → Bool
is_of number e = same_term e.term (term number)

abbrev pub entry_amount : Entry → ℤ
entry_amount e = or_zero (number_in e.value)

-- the sum of the values of the entries that pass
abbrev pub sum_where : (Entry → Bool) → List Entry → Number
sum_where test es = total (map entry_amount (filter test es))

abbrev pub sum_over : ℕ → List Entry → Number
sum_over number es = sum_where (is_of number) es

-- ---- VAT categories

-- a VAT category: its code and its rate, each where it stands
pub record VatCategory : Type 0 where
  pub code : Option (List ℕ)
  pub rate : Option ℤ

-- the category in a context, by the terms of its code and its rate
abbrev pub category_at : List Entry → ℕ → ℕ → Context → VatCategory
category_at es code rate context = record {
  code = and_then (value_in es (term code) context) code_in;
  rate = option_map (λ s. s.value) (stated es rate context);
}

abbrev pub same_code : Option (List ℕ) → Option (List ℕ) → Bool
same_code None None = true
same_code (Some a) (Some b) = bytes_eq a b
same_code _ _ = false

-- by what they are worth: 20 is 20.00
abbrev pub same_rate : Option ℤ → Option ℤ → Bool
same_rate None None = true
same_rate (Some a) (Some b) = is_eq (int_cmp a b)
same_rate _ _ = false

abbrev pub same_category : VatCategory → VatCategory → Bool
same_category a b = same_code a.code b.code && same_rate a.rate b.rate

-- The entry is of the term, and stands in the category by the terms of code and rate.
abbrev pub is_in : List Entry → ℕ → ℕ → ℕ → VatCategory → Entry → Bool
is_in es number code rate category e = is_of number e && same_category (category_at es code rate e.context) category

-- the taxable amount of a category: its lines, less its allowances, with its charges
abbrev pub taxable : List Entry → VatCategory → Number
taxable es category =
    plus (minus (sum_where (is_in es 131 151 152 category) es) (sum_where (is_in es 92 95 96 category) es)) (sum_where (is_in es 99 102 103 category) es)

-- ---- computed values

abbrev pub computed_at_root : List Entry → ℕ → Number
computed_at_root es number =
    elim (nat_eq number 106) [
      | true ↦ sum_over 131 es
      | false ↦
          elim (nat_eq number 107) [
            | true ↦ sum_over 92 es
            | false ↦
                elim (nat_eq number 108) [
                  | true ↦ sum_over 99 es
                  | false ↦
                      elim (nat_eq number 109) [
                        | true ↦ plus (minus (at_root es 106) (at_root es 107)) (at_root es 108)
                        | false ↦
                            elim (nat_eq number 110) [
                              | true ↦ sum_over 117 es
                              | false ↦
                                  elim (nat_eq number 112) [
                                    | true ↦ plus (at_root es 109) (at_root es 110)
                                    | false ↦
                                        plus (minus (at_root es 112) (at_root es 113)) (at_root es 114)
                                  ]
                            ]
                      ]
                ]
          ]
    ]

abbrev pub breakdown : ℕ → Context
breakdown k = record { outer = Some (record { group = groups.VatBreakdown; index = k }); inner = None }

abbrev pub computed_in : List Entry → ℕ → Context → Number
computed_in es number context =
    elim (nat_eq number 116) [ true ↦ taxable es (category_at es 118 119 context) | false ↦ percentage (amount es 119 context) (amount es 116 context) ]

-- ---- differences

abbrev pub differs : ℤ → Number → Bool
differs x (Ok y) = not (is_eq (int_cmp x y))
differs x (Err fault) = true

abbrev pub when : {A : Type 0} → Bool → A → List A
when true x = x ∷ []
when false x = []

abbrev pub difference : List Entry → Context → ℕ → Number → List Difference
difference es context number computed =
    when (differs (amount es number context) computed)
    (record { context = context; term = term number; stated = stated es number context; computed = computed })

-- the totals of the document, and those of a VAT breakdown, in listing order
abbrev pub root_numbers : List ℕ
root_numbers = 106 ∷ 107 ∷ 108 ∷ 109 ∷ 110 ∷ 112 ∷ 115 ∷ []

abbrev pub breakdown_numbers : List ℕ
breakdown_numbers = 116 ∷ 117 ∷ []

abbrev pub at_root_of : List Entry → ℕ → List Difference
at_root_of es number = difference es root_context number (computed_at_root es number)

abbrev pub in_breakdown : List Entry → ℕ → List Difference
in_breakdown es k = flat_map (λ number. difference es (breakdown k) number (computed_in es number (breakdown k))) breakdown_numbers

abbrev pub numbers_from : ℕ → ℕ → List ℕ
numbers_from from zero = []
numbers_from from (suc n) = from ∷ numbers_from (from + 1) n

-- Each stated value, or 0, that differs from what is computed, in listing order. An invoice counts its breakdowns from 1
-- without a gap.
abbrev pub differences : List Entry → List Difference
differences es = flat_map (at_root_of es) root_numbers ++ flat_map (in_breakdown es) (numbers_from 1 (last_outer es groups.VatBreakdown))

abbrev pub is_nothing : List Difference → Bool
is_nothing [] = true
is_nothing (d ∷ ds) = false
