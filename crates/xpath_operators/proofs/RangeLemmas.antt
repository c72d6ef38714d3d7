-- Whole numbers in a row.
use Rattle.std.proofs.Common.{◌≡◌, ℕ, suc, ◌+◌, ◌-◌, ◌<◌, ℤ, pos, ◌+ℤ◌, List, [], ◌∷◌, ◌++◌, sym, ap, ◌∙◌, arith, append_assoc}
use Rattle.std.specs.Prelude.{◌*ℤ◌}
use Rattle.std.proofs.lemmas.Int.{ints}
use Rattle.inv_decimal.specs.Number.{unit}
use Rattle.xpath_items.specs.declared.item.Item.{Item}
use Rattle.xpath_items.specs.declared.item.Item.TheVariants as i
use Rattle.xpath_meaning.specs.Numbers.{in_a_row}

first_of_row : (n m : ℕ) (z : ℤ) → n ≡ suc m → in_a_row n z ≡ i.Number z ∷ in_a_row m (z +ℤ pos unit)
first_of_row n m z e = ap (λ k. in_a_row k z) e

next_number : (from : ℤ) (k : ℕ) → (from +ℤ pos k) *ℤ pos unit +ℤ pos unit ≡ (from +ℤ pos (k + 1)) *ℤ pos unit
next_number from k = omega (arith, ints)

pub row_more : (items grown whole : List Item) (count k : ℕ) (from x : ℤ) → k < count → grown ≡ items ++ i.Number x ∷ [] → x ≡ (from +ℤ pos k) *ℤ pos unit
    → items ++ in_a_row (count - k) ((from +ℤ pos k) *ℤ pos unit) ≡ whole → grown ++ in_a_row (count - (k + 1)) ((from +ℤ pos (k + 1)) *ℤ pos unit) ≡ whole
row_more items grown whole count k from x l g ex h =
    ap (λ y. y ++ in_a_row (count - (k + 1)) ((from +ℤ pos (k + 1)) *ℤ pos unit)) g
    ∙ (append_assoc items (i.Number x ∷ []) _
    ∙ (ap (λ y. items ++ (i.Number y ∷ in_a_row (count - (k + 1)) ((from +ℤ pos (k + 1)) *ℤ pos unit))) ex
    ∙ (ap (λ y. items ++ (i.Number ((from +ℤ pos k) *ℤ pos unit) ∷ in_a_row (count - (k + 1)) y)) (sym (next_number from k))
    ∙ (ap (λ y. items ++ y) (sym (first_of_row (count - k) (count - (k + 1)) ((from +ℤ pos k) *ℤ pos unit) (omega arith))) ∙ h))))
